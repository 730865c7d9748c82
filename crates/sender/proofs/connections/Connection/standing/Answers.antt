use Rattle.std.proofs.Common.{inl, inr, vec_items, sym, ◌∙◌, arith}
use Rattle.model.proofs.Points.{is_none}
use Rattle.sender.specs.Streams.{streams_in}
use Rattle.sender.proofs.Updates.{found-open}
use Rattle.sender.proofs.connections.Connection.standing.Goals.{then-id-eq0-via-then-id-eq0, then-id-eq0-via-else-id-eq0+then-id-self}
use Rattle.sender.proofs.connections.Connection.standing.Goals as goal

pub returns-then-is_some : goal.returns-then-is_some
returns-then-is_some g c k = found-open (vec_items c.args.self.now.streams.rows) c.args.id c.get.result c.get.ensures ∙ sym c.is_some.ensures ∙ c.if-is_some.true

pub returns-then-id-eq0 : goal.returns-then-id-eq0
returns-then-id-eq0 g c k = (
  is_none (streams_in (vec_items c.args.self.now.streams.rows) c.args.id) (found-open (vec_items c.args.self.now.streams.rows) c.args.id c.get.result c.get.ensures ∙ sym c.is_some.ensures ∙ c.if-is_some.false),
  elim c.then-id-eq0.branch [ then-id-eq0-via-then-id-eq0 w ↦ inl w.if-id-eq0.true | then-id-eq0-via-else-id-eq0+then-id-self w ↦ inr (omega (arith, w.if-id-self.true)) ],
)

pub returns : goal.returns
returns g c k = (
  omega (arith, c.if-id-eq0.false),
  omega (arith, c.if-id-self.false),
  is_none (streams_in (vec_items c.args.self.now.streams.rows) c.args.id) (found-open (vec_items c.args.self.now.streams.rows) c.args.id c.get.result c.get.ensures ∙ sym c.is_some.ensures ∙ c.if-is_some.false),
)

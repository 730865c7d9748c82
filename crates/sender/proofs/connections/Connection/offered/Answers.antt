use Rattle.std.proofs.Common.{vec_items, refl, ap, ◌∙◌}
use Rattle.sender.specs.Connections.{state_of}
use Rattle.sender.proofs.Changes.{offers-named, offers-state}
use Rattle.sender.proofs.Rows.{ordered-set}
use Rattle.std.proofs.lemmas.Result.{err_from_is_err_and}
use Rattle.std.specs.Option.{option_map}
use Rattle.records.proofs.Lookups.{record-absent}
use Rattle.sender.specs.Streams.{id_of, plain}
use Rattle.model.specs.Rules.{dead, offers, not_open}
use Rattle.sender.proofs.connections.Connection.offered.Goals as goal

pub returns-in_err-alive : goal.returns-in_err-alive
returns-in_err-alive g c =
    let p = err_from_is_err_and c.from_residual.result c.from_residual.ensures.1 in
    let a = c.in_err-alive.ensures in
    rw (p.1, p.2, a.1) (λ k tied. (dead a.0, refl))

pub returns-in_default : goal.returns-in_default
returns-in_default g c = rw c.new.ensures (λ k tied. (offers c.in_ok-alive.ensures (not_open (ap (option_map plain) (record-absent id_of (vec_items c.args.self.now.streams.rows) c.args.id c.in_default.ensures.finds))), refl))

pub invariant_of-self-2 : goal.invariant_of-self-2
invariant_of-self-2 g c =
    let s = c.args.self.now in
    let xs = vec_items s.streams.rows in
    let is = c.in-Some.ensures.finds in
    record { roomy = s.roomy; order = ordered-set 0 s.highest c.args.id xs c.offer.new.self (offers-named c.in-Some.stream.now c.args.octets c.args.end c.offer.result c.offer.new.self c.offer.ensures ∙ is.named) is.there s.order }

pub returns : goal.returns
returns g c k tied =
    let s = c.args.self.now in
    let b = offers-state (state_of g.G.Gate g.P.Policy s k) (vec_items s.streams.rows) refl refl c.args.id c.in-Some.stream.now c.in-Some.ensures.finds c.args.octets c.args.end c.offer.result c.offer.new.self c.offer.ensures in
    (offers c.in_ok-alive.ensures b.0, b.1)

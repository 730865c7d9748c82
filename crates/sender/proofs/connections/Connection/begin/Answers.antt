use Rattle.std.proofs.Common.{vec_items, refl}
use Rattle.sender.proofs.Moves.{new_row, begin-state}
use Rattle.sender.proofs.Rows.{grown-ordered}
use Rattle.sender.proofs.connections.Connection.begin.Goals as goal

pub invariant_of-self : goal.invariant_of-self
invariant_of-self g c =
    let s = c.args.self.now in
    let xs = vec_items s.streams.rows in
    let added = c.add.ensures in
    record { roomy = c.add.ensures.room s.roomy; order = grown-ordered xs _ s.highest (new_row c.args.id) c.add.result c.requires s.order added.rows }

pub returns : goal.returns
returns g c k tied unfull =
    let s = c.args.self.now in
    let did = c.begin.ensures in
    let turned = c.enter.ensures in
    begin-state _ (vec_items s.streams.rows) refl refl s.order tied _ c.args.id c.args.priority (g.G.Gate.free s.gate) _ _ c.begin.result c.enter.result c.add.result c.requires unfull did.answers.1 did.leaves turned.answers.1 (λ e. g.met.P.Policy.means _ _ _ (turned.turns e)) (c.add.ensures.limit s.roomy) c.add.ensures.rows

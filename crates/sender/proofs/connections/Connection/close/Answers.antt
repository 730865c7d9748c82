use Rattle.std.proofs.Common.{vec_items, refl}
use Rattle.sender.proofs.Moves.{close-state}
use Rattle.sender.proofs.Rows.{shrunk-ordered}
use Rattle.sender.proofs.connections.Connection.close.Goals as goal

pub invariant_of-self : goal.invariant_of-self
invariant_of-self g c =
    let s = c.args.self.now in
    let xs = vec_items s.streams.rows in
    record { roomy = c.remove.ensures.room s.roomy; order = shrunk-ordered xs _ s.highest c.args.id s.order c.remove.ensures.rows }

pub returns : goal.returns
returns g c k tied is =
    let s = c.args.self.now in
    let did = c.finish.ensures in
    let turned = c.leave.ensures in
    close-state _ (vec_items s.streams.rows) refl refl s.order tied _ c.args.id (g.G.Gate.free s.gate) _ _ c.finish.result c.leave.result is did.answers.1 did.leaves turned.answers.1 (λ e. g.met.P.Policy.means _ _ _ (turned.turns e)) c.remove.ensures.rows

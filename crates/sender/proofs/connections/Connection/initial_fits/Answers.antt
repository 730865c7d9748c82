use Rattle.std.proofs.Common.{vec_items, refl, ◌∙◌, arith, rules}
use Rattle.std.proofs.lemmas.Iterator.{cases_from_all, YieldsList-from_slice}
use Rattle.sender.specs.Connections.{state_of}
use Rattle.sender.proofs.Initial.{FitsRow, all-decide}
use Rattle.sender.proofs.connections.Connection.initial_fits.Goals as goal

pub returns : goal.returns
returns g c k tied =
    let s = c.args.self.now in
    let rows = vec_items s.streams.rows in
    let P = FitsRow (state_of g.G.Gate g.P.Policy s k) c.initial_window-before.result c.args.v in
    all-decide (state_of g.G.Gate g.P.Policy s k) (g.G.Gate.free s.gate) rows c.initial_window-before.result c.args.v c.all.result refl tied (omega (arith, c.if-v-gt2147483647.false)) c.initial_window-before.ensures
    (cases_from_all _ _ _ P (λ x. P x → ⊥) c.all.ensures.ran (YieldsList-from_slice rows (c.iter.ensures.rest ∙ c.deref.ensures.value)) (λ x q h. search rules) (λ x q h. search rules))

use Rattle.std.proofs.Common.{◌≡◌, None, vec_items, sym, subst, arith}
use Rattle.std.proofs.lemmas.Grind.{common_steps}
use Rattle.rotation.specs.Choices.{standing_of, chosen, First}
use Rattle.rotation.specs.Choosing.{chosen-first}
use Rattle.rotation.specs.Places.{stands-apart}
use Rattle.rotation.proofs.rotations.Rotation.first.Goals as goal

pub returns-clause-first : goal.returns-clause-first
returns-clause-first g c =
    let order = vec_items c.args.self.now.table.rows in
    let at = standing_of g.R.Rule.stands order in
    let all : c.loop-id.best ≡ chosen at None c.args.ids.now = grind (arith, common_steps) in
    subst (First at c.args.ids.now) (sym all) (chosen-first at (stands-apart g.R.Rule.stands g.met.R.Rule.apart order) c.args.ids.now)

use Rattle.std.proofs.Common.{◌≡◌, take, None, vec_items}
use Rattle.rotation.specs.Choices.{standing_of, chosen}
use Rattle.rotation.proofs.rotations.Rotation.first.Given as goal

abbrev pub invariant-loop-id : goal.invariant-loop-id
invariant-loop-id g l = l.best ≡ chosen (standing_of g.R.Rule.stands (vec_items l.self.table.rows)) None (take l.id-index l.ids)

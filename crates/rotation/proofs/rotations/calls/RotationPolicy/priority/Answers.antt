use Rattle.std.proofs.Common.{vec_items, rules}
use Rattle.rotation.specs.Answering.{seat-lent}
use Rattle.rotation.proofs.rotations.calls.RotationPolicy.priority.Goals as goal

pub returns : goal.returns
returns g c = let lent = seat-lent (vec_items c.args.self.now.table.rows) c.args.id c.get.result c.get.ensures in rw lent (search rules)

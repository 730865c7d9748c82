-- A gate and a policy keep their meaning.
use Rattle.std.proofs.Common.{ℕ, ◌≤◌, List}
use Rattle.credit.specs.Credit as credit
use Rattle.credit.specs.declared.gates.Gate as gate
use Rattle.schedule.specs.Ranks as schedule
use Rattle.schedule.specs.declared.policies.Policy as policy
use Rattle.sink.specs.Meaning as sink
use Rattle.model.specs.Laws.{Meant}
use Rattle.sender.specs.Connections.{moment_of}
use Rattle.sender.specs.declared.connections.Connection.{Connection}

pub meant-of : {G P : Type 0} (gated : gate.Ghosts G) (ruled : policy.Ghosts P) → ((x : G) → credit.Sound (gated.meaning x)) → ((x : G) (id : ℕ) → gated.free x id ≤ credit.most_room (gated.meaning x) id) → ((p : P) (ids : List ℕ) → schedule.Least (ruled.ranks p) ids (ruled.picks p ids)) → (c : Connection G P) (k : sink.Meaning) → Meant (moment_of gated ruled c k)
meant-of gated ruled sound roomy least c k = record { gate = sound c.gate; room = roomy c.gate; choice = least c.policy }

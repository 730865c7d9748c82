use Rattle.sink.specs.Meaning.{Meaning}
use Rattle.wire.specs.Settings.{to_come}
use Rattle.model.specs.States.{Tied}
use Rattle.sender.specs.Connections.{state_of, moment_of}
use Rattle.sender.proofs.Initial.{Carries}
use Rattle.sender.proofs.connections.Connection.test_pairs.Given as goal

-- what is told of the pairs to come is told of all of them
abbrev pub invariant-loop-pair : goal.invariant-loop-pair
invariant-loop-pair g l =
    (k : Meaning) → Tied (state_of g.G.Gate g.P.Policy l.self k) → Carries (moment_of g.G.Gate g.P.Policy l.self k) (to_come l.pair-iterator) (to_come l.initial.pair-iterator)

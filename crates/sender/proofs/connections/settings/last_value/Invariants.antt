use Rattle.std.proofs.Common.{◌≡◌, None}
use Rattle.wire.specs.Settings.{to_come}
use Rattle.model.specs.Happenings.{last_after}
use Rattle.sender.proofs.connections.settings.last_value.Given as goal

abbrev pub invariant-loop-pair : goal.invariant-loop-pair
invariant-loop-pair l = last_after l.identifier l.latest (to_come l.pair-iterator) ≡ last_after l.identifier None (to_come l.initial.pair-iterator)

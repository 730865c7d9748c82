use Rattle.std.proofs.Common.{◌≡◌, ◌++◌}
use Rattle.std.specs.Fmt.{HasWritten, IsPlainFormatter}
use Rattle.wire.specs.Settings.{to_come}
use Rattle.recording.specs.Lines.{pair_fields}
use Rattle.recording.proofs.texts.LineDisplay.fmt.Given as goal

abbrev pub invariant-loop-pair : goal.invariant-loop-pair
invariant-loop-pair g l =
    (IsPlainFormatter l.initial.f → HasWritten g.W.Write.write_str_gives l.initial.f (pair_fields l.yielded) l.f)
    × (l.yielded ++ to_come l.pair-iterator ≡ to_come l.initial.pair-iterator)

use Rattle.std.proofs.Common.{◌≡◌, ◌+◌, ◌^◌, ◌<◌, take, drop}
use Rattle.std.specs.List.{prefix_len}
use Rattle.wire.specs.Grammar.{is_digit, decimal_of}
use Rattle.wire.proofs.priorities.values.digits.Given as goal

abbrev pub invariant-loop-n : goal.invariant-loop-n
invariant-loop-n l = (l.number ≡ decimal_of (take l.n l.most)) × (l.number < 10 ^ l.n) × (l.n + prefix_len is_digit (drop l.n l.most) ≡ prefix_len is_digit l.most)

use Rattle.std.proofs.Common.{◌≡◌, ◌-◌, ◌/◌, ◌^◌, length, drop}
use Rattle.wire.specs.Numbers.{octets_of}
use Rattle.wire.proofs.numbers.put_number.Given as goal

abbrev pub invariant-loop-i : goal.invariant-loop-i
invariant-loop-i l = (l.above ≡ l.n / 256 ^ (length l.initial.octets - l.i)) × (drop l.i l.octets ≡ octets_of (length l.initial.octets - l.i) l.n)

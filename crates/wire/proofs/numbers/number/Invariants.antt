use Rattle.std.proofs.Common.{◌≡◌, ◌^◌, ◌<◌, drop}
use Rattle.wire.specs.Numbers.{number_after}
use Rattle.wire.proofs.numbers.number.Given as goal

abbrev pub invariant-loop-octet : goal.invariant-loop-octet
invariant-loop-octet l = (l.n < 256 ^ l.octet-index) × (number_after l.n (drop l.octet-index l.octets) ≡ number_after 0 l.octets)

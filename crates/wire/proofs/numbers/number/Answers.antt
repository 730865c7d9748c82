use Rattle.std.proofs.Common.{◌^◌, ◌≤◌, arith}
use native.Mathlib.Nat.{pow-le-pow_right}
use Rattle.wire.proofs.numbers.number.Goals as goal

pub overflow_mul-n : goal.overflow_mul-n
overflow_mul-n c =
    let small : 256 ^ c.loop-octet.octet-index ≤ 256 ^ 3 = pow-le-pow_right {n = 256} (omega arith) {i = c.loop-octet.octet-index} {j = 3} (omega arith) in
    omega arith

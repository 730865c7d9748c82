use Rattle.std.proofs.Common.{◌≡◌, ℕ, suc, ◌+◌, ◌-◌, length, drop, ap, ◌∙◌, subst, arith}
use native.Mathlib.Nat.{sub_self}
use Rattle.std.proofs.lemmas.List.{at_drop_all}
use Rattle.wire.specs.Numbers.{octets_of}
use Rattle.wire.proofs.Octets.{put_one}
use Rattle.wire.proofs.numbers.put_number.Goals as goal

pub loop-i-init : goal.loop-i-init
loop-i-init c = rw sub_self (omega arith, at_drop_all (λ x. x) c.args.octets.now (length c.args.octets.now) (omega arith))

pub loop-i-preserved : goal.loop-i-preserved
loop-i-preserved c =
    let k : ℕ = length c.args.octets.now - c.loop-i.i in
    let i : ℕ = c.loop-i.i - 1 in
    let next : length c.args.octets.now - i ≡ suc k = omega arith in
    let here : i + 1 ≡ c.loop-i.i = omega arith in
    let one = put_one c.loop-i.octets i k c.args.n c.loop-i.above (omega arith) c.loop-i.invariant.0 (ap (λ x. drop x c.loop-i.octets) here ∙ c.loop-i.invariant.1) in
    rw next one

pub returns : goal.returns
returns c =
    let last : c.loop-i.i ≡ 0 = omega arith in
    let all : drop 0 c.loop-i.octets ≡ octets_of (length c.args.octets.now - 0) c.args.n
    = subst (λ i. drop i c.loop-i.octets ≡ octets_of (length c.args.octets.now - i) c.args.n) last c.loop-i.invariant.1 in
    let whole : length c.args.octets.now - 0 ≡ length c.args.octets.now = omega arith in
    all ∙ ap (λ w. octets_of w c.args.n) whole

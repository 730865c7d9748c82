-- The first hold on a fresh gate is accepted.
use Rattle.std.proofs.Common.{◌≡◌, ℕ, min, Bool, true, sym, refl, ap, ◌∙◌, subst, arith}
use Rattle.std.proofs.lemmas.Bool.{cond-true}
use Rattle.credit.specs.Calls.{Call, Accepts, after, begin, hold}
use Rattle.credit.specs.Credit.{Meaning, fresh, most_room}
use Rattle.credit.specs.Gates.{Did}

pub holds-first : (m : Meaning) (most : ℕ) → m ≡ after (fresh 64) (begin 1) → most ≡ 1000 → Accepts m (λ id. min (most_room m id) most) (hold 1 1000)
holds-first m most e k = subst (λ n. Accepts n (λ id. min (most_room n id) most) (hold 1 1000)) (sym e) (refl, omega (arith, k))

-- what an accepted call leaves, of a gate whose meaning is known
pub left_by : {G : Type 0} (meaning : G → Meaning) (room : G → ℕ → ℕ) (moved : G → Call → G → Type 0) (call : Call) (s : G) (r : Bool) (t : G) (m : Meaning)
    → Did meaning room moved call s r t → r ≡ true → meaning s ≡ m → meaning t ≡ after m call
left_by meaning room moved call s r t m d accepted e = d.leaves ∙ cond-true r _ _ accepted ∙ ap (λ k. after k call) e

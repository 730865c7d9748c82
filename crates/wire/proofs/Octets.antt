-- Numbers and their octets: the law of every width, and the step of writing one octet more.
use Rattle.std.proofs.Common.{◌≡◌, ℕ, zero, suc, ◌+◌, ◌*◌, ◌/◌, ◌%◌, ◌^◌, ◌<◌, List, ◌∷◌, length, drop, set, sym, ap, ◌∙◌, mod-eq_of_lt, mul_assoc, add-mul, pow-suc, arith}
use native.Mathlib.Nat.{pow-succ', div-div-eq-div-mul}
use lib.Arith.{mod-mul}
use Rattle.std.proofs.lemmas.List.{drop-set}
use Rattle.wire.specs.Numbers.{number_after, number_of, octets_of}

pub pow-256-pos : (k : ℕ) → 0 < 256 ^ k
pow-256-pos zero = omega arith
pow-256-pos (suc k) = let h = pow-256-pos k in rw pow-suc (omega arith)

-- one octet more, from the last to the first
pub put_one : (xs : List ℕ) (i k n above : ℕ) → i < length xs → above ≡ n / 256 ^ k → drop (i + 1) xs ≡ octets_of k n
    → (above / 256 ≡ n / 256 ^ suc k) × (drop i (set xs i (above % 256)) ≡ octets_of (suc k) n)
put_one xs i k n above h a rest = (
  ap (λ x. x / 256) a ∙ div-div-eq-div-mul n (256 ^ k) 256 ∙ ap (λ x. n / x) (sym (pow-suc 256 k)),
  drop-set xs i (above % 256) h ∙ (λ j. (a j % 256) ∷ rest j),
)

-- octets of a width behind a number
after-octets : (k m n : ℕ) → number_after m (octets_of k n) ≡ m * 256 ^ k + n % 256 ^ k
after-octets zero m n = omega arith
after-octets (suc k) m n =
    let d = n / 256 ^ k % 256 in
    let again : number_after (m * 256 + d) (octets_of k n) ≡ (m * 256 + d) * 256 ^ k + n % 256 ^ k = after-octets k (m * 256 + d) n in
    let whole : n % 256 ^ suc k ≡ d * 256 ^ k + n % 256 ^ k = rw pow-succ' (mod-mul n (omega arith) (pow-256-pos k)) in
    let apart : (m * 256 + d) * 256 ^ k ≡ m * 256 * 256 ^ k + d * 256 ^ k = add-mul (m * 256) d (256 ^ k) in
    let power : m * 256 * 256 ^ k ≡ m * 256 ^ suc k = mul_assoc m 256 (256 ^ k) ∙ ap (λ x. m * x) (sym (pow-succ' 256 k)) in
    omega (arith, again, whole, apart, power)

-- a number's octets, read again, are the number, in every width that holds it
pub number-octets : (k n : ℕ) → n < 256 ^ k → number_of (octets_of k n) ≡ n
number-octets k n h = let e = after-octets k 0 n in let m : n % 256 ^ k ≡ n = mod-eq_of_lt h in omega (arith, e, m)

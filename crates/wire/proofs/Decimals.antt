-- The number that digits write: one digit more; and digits counted no further than a limit.
use Rattle.std.proofs.Common.{◌≡◌, ℕ, zero, suc, ◌+◌, ◌-◌, ◌*◌, ◌^◌, ◌<◌, ◌≤◌, min, Bool, true, false, cond, List, [], ◌∷◌, ◌++◌, length, get_or, take, refl, ap, ◌∙◌, pow-suc, add-one, arith}
use Rattle.std.specs.List.{prefix_len}
use native.Mathlib.Nat.{pow-le-pow_right}
use Rattle.std.proofs.lemmas.List.{take_more}
use Rattle.std.proofs.lemmas.List.Sums.{prefix_len-le-length}
use Rattle.wire.specs.Grammar.{decimal_after, decimal_of, is_digit}

after_push : (n d : ℕ) (ds : List ℕ) → decimal_after n (ds ++ d ∷ []) ≡ decimal_after n ds * 10 + (d - 48)
after_push n d [] = refl
after_push n d (e ∷ ds) = after_push (n * 10 + (e - 48)) d ds

pub decimal-more : (xs : List ℕ) (i : ℕ) → i < length xs → decimal_of (take (i + 1) xs) ≡ decimal_of (take i xs) * 10 + (get_or xs i 0 - 48)
decimal-more xs i h = ap decimal_of (take_more xs i 0 h) ∙ after_push 0 (get_or xs i 0) (take i xs)

pub ten-more : (i : ℕ) → 10 ^ (i + 1) ≡ 10 ^ i * 10
ten-more i = rw (add-one, pow-suc)

pub ten-up-to : (i n : ℕ) → i ≤ n → 10 ^ i ≤ 10 ^ n
ten-up-to i n h = pow-le-pow_right {n = 10} (omega arith) {i = i} {j = n} h

-- counted no further than a limit
pub prefix_len_take : (p : ℕ → Bool) (n : ℕ) (xs : List ℕ) → prefix_len p (take n xs) ≡ min n (prefix_len p xs)
prefix_len_take p zero xs = omega arith
prefix_len_take p (suc n) [] = omega arith
prefix_len_take p (suc n) (x ∷ xs) = one (p x) (prefix_len_take p n xs)
  where
    one : (b : Bool) → prefix_len p (take n xs) ≡ min n (prefix_len p xs) → cond b (1 + prefix_len p (take n xs)) 0 ≡ min (suc n) (cond b (1 + prefix_len p xs) 0)
    one true e = omega arith
    one false e = omega arith

-- digits that are counted no further than one more than an integer may have
pub digits_up_to : (n m : ℕ) (bs : List ℕ) → m ≡ min (length bs) 16 → n ≡ prefix_len is_digit (take m bs) → n ≡ min 16 (prefix_len is_digit bs)
digits_up_to n m bs e count = omega (arith, prefix_len_take is_digit m bs, prefix_len-le-length is_digit bs)

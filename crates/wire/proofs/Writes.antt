-- Two neighbouring parts written one after the other are one part.
use Rattle.std.proofs.Common.{◌≡◌, ℕ, ◌+◌, ◌≤◌, List, ◌++◌, length, take, drop, sym, refl, ap, ◌∙◌, append_assoc, arith, length-append}
use borrow.Rule.Slice.PartMut.{put_mid}
use Rattle.std.proofs.lemmas.List.{drop-drop, take_at, drop_at, length-take-le}
use Rattle.std.proofs.lemmas.Slice.{take-put_mid, drop-put_mid}
use Rattle.wire.specs.DataFrames.{put_at}

pub two-puts : (xs h p : List ℕ) (at m n j k : ℕ) → length h ≡ m → length p ≡ n → j ≡ m → k ≡ n → at + m + n ≤ length xs
    → put_mid (at + m) k (put_mid at j xs h) p ≡ put_at xs at (h ++ p)
two-puts xs h p at m n j k hm pn jm kn le =
    let front : take (at + m) (put_mid at j xs h) ≡ take at xs ++ h = take-put_mid at j xs h (at + m) (omega arith) (omega arith) in
    let back : drop (at + m) (put_mid at j xs h) ≡ drop (at + m) xs = drop-put_mid at j xs h (at + m) (omega arith) (omega arith) (hm ∙ sym jm) in
    let rest : drop k (drop (at + m) xs) ≡ drop (at + length (h ++ p)) xs
    = drop-drop k (at + m) xs ∙ ap (λ i. drop i xs) (let e = length-append h p in omega arith) in
    rw (front, back, rest, append_assoc, append_assoc) refl

-- the part that was put is there
pub part-put : (xs ys : List ℕ) (at n : ℕ) → at + n ≤ length xs → n ≡ length ys → take n (drop at (put_at xs at ys)) ≡ ys
part-put xs ys at n le e =
    ap (take n) (drop_at (take at xs) (ys ++ drop (at + length ys) xs) at (length-take-le at xs (omega arith)))
    ∙ take_at ys (drop (at + length ys) xs) n (sym e)

-- The ids of records, and the place of one.
use Rattle.std.proofs.Common.{◌≡◌, ℕ, zero, suc, ◌<◌, false, eqb, List, [], ◌∷◌, map, length, get_or, Some, None, Option, sym, ap, ◌∙◌, arith, eq-eqb, ne_eqb, subst, MatchOption, ◌≢◌}
use Rattle.std.proofs.lemmas.List.{get_or-map, length-map}
use Rattle.std.specs.List.{AllWithin, HoldsAt}
use Rattle.records.specs.Records.{Finds, seek}

-- the id at an index is that of the record that was read there
pub id-at : {X : Type 0} (key : X → ℕ) (xs : List X) (i : ℕ) (x : X) → i < length xs → x ≡ get_or xs i x → get_or (map key xs) i 0 ≡ key x
id-at key xs i x h e = get_or-map key xs i x 0 h ∙ ap key (sym e)

-- at the first index of an id, as many records stand before it
pub seek-first : (ids : List ℕ) (id i : ℕ) → i < length ids → get_or ids i 0 ≡ id → ((k : ℕ) → k < i → get_or ids k 0 ≡ id → ⊥) → seek ids id ≡ i
seek-first [] id i h e none = absurd (omega arith)
seek-first (k ∷ ids) id zero h e none = rw (eq-eqb k id e)
seek-first (k ∷ ids) id (suc i) h e none =
    let f : eqb k id ≡ false = ne_eqb k id (none 0 (omega arith)) in
    rw f (ap suc (seek-first ids id i (omega arith) e (λ j l same. none (suc j) (omega arith) same)))

-- what holds of the record at an index holds of the id there
at-id : {X : Type 0} (key : X → ℕ) (P : ℕ → Type 0) (xs : List X) (i : ℕ) → i < length xs → HoldsAt (λ x. P (key x)) xs i → P (get_or (map key xs) i 0)
at-id key P [] i h all = absurd (omega arith)
at-id key P (x ∷ xs) i h all = subst P (sym (get_or-map key (x ∷ xs) i x 0 h)) (all x)

-- the index of the first record with the id is that of the first such id
pub finds-first : {X : Type 0} (key : X → ℕ) (xs : List X) (id : ℕ) (r : Option ℕ)
    → MatchOption r (AllWithin (λ x. key x ≢ id) xs 0 (length xs)) (λ i. (i < length xs) × HoldsAt (λ x. key x ≡ id) xs i × AllWithin (λ x. key x ≢ id) xs 0 i)
    → Finds (map key xs) id r
finds-first key xs id None none =
    λ k h. let l : k < length xs = simp length-map at h in at-id key (λ n. n ≢ id) xs k l (λ d. none k d (omega arith) l)
finds-first key xs id (Some i) f = (
  simp length-map f.0,
  at-id key (λ n. n ≡ id) xs i f.0 f.1,
  λ k h. at-id key (λ n. n ≢ id) xs k (omega (arith, f.0)) (λ d. f.2 k d (omega arith) h),
)

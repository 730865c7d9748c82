-- The row of an id: what stands there, and what is left without it.
use Rattle.std.proofs.Common.{◌≡◌, ℕ, suc, ◌<◌, false, eqb, List, [], ◌∷◌, map, length, get_or, Some, None, Option, sym, refl, ap, ◌∙◌, subst, ⊎_elim, arith, MutBor, eq-eqb, ne_eqb}
use Rattle.std.specs.List.{remove, IsItemAtMut}
use Rattle.std.proofs.lemmas.List.{length-map}
use Rattle.std.proofs.lemmas.Bool.{cases_eq}
use Rattle.records.specs.Records.{Absent, Finds, seek}
use Rattle.records.specs.Tables.{Is, FoundMut, without}
use Rattle.records.proofs.Ids.{id-at, seek-first}

module _ {X : Type 0} (key : X → ℕ) where
  -- an index that was found is one of the rows
  pub found_within : (rows : List X) (id i : ℕ) → Finds (map key rows) id (Some i) → i < length rows
  found_within rows id i f = let n = length-map rows key in omega (arith, f.0)

  -- the row at an index that was found
  pub found-is : (rows : List X) (id i : ℕ) (x : X) → Finds (map key rows) id (Some i) → x ≡ get_or rows i x → Is key rows id x
  found-is rows id i x f at =
      let first : seek (map key rows) id ≡ i = seek-first (map key rows) id i f.0 f.1 f.2 in
      let within : i < length rows = found_within rows id i f in
      record {
        there = subst (λ k. k < length rows) (sym first) within;
        at = subst (λ k. x ≡ get_or rows k x) (sym first) at;
        named = sym (id-at key rows i x within at) ∙ f.1;
      }

  -- the same of a row that is lent
  pub lent_found : (rows : List X) (id i : ℕ) (r : Option (MutBor X)) → Finds (map key rows) id (Some i) → IsItemAtMut rows i r → FoundMut key rows id r
  lent_found rows id i None f it = absurd (omega (arith, it.3, found_within rows id i f))
  lent_found rows id i (Some x) f it = found-is rows id i x.now f (it.3.1 x.now)

  -- where no row has the id, none is left out
  pub without-none : (rows : List X) (id : ℕ) → Absent (map key rows) id → without key id rows ≡ rows
  without-none [] id none = refl
  without-none (x ∷ rows) id none =
      let f : eqb (key x) id ≡ false = ne_eqb (key x) id (none 0 (omega arith)) in
      rw f (ap (λ xs. x ∷ xs) (without-none rows id (λ k h e. none (suc k) (omega arith) e)))

  -- else the first with the id
  pub without-first : (rows : List X) (id : ℕ) → seek (map key rows) id < length rows → remove rows (seek (map key rows) id) ≡ without key id rows
  without-first [] id h = absurd (omega arith)
  without-first (x ∷ rows) id h =
      ⊎_elim
      (λ e. rw (eq-eqb (key x) id e) refl)
      (λ n.
      let f : eqb (key x) id ≡ false = ne_eqb (key x) id n in
      let further : seek (map key rows) id < length rows = omega (arith, rw f at h) in
      rw f (ap (λ xs. x ∷ xs) (without-first rows id further)))
      (cases_eq (key x) id)

  pub without-found : (rows : List X) (id i : ℕ) → Finds (map key rows) id (Some i) → remove rows i ≡ without key id rows
  without-found rows id i f =
      let first : seek (map key rows) id ≡ i = seek-first (map key rows) id i f.0 f.1 f.2 in
      ap (remove rows) (sym first) ∙ without-first rows id (subst (λ k. k < length rows) (sym first) (found_within rows id i f))

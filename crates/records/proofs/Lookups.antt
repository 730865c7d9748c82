-- The record of an id, as a function of ids: after a record is found, added, changed or taken out.
use Rattle.std.proofs.Common.{◌≡◌, ℕ, suc, ◌+◌, ◌<◌, true, false, cond, eqb, List, [], ◌∷◌, ◌++◌, map, length, get_or, set, Some, None, sym, refl, ap, ◌∙◌, ⊎_elim, arith, eq-eqb, ne_eqb}
use Rattle.std.proofs.lemmas.Bool.{cases_eq}
use Rattle.std.proofs.lemmas.Bool.Decides.{nat_tests}
use Rattle.records.specs.Records.{Absent, seek}
use Rattle.records.specs.Tables.{Is, without, record_of, Distinct}

module _ {X : Type 0} (key : X → ℕ) where
  -- no record has the id
  pub record-absent : (xs : List X) (id : ℕ) → Absent (map key xs) id → record_of key xs id ≡ None
  record-absent [] id none = refl
  record-absent (x ∷ xs) id none =
      let f : eqb (key x) id ≡ false = ne_eqb (key x) id (none 0 (omega arith)) in
      rw f (record-absent xs id (λ k l e. none (suc k) (omega arith) e))

  there : (xs : List X) (id : ℕ) (x : X) → seek (map key xs) id < length xs → x ≡ get_or xs (seek (map key xs) id) x → record_of key xs id ≡ Some x
  there [] id x = λ h e. absurd (omega arith)
  there (y ∷ xs) id x =
      ⊎_elim
      (λ s. rw (eq-eqb (key y) id s) (λ h e. ap (λ z. Some z) (sym e)))
      (λ n. rw (ne_eqb (key y) id n) (λ h e. there xs id x (omega arith) e))
      (cases_eq (key y) id)

  -- the record of the id
  pub record-found : (xs : List X) (id : ℕ) (x : X) → Is key xs id x → record_of key xs id ≡ Some x
  record-found xs id x is = there xs id x is.there is.at

  -- a record that was found has the id
  pub record-named : (xs : List X) (id : ℕ) (x : X) → record_of key xs id ≡ Some x → key x ≡ id
  record-named [] id x = λ e. absurd cc
  record-named (y ∷ xs) id x =
      ⊎_elim
      (λ s. rw (eq-eqb (key y) id s) (λ e. let m : y ≡ x = cc in ap key (sym m) ∙ s))
      (λ n. rw (ne_eqb (key y) id n) (λ e. record-named xs id x e))
      (cases_eq (key y) id)

  -- one record more behind the others
  pub record-push : (xs : List X) (x : X) (q : ℕ) → record_of key xs (key x) ≡ None → record_of key (xs ++ x ∷ []) q ≡ cond (eqb q (key x)) (Some x) (record_of key xs q)
  record-push [] x q h = grind (arith, nat_tests)
  record-push (y ∷ xs) x q h = grind (arith, nat_tests, record-push xs x q)

  -- another record of the same id at its place
  pub record-set : (xs : List X) (id : ℕ) (x : X) (q : ℕ) → key x ≡ id → seek (map key xs) id < length xs → record_of key (set xs (seek (map key xs) id) x) q ≡ cond (eqb q id) (Some x) (record_of key xs q)
  record-set [] id x q e h = absurd (omega arith)
  record-set (y ∷ xs) id x q e h =
      ⊎_elim
      (λ s. let t : eqb (key y) id ≡ true = eq-eqb (key y) id s in rw t (grind (arith, nat_tests)))
      (λ n.
      let f : eqb (key y) id ≡ false = ne_eqb (key y) id n in
      let further : seek (map key xs) id < length xs = omega (arith, rw f at h) in
      rw f (grind (arith, nat_tests, record-set xs id x q e further)))
      (cases_eq (key y) id)

  -- the record of the id is gone
  pub record-without : (xs : List X) (id q : ℕ) → Distinct key xs → record_of key (without key id xs) q ≡ cond (eqb q id) None (record_of key xs q)
  record-without [] id q d = grind (arith, nat_tests)
  record-without (y ∷ xs) id q d =
      ⊎_elim
      (λ s. let t : eqb (key y) id ≡ true = eq-eqb (key y) id s in rw t (grind (arith, nat_tests, d.0)))
      (λ n. let f : eqb (key y) id ≡ false = ne_eqb (key y) id n in rw f (grind (arith, nat_tests, record-without xs id q d.1)))
      (cases_eq (key y) id)

  pub length_without : (xs : List X) (id : ℕ) (x : X) → record_of key xs id ≡ Some x → length (without key id xs) + 1 ≡ length xs
  length_without [] id x = λ e. absurd cc
  length_without (y ∷ xs) id x =
      ⊎_elim
      (λ s. rw (eq-eqb (key y) id s) (λ e. omega arith))
      (λ n. rw (ne_eqb (key y) id n) (λ e. omega (arith, length_without xs id x e)))
      (cases_eq (key y) id)

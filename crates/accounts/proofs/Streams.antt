-- What the streams are, and what is held, after an account is found, added, changed or taken out.
use Rattle.std.proofs.Common.{◌≡◌, ℕ, zero, suc, ◌+◌, ◌<◌, true, false, cond, eqb, List, [], ◌∷◌, ◌++◌, map, length, get_or, set, is_some, Some, None, Option, sym, refl, ap, ⊎_elim, arith, eq-eqb, ne_eqb}
use Rattle.std.proofs.lemmas.Bool.{cases_eq, true≢false}
use Rattle.std.proofs.lemmas.Bool.Decides.{nat_tests}
use Rattle.records.specs.Records.{seek, Absent}
use Rattle.records.specs.Tables.{Is, without}
use Rattle.credit.specs.Credit.{amount}
use Rattle.accounts.specs.Accounts.{credit_at, stream_in, held_in, Fairs}
use Rattle.accounts.specs.declared.accounts_of_streams.Account.{Account}

abbrev pub id_of : Account → ℕ
id_of a = a.id

abbrev pub ids : List Account → List ℕ
ids rows = map id_of rows

pub none_from : {X : Type 0} (o : Option X) → is_some o ≡ false → o ≡ None
none_from None h = refl
none_from (Some x) h = absurd (true≢false h)

pub held-push : (rows : List Account) (x : Account) → held_in (rows ++ x ∷ []) ≡ held_in rows + amount x.held
held-push [] x = omega arith
held-push (a ∷ rows) x = omega (arith, held-push rows x)

pub held-set : (rows : List Account) (i : ℕ) (x d : Account) → i < length rows → held_in (set rows i x) + amount (get_or rows i d).held ≡ held_in rows + amount x.held
held-set [] i x d h = absurd (omega arith)
held-set (a ∷ rows) zero x d h = omega arith
held-set (a ∷ rows) (suc i) x d h = omega (arith, held-set rows i x d (omega arith))

pub held-without : (rows : List Account) (id : ℕ) (x : Account) → seek (ids rows) id < length rows → x ≡ get_or rows (seek (ids rows) id) x → held_in (without id_of id rows) + amount x.held ≡ held_in rows
held-without [] id x = λ h e. absurd (omega arith)
held-without (a ∷ rows) id x =
    ⊎_elim
    (λ y. rw (eq-eqb a.id id y) (λ h e. omega (arith, ap (λ c. amount c.held) e)))
    (λ n. rw (ne_eqb a.id id n) (λ h e. omega (arith, held-without rows id x (omega arith) e)))
    (cases_eq a.id id)

pub length_without : (rows : List Account) (id : ℕ) → seek (ids rows) id < length rows → length (without id_of id rows) + 1 ≡ length rows
length_without [] id = λ h. absurd (omega arith)
length_without (a ∷ rows) id =
    ⊎_elim
    (λ y. rw (eq-eqb a.id id y) (λ h. omega arith))
    (λ n. rw (ne_eqb a.id id n) (λ h. omega (arith, length_without rows id (omega arith))))
    (cases_eq a.id id)

module _ (b : ℕ) where
  -- no account has the id
  pub stream-absent : (rows : List Account) (id : ℕ) → Absent (ids rows) id → stream_in b rows id ≡ None
  stream-absent [] id h = refl
  stream-absent (a ∷ rows) id h =
      let f : eqb a.id id ≡ false = ne_eqb a.id id (h 0 (omega arith)) in
      rw f (stream-absent rows id (λ k lt e. h (suc k) (omega arith) e))

  found : (rows : List Account) (id : ℕ) (x : Account) → seek (ids rows) id < length rows → x ≡ get_or rows (seek (ids rows) id) x → stream_in b rows id ≡ Some (credit_at b x)
  found [] id x = λ h e. absurd (omega arith)
  found (a ∷ rows) id x =
      ⊎_elim
      (λ y. rw (eq-eqb a.id id y) (λ h e. ap (λ c. Some (credit_at b c)) (sym e)))
      (λ n. rw (ne_eqb a.id id n) (λ h e. found rows id x (omega arith) e))
      (cases_eq a.id id)

  -- the account of the id
  pub stream-found : (rows : List Account) (id : ℕ) (x : Account) → Is id_of rows id x → stream_in b rows id ≡ Some (credit_at b x)
  stream-found rows id x is = found rows id x is.there is.at

  -- one account more behind the others
  pub stream-push : (rows : List Account) (x : Account) (q : ℕ) → stream_in b rows x.id ≡ None → stream_in b (rows ++ x ∷ []) q ≡ cond (eqb x.id q) (Some (credit_at b x)) (stream_in b rows q)
  stream-push [] x q h = grind (arith, nat_tests)
  stream-push (a ∷ rows) x q h = grind (arith, nat_tests, stream-push rows x q)

  -- another account of the same id at its place
  pub stream-set : (rows : List Account) (id : ℕ) (x : Account) (q : ℕ) → x.id ≡ id → seek (ids rows) id < length rows → stream_in b (set rows (seek (ids rows) id) x) q ≡ cond (eqb id q) (Some (credit_at b x)) (stream_in b rows q)
  stream-set [] id x q e h = absurd (omega arith)
  stream-set (a ∷ rows) id x q e h =
      ⊎_elim
      (λ y. let t : eqb a.id id ≡ true = eq-eqb a.id id y in rw t (grind (arith, nat_tests)))
      (λ n.
      let f : eqb a.id id ≡ false = ne_eqb a.id id n in
      let further : seek (ids rows) id < length rows = omega (arith, rw f at h) in
      rw f (grind (arith, nat_tests, stream-set rows id x q e further)))
      (cases_eq a.id id)

  -- the account of the id is gone
  pub stream-without : (i : ℕ) (rows : List Account) (id : ℕ) (q : ℕ) → Fairs b i rows → seek (ids rows) id < length rows → stream_in b (without id_of id rows) q ≡ cond (eqb id q) None (stream_in b rows q)
  stream-without i [] id q g h = absurd (omega arith)
  stream-without i (a ∷ rows) id q g h =
      ⊎_elim
      (λ y.
      let t : eqb a.id id ≡ true = eq-eqb a.id id y in
      let n = none_from (stream_in b rows a.id) g.1 in
      rw t (grind (arith, nat_tests)))
      (λ n.
      let f : eqb a.id id ≡ false = ne_eqb a.id id n in
      let further : seek (ids rows) id < length rows = omega (arith, rw f at h) in
      rw f (grind (arith, nat_tests, stream-without i rows id q g.2 further)))
      (cases_eq a.id id)

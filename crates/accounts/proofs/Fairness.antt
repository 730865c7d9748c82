-- That accounts stay fair, and what follows of every stream.
use Rattle.std.proofs.Common.{◌≡◌, ℕ, zero, suc, ◌<◌, ◌≤◌, true, false, eqb, List, [], ◌∷◌, ◌++◌, length, get_or, set, pos, ◌+ℤ◌, ◌-ℤ◌, ◌≤ℤ◌, is_some, Some, None, sym, refl, ap, ◌∙◌, subst, ⊎_elim, arith, eq-eqb, ne_eqb}
use mathlib.Core.Logic.{∥∥₁_elim}
use mathlib.Core.HLevel.{×₃_prop, Unit-prop}
use denote.Struct.Props.{props}
use Rattle.std.proofs.lemmas.Bool.{cases_eq}
use Rattle.std.proofs.lemmas.Int.{ints}
use Rattle.records.specs.Records.{seek}
use Rattle.records.specs.Tables.{Is, without}
use Rattle.credit.specs.Credit.{MAX, amount, Bounded, Within}
use Rattle.accounts.specs.Accounts.{credit_at, stream_in, held_in, Fair, Fairs, InBounds}
use Rattle.accounts.specs.declared.accounts_of_streams.Account.{Account}
use Rattle.accounts.proofs.Streams.{id_of, ids, stream-push, stream-set, stream-without}

module _ (b i : ℕ) where
  fairs-prop : (rows : List Account) → IsProp (Fairs b i rows)
  fairs-prop [] = Unit-prop
  fairs-prop (a ∷ rows) = ×₃_prop (hlevel props) (hlevel props) (fairs-prop rows)

  -- a fact of which there is one proof comes out of its bars
  pub fairs-from : (rows : List Account) → ∥ Fairs b i rows ∥₁ → Fairs b i rows
  fairs-from rows t = ∥∥₁_elim t (fairs-prop rows) (λ f. f)

  bounded : (a : Account) (t : ℕ) → amount a.held ≤ t → Fair b i a → Bounded i t (credit_at b a)
  bounded a t h f =
      let low : pos i ≤ℤ (((a.balance +ℤ pos b) -ℤ pos (amount a.held)) +ℤ pos MAX) = f.2 in
      record { window_low = omega (arith, ints); window_high = f.1; left_low = omega (arith, ints); left_initial = f.2; part = h }

  -- a stream that is begun has a fair account
  pub within-from : (rows : List Account) (q : ℕ) (t : ℕ) → held_in rows ≤ t → Fairs b i rows → Within i t (stream_in b rows q)
  within-from [] q t h f = tt
  within-from (a ∷ rows) q t h f =
      ⊎_elim
      (λ e. rw (eq-eqb a.id q e) (bounded a t (omega arith) f.0))
      (λ n. rw (ne_eqb a.id q n) (within-from rows q t (omega arith) f.2))
      (cases_eq a.id q)

  pub zero-none : (rows : List Account) → Fairs b i rows → stream_in b rows 0 ≡ None
  zero-none [] f = refl
  zero-none (a ∷ rows) f = let n : eqb a.id 0 ≡ false = ne_eqb a.id 0 (λ e. omega (arith, f.0.0)) in rw n (zero-none rows f.2)

  at_place : (rows : List Account) (k : ℕ) (d : Account) → Fairs b i rows → k < length rows → Fair b i (get_or rows k d)
  at_place [] k d f h = absurd (omega arith)
  at_place (a ∷ rows) zero d f h = f.0
  at_place (a ∷ rows) (suc k) d f h = at_place rows k d f.2 (omega arith)

  pub fair-found : (rows : List Account) (id : ℕ) (x : Account) → Is id_of rows id x → Fairs b i rows → Fair b i x
  fair-found rows id x is f = subst (Fair b i) (sym is.at) (at_place rows (seek (ids rows) id) x f is.there)

  pub fairs-push : (rows : List Account) (x : Account) → Fairs b i rows → Fair b i x → stream_in b rows x.id ≡ None → Fairs b i (rows ++ x ∷ [])
  fairs-push [] x f g h = (g, refl, tt)
  fairs-push (a ∷ rows) x f g h =
      ⊎_elim
      (λ e. absurd (let s : Some (credit_at b a) ≡ None = rw (eq-eqb a.id x.id e) at h in cc))
      (λ n.
      let e : eqb a.id x.id ≡ false = ne_eqb a.id x.id n in
      let further : stream_in b rows x.id ≡ None = rw e at h in
      (f.0, ap is_some (stream-push b rows x a.id further) ∙ rw (ne_eqb x.id a.id (λ z. n (sym z))) f.1, fairs-push rows x f.2 g further))
      (cases_eq a.id x.id)

  pub fairs-set : (rows : List Account) (id : ℕ) (x : Account) → Fairs b i rows → Fair b i x → x.id ≡ id → seek (ids rows) id < length rows → Fairs b i (set rows (seek (ids rows) id) x)
  fairs-set [] id x f g e h = absurd (omega arith)
  fairs-set (a ∷ rows) id x f g e h =
      ⊎_elim
      (λ y.
      let t : eqb a.id id ≡ true = eq-eqb a.id id y in
      rw t (g, ap (λ k. is_some (stream_in b rows k)) (e ∙ sym y) ∙ f.1, f.2))
      (λ n.
      let t : eqb a.id id ≡ false = ne_eqb a.id id n in
      let further : seek (ids rows) id < length rows = omega (arith, rw t at h) in
      rw t (f.0, ap is_some (stream-set b rows id x a.id e further) ∙ rw (ne_eqb id a.id (λ z. n (sym z))) f.1, fairs-set rows id x f.2 g e further))
      (cases_eq a.id id)

  pub fairs-without : (rows : List Account) (id : ℕ) → Fairs b i rows → seek (ids rows) id < length rows → Fairs b i (without id_of id rows)
  fairs-without [] id f h = absurd (omega arith)
  fairs-without (a ∷ rows) id f h =
      ⊎_elim
      (λ y. let t : eqb a.id id ≡ true = eq-eqb a.id id y in rw t f.2)
      (λ n.
      let t : eqb a.id id ≡ false = ne_eqb a.id id n in
      let further : seek (ids rows) id < length rows = omega (arith, rw t at h) in
      rw t (f.0, ap is_some (stream-without b i rows id a.id f.2 further) ∙ rw (ne_eqb id a.id (λ z. n (sym z))) f.1, fairs-without rows id f.2 further))
      (cases_eq a.id id)

-- a fair account's window is from -MAX to MAX
pub fair-bounds : (b i : ℕ) (a : Account) → Fair b i a → InBounds (credit_at b a)
fair-bounds b i a f =
    let low : pos i ≤ℤ (((a.balance +ℤ pos b) -ℤ pos (amount a.held)) +ℤ pos MAX) = f.2 in
    (omega (arith, ints), f.1)

-- What each call on one stream makes of the books.
use Rattle.std.proofs.Common.{◌≡◌, ℕ, ◌+◌, ◌-◌, ◌<◌, ◌≤◌, Bool, true, false, cond, eqb, ◌⊎◌, List, [], ◌∷◌, ◌++◌, length, set, ℤ, pos, negsuc, ◌+ℤ◌, ◌-ℤ◌, ◌≤ℤ◌, is_some, Some, None, Decides, Option, sym, refl, ap, ◌∙◌, subst, inl, inr, ⊎_elim, arith, length-set, ne_eqb, MatchOption}
use mathlib.Core.Path.{fun_ext}
use Rattle.std.proofs.lemmas.List.{set-get_or, length_push}
use Rattle.std.proofs.lemmas.Int.{ints}
use Rattle.records.specs.Records.{seek}
use Rattle.records.specs.Tables.{Is, without}
use Rattle.credit.specs.Credit.{Credit, Meaning, MAX, amount, left, at_least_0, most_room}
use Rattle.credit.specs.Calls.{raised, spent, holding, Accepts, after, begin, finish, raise, hold, spend}
use Rattle.accounts.specs.Accounts.{credit_at, raised_by, holding_now, spent_by, stream_in, held_in, Fair, Fairs, meant}
use Rattle.accounts.specs.declared.accounts_of_streams.Account.{Account}
use Rattle.accounts.proofs.Streams.{id_of, ids, stream-found, stream-set, stream-push, stream-without, held-set, held-push, held-without, length_without}
use Rattle.accounts.proofs.Fairness.{fair-found, fairs-set, fairs-push, fairs-without}

-- two meanings with the same streams
same-meaning : (i c : ℕ) {f g : ℕ → Option Credit} {n m t u : ℕ} → ((q : ℕ) → f q ≡ g q) → n ≡ m → t ≡ u
    → ◌≡◌ {A = Meaning} (record { initial = i; connection = c; stream = f; begun = n; held = t; limit = 64 }) (record { initial = i; connection = c; stream = g; begun = m; held = u; limit = 64 })
same-meaning i c e p q = λ j. record { initial = i; connection = c; stream = fun_ext e j; begun = p j; held = q j; limit = 64 }

-- what is at most the larger of 0 and a number is 0 or at most the number
below_left : (n : ℕ) (z : ℤ) → n ≤ at_least_0 z → (n ≡ 0) ⊎ (pos n ≤ℤ z)
below_left n (pos m) h = inr (omega (arith, ints))
below_left n (negsuc m) h = inl (omega arith)

-- one account changes, at the place of its id
module _ (b i c t : ℕ) (rows : List Account) (id : ℕ) (x : Account) (is : Is id_of rows id x) where
  abbrev pub changed : Account → List Account
  changed y = set rows (seek (ids rows) id) y

  was : stream_in b rows id ≡ Some (credit_at b x)
  was = stream-found b rows id x is

  pub held-changed : (y : Account) → held_in (changed y) + amount x.held ≡ held_in rows + amount y.held
  held-changed y = let h = held-set rows (seek (ids rows) id) y x is.there in omega (arith, ap (λ a. amount a.held) is.at)

  pub unchanged : (y : Account) → y ≡ x → changed y ≡ rows
  unchanged y e = ap changed (e ∙ is.at) ∙ set-get_or rows (seek (ids rows) id) x

  pub as_many : (y : Account) → length (changed y) ≡ length rows
  as_many y = length-set rows (seek (ids rows) id) y

  -- the meaning with the changed account's credit
  meaning-changed : (d u : ℕ) (y : Account) (k : Credit) → y.id ≡ id → credit_at b y ≡ k
      → meant b i d u (changed y) ≡ record { initial = i; connection = d; stream = λ q. cond (eqb id q) (Some k) (stream_in b rows q); begun = length rows; held = u; limit = 64 }
  meaning-changed d u y k e same =
      same-meaning i d (λ q. stream-set b rows id y q e is.there ∙ ap (λ s. cond (eqb id q) (Some s) (stream_in b rows q)) same) (as_many y) refl

  fair-changed : (y : Account) → Fairs b i rows → y.id ≡ id → Fair b i y → Fairs b i (changed y)
  fair-changed y f e g = fairs-set b i rows id y f g e is.there

  -- raise
  raised-credit : (v : ℕ) → credit_at b (raised_by v x) ≡ raised v (credit_at b x)
  raised-credit v = let e : (x.balance +ℤ pos v) +ℤ pos b ≡ (x.balance +ℤ pos b) +ℤ pos v = omega (arith, ints) in λ j. record { window = e j; held = x.held }

  pub raise-answers : (v : ℕ) (r : Bool) → (id ≡ 0 → ⊥) → Decides r (((credit_at b x).window +ℤ pos v) ≤ℤ pos MAX) → Decides r (Accepts (meant b i c t rows) (most_room (meant b i c t rows)) (raise id v))
  raise-answers v r n d = rw (ne_eqb id 0 n, was) d

  pub raise-leaves : (v : ℕ) (y : Account) (r : Bool) → (id ≡ 0 → ⊥) → y ≡ cond r (raised_by v x) x → meant b i c t (changed y) ≡ cond r (after (meant b i c t rows) (raise id v)) (meant b i c t rows)
  raise-leaves v y true n e = rw (ne_eqb id 0 n, was) (meaning-changed c t y (raised v (credit_at b x)) (ap id_of e ∙ is.named) (ap (credit_at b) e ∙ raised-credit v))
  raise-leaves v y false n e = ap (meant b i c t) (unchanged y e)

  pub raise-fair : (v : ℕ) (y : Account) (r : Bool) → Decides r (((credit_at b x).window +ℤ pos v) ≤ℤ pos MAX) → y ≡ cond r (raised_by v x) x → Fairs b i rows → Fairs b i (changed y)
  raise-fair v y true d e f =
      let g = fair-found b i rows id x is f in
      let u : ((x.balance +ℤ pos b) +ℤ pos v) ≤ℤ pos MAX = d.0 refl in
      let low : pos i ≤ℤ (((x.balance +ℤ pos b) -ℤ pos (amount x.held)) +ℤ pos MAX) = g.2 in
      fair-changed y f (ap id_of e ∙ is.named) (subst (Fair b i) (sym e) (g.0, omega (arith, ints), omega (arith, ints)))
  raise-fair v y false d e f = subst (Fairs b i) (sym (unchanged y e)) f

  pub raise-held : (v : ℕ) (y : Account) (r : Bool) → y ≡ cond r (raised_by v x) x → held_in (changed y) ≡ held_in rows
  raise-held v y true e = omega (arith, held-changed y, ap (λ a. amount a.held) e)
  raise-held v y false e = ap held_in (unchanged y e)

  -- hold
  pub hold-answers : (n : ℕ) (r : Bool) → n ≤ c - t → Decides r ((x.held ≡ None) × (n ≤ at_least_0 (left (credit_at b x)))) → Decides r (Accepts (meant b i c t rows) (most_room (meant b i c t rows)) (hold id n))
  hold-answers n r h d = rw was (λ e. ((d.0 e).0, omega (arith, (d.0 e).1)), λ p. d.1 (p.0, omega (arith, p.1)))

  pub hold-leaves : (n : ℕ) (y : Account) → y ≡ holding_now n x → meant b i c (t + n) (changed y) ≡ after (meant b i c t rows) (hold id n)
  hold-leaves n y e = rw was (meaning-changed c (t + n) y (holding n (credit_at b x)) (ap id_of e ∙ is.named) (ap (credit_at b) e))

  pub hold-fair : (n : ℕ) (y : Account) → i ≤ MAX → (x.held ≡ None) × (n ≤ at_least_0 (left (credit_at b x))) → y ≡ holding_now n x → Fairs b i rows → Fairs b i (changed y)
  hold-fair n y m p e f =
      let g = fair-found b i rows id x is f in
      let o : amount x.held ≡ 0 = ap amount p.0 in
      let low : pos i ≤ℤ (((x.balance +ℤ pos b) -ℤ pos (amount x.held)) +ℤ pos MAX) = g.2 in
      let enough : pos i ≤ℤ (((x.balance +ℤ pos b) -ℤ pos n) +ℤ pos MAX)
      = ⊎_elim (λ z. omega (arith, ints)) (λ (z : pos n ≤ℤ ((x.balance +ℤ pos b) -ℤ pos (amount x.held))). omega (arith, ints)) (below_left n (left (credit_at b x)) p.1) in
      fair-changed y f (ap id_of e ∙ is.named) (subst (Fair b i) (sym e) (g.0, g.1, enough))

  pub hold-held : (n : ℕ) (y : Account) → x.held ≡ None → y ≡ holding_now n x → held_in (changed y) ≡ held_in rows + n
  hold-held n y p e = omega (arith, held-changed y, ap (λ a. amount a.held) e, ap amount p)

  -- spend
  spent-credit : (n : ℕ) → credit_at b (spent_by n x) ≡ spent n (credit_at b x)
  spent-credit n = let e : (x.balance -ℤ pos n) +ℤ pos b ≡ (x.balance +ℤ pos b) -ℤ pos n = omega (arith, ints) in λ j. record { window = e j; held = None }

  pub spend-answers : (n : ℕ) (r : Bool) → Decides r (MatchOption x.held ⊥ (λ k. (n ≤ k) × (0 < n → pos n ≤ℤ (credit_at b x).window))) → Decides r (Accepts (meant b i c t rows) (most_room (meant b i c t rows)) (spend id n))
  spend-answers n r d = rw was d

  pub spend-leaves : (n : ℕ) (y : Account) → y ≡ spent_by n x → meant b i (c - n) (t - amount x.held) (changed y) ≡ after (meant b i c t rows) (spend id n)
  spend-leaves n y e = rw was (meaning-changed (c - n) (t - amount x.held) y (spent n (credit_at b x)) (ap id_of e ∙ is.named) (ap (credit_at b) e ∙ spent-credit n))

  pub spend-fair : (n : ℕ) (y : Account) → n ≤ amount x.held → y ≡ spent_by n x → Fairs b i rows → Fairs b i (changed y)
  spend-fair n y h e f =
      let g = fair-found b i rows id x is f in
      let high : (x.balance +ℤ pos b) ≤ℤ pos MAX = g.1 in
      let low : pos i ≤ℤ (((x.balance +ℤ pos b) -ℤ pos (amount x.held)) +ℤ pos MAX) = g.2 in
      fair-changed y f (ap id_of e ∙ is.named) (subst (Fair b i) (sym e) (g.0, omega (arith, ints), omega (arith, ints)))

  pub spend-held : (n : ℕ) (y : Account) → y ≡ spent_by n x → held_in (changed y) + amount x.held ≡ held_in rows
  spend-held n y e = omega (arith, held-changed y, ap (λ a. amount a.held) e)

  -- finish
  pub finish-answers : is_some (stream_in b rows id) ≡ true
  finish-answers = ap is_some was

  pub finish-leaves : Fairs b i rows → meant b i c (t - amount x.held) (without id_of id rows) ≡ after (meant b i c t rows) (finish id)
  finish-leaves f = rw was (same-meaning i c (λ q. stream-without b i rows id q f is.there) (let n = length_without rows id is.there in omega arith) refl)

  pub finish-fair : Fairs b i rows → Fairs b i (without id_of id rows)
  finish-fair f = fairs-without b i rows id f is.there

  pub finish-held : held_in (without id_of id rows) + amount x.held ≡ held_in rows
  finish-held = held-without rows id x is.there is.at

-- begin
module _ (b i c t id : ℕ) (rows : List Account) (y : Account) (named : y.id ≡ id) (whole : (y.balance +ℤ pos b) ≡ pos i) (free : y.held ≡ None) (none : stream_in b rows id ≡ None) where
  no_other : stream_in b rows y.id ≡ None
  no_other = ap (stream_in b rows) named ∙ none

  pub begin-leaves : meant b i c t (rows ++ y ∷ []) ≡ after (meant b i c t rows) (begin id)
  begin-leaves =
      same-meaning i c
      (λ q.
      stream-push b rows y q no_other
      ∙ ap (λ k. cond (eqb k q) (Some (credit_at b y)) (stream_in b rows q)) named
      ∙ ap (λ s. cond (eqb id q) (Some s) (stream_in b rows q)) (λ j. record { window = whole j; held = free j }))
      (length_push rows y) refl

  pub begin-fair : i ≤ MAX → 1 ≤ id → Fairs b i rows → Fairs b i (rows ++ y ∷ [])
  begin-fair m p f =
      let o : amount y.held ≡ 0 = ap amount free in
      fairs-push b i rows y f (omega (arith, named), omega (arith, ints, whole), omega (arith, ints, whole)) no_other

  pub begin-held : held_in (rows ++ y ∷ []) ≡ held_in rows
  begin-held = omega (arith, held-push rows y, ap amount free)

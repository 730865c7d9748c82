-- What a call on one stream makes of whole books: that their invariant is kept, what it answers, and what it leaves.
use Rattle.std.proofs.Common.{◌≡◌, ℕ, ◌+◌, ◌-◌, ◌<◌, ◌≤◌, Bool, true, false, cond, ltb, List, [], ◌∷◌, ◌++◌, length, take, drop, set, pos, ◌+ℤ◌, ◌≤ℤ◌, is_some, None, vec_items, Decides, sym, refl, ap, ◌∙◌, subst, arith, w32, to_z, MatchOption}
use Rattle.std.specs.List.{AllByRecursion}
use Rattle.std.proofs.lemmas.Int.{ints, to_z_pos}
use Rattle.std.proofs.lemmas.List.{take_at}
use Rattle.std.proofs.lemmas.Bool.{false≢true}
use Rattle.records.specs.Records.{Absent, seek}
use Rattle.records.specs.Tables.{Is, without}
use Rattle.records.proofs.Rows.{without-none}
use Rattle.credit.specs.Credit.{MAX, amount, left, at_least_0, most_room}
use Rattle.credit.specs.Calls.{Call, Accepts, after, begin, finish, raise, initial, hold, spend}
use Rattle.accounts.specs.declared.accounts_of_streams.Account.{Account}
use Rattle.accounts.specs.declared.bookkeeping.Books.{Books}
use Rattle.accounts.specs.Accounts.{credit_at, raised_by, holding_now, spent_by, held_in, Fairs, Fits, meant}
use Rattle.accounts.specs.Books.{meaning_of}
use Rattle.accounts.specs.Storages.{base_of, renewed_by, Renewable}
use Rattle.accounts.proofs.Balances.{within_held}
use Rattle.accounts.proofs.Beginnings.{base-within, added}
use Rattle.accounts.proofs.Changes.{unchanged, held-changed, raise-answers, raise-leaves, raise-fair, raise-held, hold-answers, hold-leaves, hold-fair, hold-held, spend-answers, spend-leaves, spend-fair, spend-held, finish-answers, finish-leaves, finish-fair, finish-held}
use Rattle.accounts.proofs.Fairness.{fairs-from}
use Rattle.accounts.proofs.Renewals.{Renewed, renewed, renewable, all-fit-from}
use Rattle.accounts.proofs.Streams.{id_of, ids, stream-absent}

-- the parts of books that a proof speaks of
abbrev pub base : Books → ℕ
base s = base_of s.storage s.initial

abbrev pub rows_of : Books → List Account
rows_of s = vec_items s.table.rows

abbrev pub fair_of : (s : Books) → Fairs (base s) s.initial (rows_of s)
fair_of s = fairs-from (base s) s.initial (rows_of s) s.fair

-- a call was answered r, and left the connection's window c, t held together and these accounts
pub record Settled (s : Books) (call : Call) (r : Bool) (c t : ℕ) (rows : List Account) : Type 0 where
  pub within : (s.initial ≤ 2147483647) × (c ≤ 2147483647) × (t ≤ c)
  pub sums : t ≡ held_in rows
  pub fair : Fairs (base s) s.initial rows
  pub answers : Decides r (Accepts (meaning_of s) (most_room (meaning_of s)) call)
  pub leaves : meant (base s) s.initial c t rows ≡ cond r (after (meaning_of s) call) (meaning_of s)

pub begins : (s : Books) (id k : ℕ) (rows : List Account) (r : Bool) → k ≡ base s → Absent (ids (rows_of s)) id → (id ≡ 0 → ⊥)
    → r ≡ ltb (length (rows_of s)) 64 → rows ≡ cond r (rows_of s ++ record { id = id; balance = to_z w32 (s.initial - k); held = None } ∷ []) (rows_of s)
    → Settled s (begin id) r s.connection s.held rows
begins s id k rows r same none above is e =
    let small = s.within.0 in
    let within = base-within s.storage s.initial in
    let balance = to_z_pos w32 (s.initial - k) (omega arith) in
    let whole : (to_z w32 (s.initial - k) +ℤ pos (base s)) ≡ pos s.initial = rw balance (omega (arith, ints)) in
    let a = added (base s) s.initial s.connection s.held id (rows_of s) (record { id = id; balance = to_z w32 (s.initial - k); held = None }) rows r
    refl whole refl (stream-absent (base s) (rows_of s) id none) above s.within.0 (fair_of s) is e in
    record { within = s.within; sums = s.sums ∙ sym a.held; fair = a.fair; answers = a.answers; leaves = a.leaves }

module _ (s : Books) (id : ℕ) (x : Account) (is : Is id_of (rows_of s) id x) where
  -- where an account that was lent is given back as it was
  same : (call : Call) (y : Account) → y ≡ x → Decides false (Accepts (meaning_of s) (most_room (meaning_of s)) call) → Settled s call false s.connection s.held (set (rows_of s) (seek (ids (rows_of s)) id) y)
  same call y e d =
      let rows = unchanged (base s) s.initial s.connection s.held (rows_of s) id x is y e in
      record {
        within = s.within;
        sums = s.sums ∙ sym (ap held_in rows);
        fair = subst (Fairs (base s) s.initial) (sym rows) (fair_of s);
        answers = d;
        leaves = ap (meant (base s) s.initial s.connection s.held) rows;
      }

  pub raises : (v k : ℕ) (y : Account) (r : Bool) → k ≡ base s → (id ≡ 0 → ⊥) → Decides r (((credit_at k x).window +ℤ pos v) ≤ℤ pos 2147483647) → y ≡ cond r (raised_by v x) x
      → Settled s (raise id v) r s.connection s.held (set (rows_of s) (seek (ids (rows_of s)) id) y)
  raises v k y r at above d e =
      let d' : Decides r (((credit_at (base s) x).window +ℤ pos v) ≤ℤ pos 2147483647) = subst (λ j. Decides r (((credit_at j x).window +ℤ pos v) ≤ℤ pos 2147483647)) at d in
      record {
        within = s.within;
        sums = s.sums ∙ sym (raise-held (base s) s.initial s.connection s.held (rows_of s) id x is v y r e);
        fair = raise-fair (base s) s.initial s.connection s.held (rows_of s) id x is v y r d' e (fair_of s);
        answers = raise-answers (base s) s.initial s.connection s.held (rows_of s) id x is v r above d';
        leaves = raise-leaves (base s) s.initial s.connection s.held (rows_of s) id x is v y r above e;
      }

  held_so : (n : ℕ) (y : Account) (r : Bool) → n ≤ s.connection - s.held → Decides r ((x.held ≡ None) × (n ≤ at_least_0 (left (credit_at (base s) x)))) → y ≡ cond r (holding_now n x) x
      → Settled s (hold id n) r s.connection (cond r (s.held + n) s.held) (set (rows_of s) (seek (ids (rows_of s)) id) y)
  held_so n y true h d e =
      let p = d.0 refl in
      record {
        within = (s.within.0, s.within.1, omega (arith, s.within.2));
        sums = omega (arith, s.sums, hold-held (base s) s.initial s.connection s.held (rows_of s) id x is n y p.0 e);
        fair = hold-fair (base s) s.initial s.connection s.held (rows_of s) id x is n y s.within.0 p e (fair_of s);
        answers = hold-answers (base s) s.initial s.connection s.held (rows_of s) id x is n true h d;
        leaves = hold-leaves (base s) s.initial s.connection s.held (rows_of s) id x is n y e;
      }
  held_so n y false h d e = same (hold id n) y e (hold-answers (base s) s.initial s.connection s.held (rows_of s) id x is n false h d)

  -- the account's call was answered r, which is q
  pub holds : (n k : ℕ) (y : Account) (r q : Bool) → r ≡ q → k ≡ base s → n ≤ s.connection - s.held → Decides r ((x.held ≡ None) × (n ≤ at_least_0 (left (credit_at k x)))) → y ≡ cond r (holding_now n x) x
      → Settled s (hold id n) q s.connection (cond q (s.held + n) s.held) (set (rows_of s) (seek (ids (rows_of s)) id) y)
  holds n k y r q so at h d e = held_so n y q h (subst (λ j. Decides j ((x.held ≡ None) × (n ≤ at_least_0 (left (credit_at (base s) x))))) so (subst (λ j. Decides r ((x.held ≡ None) × (n ≤ at_least_0 (left (credit_at j x))))) at d)) (subst (λ j. y ≡ cond j (holding_now n x) x) so e)

  -- what a stream holds is part of what all hold
  pub part_held : amount x.held ≤ s.held
  part_held = let h = held-changed (base s) s.initial s.connection s.held (rows_of s) id x is (spent_by 0 x) in omega (arith, s.sums)

  spent_so : (n : ℕ) (y : Account) (r : Bool) → Decides r (MatchOption x.held ⊥ (λ j. (n ≤ j) × (0 < n → pos n ≤ℤ (credit_at (base s) x).window))) → y ≡ cond r (spent_by n x) x
      → Settled s (spend id n) r (cond r (s.connection - n) s.connection) (cond r (s.held - amount x.held) s.held) (set (rows_of s) (seek (ids (rows_of s)) id) y)
  spent_so n y true d e =
      let covered = within_held x.held n (0 < n → pos n ≤ℤ (credit_at (base s) x).window) (d.0 refl) in
      let part = part_held in
      record {
        within = (s.within.0, omega (arith, s.within.1), omega (arith, s.within.2));
        sums = omega (arith, s.sums, spend-held (base s) s.initial s.connection s.held (rows_of s) id x is n y e);
        fair = spend-fair (base s) s.initial s.connection s.held (rows_of s) id x is n y covered e (fair_of s);
        answers = spend-answers (base s) s.initial s.connection s.held (rows_of s) id x is n true d;
        leaves = spend-leaves (base s) s.initial s.connection s.held (rows_of s) id x is n y e;
      }
  spent_so n y false d e = same (spend id n) y e (spend-answers (base s) s.initial s.connection s.held (rows_of s) id x is n false d)

  pub spends : (n k m : ℕ) (y : Account) (r q : Bool) → r ≡ q → k ≡ base s → m ≡ amount x.held → Decides r (MatchOption x.held ⊥ (λ j. (n ≤ j) × (0 < n → pos n ≤ℤ (credit_at k x).window))) → y ≡ cond r (spent_by n x) x
      → Settled s (spend id n) q (cond q (s.connection - n) s.connection) (cond q (s.held - m) s.held) (set (rows_of s) (seek (ids (rows_of s)) id) y)
  spends n k m y r q so at m-is d e =
      let d' = subst (λ j. Decides j (MatchOption x.held ⊥ (λ o. (n ≤ o) × (0 < n → pos n ≤ℤ (credit_at (base s) x).window)))) so (subst (λ j. Decides r (MatchOption x.held ⊥ (λ o. (n ≤ o) × (0 < n → pos n ≤ℤ (credit_at j x).window)))) at d) in
      subst (λ j. Settled s (spend id n) q (cond q (s.connection - n) s.connection) (cond q (s.held - j) s.held) (set (rows_of s) (seek (ids (rows_of s)) id) y)) (sym m-is)
      (spent_so n y q d' (subst (λ j. y ≡ cond j (spent_by n x) x) so e))

  pub finishes : (m : ℕ) (rows : List Account) → m ≡ amount x.held → rows ≡ without id_of id (rows_of s) → Settled s (finish id) true s.connection (s.held - m) rows
  finishes m rows m-is e =
      let part = part_held in
      let gone = finish-held (base s) s.initial s.connection s.held (rows_of s) id x is in
      record {
        within = (s.within.0, s.within.1, omega (arith, s.within.2));
        sums = omega (arith, s.sums, ap held_in e);
        fair = subst (Fairs (base s) s.initial) (sym e) (finish-fair (base s) s.initial s.connection s.held (rows_of s) id x is (fair_of s));
        answers = (λ _. finish-answers (base s) s.initial s.connection s.held (rows_of s) id x is, λ _. refl);
        leaves =
            (λ j. meant (base s) s.initial s.connection (s.held - m-is j) (e j))
            ∙ finish-leaves (base s) s.initial s.connection s.held (rows_of s) id x is (fair_of s);
      }

-- a stream that has no account is not begun, and cannot finish
pub stays : (s : Books) (id : ℕ) (rows : List Account) → Absent (ids (rows_of s)) id → rows ≡ without id_of id (rows_of s) → Settled s (finish id) false s.connection s.held rows
stays s id rows none e =
    let is : rows ≡ rows_of s = e ∙ without-none id_of (rows_of s) id none in
    record {
      within = s.within;
      sums = s.sums ∙ sym (ap held_in is);
      fair = subst (Fairs (base s) s.initial) (sym is) (fair_of s);
      answers = (λ z. absurd (false≢true z), λ h. sym (ap is_some (stream-absent (base s) (rows_of s) id none)) ∙ h);
      leaves = ap (meant (base s) s.initial s.connection s.held) is;
    }

-- what the initial window is above the base
above-base : (s : Books) (k : ℕ) → k ≡ base s → (s.initial - k) + base s ≡ s.initial
above-base s k at = let within = base-within s.storage s.initial in omega (arith, at)

-- a new initial window that every balance can take up
pub renews : (s : Books) (v k : ℕ) (ws : List Account) → k ≡ base s → v ≤ MAX → AllByRecursion (Fits (s.initial - k) v) (rows_of s) → ws ≡ renewed_by s.storage (s.initial - k) v (rows_of s)
    → Renewed s.storage s.initial v s.connection s.held (rows_of s) (take s.table.rows.len (ws ++ drop (length ws) (rows_of s)))
renews s v k ws at m all e =
    let r = renewed s.storage s.initial v s.connection s.held (s.initial - k) (rows_of s) ws (above-base s k at) m (fair_of s) all e in
    let same : take s.table.rows.len (ws ++ drop (length ws) (rows_of s)) ≡ ws = take_at ws (drop (length ws) (rows_of s)) s.table.rows.len (r.as_many ∙ sym s.table.rows.ok.0) in
    subst (Renewed s.storage s.initial v s.connection s.held (rows_of s)) (sym same) r

pub may-renew : (s : Books) (v k : ℕ) → k ≡ base s → AllByRecursion (Fits (s.initial - k) v) (rows_of s) → Renewable s.storage (s.initial - k) v (rows_of s)
may-renew s v k at all = renewable s.storage s.initial v (s.initial - k) (rows_of s) (above-base s k at) (fair_of s) all

-- one that some balance cannot take up is refused
pub cannot-renew : (s : Books) (v k : ℕ) (r : Bool) → k ≡ base s → r ≡ false → Decides r (AllByRecursion (Fits (s.initial - k) v) (rows_of s)) → Decides false (Accepts (meaning_of s) (most_room (meaning_of s)) (initial v))
cannot-renew s v k r at left_out d = (
  λ e. absurd (false≢true e),
  λ h. sym left_out ∙ d.1 (all-fit-from s.storage s.initial v (s.initial - k) (rows_of s) (above-base s k at) (fair_of s) h.1),
)

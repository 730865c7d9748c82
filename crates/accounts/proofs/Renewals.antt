-- What a new initial window makes of the books.
use Rattle.std.proofs.Common.{◌≡◌, ℕ, ◌+◌, ◌<◌, ◌≤◌, Bool, true, false, MatchBool, Decides, List, [], ◌∷◌, map, length, pos, ◌+ℤ◌, ◌-ℤ◌, ◌≤ℤ◌, is_some, IfSome, Some, None, Option, sym, refl, ap, ◌∙◌, subst, ⊎_elim, map-id, arith, eq-eqb, ne_eqb}
use mathlib.Core.Path.{fun_ext}
use Rattle.std.specs.Option.{option_map}
use Rattle.std.specs.List.{AllByRecursion, AllWithin, HoldsAt}
use Rattle.std.proofs.lemmas.Iterator.Search.{true_from_All}
use Rattle.std.proofs.lemmas.List.Elements.{All-from_recursion, recursion_from_All}
use Rattle.std.proofs.lemmas.Bool.{cases_eq, false≢true}
use Rattle.std.proofs.lemmas.Int.{ints}
use Rattle.std.proofs.lemmas.List.{length-map}
use Rattle.credit.specs.Credit.{Credit, MAX, amount}
use Rattle.credit.specs.Calls.{shifted, after, initial}
use Rattle.accounts.specs.Accounts.{credit_at, shifted_by, stream_in, held_in, Fair, Fairs, meant, Fits, InRange}
use Rattle.accounts.specs.declared.accounts_of_streams.Account.{Account}
use Rattle.accounts.specs.declared.storages.Storage.{Storage}
use Rattle.accounts.specs.declared.storages.Storage.TheVariants.{Direct, Offset}
use Rattle.accounts.specs.Storages.{base_of, renewed_by, Renewable}
use Rattle.accounts.proofs.Streams.{none_from}

-- an answer for all accounts, which `all` gave, decides that each has the property
pub decides-all : (P : Account → Type 0) (r : Bool) (rows : List Account) → MatchBool r (AllWithin P rows 0 (length rows)) ((k : ℕ) × (k < length rows) × HoldsAt (λ a. P a → ⊥) rows k) → Decides r (AllByRecursion P rows)
decides-all P true rows m = (λ e. recursion_from_All P rows (λ k d l. m k d (omega arith) l), λ h. refl)
decides-all P false rows m = (λ e. absurd (false≢true e), λ h. true_from_All P (λ a. P a → ⊥) false rows (λ a p n. n p) m (All-from_recursion P rows h))

-- the initial window goes from i to v, the accounts' base from b to e, and each account to its image under f; p is what i is above b
module _ (b e i v p : ℕ) (f : Account → Account) (above : p + b ≡ i) (same_id : (a : Account) → (f a).id ≡ a.id) (moves : (a : Account) → credit_at e (f a) ≡ shifted i v (credit_at b a)) where
  streams-moved : (rows : List Account) (q : ℕ) → stream_in e (map f rows) q ≡ option_map (shifted i v) (stream_in b rows q)
  streams-moved [] q = refl
  streams-moved (a ∷ rows) q =
      ⊎_elim
      (λ y. rw (same_id a, eq-eqb a.id q y) (ap Some (moves a)))
      (λ n. rw (same_id a, ne_eqb a.id q n) (streams-moved rows q))
      (cases_eq a.id q)

  -- no balance passes MAX exactly where no stream's window does
  pub fits-streams : (rows : List Account) → AllByRecursion (Fits p v) rows → (q : ℕ) → IfSome (stream_in b rows q) (λ c. (shifted i v c).window ≤ℤ pos MAX)
  fits-streams [] all q = tt
  fits-streams (a ∷ rows) all q =
      ⊎_elim
      (λ y. rw (eq-eqb a.id q y) (let h : (a.balance +ℤ (pos v -ℤ pos p)) ≤ℤ pos MAX = all.0 in omega (arith, ints)))
      (λ n. rw (ne_eqb a.id q n) (fits-streams rows all.1 q))
      (cases_eq a.id q)

  pub streams-fit : (rows : List Account) → Fairs b i rows → ((q : ℕ) → IfSome (stream_in b rows q) (λ c. (shifted i v c).window ≤ℤ pos MAX)) → AllByRecursion (Fits p v) rows
  streams-fit [] fair h = tt
  streams-fit (a ∷ rows) fair h =
      let here : ((a.balance +ℤ pos b) +ℤ (pos v -ℤ pos i)) ≤ℤ pos MAX = rw (eq-eqb a.id a.id refl) at (h a.id) in (
        omega (arith, ints),
        streams-fit rows fair.2 (λ q.
            ⊎_elim
            (λ y. let none : stream_in b rows q ≡ None = ap (stream_in b rows) (sym y) ∙ none_from (stream_in b rows a.id) fair.1 in rw none tt)
            (λ n. rw (ne_eqb a.id q n) at (h q))
            (cases_eq a.id q)),
      )

  none-moved : (o : Option Credit) → is_some o ≡ false → is_some (option_map (shifted i v) o) ≡ false
  none-moved None h = refl
  none-moved (Some c) h = h

  fair-moved : (a : Account) → v ≤ MAX → Fair b i a → Fits p v a → Fair e v (f a)
  fair-moved a m fair fit =
      let high : (a.balance +ℤ (pos v -ℤ pos p)) ≤ℤ pos MAX = fit in
      let low : pos i ≤ℤ (((a.balance +ℤ pos b) -ℤ pos (amount a.held)) +ℤ pos MAX) = fair.2 in
      let P : Credit → Type 0 = λ c. (c.window ≤ℤ pos MAX) × (pos v ≤ℤ ((c.window -ℤ pos (amount c.held)) +ℤ pos MAX)) in
      let both = subst P (sym (moves a)) (omega (arith, ints), omega (arith, ints)) in
      (omega (arith, fair.0, same_id a), both.0, both.1)

  pub fairs-moved : (rows : List Account) → v ≤ MAX → Fairs b i rows → AllByRecursion (Fits p v) rows → Fairs e v (map f rows)
  fairs-moved [] m fair all = tt
  fairs-moved (a ∷ rows) m fair all = (
    fair-moved a m fair.0 all.0,
    ap (λ k. is_some (stream_in e (map f rows) k)) (same_id a) ∙ ap is_some (streams-moved rows a.id) ∙ none-moved (stream_in b rows a.id) fair.1,
    fairs-moved rows m fair.2 all.1,
  )

  pub held_moved : (rows : List Account) → held_in (map f rows) ≡ held_in rows
  held_moved [] = refl
  held_moved (a ∷ rows) = let h = held_moved rows in omega (arith, ap (λ c. amount c.held) (moves a))

  pub renew-leaves : (c t : ℕ) (rows : List Account) → meant e v c t (map f rows) ≡ after (meant b i c t rows) (initial v)
  renew-leaves c t rows = λ j. record { initial = v; connection = c; stream = fun_ext (streams-moved rows) j; begun = length-map rows f j; held = t; limit = 64 }

-- a balance that is the window itself stays from -MAX to MAX
pub in-range : (i v p : ℕ) → p + 0 ≡ i → (rows : List Account) → Fairs 0 i rows → AllByRecursion (Fits p v) rows → AllByRecursion (InRange p v) rows
in-range i v p above [] fair all = tt
in-range i v p above (a ∷ rows) fair all =
    let high : (a.balance +ℤ (pos v -ℤ pos p)) ≤ℤ pos MAX = all.0 in
    let low : pos i ≤ℤ (((a.balance +ℤ pos 0) -ℤ pos (amount a.held)) +ℤ pos MAX) = fair.0.2 in
    ((omega (arith, ints), high), in-range i v p above rows fair.2 all.1)

-- a window that is stored as it stands takes the difference up
pub direct-moves : (i v p : ℕ) → p + 0 ≡ i → (a : Account) → credit_at 0 (shifted_by p v a) ≡ shifted i v (credit_at 0 a)
direct-moves i v p above a =
    let same : (a.balance +ℤ (pos v -ℤ pos p)) +ℤ pos 0 ≡ (a.balance +ℤ pos 0) +ℤ (pos v -ℤ pos i) = omega (arith, ints) in
    λ j. record { window = same j; held = a.held }

-- one that is stored as a difference stays
pub offset-moves : (i v : ℕ) → (a : Account) → credit_at v a ≡ shifted i v (credit_at i a)
offset-moves i v a =
    let same : a.balance +ℤ pos v ≡ (a.balance +ℤ pos i) +ℤ (pos v -ℤ pos i) = omega (arith, ints) in
    λ j. record { window = same j; held = a.held }

-- what a new initial window makes of whole books, by how they store windows
pub record Renewed (st : Storage) (i v c t : ℕ) (rows after-rows : List Account) : Type 0 where
  pub as_many : length after-rows ≡ length rows
  pub held : held_in after-rows ≡ held_in rows
  pub fair : Fairs (base_of st v) v after-rows
  pub accepts : (q : ℕ) → IfSome (stream_in (base_of st i) rows q) (λ k. (shifted i v k).window ≤ℤ pos MAX)
  pub leaves : meant (base_of st v) v c t after-rows ≡ after (meant (base_of st i) i c t rows) (initial v)

pub renewed : (st : Storage) (i v c t p : ℕ) (rows after-rows : List Account) → p + base_of st i ≡ i → v ≤ MAX → Fairs (base_of st i) i rows → AllByRecursion (Fits p v) rows → after-rows ≡ renewed_by st p v rows
    → Renewed st i v c t rows after-rows
renewed Direct i v c t p rows after-rows above m fair all e =
    record {
      as_many = ap length e ∙ length-map rows (shifted_by p v);
      held = ap held_in e ∙ held_moved 0 0 i v p (shifted_by p v) above (λ a. refl) (direct-moves i v p above) rows;
      fair = subst (Fairs 0 v) (sym e) (fairs-moved 0 0 i v p (shifted_by p v) above (λ a. refl) (direct-moves i v p above) rows m fair all);
      accepts = fits-streams 0 0 i v p (shifted_by p v) above (λ a. refl) (direct-moves i v p above) rows all;
      leaves = ap (meant 0 v c t) e ∙ renew-leaves 0 0 i v p (shifted_by p v) above (λ a. refl) (direct-moves i v p above) c t rows;
    }
renewed Offset i v c t p rows after-rows above m fair all e =
    let same : after-rows ≡ map (λ a. a) rows = e ∙ sym (map-id rows) in
    record {
      as_many = ap length e;
      held = ap held_in e;
      fair = subst (Fairs v v) (sym same) (fairs-moved i v i v p (λ a. a) above (λ a. refl) (offset-moves i v) rows m fair all);
      accepts = fits-streams i v i v p (λ a. a) above (λ a. refl) (offset-moves i v) rows all;
      leaves = ap (meant v v c t) same ∙ renew-leaves i v i v p (λ a. a) above (λ a. refl) (offset-moves i v) c t rows;
    }

-- where some window would pass MAX, some balance does not fit
pub all-fit-from : (st : Storage) (i v p : ℕ) (rows : List Account) → p + base_of st i ≡ i → Fairs (base_of st i) i rows
    → ((q : ℕ) → IfSome (stream_in (base_of st i) rows q) (λ k. (shifted i v k).window ≤ℤ pos MAX)) → AllByRecursion (Fits p v) rows
all-fit-from Direct i v p rows above fair h = streams-fit 0 0 i v p (shifted_by p v) above (λ a. refl) (direct-moves i v p above) rows fair h
all-fit-from Offset i v p rows above fair h = streams-fit i v i v p (λ a. a) above (λ a. refl) (offset-moves i v) rows fair h

pub renewable : (st : Storage) (i v p : ℕ) (rows : List Account) → p + base_of st i ≡ i → Fairs (base_of st i) i rows → AllByRecursion (Fits p v) rows → Renewable st p v rows
renewable Direct i v p rows above fair all = in-range i v p above rows fair all
renewable Offset i v p rows above fair all = tt

-- An order after a history: the seats that were served are so marked, and stand in the order of their times.
use Rattle.std.proofs.Common.{◌≤◌, ◌≡◌, ℕ, ◌<◌, ◌⊎◌, List, [], ◌∷◌, ◌++◌, length, get_or, is_some, All, AllPairs, ◌≢◌, Some, None, Option, sym, refl, ap, ◌∙◌, subst, inl, inr, ⊎_elim, arith, eq-eqb, ne_eqb}
use Rattle.std.proofs.lemmas.Bool.{cases_eq}
use Rattle.std.proofs.lemmas.List.Elements.{All-push}
use Rattle.std.proofs.lemmas.List.Quantifiers.{all_pairs_push, all_pairs_remove}
use Rattle.records.specs.Tables.{without}
use Rattle.records.proofs.Rows.{without-first}
use Rattle.records.proofs.Lookups.{record-named, record-without}
use Rattle.schedule.specs.Ranks.{Event, Accepts, after, entered, altered, left, served}
use Rattle.rotation.specs.declared.seats.Seat.{Seat}
use Rattle.rotation.specs.Orders.{id_of, seat_of, ranked, Distinct, new_seat, served_now, altering, to_end, order_after}
use Rattle.rotation.specs.Places.{mapped-none}
use Rattle.rotation.specs.Turning.{gone, in_some, length-altering, distinct-after, few-after, ranked-after}
use Rattle.waiting.specs.Histories.{ranks_after, Accepted, last_served, Earlier}
use Rattle.waiting.specs.Waits.{order_of}
use Rattle.waiting.proofs.Seats.{seat-there, all_others, all_remove, altering-same}

-- a seat is marked as served exactly where its id has a time
abbrev pub Marked : (ℕ → Option ℕ) → Seat → Type 0
Marked time x = x.served ≡ is_some (time x.id)

abbrev pub InOrder : (ℕ → Option ℕ) → Seat → Seat → Type 0
InOrder time x y = Earlier (time x.id) (time y.id)

-- an order agrees with the times
pub record Timely (time : ℕ → Option ℕ) (xs : List Seat) : Type 0 where
  pub marked : All (Marked time) xs
  pub rising : AllPairs (InOrder time) xs

-- the same seats, but for their priorities, under times that are the same for their ids
timely-alike : (old new : ℕ → Option ℕ) (xs ys : List Seat) → length ys ≡ length xs
    → ((k : ℕ) (d : Seat) → k < length xs → (get_or ys k d).served ≡ (get_or xs k d).served)
    → ((k : ℕ) (d : Seat) → k < length xs → new (get_or ys k d).id ≡ old (get_or xs k d).id) → Timely old xs → Timely new ys
timely-alike old new xs ys long mark same t =
    record {
      marked = λ k d h. let g : k < length xs = omega arith in mark k d g ∙ t.marked k d g ∙ ap is_some (sym (same k d g));
      rising = λ i j d l h.
          let g : j < length xs = omega arith in
          subst (λ u. Earlier u (new (get_or ys j d).id)) (sym (same i d (omega arith))) (subst (Earlier (old (get_or xs i d).id)) (sym (same j d g)) (t.rising i j d l g));
    }

-- times that differ only at an id that has no seat
timely-others : (old new : ℕ → Option ℕ) (id : ℕ) (xs : List Seat) → seat_of xs id ≡ None → ((q : ℕ) → q ≢ id → new q ≡ old q) → Timely old xs → Timely new xs
timely-others old new id xs none same t = timely-alike old new xs xs refl (λ k d h. refl) (λ k d h. same (get_or xs k d).id (all_others xs id none k d h)) t

timely-without : (time : ℕ → Option ℕ) (id : ℕ) (xs : List Seat) (x : Seat) → seat_of xs id ≡ Some x → Timely time xs → Timely time (without id_of id xs)
timely-without time id xs x e t =
    let there = seat-there xs id x e in
    subst (Timely time) (without-first id_of xs id there) (record { marked = all_remove (Marked time) xs _ there t.marked; rising = all_pairs_remove (InOrder time) xs _ there t.rising })

-- one more seat at the end, of the latest time or of none
timely-push : (time : ℕ → Option ℕ) (xs : List Seat) (y : Seat) → Marked time y → ((q : ℕ) → Earlier (time q) (time y.id) ⊎ (q ≡ y.id)) → seat_of xs y.id ≡ None → Timely time xs → Timely time (xs ++ y ∷ [])
timely-push time xs y mark latest none t =
    record {
      marked = All-push (Marked time) xs y t.marked mark;
      rising = all_pairs_push (InOrder time) xs y t.rising (λ k d h. ⊎_elim (λ e. e) (λ same. absurd (all_others xs y.id none k d h same)) (latest (get_or xs k d).id));
    }

never-late : (o u : Option ℕ) → u ≡ None → Earlier o u
never-late None u e = tt
never-late (Some s) u e = rw e tt

-- every time is before now
pub before-now : (history : List Event) (id t : ℕ) → last_served history id ≡ Some t → t < length history
before-now [] id t = λ e. absurd cc
before-now (entered q p ∷ history) id t =
    ⊎_elim
    (λ s. rw (eq-eqb q id s) (λ e. absurd cc))
    (λ n. rw (ne_eqb q id n) (λ e. omega (arith, before-now history id t e)))
    (cases_eq q id)
before-now (altered q p ∷ history) id t = λ e. omega (arith, before-now history id t e)
before-now (left q ∷ history) id t =
    ⊎_elim
    (λ s. rw (eq-eqb q id s) (λ e. absurd cc))
    (λ n. rw (ne_eqb q id n) (λ e. omega (arith, before-now history id t e)))
    (cases_eq q id)
before-now (served q n ∷ history) id t =
    ⊎_elim
    (λ s. rw (eq-eqb q id s) (λ e. let m : length history ≡ t = cc in omega arith))
    (λ n. rw (ne_eqb q id n) (λ e. omega (arith, before-now history id t e)))
    (cases_eq q id)

-- a time before now is earlier than now
now-latest : (o : Option ℕ) (n : ℕ) → ((t : ℕ) → o ≡ Some t → t < n) → Earlier o (Some n)
now-latest None n h = tt
now-latest (Some t) n h = h t refl

-- what each event makes of an order that agrees with its history
timely-end : (history : List Event) (id octets : ℕ) (xs : List Seat) (o : Option Seat) → Distinct xs → seat_of xs id ≡ o → Timely (last_served history) xs → Timely (last_served (served id octets ∷ history)) (to_end id o xs)
timely-end history id octets xs None d e t = timely-others (last_served history) (last_served (served id octets ∷ history)) id xs e (λ q n. rw (ne_eqb id q (λ s. n (sym s))) refl) t
timely-end history id octets xs (Some x) d e t =
    let time = last_served (served id octets ∷ history) in
    let named = record-named id_of xs id x e in
    let none : seat_of (without id_of id xs) x.id ≡ None = gone xs id x d e in
    let mine : time x.id ≡ Some (length history) = rw (eq-eqb id x.id (sym named)) refl in
    let rest = timely-others (last_served history) time id (without id_of id xs) (ap (seat_of (without id_of id xs)) (sym named) ∙ none) (λ q n. rw (ne_eqb id q (λ s. n (sym s))) refl) (timely-without (last_served history) id xs x e t) in
    timely-push time (without id_of id xs) (served_now x) (sym (ap is_some mine))
    (λ q.
    ⊎_elim
    (λ s. inr (sym s ∙ sym named))
    (λ n.
    let other : time q ≡ last_served history q = rw (ne_eqb id q n) refl in
    inl (subst (λ u. Earlier (time q) u) (sym mine) (subst (λ u. Earlier u (Some (length history))) (sym other) (now-latest (last_served history q) (length history) (before-now history q)))))
    (cases_eq id q))
    none rest

timely-after : (history : List Event) (event : Event) (xs : List Seat) → Distinct xs → Accepts (ranked xs) event → Timely (last_served history) xs → Timely (last_served (event ∷ history)) (order_after xs event)
timely-after history (entered id p) xs d a t =
    let time = last_served (entered id p ∷ history) in
    let none = mapped-none (λ x. x.priority) (seat_of xs id) a.0 in
    let mine : time id ≡ None = rw (eq-eqb id id refl) refl in
    timely-push time xs (new_seat id p) (sym (ap is_some mine)) (λ q. inl (never-late (time q) (time id) mine)) none
    (timely-others (last_served history) time id xs none (λ q n. rw (ne_eqb id q (λ s. n (sym s))) refl) t)
timely-after history (altered id p) xs d a t =
    timely-alike (last_served history) (last_served history) xs (altering id p xs) (length-altering xs id p) (λ k e. altering-same (λ x. x.served) xs id p k e (λ x. refl)) (λ k e. altering-same (λ x. last_served history x.id) xs id p k e (λ x. refl)) t
timely-after history (left id) xs d a t =
    let x = in_some xs id a in
    timely-others (last_served history) (last_served (left id ∷ history)) id (without id_of id xs) (record-without id_of xs id id d ∙ rw (eq-eqb id id refl) refl) (λ q n. rw (ne_eqb id q (λ s. n (sym s))) refl)
    (timely-without (last_served history) id xs x.0 x.1 t)
timely-after history (served id octets) xs d a t = timely-end history id octets xs (seat_of xs id) d refl t

-- the order after a history of accepted events
pub record Reached (history : List Event) : Type 0 where
  pub few : length (order_of history) ≤ 64
  pub distinct : Distinct (order_of history)
  pub means : ranked (order_of history) ≡ ranks_after history
  pub timely : Timely (last_served history) (order_of history)

pub reached : (history : List Event) → Accepted history → Reached history
reached [] a = record { few = omega arith; distinct = tt; means = refl; timely = record { marked = λ k d h. absurd (omega arith); rising = λ i j d l h. absurd (omega arith) } }
reached (event ∷ history) a =
    let r = reached history a.1 in
    let xs = order_of history in
    let accepts : Accepts (ranked xs) event = subst (λ m. Accepts m event) (sym r.means) a.0 in
    record {
      few = few-after xs event r.few accepts;
      distinct = distinct-after xs event r.distinct accepts;
      means = ranked-after xs event r.distinct accepts ∙ ap (λ m. after m event) r.means;
      timely = timely-after history event xs r.distinct accepts r.timely;
    }

-- What an event leaves of the seats, and of their meaning.
use Rattle.std.specs.Prelude.{◌≡◌, ℕ, suc, ◌<◌, ◌≤◌, true, false, cond, List, [], ◌∷◌, ◌++◌, map, length, is_some, Some, None, Option, ◌==◌, nat_eq, slice_index_or, slice_set, refl}
use Rattle.std.proofs.Common.{arith, sym, ◌∙◌, ap, ⊎_elim, eq-eqb, ne_eqb}
use Rattle.std.proofs.Math.Path.{fun_ext}
use Rattle.std.specs.Option.{option_map}
use Rattle.std.proofs.lemmas.List.{length_push}
use Rattle.std.proofs.lemmas.Bool.{cases_eq, false≢true}
use Rattle.std.proofs.lemmas.Bool.Decides.{nat_tests}
use Rattle.records.specs.Records.{seek}
use Rattle.records.specs.Tables.{without}
use Rattle.records.proofs.Lookups.{record-named, record-push, record-without, length_without}
use Rattle.wire.specs.declared.priorities.Priority.{Priority}
use Rattle.schedule.specs.Ranks.{Ranks, Event, Accepts, after, entered, altered, left, served}
use Rattle.rotation.specs.declared.seats.Seat.{Seat}
use Rattle.rotation.specs.Orders.{id_of, priority_of, seat_of, ranked, Distinct, new_seat, with_priority, served_now, altering, to_end, order_after, Turned}
use Rattle.rotation.specs.Places.{mapped-none}

-- another priority
pub seat-altering : (xs : List Seat) (id : ℕ) (p : Priority) (q : ℕ) → seat_of (altering id p xs) q ≡ cond (q == id) (option_map (with_priority p) (seat_of xs id)) (seat_of xs q)
seat-altering [] id p q = grind (arith, nat_tests)
seat-altering (x ∷ xs) id p q =
    ⊎_elim
    (λ e. rw (eq-eqb x.id id e) (grind (arith, nat_tests)))
    (λ n. rw (ne_eqb x.id id n) (grind (arith, nat_tests, seat-altering xs id p q)))
    (cases_eq x.id id)

-- the seat with another priority stands at its place
pub altering-found : (xs : List Seat) (id : ℕ) (p : Priority) (x : Seat) → seek (map id_of xs) id < length xs → x ≡ slice_index_or xs (seek (map id_of xs) id) x → slice_set xs (seek (map id_of xs) id) (with_priority p x) ≡ altering id p xs
altering-found [] id p x = λ h e. absurd (omega arith)
altering-found (y ∷ xs) id p x =
    ⊎_elim
    (λ s. rw (eq-eqb y.id id s) (λ h e. ap (λ z. with_priority p z ∷ xs) e))
    (λ n. rw (ne_eqb y.id id n) (λ h e. ap (λ zs. y ∷ zs) (altering-found xs id p x (omega arith) e)))
    (cases_eq y.id id)

-- how many seats there are
pub length-altering : (xs : List Seat) (id : ℕ) (p : Priority) → length (altering id p xs) ≡ length xs
length-altering [] id p = refl
length-altering (x ∷ xs) id p = elim (x.id == id) as (λ b. length (cond b (with_priority p x ∷ xs) (x ∷ altering id p xs)) ≡ suc (length xs)) [ true ↦ refl | false ↦ ap suc (length-altering xs id p) ]

length-to_end : (xs : List Seat) (id : ℕ) (o : Option Seat) → seat_of xs id ≡ o → length (to_end id o xs) ≡ length xs
length-to_end xs id None e = refl
length-to_end xs id (Some x) e = omega (arith, length_push (without id_of id xs) (served_now x), length_without id_of xs id x e)

-- ids stay different
pub distinct_push : (xs : List Seat) (x : Seat) → Distinct xs → seat_of xs x.id ≡ None → Distinct (xs ++ x ∷ [])
distinct_push [] x d h = (refl, tt)
distinct_push (y ∷ xs) x d h =
    ⊎_elim
    (λ e. absurd (let s : Some y ≡ None = rw (eq-eqb y.id x.id e) at h in cc))
    (λ n.
    let t : nat_eq y.id x.id ≡ false = ne_eqb y.id x.id n in
    let further : seat_of xs x.id ≡ None = rw t at h in
    (record-push id_of xs x y.id further ∙ rw t d.0, distinct_push xs x d.1 further))
    (cases_eq y.id x.id)

distinct-altering : (xs : List Seat) (id : ℕ) (p : Priority) → Distinct xs → Distinct (altering id p xs)
distinct-altering [] id p d = tt
distinct-altering (x ∷ xs) id p d =
    ⊎_elim
    (λ e. rw (eq-eqb x.id id e) d)
    (λ n. let t : nat_eq x.id id ≡ false = ne_eqb x.id id n in rw t (seat-altering xs id p x.id ∙ rw t d.0, distinct-altering xs id p d.1))
    (cases_eq x.id id)

pub distinct_without : (xs : List Seat) (id : ℕ) → Distinct xs → Distinct (without id_of id xs)
distinct_without [] id d = tt
distinct_without (x ∷ xs) id d =
    ⊎_elim
    (λ e. rw (eq-eqb x.id id e) d.1)
    (λ n. let t : nat_eq x.id id ≡ false = ne_eqb x.id id n in rw t (record-without id_of xs id x.id d.1 ∙ rw t d.0, distinct_without xs id d.1))
    (cases_eq x.id id)

-- the seat that goes to the end is gone from before it
pub gone : (xs : List Seat) (id : ℕ) (x : Seat) → Distinct xs → seat_of xs id ≡ Some x → seat_of (without id_of id xs) x.id ≡ None
gone xs id x d e = record-without id_of xs id x.id d ∙ rw (eq-eqb x.id id (record-named id_of xs id x e)) refl

distinct-to_end : (xs : List Seat) (id : ℕ) (o : Option Seat) → Distinct xs → seat_of xs id ≡ o → Distinct (to_end id o xs)
distinct-to_end xs id None d e = d
distinct-to_end xs id (Some x) d e = distinct_push (without id_of id xs) (served_now x) (distinct_without xs id d) (gone xs id x d e)

pub seat-to_end : (xs : List Seat) (id : ℕ) (x : Seat) (q : ℕ) → Distinct xs → seat_of xs id ≡ Some x → seat_of (to_end id (Some x) xs) q ≡ cond (q == id) (Some (served_now x)) (seat_of xs q)
seat-to_end xs id x q d e =
    let i = record-named id_of xs id x e in
    let p = record-push id_of (without id_of id xs) (served_now x) q (gone xs id x d e) in
    let w = record-without id_of xs id q d in
    grind (arith, nat_tests)

-- the seat of an id that is in
pub in_some : (xs : List Seat) (id : ℕ) → is_some (option_map priority_of (seat_of xs id)) ≡ true → (x : Seat) × (seat_of xs id ≡ Some x)
in_some xs id h = go (seat_of xs id) h
  where
    go : (o : Option Seat) → is_some (option_map priority_of o) ≡ true → (x : Seat) × (o ≡ Some x)
    go None k = absurd (false≢true k)
    go (Some x) k = (x, refl)

-- every accepted event leaves at most 64 seats
pub few-after : (xs : List Seat) (event : Event) → length xs ≤ 64 → Accepts (ranked xs) event → length (order_after xs event) ≤ 64
few-after xs (entered id p) few a = omega (arith, length_push xs (new_seat id p), a.1)
few-after xs (altered id p) few a = omega (arith, length-altering xs id p, few)
few-after xs (left id) few a = let x = in_some xs id a in omega (arith, length_without id_of xs id x.0 x.1, few)
few-after xs (served id n) few a = omega (arith, length-to_end xs id (seat_of xs id) refl, few)

-- every accepted event leaves an order of different ids
pub distinct-after : (xs : List Seat) (event : Event) → Distinct xs → Accepts (ranked xs) event → Distinct (order_after xs event)
distinct-after xs (entered id p) d a = distinct_push xs (new_seat id p) d (mapped-none priority_of (seat_of xs id) a.0)
distinct-after xs (altered id p) d a = distinct-altering xs id p d
distinct-after xs (left id) d a = distinct_without xs id d
distinct-after xs (served id n) d a = distinct-to_end xs id (seat_of xs id) d refl

-- two meanings with the same priorities
same-ranks : {f g : ℕ → Option Priority} {n m : ℕ} → ((q : ℕ) → f q ≡ g q) → n ≡ m → ◌≡◌ {A = Ranks} (record { rank = f; entered = n; limit = 64 }) (record { rank = g; entered = m; limit = 64 })
same-ranks e p = λ j. record { rank = fun_ext e j; entered = p j; limit = 64 }

mapped-cond : (q id : ℕ) (u v : Option Seat) → option_map priority_of (cond (q == id) u v) ≡ cond (id == q) (option_map priority_of u) (option_map priority_of v)
mapped-cond q id u v = grind (arith, nat_tests)

rank-to_end : (xs : List Seat) (id : ℕ) (o : Option Seat) → Distinct xs → seat_of xs id ≡ o → (q : ℕ) → option_map priority_of (seat_of (to_end id o xs) q) ≡ option_map priority_of (seat_of xs q)
rank-to_end xs id None d e q = refl
rank-to_end xs id (Some x) d e q =
    ap (option_map priority_of) (seat-to_end xs id x q d e)
    ∙ ⊎_elim
    (λ s. rw (eq-eqb q id s) (sym (ap (option_map priority_of) (ap (seat_of xs) s ∙ e))))
    (λ n. rw (ne_eqb q id n) refl)
    (cases_eq q id)

-- what an accepted event makes of the meaning
pub ranked-after : (xs : List Seat) (event : Event) → Distinct xs → Accepts (ranked xs) event → ranked (order_after xs event) ≡ after (ranked xs) event
ranked-after xs (entered id p) d a =
    same-ranks (λ q. ap (option_map priority_of) (record-push id_of xs (new_seat id p) q (mapped-none priority_of (seat_of xs id) a.0)) ∙ mapped-cond q id (Some (new_seat id p)) (seat_of xs q)) (length_push xs (new_seat id p))
ranked-after xs (altered id p) d a =
    let x = in_some xs id a in
    same-ranks
    (λ q.
    ap (option_map priority_of) (seat-altering xs id p q)
    ∙ mapped-cond q id (option_map (with_priority p) (seat_of xs id)) (seat_of xs q)
    ∙ ap (λ o. cond (id == q) (option_map priority_of (option_map (with_priority p) o)) (option_map priority_of (seat_of xs q))) x.1)
    (length-altering xs id p)
ranked-after xs (left id) d a =
    let x = in_some xs id a in
    same-ranks (λ q. ap (option_map priority_of) (record-without id_of xs id q d) ∙ mapped-cond q id None (seat_of xs q)) (omega (arith, length_without id_of xs id x.0 x.1))
ranked-after xs (served id n) d a = same-ranks (rank-to_end xs id (seat_of xs id) d refl) (length-to_end xs id (seat_of xs id) refl)

pub turned-means : (xs ys : List Seat) (event : Event) → Distinct xs → Turned xs event ys → ranked ys ≡ after (ranked xs) event
turned-means xs ys event d t = ap ranked t.order ∙ ranked-after xs event d t.accepted

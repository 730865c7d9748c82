-- The places of the seats of an order.
use Rattle.std.proofs.Common.{◌≡◌, ℕ, zero, suc, ◌+◌, ◌<◌, ◌≢◌, List, [], ◌∷◌, map, length, get_or, All, Some, None, refl, ⊎_elim, arith, eq-eqb, ne_eqb}
use Rattle.std.specs.List.{remove}
use Rattle.std.proofs.lemmas.Bool.{cases_eq, cases_lt}
use Rattle.std.proofs.lemmas.List.Edits.{length-remove, get_or-remove_below, get_or-remove_above}
use Rattle.records.specs.Records.{seek}
use Rattle.wire.specs.declared.priorities.Priority.{Priority}
use Rattle.rotation.specs.declared.seats.Seat.{Seat}
use Rattle.rotation.specs.Orders.{id_of, seat_of, with_priority, altering}

-- an id's seat stands at its place
pub seat-there : (xs : List Seat) (id : ℕ) (x : Seat) → seat_of xs id ≡ Some x → seek (map id_of xs) id < length xs
seat-there [] id x = λ e. absurd cc
seat-there (y ∷ xs) id x =
    ⊎_elim
    (λ s. rw (eq-eqb y.id id s) (λ e. omega arith))
    (λ n. rw (ne_eqb y.id id n) (λ e. omega (arith, seat-there xs id x e)))
    (cases_eq y.id id)

pub seat-at : (xs : List Seat) (id : ℕ) (x d : Seat) → seat_of xs id ≡ Some x → get_or xs (seek (map id_of xs) id) d ≡ x
seat-at [] id x d = λ e. absurd cc
seat-at (y ∷ xs) id x d =
    ⊎_elim
    (λ s. rw (eq-eqb y.id id s) (λ e. cc))
    (λ n. rw (ne_eqb y.id id n) (λ e. seat-at xs id x d e))
    (cases_eq y.id id)

-- where an id has no seat, every seat is another's
pub all_others : (xs : List Seat) (id : ℕ) → seat_of xs id ≡ None → All (λ x. x.id ≢ id) xs
all_others [] id none k d h = absurd (omega arith)
all_others (x ∷ xs) id none zero d h = λ e. absurd (let s : Some x ≡ None = rw (eq-eqb x.id id e) at none in cc)
all_others (x ∷ xs) id none (suc k) d h =
    ⊎_elim
    (λ e. absurd (let s : Some x ≡ None = rw (eq-eqb x.id id e) at none in cc))
    (λ n. let further : seat_of xs id ≡ None = rw (ne_eqb x.id id n) at none in all_others xs id further k d (omega arith))
    (cases_eq x.id id)

-- without a seat
pub all_remove : (P : Seat → Type 0) (xs : List Seat) (n : ℕ) → n < length xs → All P xs → All P (remove xs n)
all_remove P xs n l a k d h =
    let long = length-remove xs n l in
    ⊎_elim
    (λ below. rw (get_or-remove_below xs n d k below l) (a k d (omega arith)))
    (λ above. rw (get_or-remove_above xs n d k above l) (a (k + 1) d (omega arith)))
    (cases_lt k n)

-- with another priority for one, every seat keeps the rest
pub altering-same : {X : Type 0} (f : Seat → X) (xs : List Seat) (id : ℕ) (p : Priority) (k : ℕ) (d : Seat) → ((x : Seat) → f (with_priority p x) ≡ f x) → k < length xs → f (get_or (altering id p xs) k d) ≡ f (get_or xs k d)
altering-same f [] id p k d same h = absurd (omega arith)
altering-same f (x ∷ xs) id p zero d same h = ⊎_elim (λ s. rw (eq-eqb x.id id s) (same x)) (λ n. rw (ne_eqb x.id id n) refl) (cases_eq x.id id)
altering-same f (x ∷ xs) id p (suc k) d same h = ⊎_elim (λ s. rw (eq-eqb x.id id s) refl) (λ n. rw (ne_eqb x.id id n) (altering-same f xs id p k d same (omega arith))) (cases_eq x.id id)

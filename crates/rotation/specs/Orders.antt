-- The order in which ids take their turns, and what each event makes of it.
-- A seat is an id's place in the order: the id, its priority, and whether it was served since it entered.
-- An order is a list of seats. A new seat goes to the end, and so does a seat whenever its id is served:
-- of the seats that were served, the one served longest ago stands foremost.
use Rattle.std.specs.Prelude.{◌≡◌, ℕ, true, false, cond, List, [], ◌∷◌, ◌++◌, length, Some, None, Option, ◌==◌}
use Rattle.std.specs.Option.{option_map}
use Rattle.std.proofs.Props.{props}
use Rattle.records.specs.Tables.{without, record_of}
use Rattle.records.specs.Tables as tables
use Rattle.wire.specs.declared.priorities.Priority.{Priority}
use Rattle.schedule.specs.Ranks.{Ranks, Event, Accepts, entered, altered, left, served}
use Rattle.rotation.specs.declared.seats.Seat.{Seat}

abbrev pub id_of : Seat → ℕ
id_of x = x.id

abbrev pub priority_of : Seat → Priority
priority_of x = x.priority

-- the seat of an id; none where it has none
abbrev pub seat_of : List Seat → ℕ → Option Seat
seat_of xs id = record_of id_of xs id

-- what an order means
abbrev pub ranked : List Seat → Ranks
ranked xs = record { rank = λ id. option_map priority_of (seat_of xs id); entered = length xs; limit = 64 }

-- no two seats have one id
abbrev pub Distinct : List Seat → Type 0
Distinct xs = tables.Distinct id_of xs

-- that has one proof, so a type may keep it
pub distinct_prop : (xs : List Seat) → IsProp (Distinct xs)
distinct_prop [] = Prim.hlevel props
distinct_prop (x ∷ xs) = Prim.hlevel (props, distinct_prop xs)

abbrev pub new_seat : ℕ → Priority → Seat
new_seat id p = record { id = id; priority = p; served = false }

abbrev pub with_priority : Priority → Seat → Seat
with_priority p x = record { id = x.id; priority = p; served = x.served }

abbrev pub served_now : Seat → Seat
served_now x = record { id = x.id; priority = x.priority; served = true }

-- an id's seat has another priority, at its place
abbrev pub altering : ℕ → Priority → List Seat → List Seat
altering id p [] = []
altering id p (x ∷ xs) = cond (x.id == id) (with_priority p x ∷ xs) (x ∷ altering id p xs)

-- an id's seat goes to the end, as served; where it has none, the order stays
abbrev pub to_end : ℕ → Option Seat → List Seat → List Seat
to_end id None xs = xs
to_end id (Some x) xs = without id_of id xs ++ served_now x ∷ []

-- what an event makes of an order
abbrev pub order_after : List Seat → Event → List Seat
order_after xs (entered id p) = xs ++ new_seat id p ∷ []
order_after xs (altered id p) = altering id p xs
order_after xs (left id) = without id_of id xs
order_after xs (served id n) = to_end id (seat_of xs id) xs

-- an accepted event made the order xs the order ys
pub record Turned (xs : List Seat) (event : Event) (ys : List Seat) : Type 0 where
  pub accepted : Accepts (ranked xs) event
  pub order : ys ≡ order_after xs event

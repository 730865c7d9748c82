-- Whose turn it is after any history, by the history alone.
use Rattle.std.specs.Prelude.{◌≡◌, ℕ, ◌<◌, Bool, true, false, ◌⊎◌, List, [], ◌∷◌, Some, None, Option}
use Rattle.wire.specs.declared.priorities.Priority.{Priority}
use Rattle.wire.specs.Urgencies.{urgency_number}
use Rattle.schedule.specs.Ranks.{Ranks, Event, Listed}
use Rattle.rotation.specs.declared.seats.Seat.{Seat}
use Rattle.rotation.specs.Orders.{order_after}
use Rattle.waiting.specs.Histories.{ranks_after, Accepted, WaitedLonger}

-- whether an id with its priority goes before another of the same urgency
abbrev pub Rule : Type 1
Rule = ℕ → Priority → ℕ → Priority → Type 0

-- turns: the one that has waited longer
abbrev pub waited_longer : List Event → Rule
waited_longer history a p b q = WaitedLonger history a b

-- ordered: of two that are not incremental the smaller, one that is not before one that is, and of two that are the one that has waited longer
abbrev pub PlainFirst : Bool → Bool → ℕ → ℕ → Type 0 → Type 0
PlainFirst false false a b waited = a < b
PlainFirst false true a b waited = Unit {0}
PlainFirst true false a b waited = ⊥
PlainFirst true true a b waited = waited

abbrev pub plain_or_waited : List Event → Rule
plain_or_waited history a p b q = PlainFirst p.incremental q.incremental a b (WaitedLonger history a b)

-- an id goes before another: it has the smaller urgency, or the same and goes before it by the rule
abbrev pub GoesBefore : Rule → Rule
GoesBefore rule a p b q = (urgency_number p.urgency < urgency_number q.urgency) ⊎ ((urgency_number p.urgency ≡ urgency_number q.urgency) × rule a p b q)

-- an id is listed and in, and goes before every other listed id that is in
pub record Foremost (ranks : Ranks) (rule : Rule) (ids : List ℕ) (id : ℕ) : Type 0 where
  pub listed : Listed ids id
  pub priority : Priority
  pub is_in : ranks.rank id ≡ Some priority
  pub foremost : (q : ℕ) (p : Priority) → Listed ids q → ranks.rank q ≡ Some p → (q ≡ id) ⊎ GoesBefore rule id priority q p

-- the answer to a list: none exactly where no listed id is in, else the foremost
abbrev pub Answers : Ranks → Rule → List ℕ → Option ℕ → Type 0
Answers ranks rule ids None = (q : ℕ) → Listed ids q → ranks.rank q ≡ None
Answers ranks rule ids (Some id) = Foremost ranks rule ids id

-- the order of seats after a history, from an empty one
abbrev pub order_of : List Event → List Seat
order_of [] = []
order_of (event ∷ history) = order_after (order_of history) event

-- the answer of an order to a list is the foremost id, by whatever history of accepted events made the order
abbrev pub ByHistory : (List Event → Rule) → List Seat → List ℕ → Option ℕ → Type 0
ByHistory rule order ids answer = (history : List Event) → Accepted history → order ≡ order_of history → Answers (ranks_after history) (rule history) ids answer

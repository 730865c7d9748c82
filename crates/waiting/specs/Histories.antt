-- What a history of events tells of the ids, by the history alone.
-- A history is a list of accepted events on a policy of limit 64, the latest first.
use Rattle.std.specs.Prelude.{◌≡◌, ℕ, ◌<◌, is_some, cond, List, [], ◌∷◌, length, Some, None, Option, ◌==◌}
use Rattle.schedule.specs.Ranks.{Ranks, fresh, Event, Accepts, after, entered, altered, left, served}
use Rattle.rotation.specs.declared.seats.Seat.{Seat}

-- which ids are in, and with which priority
abbrev pub ranks_after : List Event → Ranks
ranks_after [] = fresh 64
ranks_after (event ∷ history) = after (ranks_after history) event

-- every event was accepted when it came
abbrev pub Accepted : List Event → Type 0
Accepted [] = Unit {0}
Accepted (event ∷ history) = Accepts (ranks_after history) event × Accepted history

-- when an id was last served since it last entered, as the number of events before; none where it was not
abbrev pub last_served : List Event → ℕ → Option ℕ
last_served [] id = None
last_served (entered q p ∷ history) id = cond (q == id) None (last_served history id)
last_served (altered q p ∷ history) id = last_served history id
last_served (left q ∷ history) id = cond (q == id) None (last_served history id)
last_served (served q n ∷ history) id = cond (q == id) (Some (length history)) (last_served history id)

-- an id a that was last served at one time has waited longer than an id b that was at another:
-- a was never served and b was, or a was served earlier, or neither was served and a is smaller
abbrev pub Longer : ℕ → Option ℕ → ℕ → Option ℕ → Type 0
Longer a None b None = a < b
Longer a None b (Some t) = Unit {0}
Longer a (Some s) b None = ⊥
Longer a (Some s) b (Some t) = s < t

abbrev pub WaitedLonger : List Event → ℕ → ℕ → Type 0
WaitedLonger history a b = Longer a (last_served history a) b (last_served history b)

-- a time comes before another, where both are
abbrev pub Earlier : Option ℕ → Option ℕ → Type 0
Earlier None u = Unit {0}
Earlier (Some s) None = Unit {0}
Earlier (Some s) (Some t) = s < t

-- a history placed two seats at i and j: each is marked as served where its id was, and where the one stands ahead its id was served earlier
pub record Placed (history : List Event) (i j : ℕ) (a b : Seat) : Type 0 where
  pub one : a.served ≡ is_some (last_served history a.id)
  pub other : b.served ≡ is_some (last_served history b.id)
  pub ahead : i < j → Earlier (last_served history a.id) (last_served history b.id)

-- What a policy means: the ids that are in, each with its priority (RFC 9218, section 4), and what may happen to them.
use Rattle.std.specs.Prelude.{◌≡◌, ℕ, ◌+◌, ◌-◌, ◌<◌, ◌≤◌, true, ◌⊎◌, List, [], ◌∷◌, is_some, Some, None, Option, nat_eq}
use Rattle.std.specs.Map.{update}
use Rattle.wire.specs.declared.priorities.Priority.{Priority}
use Rattle.wire.specs.Urgencies.{urgency_number}

-- the priority of each id, none where it is not in; how many ids are in, and how many can be in at a time
pub record Ranks : Type 0 where
  pub rank : ℕ → Option Priority
  pub entered : ℕ
  pub limit : ℕ

-- a policy before any call
abbrev pub fresh : ℕ → Ranks
fresh limit = record { rank = λ id. None; entered = 0; limit = limit }

-- what holds of every policy after any calls
pub record Sound (m : Ranks) : Type 0 where
  pub limit_low : 1 ≤ m.limit
  pub limit_high : m.limit ≤ 64
  pub entered : m.entered ≤ m.limit

-- an id is in
abbrev pub In : Ranks → ℕ → Type 0
In m id = is_some (m.rank id) ≡ true

-- what happens to a policy: an id enters with a priority, its priority is altered, it leaves, or it is served, which is a grant of octets
pub data Event : Type 0 where
  entered : ℕ → Priority → Event
  altered : ℕ → Priority → Event
  left : ℕ → Event
  served : ℕ → ℕ → Event

-- an event is accepted; a grant always is
abbrev pub Accepts : Ranks → Event → Type 0
Accepts m (entered id p) = (m.rank id ≡ None) × (m.entered < m.limit)
Accepts m (altered id p) = In m id
Accepts m (left id) = In m id
Accepts m (served id n) = Unit {0}

-- what an accepted event makes of the meaning; what is not named stays
abbrev pub after : Ranks → Event → Ranks
after m (entered id p) = record { rank = update nat_eq m.rank id (Some p); entered = m.entered + 1; limit = m.limit }
after m (altered id p) = record { rank = update nat_eq m.rank id (Some p); entered = m.entered; limit = m.limit }
after m (left id) = record { rank = update nat_eq m.rank id None; entered = m.entered - 1; limit = m.limit }
after m (served id n) = m

-- an id stands in a list
abbrev pub Listed : List ℕ → ℕ → Type 0
Listed [] id = ⊥
Listed (q ∷ ids) id = (q ≡ id) ⊎ Listed ids id

-- an id is listed and in, and has the least urgency of those
pub record Chosen (m : Ranks) (ids : List ℕ) (id : ℕ) : Type 0 where
  pub listed : Listed ids id
  pub priority : Priority
  pub is_in : m.rank id ≡ Some priority
  pub least : (q : ℕ) (p : Priority) → Listed ids q → m.rank q ≡ Some p → urgency_number priority.urgency ≤ urgency_number p.urgency

-- the rule of every choice: none exactly where no listed id is in, else a listed id that is in, of the least urgency among those
abbrev pub Least : Ranks → List ℕ → Option ℕ → Type 0
Least m ids None = (q : ℕ) → Listed ids q → m.rank q ≡ None
Least m ids (Some id) = Chosen m ids id

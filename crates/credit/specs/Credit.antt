-- What a gate means: the send credit of a connection and of its streams (RFC 9113, sections 5.2 and 6.9).
use Rattle.std.specs.Prelude.{◌≡◌, ℕ, ◌-◌, ◌≤◌, min, ℤ, pos, negsuc, ◌+ℤ◌, ◌-ℤ◌, ◌≤ℤ◌, Some, None, Option}

-- the largest window, 2^31 - 1
abbrev pub MAX : ℕ
MAX = 2147483647

-- the credit of a stream that is begun: its window, which may stand below zero, and the amount that is held of it, or none
pub record Credit : Type 0 where
  pub window : ℤ
  pub held : Option ℕ

-- what a gate means: the initial window, the connection's window, the credit of each stream that is begun,
-- how many are begun, what they hold together, and how many can be begun at a time
pub record Meaning : Type 0 where
  pub initial : ℕ
  pub connection : ℕ
  pub stream : ℕ → Option Credit
  pub begun : ℕ
  pub held : ℕ
  pub limit : ℕ

-- a gate before any call
abbrev pub fresh : ℕ → Meaning
fresh limit = record { initial = 65535; connection = 65535; stream = λ id. None; begun = 0; held = 0; limit = limit }

-- an amount that is held, 0 where none is
abbrev pub amount : Option ℕ → ℕ
amount None = 0
amount (Some n) = n

-- what a stream holds, 0 where it is not begun
abbrev pub held_by : Option Credit → ℕ
held_by None = 0
held_by (Some c) = amount c.held

-- left is window less held
abbrev pub left : Credit → ℤ
left c = c.window -ℤ pos (amount c.held)

-- the connection's left
abbrev pub connection_left : Meaning → ℕ
connection_left m = m.connection - m.held

-- the larger of 0 and a number
abbrev pub at_least_0 : ℤ → ℕ
at_least_0 (pos n) = n
at_least_0 (negsuc n) = 0

-- the law of room: a stream has at most the larger of 0 and the smaller of its own left and the connection's; one that is not begun has none
abbrev pub most_of : ℕ → Option Credit → ℕ
most_of connection None = 0
most_of connection (Some c) = min (at_least_0 (left c)) connection

abbrev pub most_room : Meaning → ℕ → ℕ
most_room m id = most_of (connection_left m) (m.stream id)

-- a stream's credit under an initial window and what all streams hold together: its window is from -MAX to MAX, its left is
-- not below -MAX, since it is never below the initial window less MAX, and what it holds is part of what all hold
pub record Bounded (initial held : ℕ) (c : Credit) : Type 0 where
  pub window_low : negsuc 2147483646 ≤ℤ c.window
  pub window_high : c.window ≤ℤ pos MAX
  pub left_low : negsuc 2147483646 ≤ℤ left c
  pub left_initial : pos initial ≤ℤ (left c +ℤ pos MAX)
  pub part : amount c.held ≤ held

-- the same of a stream that is begun
abbrev pub Within : ℕ → ℕ → Option Credit → Type 0
Within initial held None = Unit {0}
Within initial held (Some c) = Bounded initial held c

-- what holds of every gate after any calls
pub record Sound (m : Meaning) : Type 0 where
  pub initial : m.initial ≤ MAX
  pub connection : m.connection ≤ MAX
  pub held : m.held ≤ m.connection
  pub some_limit : 1 ≤ m.limit
  pub least_limit : m.limit ≤ 64
  pub begun : m.begun ≤ m.limit
  pub zero : m.stream 0 ≡ None
  pub streams : (id : ℕ) → Within m.initial m.held (m.stream id)

abbrev pub window_of : Option Credit → Option ℤ
window_of None = None
window_of (Some c) = Some c.window

abbrev pub held_of : Option Credit → Option ℕ
held_of None = None
held_of (Some c) = c.held

-- What the readings tell of a stream's credit and of the connection's.
use Rattle.std.specs.Prelude.{ℕ, Bool, ℤ, pos, Some, None, Option}
use Rattle.credit.specs.Credit.{Credit, Meaning, held_by, left, connection_left}
use Rattle.sender.specs.declared.connections.reading.StreamReading.{StreamReading}
use Rattle.sender.specs.declared.connections.reading.ConnectionReading.{ConnectionReading}

-- a stream's window and what is left of it; 0 where it is not begun
abbrev pub window_read : Option Credit → ℤ
window_read None = pos 0
window_read (Some c) = c.window

abbrev pub left_read : Option Credit → ℤ
left_read None = pos 0
left_read (Some c) = left c

abbrev pub stream_read : Option Credit → ℕ → StreamReading
stream_read o room = record { window = window_read o; held = held_by o; left = left_read o; room = room }

abbrev pub connection_read : Meaning → ℕ → Bool → ℕ → ℕ → ConnectionReading
connection_read m frame_size live highest given = record { window = m.connection; held = m.held; left = connection_left m; initial_window = m.initial; frame_size = frame_size; live = live; highest = highest; given = given }

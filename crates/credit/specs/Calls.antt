-- The calls of a gate: when each is accepted, and what it then does.
use Rattle.std.specs.Prelude.{◌≡◌, ℕ, ◌+◌, ◌-◌, ◌<◌, ◌≤◌, true, cond, pos, ◌+ℤ◌, ◌-ℤ◌, ◌≤ℤ◌, is_some, IfSome, Some, None, MatchBool, Option, MatchOption, ◌==◌, ◌≢◌, nat_eq}
use Rattle.std.specs.Option.{option_map}
use Rattle.std.specs.Map.{update}
use Rattle.credit.specs.Credit.{Credit, Meaning, MAX, held_by}

pub data Call : Type 0 where
  begin : ℕ → Call
  finish : ℕ → Call
  raise : ℕ → ℕ → Call
  initial : ℕ → Call
  hold : ℕ → ℕ → Call
  spend : ℕ → ℕ → Call

-- a stream's credit after increments, after a new initial window, with an amount held, and after octets spent
abbrev pub raised : ℕ → Credit → Credit
raised v c = record { window = c.window +ℤ pos v; held = c.held }

abbrev pub shifted : ℕ → ℕ → Credit → Credit
shifted before v c = record { window = c.window +ℤ (pos v -ℤ pos before); held = c.held }

abbrev pub holding : ℕ → Credit → Credit
holding n c = record { window = c.window; held = Some n }

abbrev pub spent : ℕ → Credit → Credit
spent n c = record { window = c.window -ℤ pos n; held = None }

-- one stream's credit set
abbrev pub with_stream : Meaning → ℕ → Option Credit → ℕ → Option Credit
with_stream m id o = update nat_eq m.stream id o

-- a call is accepted; room is what the gate gives each stream
abbrev pub Accepts : Meaning → (ℕ → ℕ) → Call → Type 0
Accepts m room (begin id) = (id ≢ 0) × (m.stream id ≡ None) × (m.begun < m.limit)
Accepts m room (finish id) = is_some (m.stream id) ≡ true
Accepts m room (raise id v) = MatchBool (id == 0) (m.connection + v ≤ MAX) (MatchOption (m.stream id) ⊥ (λ c. (raised v c).window ≤ℤ pos MAX))
Accepts m room (initial v) = (v ≤ MAX) × ((id : ℕ) → IfSome (m.stream id) (λ c. (shifted m.initial v c).window ≤ℤ pos MAX))
Accepts m room (hold id n) = MatchOption (m.stream id) ⊥ (λ c. (c.held ≡ None) × (n ≤ room id))
Accepts m room (spend id n) = MatchOption (m.stream id) ⊥ (λ c. MatchOption c.held ⊥ (λ k. (n ≤ k) × (0 < n → pos n ≤ℤ c.window)))

-- what an accepted call makes of the meaning; what is not named stays
abbrev pub after : Meaning → Call → Meaning
after m (begin id) = record { initial = m.initial; connection = m.connection; stream = with_stream m id (Some (record { window = pos m.initial; held = None })); begun = m.begun + 1; held = m.held; limit = m.limit }
after m (finish id) = record { initial = m.initial; connection = m.connection; stream = with_stream m id None; begun = m.begun - 1; held = m.held - held_by (m.stream id); limit = m.limit }
after m (raise id v) =
    cond (id == 0)
    (record { initial = m.initial; connection = m.connection + v; stream = m.stream; begun = m.begun; held = m.held; limit = m.limit })
    (record { initial = m.initial; connection = m.connection; stream = with_stream m id (option_map (raised v) (m.stream id)); begun = m.begun; held = m.held; limit = m.limit })
after m (initial v) = record { initial = v; connection = m.connection; stream = λ id. option_map (shifted m.initial v) (m.stream id); begun = m.begun; held = m.held; limit = m.limit }
after m (hold id n) = record { initial = m.initial; connection = m.connection; stream = with_stream m id (option_map (holding n) (m.stream id)); begun = m.begun; held = m.held + n; limit = m.limit }
after m (spend id n) = record { initial = m.initial; connection = m.connection - n; stream = with_stream m id (option_map (spent n) (m.stream id)); begun = m.begun; held = m.held - held_by (m.stream id); limit = m.limit }

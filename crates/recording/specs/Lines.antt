-- The lines of a listing: what a line says of a frame, and the octets of its text.
use Rattle.std.specs.Prelude.{ℕ, Bool, cond, List, ◌∷◌, [], ◌++◌, length, Ok, Err, codes, decimal, Result, ◌==◌}
use Rattle.std.specs.List.{flat_map, join_by}
use Rattle.std.specs.Option.{ok_or}
use Rattle.wire.specs.declared.faults.Fault.{Fault}
use Rattle.wire.specs.declared.priorities.Priority.{Priority}
use Rattle.wire.specs.declared.settings.Setting.{Setting}
use Rattle.wire.specs.Frames.{Told, settings, settings_ack, window_update, reset_stream, priority_update, other, frame_of, behind}
use Rattle.wire.specs.DataFrames.{data_of}
use Rattle.wire.specs.Faults.{cause_number, code_of, error_number, unreadable_priority}
use Rattle.wire.specs.Settings.{settings_of, to_come}
use Rattle.wire.specs.Urgencies.{urgency_number}
use Rattle.wire.specs.Values.{value_of}
use Rattle.recording.specs.declared.lines.Line.{Line}
use Rattle.recording.specs.declared.lines.Line.TheVariants.{Settings, SettingsAck, Window, Reset, Priority as Update, Data, Frame}

-- what a line says of a frame that is read
pub data Said : Type 0 where
  pairs : List Setting → Said
  ack : Said
  window : ℕ → ℕ → Said
  reset : ℕ → ℕ → Said
  update : ℕ → Priority → Said
  payload : ℕ → ℕ → Bool → Said
  frame : ℕ → ℕ → Said

-- what is said of a frame that reads so: a target's value, and a frame of type DATA, may be refused in their turn
abbrev pub said_told : List ℕ → Told → Result Said Fault
said_told o (settings octets at) = Ok (pairs (settings_of octets at))
said_told o settings_ack = Ok ack
said_told o (window_update stream increment) = Ok (window stream increment)
said_told o (reset_stream stream code) = Ok (reset stream code)
said_told o (priority_update target value at) = behind (ok_or (value_of value) (unreadable_priority target)) (λ p. Ok (update target p))
said_told o (other kind stream) = cond (kind == 0) (behind (data_of o) (λ d. Ok (payload d.stream (length d.payload) d.end))) (Ok (frame kind stream))

-- what is said of the octets of one frame, or the fault that refuses them
abbrev pub said_of : List ℕ → Result Said Fault
said_of o = behind (frame_of o) (said_told o)

-- what a line of the code says
abbrev pub said : Line → Said
said (Settings p) = pairs (to_come p)
said SettingsAck = ack
said (Window stream increment) = window stream increment
said (Reset stream code) = reset stream code
said (Update target p) = update target p
said (Data stream octets end) = payload stream octets end
said (Frame kind stream) = frame kind stream

-- the same of a line or the fault in its place
abbrev pub said_line : Result Line Fault → Result Said Fault
said_line (Ok l) = Ok (said l)
said_line (Err e) = Err e

-- fields with one space between each two
abbrev pub fields : List (List ℕ) → List ℕ
fields fs = join_by (λ f. f) (codes " ") fs

-- a setting as a field: ID=VALUE
abbrev pub pair_field : Setting → List ℕ
pair_field s = decimal s.identifier ++ (61 ∷ decimal s.value)

-- a truth as a field
abbrev pub flag : Bool → List ℕ
flag b = decimal (cond b 1 0)

-- settings as fields, each behind a space
abbrev pub pair_fields : List Setting → List ℕ
pair_fields xs = flat_map (λ s. 32 ∷ pair_field s) xs

-- the text of a line behind its index
abbrev pub said_text : Said → List ℕ
said_text (pairs xs) = codes "settings" ++ pair_fields xs
said_text ack = fields (codes "settings" ∷ codes "ack" ∷ [])
said_text (window stream increment) = fields (codes "window" ∷ decimal stream ∷ decimal increment ∷ [])
said_text (reset stream code) = fields (codes "reset" ∷ decimal stream ∷ decimal code ∷ [])
said_text (update target p) = fields (codes "priority" ∷ decimal target ∷ decimal (urgency_number p.urgency) ∷ flag p.incremental ∷ [])
said_text (payload stream octets end) = fields (codes "data" ∷ decimal stream ∷ decimal octets ∷ flag end ∷ [])
said_text (frame kind stream) = fields (codes "frame" ∷ decimal kind ∷ decimal stream ∷ [])

-- the same of a frame that is refused
abbrev pub fault_text : Fault → List ℕ
fault_text e =
    fields (codes "fault" ∷ decimal (cause_number e.cause) ∷ decimal (error_number (code_of e.cause)) ∷ decimal e.stream ∷ decimal e.place ∷ [])

-- the same of either
abbrev pub entry_text : Result Said Fault → List ℕ
entry_text (Ok s) = said_text s
entry_text (Err e) = fault_text e

-- the text of a line
abbrev pub text_of : ℕ → Result Said Fault → List ℕ
text_of index r = fields (decimal index ∷ entry_text r ∷ []) ++ codes "\n"

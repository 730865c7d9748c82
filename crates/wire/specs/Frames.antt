-- What the octets of a frame say: RFC 9113, sections 4.1, 6.4, 6.5 and 6.9, and RFC 9218, section 7.1.
use Rattle.std.specs.Prelude.{ℕ, ◌+◌, ◌%◌, min, Bool, cond, not, List, ◌∷◌, ◌++◌, length, take, drop, Ok, Err, Result, ◌==◌, bit_and, nat_lt, slice_index}
use Rattle.wire.specs.declared.faults.Fault.{Fault}
use Rattle.wire.specs.declared.headers.Header.{Header}
use Rattle.wire.specs.declared.frames.Frame.{Frame}
use Rattle.wire.specs.declared.frames.Frame.TheVariants.{Settings, SettingsAck, WindowUpdate, ResetStream, PriorityUpdate, Other}
use Rattle.wire.specs.Faults.{not_whole, frame_size, protocol}
use Rattle.wire.specs.Numbers.{number_of, octets_of, without_top_bit}

-- the number in a field of some octets, by its place and width
abbrev pub field : List ℕ → ℕ → ℕ → ℕ
field o at width = number_of (take width (drop at o))

-- a fault that comes where a test holds, ahead of all that follows
abbrev pub refuse : {X : Type 0} → Bool → Fault → Result X Fault → Result X Fault
refuse test fault next = cond test (Err fault) next

-- the header of exactly one whole frame: nine octets, and as many behind them as its length says
abbrev pub header_of : List ℕ → Result Header Fault
header_of o =
    refuse (nat_lt (length o) 9) not_whole
    (refuse (not (length o == 9 + field o 0 3)) not_whole
    (Ok (record { length = field o 0 3; kind = slice_index o 3; flags = slice_index o 4; stream = without_top_bit (field o 5 4) })))

-- the nine octets of a header; the reserved bit is 0
abbrev pub header_octets : Header → List ℕ
header_octets h = octets_of 3 h.length ++ (h.kind ∷ h.flags ∷ octets_of 4 (without_top_bit h.stream))

-- a frame, with the octets themselves where the code lends them
pub data Told : Type 0 where
  settings : List ℕ → ℕ → Told
  settings_ack : Told
  window_update : ℕ → ℕ → Told
  reset_stream : ℕ → ℕ → Told
  priority_update : ℕ → List ℕ → ℕ → Told
  other : ℕ → ℕ → Told

abbrev pub told_frame : Frame → Told
told_frame (Settings pairs) = settings pairs.octets.now pairs.place
told_frame SettingsAck = settings_ack
told_frame (WindowUpdate stream increment) = window_update stream increment
told_frame (ResetStream stream code) = reset_stream stream code
told_frame (PriorityUpdate target value place) = priority_update target value.now place
told_frame (Other kind stream) = other kind stream

abbrev pub told : Result Frame Fault → Result Told Fault
told (Ok f) = Ok (told_frame f)
told (Err e) = Err e

-- the flag 0x1
abbrev pub lowest_flag : Header → Bool
lowest_flag h = not (bit_and h.flags 1 == 0)

-- SETTINGS: on stream 0, of pairs of six octets each; one that acknowledges has none
abbrev pub settings_frame : Header → List ℕ → Result Told Fault
settings_frame h o =
    refuse (not (h.stream == 0)) (protocol 5)
    (cond (lowest_flag h)
    (refuse (not (h.length == 0)) frame_size (Ok settings_ack))
    (refuse (not (h.length % 6 == 0)) frame_size (Ok (settings (drop 9 o) 9))))

-- a payload of four octets, by the number that they write
abbrev pub number_payload : Header → List ℕ → Result ℕ Fault
number_payload h o = refuse (not (h.length == 4)) frame_size (Ok (field o 9 4))

-- WINDOW_UPDATE: an increment of four octets
abbrev pub window_update_frame : Header → List ℕ → Result Told Fault
window_update_frame h o = refuse (not (h.length == 4)) frame_size (Ok (window_update h.stream (without_top_bit (field o 9 4))))

-- RST_STREAM: an error code of four octets
abbrev pub reset_stream_frame : Header → List ℕ → Result Told Fault
reset_stream_frame h o = refuse (not (h.length == 4)) frame_size (Ok (reset_stream h.stream (field o 9 4)))

-- PRIORITY_UPDATE: on stream 0, a target of four octets, and behind it the value
abbrev pub priority_update_frame : Header → List ℕ → Result Told Fault
priority_update_frame h o =
    refuse (not (h.stream == 0)) (protocol 5)
    (refuse (nat_lt h.length 4) frame_size
    (Ok (priority_update (without_top_bit (field o 9 4)) (drop 13 o) 13)))

-- a whole frame, by its type; of any type, its payload has at most 16,384 octets
abbrev pub body_of : List ℕ → Header → Result Told Fault
body_of o h =
    refuse (nat_lt 16384 h.length) frame_size
    (cond (h.kind == 3) (reset_stream_frame h o)
    (cond (h.kind == 4) (settings_frame h o)
    (cond (h.kind == 8) (window_update_frame h o)
    (cond (h.kind == 16) (priority_update_frame h o)
    (Ok (other h.kind h.stream))))))

abbrev pub behind : {X Y : Type 0} → Result X Fault → (X → Result Y Fault) → Result Y Fault
behind (Ok x) next = next x
behind (Err e) next = Err e

-- what exactly one frame says, or why it is refused
abbrev pub frame_of : List ℕ → Result Told Fault
frame_of o = behind (header_of o) (body_of o)

-- where the first of several frames ends, by its own length: with the octets, where they stop inside it
abbrev pub frame_end : List ℕ → ℕ
frame_end o = cond (nat_lt (length o) 9) (length o) (min (9 + field o 0 3) (length o))

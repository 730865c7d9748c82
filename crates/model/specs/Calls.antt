-- The calls of a connection and their answers.
use Rattle.std.specs.Prelude.{ℕ, Bool, List, Ok, Err, Result}
use Rattle.wire.specs.Frames.{Told, settings, settings_ack, window_update, reset_stream, priority_update, other}
use Rattle.wire.specs.declared.faults.Fault.{Fault}
use Rattle.model.specs.declared.calls.Call.{Call}
use Rattle.model.specs.declared.calls.Call.TheVariants.{Frame, Open, Offer, Lease, Settle}
use Rattle.model.specs.declared.calls.Done.{Done}

-- a call, with the octets themselves where the code lends them
pub data Ask : Type 0 where
  frame : List ℕ → Ask
  opening : ℕ → List ℕ → Ask
  offer : ℕ → ℕ → Bool → Ask
  lease : Ask
  settle : ℕ → List ℕ → Ask

abbrev pub asked : Call → Ask
asked (Frame octets) = frame octets.now
asked (Open id value) = opening id value.now
asked (Offer id octets end) = offer id octets end
asked Lease = lease
asked (Settle grant payload) = settle grant payload.now

-- a call is carried out, or refused with a fault
abbrev pub Answer : Type 0
Answer = Result Done Fault

-- a frame's type and the stream of its header: those of SETTINGS and PRIORITY_UPDATE are read on stream 0 only
abbrev pub type_of : Told → ℕ
type_of (settings o at) = 4
type_of settings_ack = 4
type_of (window_update id v) = 8
type_of (reset_stream id code) = 3
type_of (priority_update target value at) = 16
type_of (other kind id) = kind

abbrev pub stream_of : Told → ℕ
stream_of (settings o at) = 0
stream_of settings_ack = 0
stream_of (window_update id v) = id
stream_of (reset_stream id code) = id
stream_of (priority_update target value at) = 0
stream_of (other kind id) = id

-- the answer to a frame that was read: it was accepted (true), passed over (false), or refused
abbrev pub answer_to : Told → Result Bool Fault → Answer
answer_to t (Ok accepted) = Ok (Done.Frame (type_of t) (stream_of t) accepted)
answer_to t (Err f) = Err f

-- DATA frames: RFC 9113, section 6.1.
use Rattle.std.specs.Prelude.{◌≡◌, ℕ, ◌+◌, Bool, cond, not, ◌&&◌, List, ◌++◌, length, take, drop, Some, None, Ok, Err, Option, Result, ◌==◌, nat_le}
use Rattle.wire.specs.declared.data_frames.Data.{Data}
use Rattle.wire.specs.declared.faults.Fault.{Fault}
use Rattle.wire.specs.Faults.{not_whole}
use Rattle.wire.specs.Frames.{refuse, behind, header_of, header_octets, lowest_flag}

-- a DATA frame, with the payload's octets themselves
pub record ToldData : Type 0 where
  pub stream : ℕ
  pub end : Bool
  pub payload : List ℕ

abbrev pub told_data : Result Data Fault → Result ToldData Fault
told_data (Ok d) = Ok (record { stream = d.stream; end = d.end; payload = d.payload.now })
told_data (Err e) = Err e

-- what exactly one whole frame of type DATA says; its flag 0x1 is END_STREAM, and other flags are passed over
abbrev pub data_of : List ℕ → Result ToldData Fault
data_of o =
    behind (header_of o) (λ h.
    refuse (not (h.kind == 0)) not_whole (Ok (record { stream = h.stream; end = lowest_flag h; payload = drop 9 o })))

-- the octets of a DATA frame
abbrev pub encoded : ℕ → Bool → List ℕ → List ℕ
encoded stream end payload = header_octets (record { length = length payload; kind = 0; flags = cond end 1 0; stream = stream }) ++ payload

-- octets put into others from a place on: what was there before the place, they, and what was there behind them
abbrev pub put_at : List ℕ → ℕ → List ℕ → List ℕ
put_at memory at octets = take at memory ++ (octets ++ drop (at + length octets) memory)

-- how many octets a payload takes from a place on: none where the frame passes the memory's end, or its length three octets
abbrev pub written : ℕ → ℕ → ℕ → Option ℕ
written memory at payload = cond (nat_le payload 16777215 && nat_le (at + (9 + payload)) memory) (Some (9 + payload)) None

-- the octets from a place on read as this stream, flag and payload
abbrev pub ReadsBack : List ℕ → ℕ → ℕ → Bool → List ℕ → Type 0
ReadsBack memory at stream end payload = data_of (take (9 + length payload) (drop at memory)) ≡ Ok (record { stream = stream; end = end; payload = payload })

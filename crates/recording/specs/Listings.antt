-- The listing of a recording: a line for each frame, and a last line with the counts.
use Rattle.std.specs.Prelude.{ℕ, zero, suc, ◌+◌, ◌-◌, Bool, cond, List, [], ◌∷◌, ◌++◌, length, take, drop, is_err, codes, decimal, Result, ◌==◌}
use Rattle.wire.specs.declared.faults.Fault.{Fault}
use Rattle.wire.specs.Frames.{frame_end}
use Rattle.recording.specs.declared.listings.Listing.{Listing}
use Rattle.recording.specs.Lines.{Said, said_of, fields, text_of}

-- how far a listing has come: the octets that are left, the lines and the faults so far, and the octets of the recording
pub record State : Type 0 where
  pub left : List ℕ
  pub frames : ℕ
  pub faults : ℕ
  pub octets : ℕ

abbrev pub state : Listing → State
state l = record { left = l.left.now; frames = l.frames; faults = l.faults; octets = l.octets }

abbrev pub start : List ℕ → State
start o = record { left = o; frames = 0; faults = 0; octets = length o }

-- no frame is left
abbrev pub done : State → Bool
done s = length s.left == 0

-- what the next line says: the next frame goes as far as its own length, or to the end of the recording
abbrev pub next_said : State → Result Said Fault
next_said s = said_of (take (frame_end s.left) s.left)

-- the listing behind its next line
abbrev pub next : State → State
next s =
    record {
      left = drop (frame_end s.left) s.left;
      frames = s.frames + 1;
      faults = s.faults + cond (is_err (next_said s)) 1 0;
      octets = s.octets;
    }

-- the text of the next line
abbrev pub next_text : State → List ℕ
next_text s = text_of s.frames (next_said s)

-- a step of the listing: none where no frame is left
abbrev pub moved : State → State
moved s = cond (done s) s (next s)

-- the text of a step
abbrev pub moved_text : State → List ℕ
moved_text s = cond (done s) [] (next_text s)

-- the text of the last line
abbrev pub sum_text : State → List ℕ
sum_text s = fields (codes "sum" ∷ decimal s.frames ∷ decimal s.faults ∷ decimal s.octets ∷ []) ++ codes "\n"

-- the text from a state on, of at most so many frames
abbrev pub text_from : ℕ → State → List ℕ
text_from zero s = sum_text s
text_from (suc n) s = cond (done s) (sum_text s) (next_text s ++ text_from n (next s))

-- the text that is still to come: no more lines than octets that are not counted as lines
abbrev pub to_come : State → List ℕ
to_come s = text_from (s.octets - s.frames) s

-- the whole listing of a recording, which has no more frames than octets
abbrev pub listing_of : List ℕ → List ℕ
listing_of o = text_from (length o) (start o)

-- What the parts of a call answer.
use Rattle.std.specs.Prelude.{◌≡◌, ℕ, ◌+◌, ◌%◌, ◌<◌, ◌≤◌, Bool, true, false, cond, ◌⊎◌, List, None, Ok, Err, Result}
use Rattle.std.specs.List.{AllByRecursion}
use Rattle.wire.specs.Faults.{fault}
use Rattle.wire.specs.Frames.{Told}
use Rattle.wire.specs.declared.faults.Cause.TheVariants as cause
use Rattle.wire.specs.declared.faults.Fault.{Fault}
use Rattle.wire.specs.declared.settings.Setting.{Setting}
use Rattle.credit.specs.Credit.{MAX}
use Rattle.model.specs.Calls.{frame}
use Rattle.model.specs.Happenings.{Happening, after, frame_does, closing, happened, ends, closes}
use Rattle.model.specs.Rules.{IsOpen, IsClosed, Answers, AnswersFrame, PassesPair, RefusesPair, RefusesPairs}
use Rattle.model.specs.States.{State, Moment, Tied}
use Rattle.model.specs.declared.calls.Done.{Done}
use Rattle.sender.specs.declared.connections.updating.Standing.{Standing}
use Rattle.sender.specs.declared.connections.updating.Standing.TheVariants.{Open, Closed, Idle}
use Rattle.sender.specs.declared.streams.Stream.{Stream}

abbrev pub Living : Bool → Result (Unit {0}) Fault → Type 0
Living live (Ok _) = live ≡ true
Living live (Err f) = (live ≡ false) × (f ≡ fault cause.Ended 0 0)

abbrev pub Naming : ℕ → ℕ → Result (Unit {0}) Fault → Type 0
Naming highest id (Ok _) = (id % 2 ≡ 1) × (id ≤ MAX) × (highest < id)
Naming highest id (Err f) = ((id % 2 ≡ 0) ⊎ (MAX < id) ⊎ (id ≤ highest)) × (f ≡ fault cause.BadId id 0)

-- a stream with octets more in its queue, and perhaps their end
abbrev pub offered_to : ℕ → Bool → Stream → Stream
offered_to n end x = record { id = x.id; queue = x.queue + n; ended = end; grant = x.grant }

abbrev pub Offers : Stream → ℕ → Bool → Result Done Fault → Stream → Type 0
Offers x n end (Ok d) y = (x.ended ≡ false) × (x.queue + n ≤ MAX) × (d ≡ Done.Offered x.id n end) × (y ≡ offered_to n end x)
Offers x n end (Err f) y = (((x.ended ≡ true) × (f ≡ fault cause.EndOffered x.id 0)) ⊎ ((x.ended ≡ false) × (MAX < x.queue + n) × (f ≡ fault cause.QueueOverflow x.id 0))) × (y ≡ x)

abbrev pub Stands : State → ℕ → Standing → Type 0
Stands s id Open = IsOpen s id
Stands s id Closed = IsClosed s id
Stands s id Idle = (s.streams id ≡ None) × ((id % 2 ≡ 0) ⊎ (s.highest < id))

-- what a frame leaves but for the end of the connection: an accepted one did what it tells, one passed over nothing,
-- and of the faults 6 and 7 have closed the stream
abbrev pub handled : State → Told → Result Bool Fault → State
handled s t (Ok accepted) = cond accepted (after s (frame_does (Ok t))) s
handled s t (Err f) = cond (closes f) (after s (closing f.stream)) s

abbrev pub Handles : Moment → Told → Result Bool Fault → Moment → Type 0
Handles e t r x = Tied e.state → AnswersFrame e t r × (x.state ≡ handled e.state t r)

-- a pair passes or is refused, and so does each of several, the first fault deciding
abbrev pub TestsPair : Moment → Setting → Result (Unit {0}) Fault → Type 0
TestsPair m p (Ok _) = PassesPair m p
TestsPair m p (Err f) = RefusesPair m p f

abbrev pub TestsPairs : Moment → List Setting → Result (Unit {0}) Fault → Type 0
TestsPairs m ps (Ok _) = AllByRecursion (PassesPair m) ps
TestsPairs m ps (Err f) = RefusesPairs m ps f

-- faults 3, 4 and 5 end the connection
abbrev pub ends_with : Result Done Fault → Bool
ends_with (Ok d) = false
ends_with (Err f) = ends f

-- what happened but for the end of the connection
abbrev pub before_end : State → Happening → State
before_end s e = record { gate = (after s e).gate; ranks = (after s e).ranks; sink = (after s e).sink; streams = (after s e).streams; many = (after s e).many; live = s.live; frame_size = (after s e).frame_size; highest = (after s e).highest; given = (after s e).given }

abbrev pub Receives : Moment → List ℕ → Result Done Fault → Moment → Type 0
Receives e octets r x = e.state.live ≡ true → Tied e.state → Answers e (frame octets) r × (x.state ≡ before_end e.state (happened (frame octets) r))

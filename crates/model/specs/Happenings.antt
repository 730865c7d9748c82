-- What a call and its answer tell together, in the words of the protocol, and what that makes of a state.
use Rattle.std.specs.Prelude.{ℕ, ◌+◌, ◌-◌, Bool, true, false, cond, ◌||◌, List, [], ◌∷◌, Some, None, Ok, Err, Option, Result, ◌==◌, nat_eq}
use Rattle.std.specs.Option.{option_map}
use Rattle.std.specs.Map.{update}
use Rattle.wire.specs.Faults.{cause_number}
use Rattle.wire.specs.Frames.{Told, settings, settings_ack, window_update, reset_stream, priority_update, other, frame_of}
use Rattle.wire.specs.Settings.{settings_of}
use Rattle.wire.specs.Values.{value_of}
use Rattle.wire.specs.declared.faults.Fault.{Fault}
use Rattle.wire.specs.declared.priorities.Priority.{Priority}
use Rattle.wire.specs.declared.settings.Setting.{Setting}
use Rattle.credit.specs.Calls as credit
use Rattle.schedule.specs.Ranks as schedule
use Rattle.sink.specs.Meaning as sink
use Rattle.model.specs.Calls.{Ask, frame, opening, offer, lease, settle, Answer}
use Rattle.model.specs.States.{Stream, State}
use Rattle.model.specs.declared.calls.Done.{Done}
use Rattle.model.specs.declared.calls.Done.TheVariants.{Frame, Opened, Offered, Granted, Sent, Back}
use Rattle.model.specs.declared.calls.Grant.{Grant}

-- an accepted increment; 0 names the connection
pub record Raise : Type 0 where
  pub id : ℕ
  pub by : ℕ

pub record Ranked : Type 0 where
  pub id : ℕ
  pub priority : Priority

pub record Offer : Type 0 where
  pub id : ℕ
  pub octets : ℕ
  pub end : Bool

-- an accepted settle: the grant's number, the stream, the octets sent, and of the DATA frame that was put whether it ended the stream; none where none was put
pub record Settled : Type 0 where
  pub number : ℕ
  pub id : ℕ
  pub octets : ℕ
  pub put : Option Bool

-- what happened in one call: at most a few of these
pub record Happening : Type 0 where
  pub raised : Option Raise
  pub initial : Option ℕ
  pub frame_size : Option ℕ
  pub opened : Option Ranked
  pub counted : Option ℕ
  pub ranked : Option Ranked
  pub offered : Option Offer
  pub granted : Option Grant
  pub settled : Option Settled
  pub closed : Option ℕ
  pub ended : Bool

abbrev pub nothing : Happening
nothing = record { raised = None; initial = None; frame_size = None; opened = None; counted = None; ranked = None; offered = None; granted = None; settled = None; closed = None; ended = false }

-- the connection ended
abbrev pub ending : Happening
ending = record { raised = None; initial = None; frame_size = None; opened = None; counted = None; ranked = None; offered = None; granted = None; settled = None; closed = None; ended = true }

abbrev pub raising : ℕ → ℕ → Happening
raising id v = record { raised = Some (record { id = id; by = v }); initial = None; frame_size = None; opened = None; counted = None; ranked = None; offered = None; granted = None; settled = None; closed = None; ended = false }

-- a new initial window and a new frame size, each or none
abbrev pub renewing : Option ℕ → Option ℕ → Happening
renewing i f = record { raised = None; initial = i; frame_size = f; opened = None; counted = None; ranked = None; offered = None; granted = None; settled = None; closed = None; ended = false }

abbrev pub starting : ℕ → Priority → Happening
starting id p = record { raised = None; initial = None; frame_size = None; opened = Some (record { id = id; priority = p }); counted = Some id; ranked = None; offered = None; granted = None; settled = None; closed = None; ended = false }

-- an id counts as opened, and is closed
abbrev pub skipping : ℕ → Happening
skipping id = record { raised = None; initial = None; frame_size = None; opened = None; counted = Some id; ranked = None; offered = None; granted = None; settled = None; closed = None; ended = false }

abbrev pub ranking : ℕ → Option Priority → Happening
ranking id p = record { raised = None; initial = None; frame_size = None; opened = None; counted = None; ranked = option_map (λ q. record { id = id; priority = q }) p; offered = None; granted = None; settled = None; closed = None; ended = false }

abbrev pub offering : ℕ → ℕ → Bool → Happening
offering id n end = record { raised = None; initial = None; frame_size = None; opened = None; counted = None; ranked = None; offered = Some (record { id = id; octets = n; end = end }); granted = None; settled = None; closed = None; ended = false }

abbrev pub granting : Grant → Happening
granting g = record { raised = None; initial = None; frame_size = None; opened = None; counted = None; ranked = None; offered = None; granted = Some g; settled = None; closed = None; ended = false }

-- a DATA frame was put; with END_STREAM it closes the stream
abbrev pub sending : ℕ → ℕ → ℕ → Bool → Happening
sending number id n end = record { raised = None; initial = None; frame_size = None; opened = None; counted = None; ranked = None; offered = None; granted = None; settled = Some (record { number = number; id = id; octets = n; put = Some end }); closed = cond end (Some id) None; ended = false }

-- a grant was settled without a frame
abbrev pub giving_back : ℕ → ℕ → Happening
giving_back number id = record { raised = None; initial = None; frame_size = None; opened = None; counted = None; ranked = None; offered = None; granted = None; settled = Some (record { number = number; id = id; octets = 0; put = None }); closed = None; ended = false }

abbrev pub closing : ℕ → Happening
closing id = record { raised = None; initial = None; frame_size = None; opened = None; counted = None; ranked = None; offered = None; granted = None; settled = None; closed = Some id; ended = false }

-- the value of the last pair with an identifier
abbrev pub last_after : ℕ → Option ℕ → List Setting → Option ℕ
last_after k latest [] = latest
last_after k latest (p ∷ ps) = last_after k (cond (p.identifier == k) (Some p.value) latest) ps

abbrev pub last_of : ℕ → List Setting → Option ℕ
last_of k ps = last_after k None ps

-- what an accepted frame does: SETTINGS sets the initial window (0x4) and the frame size (0x5), each by its last value
abbrev pub frame_does : Result Told Fault → Happening
frame_does (Err f) = nothing
frame_does (Ok (settings o at)) = renewing (last_of 4 (settings_of o at)) (last_of 5 (settings_of o at))
frame_does (Ok settings_ack) = nothing
frame_does (Ok (window_update id v)) = raising id v
frame_does (Ok (reset_stream id code)) = closing id
frame_does (Ok (priority_update target value at)) = ranking target (value_of value)
frame_does (Ok (other kind id)) = nothing

-- the faults 3, 4 and 5 end the connection
abbrev pub ends : Fault → Bool
ends f = cause_number f.cause == 3 || (cause_number f.cause == 4 || cause_number f.cause == 5)

-- the faults 6 and 7 close the stream that they name
abbrev pub closes : Fault → Bool
closes f = cause_number f.cause == 6 || cause_number f.cause == 7

-- what a fault does: it ends the connection, closes the stream that it names, or, as 10 does, has its id count as opened
abbrev pub fault_does : Fault → Happening
fault_does f = cond (ends f) ending (cond (closes f) (closing f.stream) (cond (cause_number f.cause == 10) (skipping f.stream) nothing))

abbrev pub octets_in : Ask → List ℕ
octets_in (frame o) = o
octets_in (opening id value) = []
octets_in (offer id n end) = []
octets_in lease = []
octets_in (settle grant payload) = []

abbrev pub done_does : Ask → Done → Happening
done_does a (Frame kind id accepted) = cond accepted (frame_does (frame_of (octets_in a))) nothing
done_does a (Opened id p) = starting id p
done_does a (Offered id n end) = offering id n end
done_does a (Granted g) = granting g
done_does a (Sent grant id n end) = sending grant id n end
done_does a (Back grant id) = giving_back grant id

abbrev pub happened : Ask → Answer → Happening
happened a (Ok d) = done_does a d
happened a (Err f) = fault_does f

-- where something happened, it changes a thing; else that stays
abbrev pub upon : {X S : Type 0} → Option X → (X → S → S) → S → S
upon None change s = s
upon (Some x) change s = change x s

-- where something happened, a count grows
abbrev pub grown : {X : Type 0} → Option X → (X → ℕ) → ℕ → ℕ
grown o by n = upon o (λ x k. k + by x) n

abbrev pub counted : {X : Type 0} → Option X → ℕ → ℕ
counted o n = grown o (λ _. 1) n

-- one stream's record changed
abbrev pub amended : ℕ → (Stream → Stream) → (ℕ → Option Stream) → ℕ → Option Stream
amended id change streams = update nat_eq streams id (option_map change (streams id))

abbrev pub queued : ℕ → Bool → Stream → Stream
queued n end x = record { queue = x.queue + n; ended = x.ended || end; grant = x.grant }

abbrev pub granted : ℕ → Stream → Stream
granted number x = record { queue = x.queue; ended = x.ended; grant = Some number }

abbrev pub settled_by : ℕ → Stream → Stream
settled_by n x = record { queue = x.queue - n; ended = x.ended; grant = None }

-- what a happening makes of a state; what it does not name stays
abbrev pub after : State → Happening → State
after s e =
    record {
      gate =
          upon e.closed (λ id g. credit.after g (credit.finish id))
          (upon e.settled (λ x g. credit.after g (credit.spend x.id x.octets))
          (upon e.granted (λ x g. credit.after g (credit.hold x.id x.octets))
          (upon e.opened (λ x g. credit.after g (credit.begin x.id))
          (upon e.initial (λ v g. credit.after g (credit.initial v))
          (upon e.raised (λ x g. credit.after g (credit.raise x.id x.by)) s.gate)))));
      ranks =
          upon e.closed (λ id m. schedule.after m (schedule.left id))
          (upon e.ranked (λ x m. schedule.after m (schedule.altered x.id x.priority))
          (upon e.opened (λ x m. schedule.after m (schedule.entered x.id x.priority)) s.ranks));
      sink = upon e.settled (λ x k. upon x.put (λ end k'. sink.taken k' x.id end x.octets) k) s.sink;
      streams =
          upon e.closed (λ id f. update nat_eq f id None)
          (upon e.settled (λ x f. amended x.id (settled_by x.octets) f)
          (upon e.granted (λ x f. amended x.id (granted x.number) f)
          (upon e.offered (λ x f. amended x.id (queued x.octets x.end) f)
          (upon e.opened (λ x f. update nat_eq f x.id (Some (record { queue = 0; ended = false; grant = None }))) s.streams))));
      many = upon e.closed (λ id n. n - 1) (counted e.opened s.many);
      live = cond e.ended false s.live;
      frame_size = upon e.frame_size (λ v n. v) s.frame_size;
      highest = upon e.counted (λ id n. id) s.highest;
      given = counted e.granted s.given;
    }

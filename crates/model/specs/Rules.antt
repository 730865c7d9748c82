-- The rules: which answer comes to a call. RFC 9113, sections 5.1, 6.4, 6.5, 6.9, and RFC 9218, section 7.
use Rattle.std.specs.Prelude.{◌≡◌, ℕ, ◌+◌, ◌-◌, ◌%◌, ◌<◌, ◌≤◌, min, Bool, true, false, ◌&&◌, ◌⊎◌, List, [], ◌∷◌, length, pos, ◌<ℤ◌, is_some, Some, None, Ok, Err, Option, Result, MatchOption, ◌==◌, ◌≢◌}
use Rattle.std.specs.List.{AllByRecursion}
use Rattle.wire.specs.Faults.{fault}
use Rattle.wire.specs.Frames.{Told, settings, settings_ack, window_update, reset_stream, priority_update, other, frame_of}
use Rattle.wire.specs.Settings.{settings_of}
use Rattle.wire.specs.Values.{value_of}
use Rattle.wire.specs.declared.faults.Cause.TheVariants as cause
use Rattle.wire.specs.declared.faults.Fault.{Fault}
use Rattle.wire.specs.declared.priorities.Priority.{Priority}
use Rattle.wire.specs.declared.settings.Setting.{Setting}
use Rattle.wire.specs.declared.urgencies.Urgency.TheVariants.{U3}
use Rattle.credit.specs.Credit.{MAX, held_by}
use Rattle.credit.specs.Calls.{Accepts, raise, initial, raised}
use Rattle.schedule.specs.Ranks.{Listed}
use Rattle.model.specs.Calls.{Ask, frame, opening, offer, lease, settle, Answer, answer_to}
use Rattle.model.specs.States.{Stream, State, Moment}
use Rattle.model.specs.declared.calls.Done.TheVariants.{Opened, Offered, Granted, Sent, Back}

-- an id is open; closed, if it is odd, not above the highest, and not open; or idle, if it is none of these and not 0
abbrev pub IsOpen : State → ℕ → Type 0
IsOpen s id = is_some (s.streams id) ≡ true

abbrev pub IsClosed : State → ℕ → Type 0
IsClosed s id = (id % 2 ≡ 1) × (id ≤ s.highest) × (s.streams id ≡ None)

abbrev pub IsIdle : State → ℕ → Type 0
IsIdle s id = (id ≢ 0) × (s.streams id ≡ None) × ((id % 2 ≡ 0) ⊎ (s.highest < id))

-- a pair of a SETTINGS frame is refused: an initial window (0x4) above MAX or that takes an open stream's window above it,
-- a frame size (0x5) below 16,384 or above 16,777,215
pub data RefusesPair (m : Moment) (p : Setting) : Fault → Type 0 where
  bad_window : p.identifier ≡ 4 → (Accepts m.state.gate m.room (initial p.value) → ⊥) → RefusesPair m p (fault cause.FlowControl 0 p.place)
  bad_size : p.identifier ≡ 5 → (p.value < 16384) ⊎ (16777215 < p.value) → RefusesPair m p (fault cause.Protocol 0 p.place)

pub record PassesPair (m : Moment) (p : Setting) : Type 0 where
  pub window : p.identifier ≡ 4 → Accepts m.state.gate m.room (initial p.value)
  pub size : p.identifier ≡ 5 → (16384 ≤ p.value) × (p.value ≤ 16777215)

-- pairs are tested in their order, and the first fault decides
pub data RefusesPairs (m : Moment) : List Setting → Fault → Type 0 where
  here : {p : Setting} {ps : List Setting} {f : Fault} → RefusesPair m p f → RefusesPairs m (p ∷ ps) f
  further : {p : Setting} {ps : List Setting} {f : Fault} → PassesPair m p → RefusesPairs m ps f → RefusesPairs m (p ∷ ps) f

-- a stream's window and an increment pass MAX
abbrev pub Overflows : State → ℕ → ℕ → Type 0
Overflows s id v = MatchOption (s.gate.stream id) ⊥ (λ c. pos MAX <ℤ (raised v c).window)

-- a frame on a live connection, by what it tells: it is accepted (true), passed over (false), or refused
pub data AnswersFrame (m : Moment) : Told → Result Bool Fault → Type 0 where
  acknowledged : AnswersFrame m settings_ack (Ok true)
  settings_refused : {o : List ℕ} {at : ℕ} {f : Fault} → RefusesPairs m (settings_of o at) f → AnswersFrame m (settings o at) (Err f)
  settings_accepted : {o : List ℕ} {at : ℕ} → AllByRecursion (PassesPair m) (settings_of o at) → AnswersFrame m (settings o at) (Ok true)
  window_idle : {id v : ℕ} → IsIdle m.state id → AnswersFrame m (window_update id v) (Err (fault cause.Protocol 0 5))
  window_closed : {id v : ℕ} → IsClosed m.state id → AnswersFrame m (window_update id v) (Ok false)
  window_none_connection : AnswersFrame m (window_update 0 0) (Err (fault cause.Protocol 0 9))
  window_none_stream : {id : ℕ} → IsOpen m.state id → AnswersFrame m (window_update id 0) (Err (fault cause.NoIncrement id 9))
  window_over_connection : {v : ℕ} → 0 < v → MAX < m.state.gate.connection + v → AnswersFrame m (window_update 0 v) (Err (fault cause.FlowControl 0 9))
  window_over_stream : {id v : ℕ} → IsOpen m.state id → 0 < v → Overflows m.state id v → AnswersFrame m (window_update id v) (Err (fault cause.WindowOverflow id 9))
  window_accepted : {id v : ℕ} → 0 < v → Accepts m.state.gate m.room (raise id v) → AnswersFrame m (window_update id v) (Ok true)
  reset_idle : {id code : ℕ} → (id ≡ 0) ⊎ IsIdle m.state id → AnswersFrame m (reset_stream id code) (Err (fault cause.Protocol 0 5))
  reset_closed : {id code : ℕ} → IsClosed m.state id → AnswersFrame m (reset_stream id code) (Ok false)
  reset_accepted : {id code : ℕ} → IsOpen m.state id → AnswersFrame m (reset_stream id code) (Ok true)
  target_even : {id at : ℕ} {value : List ℕ} → id % 2 ≡ 0 → AnswersFrame m (priority_update id value at) (Err (fault cause.Protocol 0 9))
  target_not_open : {id at : ℕ} {value : List ℕ} → id % 2 ≡ 1 → m.state.streams id ≡ None → AnswersFrame m (priority_update id value at) (Ok false)
  priority_unreadable : {id at : ℕ} {value : List ℕ} → id % 2 ≡ 1 → IsOpen m.state id → value_of value ≡ None → AnswersFrame m (priority_update id value at) (Err (fault cause.UnreadablePriority id 13))
  priority_accepted : {id at : ℕ} {value : List ℕ} (p : Priority) → id % 2 ≡ 1 → IsOpen m.state id → value_of value ≡ Some p → AnswersFrame m (priority_update id value at) (Ok true)
  not_ours : {kind id : ℕ} → AnswersFrame m (other kind id) (Ok false)

-- an id that a stream may be opened with
pub record GoodId (s : State) (id : ℕ) : Type 0 where
  pub odd : id % 2 ≡ 1
  pub fits : id ≤ MAX
  pub above : s.highest < id

abbrev pub BadId : State → ℕ → Type 0
BadId s id = (id % 2 ≡ 0) ⊎ (MAX < id) ⊎ (id ≤ s.highest)

-- no stream more can be had: 64 are open, or the gate's or the policy's limit is reached
abbrev pub Full : State → Type 0
Full s = (64 ≤ s.many) ⊎ (s.gate.limit ≤ s.gate.begun) ⊎ (s.ranks.limit ≤ s.ranks.entered)

-- the priority that a stream opens with: an unreadable value gives urgency 3, not incremental
abbrev pub read_or : Option Priority → Priority
read_or None = record { urgency = U3; incremental = false }
read_or (Some p) = p

pub data AnswersOpen (s : State) (id : ℕ) (value : List ℕ) : Answer → Type 0 where
  bad_id : BadId s id → AnswersOpen s id value (Err (fault cause.BadId id 0))
  full : GoodId s id → Full s → AnswersOpen s id value (Err (fault cause.Full id 0))
  opened : GoodId s id → (Full s → ⊥) → AnswersOpen s id value (Ok (Opened id (read_or (value_of value))))

pub data AnswersOffer (s : State) (id n : ℕ) (end : Bool) : Answer → Type 0 where
  not_open : s.streams id ≡ None → AnswersOffer s id n end (Err (fault cause.NotOpen id 0))
  was_ended : (x : Stream) → s.streams id ≡ Some x → x.ended ≡ true → AnswersOffer s id n end (Err (fault cause.EndOffered id 0))
  too_much : (x : Stream) → s.streams id ≡ Some x → x.ended ≡ false → MAX < x.queue + n → AnswersOffer s id n end (Err (fault cause.QueueOverflow id 0))
  offered : (x : Stream) → s.streams id ≡ Some x → x.ended ≡ false → x.queue + n ≤ MAX → AnswersOffer s id n end (Ok (Offered id n end))

-- an open stream is ready if it has no open grant, and either octets wait and there is room, or its end was offered and none wait
abbrev pub ReadyStream : ℕ → Stream → Type 0
ReadyStream room x = (x.grant ≡ None) × (((0 < x.queue) × (0 < room)) ⊎ ((x.ended ≡ true) × (x.queue ≡ 0)))

abbrev pub Ready : Moment → ℕ → Type 0
Ready m id = MatchOption (m.state.streams id) ⊥ (ReadyStream (m.room id))

-- ids that rise, each above a least one
abbrev pub RisingFrom : ℕ → List ℕ → Type 0
RisingFrom least [] = Unit {0}
RisingFrom least (id ∷ ids) = (least < id) × RisingFrom id ids

-- exactly the ready ids, in rising order
pub record ReadyIds (m : Moment) (ids : List ℕ) : Type 0 where
  pub rising : RisingFrom 0 ids
  pub ready : (id : ℕ) → Listed ids id → Ready m id
  pub all : (id : ℕ) → Ready m id → Listed ids id

-- the least of queue, room and frame size
abbrev pub grantable : Moment → ℕ → Stream → ℕ
grantable m id x = min (min x.queue (m.room id)) m.state.frame_size

pub data AnswersLease (m : Moment) : Answer → Type 0 where
  used_up : 1000000 ≤ m.state.given → AnswersLease m (Err (fault cause.GrantsUsedUp 0 0))
  none_ready : m.state.given < 1000000 → ((id : ℕ) → Ready m id → ⊥) → AnswersLease m (Err (fault cause.NoneReady 0 0))
  leased : (ids : List ℕ) (id : ℕ) (x : Stream) → m.state.given < 1000000 → ReadyIds m ids → m.picks ids ≡ Some id → m.state.streams id ≡ Some x → AnswersLease m (Ok (Granted (record { number = m.state.given + 1; id = id; octets = grantable m id x })))

-- the stream whose open grant has a number
pub record Holds (s : State) (number id : ℕ) (x : Stream) : Type 0 where
  pub open_stream : s.streams id ≡ Some x
  pub grant : x.grant ≡ Some number

-- octets exceed the grant, the frame size or the stream's window
abbrev pub TooLong : State → ℕ → ℕ → Type 0
TooLong s id n = (0 < n) × ((held_by (s.gate.stream id) < n) ⊎ (s.frame_size < n) ⊎ MatchOption (s.gate.stream id) ⊥ (λ c. c.window <ℤ pos n))

-- the end was offered, and the queue is empty once the octets are off it
abbrev pub ends_with : Stream → ℕ → Bool
ends_with x n = x.ended && x.queue - n == 0

pub data AnswersSettle (s : State) (number : ℕ) (payload : List ℕ) : Answer → Type 0 where
  not_granted : ((id : ℕ) (x : Stream) → Holds s number id x → ⊥) → AnswersSettle s number payload (Err (fault cause.NotGranted 0 0))
  too_long : (id : ℕ) (x : Stream) → Holds s number id x → TooLong s id (length payload) → AnswersSettle s number payload (Err (fault cause.TooLong id 0))
  no_space : (id : ℕ) (x : Stream) → Holds s number id x → (TooLong s id (length payload) → ⊥) → (0 < length payload) ⊎ (ends_with x (length payload) ≡ true) → s.sink.space < 9 + length payload → AnswersSettle s number payload (Err (fault cause.NoSpace id 0))
  sent : (id : ℕ) (x : Stream) → Holds s number id x → (TooLong s id (length payload) → ⊥) → (0 < length payload) ⊎ (ends_with x (length payload) ≡ true) → 9 + length payload ≤ s.sink.space → AnswersSettle s number payload (Ok (Sent number id (length payload) (ends_with x (length payload))))
  back : (id : ℕ) (x : Stream) → Holds s number id x → length payload ≡ 0 → ends_with x 0 ≡ false → AnswersSettle s number payload (Ok (Back number id))

-- the answer to a call; a connection that has ended refuses each
pub data Answers (m : Moment) : Ask → Answer → Type 0 where
  dead : {a : Ask} → m.state.live ≡ false → Answers m a (Err (fault cause.Ended 0 0))
  unread : {octets : List ℕ} {f : Fault} → m.state.live ≡ true → frame_of octets ≡ Err f → Answers m (frame octets) (Err f)
  frames : {octets : List ℕ} (t : Told) (r : Result Bool Fault) → m.state.live ≡ true → frame_of octets ≡ Ok t → AnswersFrame m t r → Answers m (frame octets) (answer_to t r)
  opens : {id : ℕ} {value : List ℕ} {r : Answer} → m.state.live ≡ true → AnswersOpen m.state id value r → Answers m (opening id value) r
  offers : {id n : ℕ} {end : Bool} {r : Answer} → m.state.live ≡ true → AnswersOffer m.state id n end r → Answers m (offer id n end) r
  leases : {r : Answer} → m.state.live ≡ true → AnswersLease m r → Answers m lease r
  settles : {number : ℕ} {payload : List ℕ} {r : Answer} → m.state.live ≡ true → AnswersSettle m.state number payload r → Answers m (settle number payload) r

-- The credit law over runs.
use Rattle.std.specs.Prelude.{◌≡◌, ℕ, ◌+◌, ◌<◌, ◌≤◌, true, false, List, [], ◌∷◌, pos, ◌+ℤ◌, is_some, IfSome, is_ok, Some, None, Option, MatchOption}
use Rattle.wire.specs.Urgencies.{urgency_number}
use Rattle.wire.specs.declared.priorities.Priority.{Priority}
use Rattle.credit.specs.Credit as credit
use Rattle.schedule.specs.Ranks as schedule
use Rattle.sink.specs.Meaning as sink
use Rattle.model.specs.Calls.{Ask, lease, Answer}
use Rattle.model.specs.States.{State, Moment, Tied}
use Rattle.model.specs.Happenings.{Settled, happened, after}
use Rattle.model.specs.Histories.{History, start, call, Tale, tale_of, increments, sent_on, sent_all, frames_put, initial_in, frame_size_in, live_in, open_in, priority_in, given_in, open_grants, total, total_on, times, settled_times, voided_times}
use Rattle.model.specs.Rules.{Answers, Ready, grantable}
use Rattle.model.specs.declared.calls.Grant.{Grant}

-- gate and policy keep their meaning: the gate is sound, room keeps its law, and the choice is a listed id of the least urgency
pub record Meant (m : Moment) : Type 0 where
  pub gate : credit.Sound m.state.gate
  pub room : (id : ℕ) → m.room id ≤ credit.most_room m.state.gate id
  pub choice : (ids : List ℕ) → schedule.Least m.state.ranks ids (m.picks ids)

-- a fresh connection over a fresh gate and a fresh policy, and a sink that has taken nothing
pub record Fresh (m : Moment) : Type 0 where
  pub gate : m.state.gate ≡ credit.fresh m.state.gate.limit
  pub ranks : m.state.ranks ≡ schedule.fresh m.state.ranks.limit
  pub sink : m.state.sink ≡ sink.fresh m.state.sink.space
  pub streams : m.state.streams ≡ (λ id. None)
  pub many : m.state.many ≡ 0
  pub live : m.state.live ≡ true
  pub frame_size : m.state.frame_size ≡ 16384
  pub highest : m.state.highest ≡ 0
  pub given : m.state.given ≡ 0
  pub meant : Meant m

-- one call: the answer is by the rules, and what happened is done
pub record Step (m : Moment) (a : Ask) (r : Answer) (n : Moment) : Type 0 where
  pub answers : Answers m a r
  pub leaves : n.state ≡ after m.state (happened a r)
  pub meant : Meant n

-- a history leads from one moment to another
abbrev pub Runs : Moment → History → Moment → Type 0
Runs m start n = n ≡ m
Runs m (call h a r) n = (between : Moment) × Runs m h between × Step between a r n

-- a DATA frame with octets exceeds neither window, as they stood before its settle, nor the frame size
abbrev pub WithinWindows : Tale → Settled → Type 0
WithinWindows es x = 0 < x.octets → (sent_all es + x.octets ≤ 65535 + increments 0 es) × (sent_on x.id es + x.octets ≤ initial_in es + increments x.id es) × (x.octets ≤ frame_size_in es) × (is_some x.put ≡ true)

abbrev pub EachWithin : Tale → Type 0
EachWithin [] = Unit {0}
EachWithin (e ∷ es) = EachWithin es × IfSome e.settled (WithinWindows es)

-- an open stream's credit: the initial window in force and its accepted increments are what was sent, is held and is left, below zero too
pub record Balances (q : ℕ) (es : Tale) (c : credit.Credit) : Type 0 where
  pub opened : open_in q es ≡ true
  pub balance : pos (initial_in es + increments q es) ≡ pos (sent_on q es + total_on q (open_grants es)) +ℤ credit.left c
  pub held : credit.amount c.held ≡ total_on q (open_grants es)

-- the law: what a tale tells, and the state that it led to
pub record Law (es : Tale) (s : State) : Type 0 where
  pub connection : 65535 + increments 0 es ≡ s.sink.octets + s.gate.held + credit.connection_left s.gate
  pub streams : (q : ℕ) → MatchOption (s.gate.stream q) (open_in q es ≡ false) (Balances q es)
  pub window : s.gate.connection + sent_all es ≡ 65535 + increments 0 es
  pub sent : s.sink.octets ≡ sent_all es
  pub frames : s.sink.frames ≡ frames_put es
  pub held : s.gate.held ≡ total (open_grants es)
  pub fates : (n : ℕ) → 1 ≤ n → n ≤ given_in es → settled_times n es + voided_times n es + times n (open_grants es) ≡ 1
  pub within : EachWithin es
  pub opened : (q : ℕ) → is_some (s.streams q) ≡ open_in q es
  pub initial : s.gate.initial ≡ initial_in es
  pub frame_size : s.frame_size ≡ frame_size_in es
  pub given : s.given ≡ given_in es
  pub live : s.live ≡ live_in es
  pub urgencies : (q : ℕ) → open_in q es ≡ true → s.ranks.rank q ≡ priority_in q es

-- the urgency number of a stream as last accepted, 8 where it has none
abbrev pub number_or_8 : Option Priority → ℕ
number_or_8 None = 8
number_or_8 (Some p) = urgency_number p.urgency

abbrev pub urgency_in : ℕ → Tale → ℕ
urgency_in q es = number_or_8 (priority_in q es)

-- at its lease a granted stream was ready, had the least urgency number, as last accepted, among the ready ones,
-- its number is the next, and its length is the least of queue, room and frame size
pub record FairGrant (es : Tale) (m : Moment) (g : Grant) : Type 0 where
  pub number : g.number ≡ given_in es + 1
  pub ready : Ready m g.id
  pub least : (q : ℕ) → Ready m q → urgency_in g.id es ≤ urgency_in q es
  pub length : MatchOption (m.state.streams g.id) ⊥ (λ x. g.octets ≡ grantable m g.id x)

-- a lease on a live connection with grant numbers left is refused exactly where no stream is ready
pub record FairLease (es : Tale) (m : Moment) (a : Ask) (r : Answer) : Type 0 where
  pub grants : (g : Grant) → (happened a r).granted ≡ Some g → FairGrant es m g
  pub refused : a ≡ lease → live_in es ≡ true → given_in es < 1000000 → is_ok r ≡ false → (q : ℕ) → Ready m q → ⊥
  pub carried : a ≡ lease → live_in es ≡ true → given_in es < 1000000 → ((q : ℕ) → Ready m q → ⊥) → is_ok r ≡ false

abbrev pub Fair : (m : Moment) (h : History) (n : Moment) → Runs m h n → Type 0
Fair m start n run = Unit {0}
Fair m (call h a r) n run = Fair m h run.0 run.1 × FairLease (tale_of h) run.0 a r

-- whatever history led from a fresh start to a moment: the law holds of it, and every lease was fair
abbrev pub Every-run : Type 0
Every-run = (m : Moment) (h : History) (n : Moment) → Fresh m → (run : Runs m h n) → Law (tale_of h) n.state × Fair m h n run

-- a history leads from a fresh moment to another
pub record Reached (m : Moment) (h : History) (n : Moment) : Type 0 where
  pub fresh : Fresh m
  pub run : Runs m h n

-- the history leads there, the law holds of it, and every lease was fair
pub record Lawful (m : Moment) (h : History) (n : Moment) : Type 0 where
  pub reached : Reached m h n
  pub law : Law (tale_of h) n.state
  pub fair : Fair m h n reached.run

-- whatever led from a fresh start to where a call found a connection, extended by the call and its answer, leads to where it left it
abbrev pub GoesOn : Moment → Ask → Answer → Moment → Type 0
GoesOn e a r x = (m : Moment) (h : History) → Reached m h e → Lawful m (call h a r) x

-- one call by the rules, where all stands together
abbrev pub Steps : Moment → Ask → Answer → Moment → Type 0
Steps e a r x = Tied e.state → Answers e a r × (x.state ≡ after e.state (happened a r))

-- a new connection over a fresh gate and a fresh policy stands, beside a sink that has taken nothing, at a fresh moment
abbrev pub Begins : credit.Meaning → schedule.Ranks → sink.Meaning → Moment → Type 0
Begins g p k n = g ≡ credit.fresh g.limit → p ≡ schedule.fresh p.limit → k ≡ sink.fresh k.space → Reached n start n

-- beside a sink that has taken nothing, whatever its space, a connection stands at a fresh moment
abbrev pub Starts : (sink.Meaning → Moment) → Type 0
Starts moment = (k : sink.Meaning) → k ≡ sink.fresh k.space → Reached (moment k) start (moment k)

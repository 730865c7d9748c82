-- A history: the calls so far, each with its answer, the latest last; and what it tells, with no word of any state.
use Rattle.std.specs.Prelude.{ℕ, ◌+◌, Bool, true, false, cond, List, [], ◌∷◌, Some, None, Option, ◌==◌}
use Rattle.wire.specs.declared.priorities.Priority.{Priority}
use Rattle.model.specs.Calls.{Ask, Answer}
use Rattle.model.specs.Happenings.{Happening, happened, upon, grown, counted}
use Rattle.model.specs.declared.calls.Grant.{Grant}

pub data History : Type 0 where
  start : History
  call : History → Ask → Answer → History

-- what happened, the latest first
abbrev pub Tale : Type 0
Tale = List Happening

abbrev pub tale_of : History → Tale
tale_of start = []
tale_of (call h a r) = happened a r ∷ tale_of h

-- a number where two ids are the same, else 0
abbrev pub on : ℕ → ℕ → ℕ → ℕ
on q id n = cond (q == id) n 0

-- the accepted increments of a stream, at 0 of the connection
abbrev pub increments : ℕ → Tale → ℕ
increments q [] = 0
increments q (e ∷ es) = grown e.raised (λ x. on q x.id x.by) (increments q es)

-- the payload octets that accepted settles put into the sink: of a stream, and of all
abbrev pub sent_on : ℕ → Tale → ℕ
sent_on q [] = 0
sent_on q (e ∷ es) = grown e.settled (λ x. on q x.id x.octets) (sent_on q es)

abbrev pub sent_all : Tale → ℕ
sent_all [] = 0
sent_all (e ∷ es) = grown e.settled (λ x. x.octets) (sent_all es)

-- the DATA frames that were put
abbrev pub frames_put : Tale → ℕ
frames_put [] = 0
frames_put (e ∷ es) = upon e.settled (λ x. counted x.put) (frames_put es)

-- the initial window and the frame size in force
abbrev pub initial_in : Tale → ℕ
initial_in [] = 65535
initial_in (e ∷ es) = upon e.initial (λ v n. v) (initial_in es)

abbrev pub frame_size_in : Tale → ℕ
frame_size_in [] = 16384
frame_size_in (e ∷ es) = upon e.frame_size (λ v n. v) (frame_size_in es)

-- whether the connection is live, and whether a stream is open
abbrev pub live_in : Tale → Bool
live_in [] = true
live_in (e ∷ es) = cond e.ended false (live_in es)

abbrev pub open_in : ℕ → Tale → Bool
open_in q [] = false
open_in q (e ∷ es) = upon e.closed (λ id b. cond (q == id) false b) (upon e.opened (λ x b. cond (q == x.id) true b) (open_in q es))

-- a stream's priority as last accepted: its open's, then that of its latest accepted PRIORITY_UPDATE
abbrev pub priority_in : ℕ → Tale → Option Priority
priority_in q [] = None
priority_in q (e ∷ es) = upon e.ranked (λ x o. cond (q == x.id) (Some x.priority) o) (upon e.opened (λ x o. cond (q == x.id) (Some x.priority) o) (priority_in q es))

-- how many grants were given
abbrev pub given_in : Tale → ℕ
given_in [] = 0
given_in (e ∷ es) = counted e.granted (given_in es)

-- grants but for those of a number, and but for those of a stream
abbrev pub without_number : ℕ → List Grant → List Grant
without_number n [] = []
without_number n (g ∷ gs) = cond (g.number == n) (without_number n gs) (g ∷ without_number n gs)

abbrev pub without_stream : ℕ → List Grant → List Grant
without_stream q [] = []
without_stream q (g ∷ gs) = cond (q == g.id) (without_stream q gs) (g ∷ without_stream q gs)

-- the open grants: a grant is open from its lease until it is settled, or until its stream closes first, which voids it
abbrev pub unsettled : Happening → List Grant → List Grant
unsettled e gs = upon e.settled (λ x. without_number x.number) (upon e.granted (λ g rest. g ∷ rest) gs)

abbrev pub open_grants : Tale → List Grant
open_grants [] = []
open_grants (e ∷ es) = upon e.closed without_stream (unsettled e (open_grants es))

-- the lengths of grants together: of all, and of a stream
abbrev pub total : List Grant → ℕ
total [] = 0
total (g ∷ gs) = g.octets + total gs

abbrev pub total_on : ℕ → List Grant → ℕ
total_on q [] = 0
total_on q (g ∷ gs) = on q g.id g.octets + total_on q gs

-- how often a number stands among grants, and among those of a stream
abbrev pub times : ℕ → List Grant → ℕ
times n [] = 0
times n (g ∷ gs) = on g.number n 1 + times n gs

abbrev pub times_on : ℕ → ℕ → List Grant → ℕ
times_on q n [] = 0
times_on q n (g ∷ gs) = on q g.id (on g.number n 1) + times_on q n gs

-- how often a grant was settled, and how often voided
abbrev pub settled_times : ℕ → Tale → ℕ
settled_times n [] = 0
settled_times n (e ∷ es) = grown e.settled (λ x. on x.number n 1) (settled_times n es)

abbrev pub voided_times : ℕ → Tale → ℕ
voided_times n [] = 0
voided_times n (e ∷ es) = grown e.closed (λ id. times_on id n (unsettled e (open_grants es))) (voided_times n es)

-- Where a connection stands between two calls.
use Rattle.std.specs.Prelude.{◌≡◌, ℕ, ◌<◌, Bool, List, is_some, Some, None, Option}
use Rattle.credit.specs.Credit as credit
use Rattle.schedule.specs.Ranks as schedule
use Rattle.sink.specs.Meaning as sink

-- an open stream: the octets that wait to be sent, whether their end was offered, and the number of its open grant
pub record Stream : Type 0 where
  pub queue : ℕ
  pub ended : Bool
  pub grant : Option ℕ

-- what the rules determine: what gate, policy and sink mean, the open streams and how many they are, whether the connection is live,
-- the frame size that the peer allows, the highest id that counts as opened, and how many grants were given
pub record State : Type 0 where
  pub gate : credit.Meaning
  pub ranks : schedule.Ranks
  pub sink : sink.Meaning
  pub streams : ℕ → Option Stream
  pub many : ℕ
  pub live : Bool
  pub frame_size : ℕ
  pub highest : ℕ
  pub given : ℕ

-- the same, with what the rules leave to the maker of a gate and of a policy: the room of each stream, and the choice among ids
pub record Moment : Type 0 where
  pub state : State
  pub room : ℕ → ℕ
  pub picks : List ℕ → Option ℕ

-- a stream is open exactly while its credit stands, and holds an amount exactly while it has an open grant
abbrev pub Paired : Option Stream → Option credit.Credit → Type 0
Paired None None = Unit {0}
Paired None (Some c) = ⊥
Paired (Some x) None = ⊥
Paired (Some x) (Some c) = is_some c.held ≡ is_some x.grant

-- what stands together at every moment: each open stream's record, credit and rank, and their counts; none is above the highest
pub record Tied (s : State) : Type 0 where
  pub paired : (q : ℕ) → Paired (s.streams q) (s.gate.stream q)
  pub ranked : (q : ℕ) → is_some (s.ranks.rank q) ≡ is_some (s.streams q)
  pub below : (q : ℕ) → s.highest < q → s.streams q ≡ None
  pub begun : s.gate.begun ≡ s.many
  pub entered : s.ranks.entered ≡ s.many

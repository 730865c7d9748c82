-- What a put promises of any sink.
use Rattle.std.specs.Prelude.{◌≡◌, ℕ, ◌+◌, ◌-◌, Bool, true, false, ◌&&◌, List, length, is_ok, Result, nat_le}
use Rattle.sink.specs.declared.sinks.Refusal.{Refusal}
use Rattle.sink.specs.Meaning.{Meaning, taken}

-- a frame was offered to a sink s, which answered and became t: it is refused exactly where nine octets and the payload exceed the space,
-- and then the sink is as it was; else it is taken, and what the sink tells of it holds
pub record Did {S : Type 0} (meaning : S → Meaning) (took : S → ℕ → Bool → List ℕ → S → Type 0) (id : ℕ) (end : Bool) (payload : List ℕ) (s : S) (r : Result (Unit {0}) Refusal) (t : S) : Type 0 where
  pub answers : is_ok r ≡ nat_le (9 + length payload) (meaning s).space
  pub takes : is_ok r ≡ true → took s id end payload t
  pub means : is_ok r ≡ true → meaning t ≡ taken (meaning s) id end (length payload)
  pub stays : is_ok r ≡ false → t ≡ s

-- two frames of a stream were offered, the second with END_STREAM: where the first is refused nothing is put, and where the second is, only the first is
pub record DidPair {S : Type 0} (meaning : S → Meaning) (took : S → ℕ → Bool → List ℕ → S → Type 0) (id : ℕ) (first second : List ℕ) (s : S) (r : Result (Unit {0}) Refusal) (t : S) : Type 0 where
  pub answers : is_ok r ≡ (nat_le (9 + length first) (meaning s).space && nat_le (9 + length second) ((meaning s).space - (9 + length first)))
  pub both : is_ok r ≡ true → (between : S) × took s id false first between × took between id true second t
  pub one : is_ok r ≡ false → nat_le (9 + length first) (meaning s).space ≡ true → took s id false first t
  pub none : nat_le (9 + length first) (meaning s).space ≡ false → t ≡ s

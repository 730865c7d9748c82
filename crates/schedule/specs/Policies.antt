-- What a call promises of any policy.
use Rattle.std.specs.Prelude.{◌≡◌, ℕ, Bool, true, false, Some, None, Decides, Option}
use Rattle.schedule.specs.Ranks.{Ranks, Event, Accepts, served}

-- a call on a policy s was answered r and left the policy t: accepted exactly where it may be, and then the event happened;
-- where it is refused, the policy is as it was
pub record Did {P : Type 0} (ranks : P → Ranks) (turned : P → Event → P → Type 0) (event : Event) (s : P) (r : Bool) (t : P) : Type 0 where
  pub answers : Decides r (Accepts (ranks s) event)
  pub turns : r ≡ true → turned s event t
  pub stays : r ≡ false → t ≡ s

-- an id was reported as served; where it is not in, the policy is as it was
pub record Served {P : Type 0} (ranks : P → Ranks) (turned : P → Event → P → Type 0) (id n : ℕ) (s t : P) : Type 0 where
  pub turns : turned s (served id n) t
  pub stays : (ranks s).rank id ≡ None → t ≡ s

-- the id that was chosen is served; where none was, the policy is as it was
abbrev pub ServedNext : {P : Type 0} → (P → Event → P → Type 0) → ℕ → P → Option ℕ → P → Type 0
ServedNext turned n s None t = t ≡ s
ServedNext turned n s (Some id) t = turned s (served id n) t

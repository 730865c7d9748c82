-- What a call promises of any gate.
use Rattle.std.specs.Prelude.{◌≡◌, ℕ, Bool, true, false, cond, Decides}
use Rattle.credit.specs.Credit.{Meaning}
use Rattle.credit.specs.Calls.{Call, Accepts, after}

-- a call on a gate s was answered r and left the gate t: accepted exactly where it may be, then done in full;
-- where it is refused, the meaning and every room stay; a clause of the trait itself cannot name its members as one record
pub record Did {G : Type 0} (meaning : G → Meaning) (room : G → ℕ → ℕ) (moved : G → Call → G → Type 0) (call : Call) (s : G) (r : Bool) (t : G) : Type 0 where
  pub answers : Decides r (Accepts (meaning s) (room s) call)
  pub leaves : meaning t ≡ cond r (after (meaning s) call) (meaning s)
  pub stays : r ≡ false → room t ≡ room s
  pub moves : r ≡ true → moved s call t

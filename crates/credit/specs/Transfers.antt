-- A transfer of credit: octets are held and at once spent.
use Rattle.std.specs.Prelude.{◌≡◌, ℕ, Bool, true, false, cond, Decides}
use Rattle.credit.specs.declared.gates.Gate.{Ghosts}
use Rattle.credit.specs.Calls.{Accepts, after, hold, spend}

-- it is accepted exactly where the octets can be held, and then both windows fall by them; else nothing moves
pub record Transferred {G : Type 0} (gate : Ghosts G) (id n : ℕ) (s : G) (r : Bool) (t : G) : Type 0 where
  pub answers : Decides r (Accepts (gate.meaning s) (gate.free s) (hold id n))
  pub leaves : gate.meaning t ≡ cond r (after (after (gate.meaning s) (hold id n)) (spend id n)) (gate.meaning s)
  pub stays : r ≡ false → gate.free t ≡ gate.free s
  pub moves : r ≡ true → ((between : G) × gate.moved s (hold id n) between × gate.moved between (spend id n) t)

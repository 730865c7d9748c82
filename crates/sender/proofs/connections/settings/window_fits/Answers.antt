use Rattle.std.proofs.Common.{ℕ, Bool, ℤ, pos, ◌+ℤ◌, ◌-ℤ◌, ◌≤ℤ◌, Decides, arith}
use Rattle.std.proofs.lemmas.Int.{ints}
use Rattle.sender.proofs.connections.settings.window_fits.Goals as goal

-- the window before is on either side of a comparison
across : (b : Bool) (w : ℤ) (v before : ℕ) → Decides b ((w +ℤ pos v) ≤ℤ (pos 2147483647 +ℤ pos before)) → Decides b ((w +ℤ (pos v -ℤ pos before)) ≤ℤ pos 2147483647)
across b w v before d = (λ e. let h = d.0 e in omega (arith, ints, h), λ h. d.1 (omega (arith, ints, h)))

pub returns : goal.returns
returns c = across _ c.args.window c.args.v c.args.before (grind (arith, ints))

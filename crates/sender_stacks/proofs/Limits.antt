-- What is fresh at a limit is fresh at its own limit.
use Rattle.std.proofs.Common.{◌≡◌, ℕ, sym, ap, ◌∙◌}

pub own-limit : {M : Type 0} (fresh : ℕ → M) (limit : M → ℕ) (m : M) (n : ℕ) → limit (fresh n) ≡ n → m ≡ fresh n → m ≡ fresh (limit m)
own-limit fresh limit m n same e = e ∙ ap fresh (sym (ap limit e ∙ same))

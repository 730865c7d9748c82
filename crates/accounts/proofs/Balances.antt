-- Amounts and balances of single accounts.
use Rattle.std.proofs.Common.{ℕ, ◌≤◌, pos, Some, None, Option, MatchOption}
use Rattle.credit.specs.Credit.{amount}
use Rattle.accounts.specs.declared.accounts_of_streams.Account.{Account}

-- what is spent was held
pub within_held : (o : Option ℕ) (n : ℕ) (P : Type 0) → MatchOption o ⊥ (λ k. (n ≤ k) × P) → n ≤ amount o
within_held None n P h = absurd h
within_held (Some k) n P h = h.0

-- what an index past the end reads
abbrev pub blank : Account
blank = record { id = 0; balance = pos 0; held = None }

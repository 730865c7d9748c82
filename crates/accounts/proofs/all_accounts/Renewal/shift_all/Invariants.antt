use Rattle.std.proofs.Common.{◌≡◌, ◌++◌, map, take, drop}
use Rattle.accounts.specs.Accounts.{shifted_by}
use Rattle.accounts.proofs.all_accounts.Renewal.shift_all.Given as goal

abbrev pub invariant-loop-account : goal.invariant-loop-account
invariant-loop-account l = l.accounts ≡ map (shifted_by l.self.before l.self.after) (take l.account-index l.initial.accounts) ++ drop l.account-index l.initial.accounts

-- Where an account's window begins: at 0, or at the initial window.
use Rattle.std.specs.Prelude.{ℕ, List, map}
use Rattle.std.specs.List.{AllByRecursion}
use Rattle.accounts.specs.declared.accounts_of_streams.Account.{Account}
use Rattle.accounts.specs.Accounts.{shifted_by, InRange}
use Rattle.accounts.specs.declared.storages.Storage.{Storage}
use Rattle.accounts.specs.declared.storages.Storage.TheVariants.{Direct, Offset}

abbrev pub base_of : Storage → ℕ → ℕ
base_of Direct initial = 0
base_of Offset initial = initial

-- the accounts after a new initial window: a window that is stored as it stands takes the difference up
abbrev pub renewed_by : Storage → ℕ → ℕ → List Account → List Account
renewed_by Direct before v rows = map (shifted_by before v) rows
renewed_by Offset before v rows = rows

-- no balance that has to take the difference up leaves -MAX to MAX
abbrev pub Renewable : Storage → ℕ → ℕ → List Account → Type 0
Renewable Direct before v rows = AllByRecursion (InRange before v) rows
Renewable Offset before v rows = Unit {0}

use Rattle.std.proofs.Common.{ap, arith}
use Rattle.std.proofs.lemmas.Int.{ints}
use Rattle.accounts.specs.declared.accounts_of_streams.Account.{Account}
use Rattle.accounts.proofs.all_accounts.Renewal.shifted.Goals as goal

pub returns : goal.returns
returns c = ap {B = Account} (λ b. record { id = c.args.account.now.id; balance = b; held = c.args.account.now.held }) (omega (arith, ints))

use Rattle.std.proofs.Common.{arith}
use Rattle.std.proofs.lemmas.Int.{ints}
use Rattle.accounts.proofs.accounts_of_streams.Account.spare.Goals as goal

pub returns : goal.returns
returns c = grind (arith, ints)

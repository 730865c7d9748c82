use Rattle.std.proofs.Common.{arith}
use Rattle.std.proofs.lemmas.Int.{ints}
use Rattle.accounts.proofs.all_accounts.Renewal.fits.Goals as goal

pub returns : goal.returns
returns c = grind (arith, ints)

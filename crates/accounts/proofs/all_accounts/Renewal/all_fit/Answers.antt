use Rattle.std.proofs.Common.{rules}
use Rattle.std.proofs.lemmas.Iterator.{cases_from_all, YieldsList-from_slice}
use Rattle.accounts.proofs.Renewals.{decides-all}
use Rattle.accounts.specs.Accounts.{Fits}
use Rattle.accounts.proofs.all_accounts.Renewal.all_fit.Goals as goal

pub returns : goal.returns
returns c =
    let P = Fits c.args.self.now.before c.args.self.now.after in
    decides-all P c.all.result c.args.accounts.now (cases_from_all _ _ _ P (λ a. P a → ⊥) c.all.ensures.ran (YieldsList-from_slice c.args.accounts.now c.iter.ensures.rest) (λ x q k. search rules) (λ x q k. search rules))

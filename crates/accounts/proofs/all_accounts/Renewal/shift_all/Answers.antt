use Rattle.std.proofs.Common.{◌<◌, length, get_or, set, ap, ◌∙◌, arith}
use Rattle.std.proofs.lemmas.List.Edits.{map_over_more}
use Rattle.std.proofs.lemmas.List.{get_or_default}
use Rattle.accounts.specs.Accounts.{shifted_by}
use Rattle.accounts.proofs.Balances.{blank}
use Rattle.accounts.proofs.all_accounts.Renewal.shift_all.Goals as goal

pub loop-account-preserved : goal.loop-account-preserved
loop-account-preserved c =
    let x = get_or c.loop-account.accounts c.loop-account.account-index blank in
    let within : c.loop-account.account-index < length c.loop-account.accounts = omega arith in
    ap (λ a. set c.loop-account.accounts c.loop-account.account-index a) c.shifted.ensures
    ∙ map_over_more (shifted_by c.args.self.now.before c.args.self.now.after) c.args.accounts.now c.loop-account.accounts c.loop-account.account-index x c.loop-account-test.true c.loop-account.invariant (get_or_default c.loop-account.accounts c.loop-account.account-index blank x within)

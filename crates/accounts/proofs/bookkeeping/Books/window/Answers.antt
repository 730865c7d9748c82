use Rattle.std.proofs.Common.{Some, sym, ap, ◌∙◌, subst, w32, SFits, rules}
use Rattle.std.proofs.lemmas.Int.{to_z-of_z}
use Rattle.accounts.specs.Accounts.{credit_at, InBounds}
use Rattle.accounts.proofs.Settlements.{base, rows_of, fair_of}
use Rattle.accounts.proofs.Streams.{stream-absent, stream-found}
use Rattle.accounts.proofs.Fairness.{fair-found, fair-bounds}
use Rattle.accounts.proofs.bookkeeping.Books.window.Goals as goal

pub returns-in_err-account : goal.returns-in_err-account
returns-in_err-account c = rw (stream-absent (base c.args.self.now) (rows_of c.args.self.now) c.args.id c.in_err-account.ensures) c.from_residual.ensures

pub window-requires : goal.window-requires
window-requires c =
    let s = c.args.self.now in
    let x = c.in_ok-account.account.now in
    subst (λ k. InBounds (credit_at k x)) (sym c.base.ensures.value) (fair-bounds (base s) s.initial x (fair-found (base s) s.initial (rows_of s) c.args.id x c.in_ok-account.ensures (fair_of s)))

pub returns : goal.returns
returns c =
    let s = c.args.self.now in
    let x = c.in_ok-account.account.now in
    rw (stream-found (base s) (rows_of s) c.args.id x c.in_ok-account.ensures)
    (let f : SFits w32 c.window.result = search rules in
    ap (λ w. Some w) (to_z-of_z w32 c.window.result f ∙ c.window.ensures ∙ ap (λ b. (credit_at b x).window) c.base.ensures.value))

use Rattle.std.proofs.Common.{◌-◌, min, refl, ap, ◌∙◌}
use Rattle.credit.specs.Credit.{left, at_least_0}
use Rattle.accounts.specs.Accounts.{credit_at}
use Rattle.accounts.proofs.Settlements.{base, rows_of}
use Rattle.accounts.proofs.Streams.{stream-absent, stream-found}
use Rattle.accounts.proofs.bookkeeping.Books.room.Goals as goal

pub returns-in_default : goal.returns-in_default
returns-in_default c = rw (stream-absent (base c.args.self.now) (rows_of c.args.self.now) c.args.id c.in_default.ensures) refl

pub returns : goal.returns
returns c =
    let s = c.args.self.now in
    let x = c.in-Some.account.now in
    rw (stream-found (base s) (rows_of s) c.args.id x c.in-Some.ensures)
    (c.min.ensures ∙ ap (λ n. min n (s.connection - s.held)) (c.spare.ensures ∙ ap (λ b. at_least_0 (left (credit_at b x))) c.base.ensures.value))

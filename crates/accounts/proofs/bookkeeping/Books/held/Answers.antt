use Rattle.std.proofs.Common.{refl}
use Rattle.accounts.proofs.Settlements.{base, rows_of}
use Rattle.accounts.proofs.Streams.{stream-absent, stream-found}
use Rattle.accounts.proofs.bookkeeping.Books.held.Goals as goal

pub returns-in_err-get : goal.returns-in_err-get
returns-in_err-get c = rw (stream-absent (base c.args.self.now) (rows_of c.args.self.now) c.args.id c.in_err-get.ensures) c.from_residual.ensures

pub returns : goal.returns
returns c = rw (stream-found (base c.args.self.now) (rows_of c.args.self.now) c.args.id c.in_ok-get.field-0.now c.in_ok-get.ensures) refl

use Rattle.std.proofs.Common.{true, false, refl, arith}
use Rattle.std.proofs.lemmas.Bool.{false≢true}
use Rattle.accounts.proofs.Settlements.{base, rows_of, holds}
use Rattle.accounts.proofs.Streams.{stream-absent}
use Rattle.accounts.proofs.bookkeeping.Books.hold.Goals as goal

pub returns-in_default : goal.returns-in_default
returns-in_default c =
    let none = stream-absent (base c.args.self.now) (rows_of c.args.self.now) c.args.id c.in_default.ensures.finds in
    record { answers = rw none (λ e. false≢true e, λ e. absurd e); leaves = refl; storage = refl }

pub returns-then-not-hold : goal.returns-then-not-hold
returns-then-not-hold c =
    let b = holds c.args.self.now c.args.id c.in-Some.account.now c.in-Some.ensures.finds c.args.n c.base-base.result c.hold.new.self c.hold.result false c.if-not-hold.true c.base-base.ensures.value (omega arith) c.hold.ensures.answers c.hold.ensures.leaves in
    record { answers = b.answers; leaves = b.leaves; storage = refl }

pub invariant_of-self-2 : goal.invariant_of-self-2
invariant_of-self-2 c =
    let b = holds c.args.self.now c.args.id c.in-Some.account.now c.in-Some.ensures.finds c.args.n c.base-base.result c.hold.new.self c.hold.result true c.if-not-hold.false c.base-base.ensures.value (omega arith) c.hold.ensures.answers c.hold.ensures.leaves in
    record { within = b.within; roomy = c.args.self.now.roomy; sums = b.sums; fair = ∣ b.fair ∣₁ }

pub returns : goal.returns
returns c =
    let b = holds c.args.self.now c.args.id c.in-Some.account.now c.in-Some.ensures.finds c.args.n c.base-base.result c.hold.new.self c.hold.result true c.if-not-hold.false c.base-base.ensures.value (omega arith) c.hold.ensures.answers c.hold.ensures.leaves in
    record { answers = b.answers; leaves = b.leaves; storage = refl }

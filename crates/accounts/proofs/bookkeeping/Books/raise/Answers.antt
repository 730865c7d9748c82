use Rattle.std.proofs.Common.{refl, ne_eqb}
use Rattle.std.proofs.lemmas.Bool.{false≢true}
use Rattle.accounts.proofs.Settlements.{base, rows_of, raises}
use Rattle.accounts.proofs.Streams.{stream-absent}
use Rattle.accounts.proofs.bookkeeping.Books.raise.Goals as goal

pub returns-in_default : goal.returns-in_default
returns-in_default c =
    let none = stream-absent (base c.args.self.now) (rows_of c.args.self.now) c.args.id c.in_default.ensures.finds in
    record { answers = rw (ne_eqb c.args.id 0 c.if-id-eq0.false, none) (λ e. false≢true e, λ e. absurd e); leaves = refl; storage = refl }

pub invariant_of-self-2 : goal.invariant_of-self-2
invariant_of-self-2 c =
    let b = raises c.args.self.now c.args.id c.in-Some.account.now c.in-Some.ensures.finds c.args.v c.base-base.result c.raise.new.self c.raise.result c.base-base.ensures.value c.if-id-eq0.false c.raise.ensures.answers c.raise.ensures.leaves in
    record { within = b.within; roomy = c.args.self.now.roomy; sums = b.sums; fair = ∣ b.fair ∣₁ }

pub returns : goal.returns
returns c =
    let b = raises c.args.self.now c.args.id c.in-Some.account.now c.in-Some.ensures.finds c.args.v c.base-base.result c.raise.new.self c.raise.result c.base-base.ensures.value c.if-id-eq0.false c.raise.ensures.answers c.raise.ensures.leaves in
    record { answers = b.answers; leaves = b.leaves; storage = refl }

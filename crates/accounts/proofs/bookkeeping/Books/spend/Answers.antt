use Rattle.std.proofs.Common.{◌<◌, ◌≤◌, true, false, pos, ◌+ℤ◌, ◌-ℤ◌, ◌≤ℤ◌, sym, refl, subst, arith}
use Rattle.std.proofs.lemmas.Int.{ints}
use Rattle.std.proofs.lemmas.Bool.{false≢true}
use Rattle.credit.specs.Credit.{amount, left}
use Rattle.accounts.specs.Accounts.{credit_at}
use Rattle.accounts.proofs.Balances.{within_held}
use Rattle.accounts.proofs.Beginnings.{base-within}
use Rattle.accounts.proofs.Fairness.{fair-found}
use Rattle.accounts.proofs.Settlements.{base, rows_of, fair_of, part_held, spends}
use Rattle.accounts.proofs.Streams.{stream-absent}
use Rattle.accounts.proofs.bookkeeping.Books.spend.Goals as goal

pub returns-in_default : goal.returns-in_default
returns-in_default c =
    let none = stream-absent (base c.args.self.now) (rows_of c.args.self.now) c.args.id c.in_default.ensures.finds in
    record { answers = rw none (λ e. false≢true e, λ e. absurd e); leaves = refl; storage = refl }

pub spend-requires : goal.spend-requires
spend-requires c =
    let s = c.args.self.now in
    let x = c.in-Some.account.now in
    let fair = fair-found (base s) s.initial (rows_of s) c.args.id x c.in-Some.ensures.finds (fair_of s) in
    let low : pos s.initial ≤ℤ (((x.balance +ℤ pos (base s)) -ℤ pos (amount x.held)) +ℤ pos 2147483647) = fair.2 in
    let within = base-within s.storage s.initial in
    let enough : pos (base s) ≤ℤ (((x.balance +ℤ pos (base s)) -ℤ pos (amount x.held)) +ℤ pos 2147483647) = omega (arith, ints) in
    subst (λ b. pos b ≤ℤ (left (credit_at b x) +ℤ pos 2147483647)) (sym c.base-base.ensures.value) enough

pub returns-then-not-spend : goal.returns-then-not-spend
returns-then-not-spend c =
    let b = spends c.args.self.now c.args.id c.in-Some.account.now c.in-Some.ensures.finds c.args.n c.base-base.result c.amount-amount.result c.spend.new.self c.spend.result false c.if-not-spend.true c.base-base.ensures.value c.amount-amount.ensures c.spend.ensures.answers c.spend.ensures.leaves in
    record { answers = b.answers; leaves = b.leaves; storage = refl }

-- what is spent is at most what the stream holds, and that at most what all hold
covered : (c : goal.Else-not-spend) → (c.args.n ≤ amount c.in-Some.account.now.held) × (amount c.in-Some.account.now.held ≤ c.args.self.now.held)
covered c =
    let x = c.in-Some.account.now in (
      within_held x.held c.args.n (0 < c.args.n → pos c.args.n ≤ℤ (credit_at c.base-base.result x).window) (c.spend.ensures.answers.0 c.if-not-spend.false),
      part_held c.args.self.now c.args.id x c.in-Some.ensures.finds,
    )

pub overflow_sub-self : goal.overflow_sub-self
overflow_sub-self c = let b = covered c in omega (arith, c.args.self.now.within.2)

pub overflow_sub-self-2 : goal.overflow_sub-self-2
overflow_sub-self-2 c = let b = covered c in omega (arith, c.amount-amount.ensures)

pub invariant_of-self-2 : goal.invariant_of-self-2
invariant_of-self-2 c =
    let b = spends c.args.self.now c.args.id c.in-Some.account.now c.in-Some.ensures.finds c.args.n c.base-base.result c.amount-amount.result c.spend.new.self c.spend.result true c.if-not-spend.false c.base-base.ensures.value c.amount-amount.ensures c.spend.ensures.answers c.spend.ensures.leaves in
    record { within = b.within; roomy = c.args.self.now.roomy; sums = b.sums; fair = ∣ b.fair ∣₁ }

pub returns : goal.returns
returns c =
    let b = spends c.args.self.now c.args.id c.in-Some.account.now c.in-Some.ensures.finds c.args.n c.base-base.result c.amount-amount.result c.spend.new.self c.spend.result true c.if-not-spend.false c.base-base.ensures.value c.amount-amount.ensures c.spend.ensures.answers c.spend.ensures.leaves in
    record { answers = b.answers; leaves = b.leaves; storage = refl }

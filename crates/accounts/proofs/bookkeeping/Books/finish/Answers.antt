use Rattle.std.proofs.Common.{vec_items, refl, arith}
use Rattle.accounts.proofs.Settlements.{part_held, finishes, stays}
use Rattle.accounts.proofs.bookkeeping.Books.finish.Goals as goal

pub returns-in_default : goal.returns-in_default
returns-in_default c =
    let b = stays c.args.self.now c.args.id (vec_items c.remove.new.self.rows) c.in_default.ensures.answers c.remove.ensures.rows in
    record { answers = b.answers; leaves = b.leaves; storage = refl }

pub overflow_sub-self : goal.overflow_sub-self
overflow_sub-self c = omega (arith, c.amount.ensures, part_held c.args.self.now c.args.id c.in-Some.account c.in-Some.ensures.answers)

pub invariant_of-self-2 : goal.invariant_of-self-2
invariant_of-self-2 c =
    let b = finishes c.args.self.now c.args.id c.in-Some.account c.in-Some.ensures.answers c.amount.result (vec_items c.remove.new.self.rows) c.amount.ensures c.remove.ensures.rows in
    record { within = b.within; roomy = c.remove.ensures.room c.args.self.now.roomy; sums = b.sums; fair = ∣ b.fair ∣₁ }

pub returns : goal.returns
returns c =
    let b = finishes c.args.self.now c.args.id c.in-Some.account c.in-Some.ensures.answers c.amount.result (vec_items c.remove.new.self.rows) c.amount.ensures c.remove.ensures.rows in
    record { answers = b.answers; leaves = b.leaves; storage = refl }

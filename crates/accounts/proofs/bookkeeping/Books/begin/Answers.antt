use Rattle.std.proofs.Common.{vec_items, sym, refl, ◌∙◌}
use Rattle.std.proofs.lemmas.Bool.{false≢true}
use Rattle.accounts.proofs.Beginnings.{begun-already, not-begun}
use Rattle.accounts.proofs.Settlements.{base, rows_of, begins}
use Rattle.accounts.proofs.bookkeeping.Books.begin.Goals.{then-id-eq0-via-then-id-eq0, then-id-eq0-via-else-id-eq0+then-is_some}
use Rattle.accounts.proofs.bookkeeping.Books.begin.Goals as goal

pub returns-then-id-eq0 : goal.returns-then-id-eq0
returns-then-id-eq0 c =
    let s = c.args.self.now in
    record {
      answers = (
        λ e. absurd (false≢true e),
        λ h.
            absurd (elim c.then-id-eq0.branch [
              | then-id-eq0-via-then-id-eq0 w ↦ h.0 w.if-id-eq0.true
              | then-id-eq0-via-else-id-eq0+then-is_some w ↦ begun-already (base s) (rows_of s) c.args.id w.get.result w.get.ensures (sym w.is_some.ensures ∙ w.if-is_some.true) h.1
            ]),
      );
      leaves = refl;
      storage = refl;
    }

pub invariant_of-self : goal.invariant_of-self
invariant_of-self c =
    let s = c.args.self.now in
    let none = not-begun (rows_of s) c.args.id c.get.result c.get.ensures (sym c.is_some.ensures ∙ c.if-is_some.false) in
    let b = begins s c.args.id c.base.result (vec_items c.add.new.self.rows) c.add.result c.base.ensures.value none c.if-id-eq0.false (c.add.ensures.limit s.roomy) c.add.ensures.rows in
    record { within = b.within; roomy = c.add.ensures.room s.roomy; sums = b.sums; fair = ∣ b.fair ∣₁ }

pub returns : goal.returns
returns c =
    let s = c.args.self.now in
    let none = not-begun (rows_of s) c.args.id c.get.result c.get.ensures (sym c.is_some.ensures ∙ c.if-is_some.false) in
    let b = begins s c.args.id c.base.result (vec_items c.add.new.self.rows) c.add.result c.base.ensures.value none c.if-id-eq0.false (c.add.ensures.limit s.roomy) c.add.ensures.rows in
    record { answers = b.answers; leaves = b.leaves; storage = refl }

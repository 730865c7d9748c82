use Rattle.std.proofs.Common.{◌≡◌, ap, ◌∙◌}
use Rattle.accounts.specs.Books.{meaning_of}
use Rattle.credit.specs.Credit.{fresh}
use Rattle.gate_stacks.proofs.FirstCalls.{holds-first, left_by}
use Rattle.gate_stacks.proofs.first_hold.Goals as goal

pub returns : goal.returns
returns g c =
    let first : meaning_of c.over-gate.result.below.books ≡ fresh 64 = ap (λ s. meaning_of s.below.books) c.over-gate.ensures ∙ c.in_ok-new.ensures in
    let accepted = c.if-not-begin.false in
    c.hold.ensures.answers.1
    (holds-first _ _ (left_by _ _ _ _ _ _ _ (fresh 64) c.begin.ensures accepted first) ((c.begin.ensures.moves accepted).1 ∙ ap (λ s. s.most) c.over-gate.ensures))

use Rattle.std.proofs.Common.{refl, ap, ◌∙◌}
use Rattle.std.proofs.lemmas.Result.{IfOk-weaker}
use Rattle.accounts.specs.Books.{meaning_of}
use Rattle.credit.specs.Credit as credit
use Rattle.schedule.specs.Ranks as schedule
use Rattle.sender_stacks.proofs.Limits.{own-limit}
use Rattle.sender_stacks.proofs.fresh_capped.Goals as goal

pub returns : goal.returns
returns g c =
    let below = ap (λ h. h.below) c.over-gate.ensures in
    record {
      capped = IfOk-weaker c.new-3.result _ _ (λ x keeps. ap (λ h. h.most) (keeps.0 ∙ c.over-gate.ensures)) c.new-3.ensures.keeps;
      reached =
          IfOk-weaker c.new-3.result _ _
          (λ x begins k taken. begins k (own-limit credit.fresh (λ m. m.limit) _ 64 refl (ap (λ b. meaning_of b.books) below ∙ c.in_ok-new.ensures)) (own-limit schedule.fresh (λ m. m.limit) _ 64 refl c.in_ok-policy.ensures.1) taken)
          c.new-3.ensures.begins;
    }

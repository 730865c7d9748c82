use Rattle.std.proofs.Common.{refl}
use Rattle.std.proofs.lemmas.Result.{IfOk-weaker}
use Rattle.credit.specs.Credit as credit
use Rattle.schedule.specs.Ranks as schedule
use Rattle.sender_stacks.proofs.Limits.{own-limit}
use Rattle.sender_stacks.proofs.fresh_connection.Goals as goal

pub returns : goal.returns
returns g c =
    IfOk-weaker c.new-3.result _ _
    (λ x begins k taken. begins k (own-limit credit.fresh (λ m. m.limit) _ 64 refl c.in_ok-gate.ensures) (own-limit schedule.fresh (λ m. m.limit) _ 64 refl c.in_ok-policy.ensures.1) taken)
    c.new-3.ensures.begins

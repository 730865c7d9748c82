use Rattle.std.proofs.Common.{None, sym, ap, ◌∙◌}
use Rattle.wire.specs.Settings.{to_come}
use Rattle.wire.proofs.PairSteps.{next-comes, none-comes}
use Rattle.model.specs.Happenings.{last_after}
use Rattle.sender.proofs.connections.settings.last_value.Goals as goal

pub loop-pair-preserved : goal.loop-pair-preserved
loop-pair-preserved c =
    let k = c.identifier-identifier.result in
    ap (λ o. last_after k o (to_come c.next.new.self)) c.newer-latest.ensures ∙ ap (last_after k c.loop-pair.latest) (sym (next-comes c.loop-pair.pair-iterator c.next.new.self c.in-Some.pair c.in-Some.ensures.steps)) ∙ c.loop-pair.invariant

pub returns : goal.returns
returns c = rw (sym c.identifier-identifier.ensures)
    (let k = c.identifier-identifier.result in
    ap (last_after k c.loop-pair.latest) (sym (none-comes c.loop-pair.pair-iterator c.next.new.self c.in-None.ensures.steps)) ∙ c.loop-pair.invariant ∙ ap (λ s. last_after k None (to_come s)) c.into_iter-pair-iterator.ensures.into_iter_gives)

use Rattle.std.proofs.Common.{subst}
use Rattle.std.proofs.lemmas.Result.{err_from_is_err_and}
use Rattle.std.specs.List.{AllByRecursion}
use Rattle.wire.specs.Settings.{to_come}
use Rattle.wire.specs.declared.settings.Pairs.{Pairs}
use Rattle.wire.proofs.PairSteps.{next-comes, none-comes}
use Rattle.model.specs.Rules.{PassesPair, RefusesPairs}
use Rattle.sender.specs.Connections.{moment_of}
use Rattle.sender.proofs.Initial.{carries-more, carries-fault, carries-all}
use Rattle.sender.proofs.connections.Connection.test_pairs.Goals as goal

pub loop-pair-preserved : goal.loop-pair-preserved
loop-pair-preserved g c k tied = carries-more _ (to_come c.loop-pair.pair-iterator) _ _ c.in-Some.pair (next-comes c.loop-pair.pair-iterator c.next.new.self c.in-Some.pair c.in-Some.ensures.steps) (c.in_ok-test_pair.ensures k tied) (c.loop-pair.invariant k tied)

pub returns-in_err-test_pair : goal.returns-in_err-test_pair
returns-in_err-test_pair g c =
    let p = err_from_is_err_and c.from_residual.result c.from_residual.ensures.1 in
    rw (p.1, p.2)
    (λ k tied. subst (λ (s : Pairs). RefusesPairs (moment_of g.G.Gate g.P.Policy c.args.self.now k) (to_come s) c.in_err-test_pair.field-0.0) c.into_iter-pair-iterator.ensures.into_iter_gives (carries-fault _ (to_come c.loop-pair.pair-iterator) _ _ c.in-Some.pair _ (next-comes c.loop-pair.pair-iterator c.next.new.self c.in-Some.pair c.in-Some.ensures.steps) (c.in_err-test_pair.ensures k tied) (c.loop-pair.invariant k tied)))

pub returns : goal.returns
returns g c k tied =
    subst (λ (s : Pairs). AllByRecursion (PassesPair (moment_of g.G.Gate g.P.Policy c.args.self.now k)) (to_come s)) c.into_iter-pair-iterator.ensures.into_iter_gives (carries-all _ _ _ (none-comes c.loop-pair.pair-iterator c.next.new.self c.in-None.ensures.steps) (c.loop-pair.invariant k tied))

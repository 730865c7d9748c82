use Rattle.std.proofs.Common.{IfSome, sym, ap, ◌∙◌, subst}
use Rattle.std.proofs.lemmas.Result.{err_from_is_err_and}
use Rattle.credit.specs.Calls.{Accepts, initial}
use Rattle.wire.specs.Settings.{to_come}
use Rattle.wire.specs.Frames.{settings}
use Rattle.model.specs.Happenings.{after, renewing, last_of}
use Rattle.model.specs.Rules.{settings_refused, settings_accepted}
use Rattle.model.specs.States.{State, Moment}
use Rattle.sender.specs.Connections.{state_of, moment_of}
use Rattle.sender.proofs.Initial.{last-accepted, pairs-stay}
use Rattle.sender.proofs.connections.Connection.settings.Goals as goal

pub returns-in_err-test_pairs : goal.returns-in_err-test_pairs
returns-in_err-test_pairs g c =
    let p = err_from_is_err_and c.from_residual.result c.from_residual.ensures.1 in
    rw (p.1, p.2)
    (λ k tied.
    let refused = c.in_err-test_pairs.ensures k tied in
    (settings_refused refused, sym (pairs-stay _ _ (settings c.args.pairs.octets.now c.args.pairs.place) _ _ refused)))

pub returns : goal.returns
returns g c k tied =
    let s = c.args.self.now in
    let state : State = state_of g.G.Gate g.P.Policy s k in
    let m : Moment = moment_of g.G.Gate g.P.Policy s k in
    let passes = c.in_ok-test_pairs.ensures k tied in
    let w = c.last_value-window.ensures in
    let z = c.last_value-size.ensures in
    let b = c.renew.ensures k (subst (λ o. IfSome o (λ v. Accepts state.gate m.room (initial v))) (sym w) (last-accepted m (to_come c.args.pairs) passes)) in
    (settings_accepted passes, b ∙ ap (λ o. after state (renewing o c.last_value-size.result)) w ∙ ap (λ o. after state (renewing (last_of 4 (to_come c.args.pairs)) o)) z)

use Rattle.std.proofs.Common.{◌<◌, sym, refl, ◌∙◌, arith}
use Rattle.std.proofs.lemmas.Bool.{true≢false, cond-true, cond-false}
use Rattle.model.specs.Rules.{window_none_connection, window_over_connection, window_accepted}
use Rattle.sender.proofs.Moves.{same-state, not-le}
use Rattle.sender.proofs.connections.Connection.raise_connection.Goals as goal

pub returns-then-increment-eq0 : goal.returns-then-increment-eq0
returns-then-increment-eq0 g c = rw (c.new.ensures, c.if-increment-eq0.true) (λ k tied. (window_none_connection, refl))

pub returns-then-not-raise : goal.returns-then-not-raise
returns-then-not-raise g c =
    let some : 0 < c.args.increment = omega (arith, c.if-increment-eq0.false) in
    rw c.new-then-not-raise.ensures
    (λ k tied.
    let did = c.raise.ensures in
    (window_over_connection some (not-le _ _ (λ fits. true≢false (sym (did.answers.1 fits) ∙ c.if-not-raise.true))), same-state (did.leaves ∙ cond-false _ _ _ c.if-not-raise.true) refl (λ q. refl) refl refl refl refl))

pub returns : goal.returns
returns g c k tied =
    let did = c.raise.ensures in
    (window_accepted (omega (arith, c.if-increment-eq0.false)) (did.answers.0 c.if-not-raise.false), same-state (did.leaves ∙ cond-true _ _ _ c.if-not-raise.false) refl (λ q. refl) refl refl refl refl)

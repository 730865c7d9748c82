use Rattle.std.proofs.Common.{◌≡◌, ◌<◌, sym, refl, ap, ◌∙◌, subst, arith}
use Rattle.std.proofs.lemmas.Bool.{true≢false, cond-true, cond-false}
use Rattle.model.specs.Rules.{IsOpen, window_none_stream, window_over_stream, window_accepted}
use Rattle.model.specs.States.{State, Tied}
use Rattle.sender.specs.Connections.{state_of}
use Rattle.model.specs.Happenings.{after, closing}
use Rattle.sender.proofs.Moves.{same-state, with_gate}
use Rattle.sender.proofs.Updates.{overflows, open-nonzero}
use Rattle.sender.proofs.connections.Connection.raise_stream.Goals as goal

pub returns-then-increment-eq0 : goal.returns-then-increment-eq0
returns-then-increment-eq0 g c =
    rw (c.new.ensures, c.if-increment-eq0.true)
    (λ k is tied.
    let b = c.close.ensures k tied is in
    (window_none_stream is, b))

pub returns-then-not-raise : goal.returns-then-not-raise
returns-then-not-raise g c =
    let some : 0 < c.args.increment = omega (arith, c.if-increment-eq0.false) in
    rw c.new-then-not-raise.ensures
    (λ k is tied.
    let did = c.raise.ensures in
    let state : State = state_of g.G.Gate g.P.Policy c.args.self.now k in
    let same : with_gate state (g.G.Gate.meaning c.raise.new.self) ≡ state = same-state (did.leaves ∙ cond-false _ _ _ c.if-not-raise.true) refl (λ q. refl) refl refl refl refl in
    let b = c.close-then-not-raise.ensures k (subst Tied (sym same) tied) (subst (λ (u : State). IsOpen u c.args.id) (sym same) is) in (
      window_over_stream is some (overflows state (g.G.Gate.free c.args.self.now.gate) c.args.id c.args.increment tied (open-nonzero state c.args.id tied (g.met.G.Gate.sound c.args.self.now.gate) is) is (λ fits. true≢false (sym (did.answers.1 fits) ∙ c.if-not-raise.true))),
      b ∙ ap (λ (u : State). after u (closing c.args.id)) same,
    ))

pub returns : goal.returns
returns g c k is tied =
    let did = c.raise.ensures in
    (window_accepted (omega (arith, c.if-increment-eq0.false)) (did.answers.0 c.if-not-raise.false), same-state (did.leaves ∙ cond-true _ _ _ c.if-not-raise.false) refl (λ q. refl) refl refl refl refl)

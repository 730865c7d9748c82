use Rattle.std.proofs.Common.{◌≡◌, ◌%◌, not, vec_items, sym, refl, ap, ◌∙◌, arith}
use Rattle.std.proofs.lemmas.Result.{err_from_is_err_and}
use Rattle.model.specs.Rules.{target_even, target_not_open, priority_unreadable, priority_accepted, IsOpen}
use Rattle.wire.specs.Faults.{unreadable_priority}
use Rattle.wire.specs.Values.{value_of}
use Rattle.model.specs.Happenings.{after, ranking}
use Rattle.model.specs.States.{State}
use Rattle.sender.specs.Connections.{state_of}
use Rattle.sender.proofs.Moves.{same-state}
use Rattle.model.proofs.Points.{is_none}
use Rattle.sender.specs.Streams.{streams_in}
use Rattle.sender.proofs.Updates.{found-open, ok_or-err, ok_or-ok}
use Rattle.sender.proofs.connections.Connection.priority_update.Goals as goal

pub returns-then-target-eq0 : goal.returns-then-target-eq0
returns-then-target-eq0 g c = rw c.new.ensures (λ k tied. (target_even c.if-target-eq0.true, refl))

pub returns-then-is_none : goal.returns-then-is_none
returns-then-is_none g c k tied = (target_not_open (omega (arith, c.if-target-eq0.false)) (is_none (streams_in (vec_items c.args.self.now.streams.rows) c.args.target) (found-open (vec_items c.args.self.now.streams.rows) c.args.target c.get.result c.get.ensures ∙ c.is_none.ensures ∙ ap not c.if-is_none.true)), refl)

pub returns-in_err-priority : goal.returns-in_err-priority
returns-in_err-priority g c =
    let p = err_from_is_err_and c.from_residual.result c.from_residual.ensures.1 in
    let e = ok_or-err (value_of c.args.value.now) (unreadable_priority c.args.target) _ c.in_err-priority.ensures in
    let odd : c.args.target % 2 ≡ 1 = omega (arith, c.if-target-eq0.false) in
    rw (p.1, p.2, e.1) (λ k tied. (priority_unreadable odd (found-open (vec_items c.args.self.now.streams.rows) c.args.target c.get.result c.get.ensures ∙ c.is_none.ensures ∙ ap not c.if-is_none.false) e.0, refl))

pub returns : goal.returns
returns g c k tied =
    let s = c.args.self.now in
    let state : State = state_of g.G.Gate g.P.Policy s k in
    let p = c.in_ok-priority.priority in
    let is : IsOpen state c.args.target = found-open (vec_items c.args.self.now.streams.rows) c.args.target c.get.result c.get.ensures ∙ c.is_none.ensures ∙ ap not c.if-is_none.false in
    let o = ok_or-ok (value_of c.args.value.now) (unreadable_priority c.args.target) p c.in_ok-priority.ensures in
    let did = c.alter.ensures in
    let turned = g.met.P.Policy.means _ _ _ (did.turns (did.answers.1 (tied.ranked c.args.target ∙ is))) in
    (priority_accepted p (omega (arith, c.if-target-eq0.false)) is o, same-state refl turned (λ q. refl) refl refl refl refl ∙ ap (λ w. after state (ranking c.args.target w)) (sym o))

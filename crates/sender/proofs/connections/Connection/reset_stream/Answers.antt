use Rattle.std.proofs.Common.{refl, inl, inr}
use Rattle.model.specs.Rules.{reset_idle, reset_closed, reset_accepted}
use Rattle.sender.proofs.connections.Connection.reset_stream.Goals as goal

pub returns-then-id-eq0 : goal.returns-then-id-eq0
returns-then-id-eq0 g c = rw c.new.ensures (λ k tied. (reset_idle (inl c.if-id-eq0.true), refl))

pub returns-in-Idle : goal.returns-in-Idle
returns-in-Idle g c = rw c.new-in-Idle.ensures (λ k tied. (reset_idle (inr (c.if-id-eq0.false, (c.in-Idle.ensures k).0, (c.in-Idle.ensures k).1)), refl))

pub returns-in-Closed : goal.returns-in-Closed
returns-in-Closed g c k tied = (reset_closed (c.in-Closed.ensures k), refl)

pub returns-in-Open : goal.returns-in-Open
returns-in-Open g c k tied =
    let is = c.in-Open.ensures k in
    (reset_accepted is, c.close.ensures k tied is)

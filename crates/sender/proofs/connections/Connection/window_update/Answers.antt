use Rattle.std.proofs.Common.{refl}
use Rattle.model.specs.Rules.{window_idle, window_closed}
use Rattle.sender.proofs.connections.Connection.window_update.Goals as goal

pub returns-in-Idle : goal.returns-in-Idle
returns-in-Idle g c = rw c.new.ensures (λ k tied. (window_idle (c.if-id-eq0.false, (c.in-Idle.ensures k).0, (c.in-Idle.ensures k).1), refl))

pub returns-in-Closed : goal.returns-in-Closed
returns-in-Closed g c k tied = (window_closed (c.in-Closed.ensures k), refl)

pub returns-in-Open : goal.returns-in-Open
returns-in-Open g c k = c.raise_stream.ensures k (c.in-Open.ensures k)

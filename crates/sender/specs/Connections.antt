-- What a connection means, beside what its sink has taken.
use Rattle.std.specs.Prelude.{length, vec_items}
use Rattle.credit.specs.declared.gates.Gate as gate
use Rattle.schedule.specs.declared.policies.Policy as policy
use Rattle.sink.specs.Meaning as sink
use Rattle.model.specs.States.{State, Moment}
use Rattle.sender.specs.Streams.{streams_in}
use Rattle.sender.specs.declared.connections.Connection.{Connection}

abbrev pub state_of : {G P : Type 0} → gate.Ghosts G → policy.Ghosts P → Connection G P → sink.Meaning → State
state_of gated ruled c k =
    record {
      gate = gated.meaning c.gate;
      ranks = ruled.ranks c.policy;
      sink = k;
      streams = streams_in (vec_items c.streams.rows);
      many = length (vec_items c.streams.rows);
      live = c.live;
      frame_size = c.frame_size;
      highest = c.highest;
      given = c.given;
    }

abbrev pub moment_of : {G P : Type 0} → gate.Ghosts G → policy.Ghosts P → Connection G P → sink.Meaning → Moment
moment_of gated ruled c k = record { state = state_of gated ruled c k; room = gated.free c.gate; picks = ruled.picks c.policy }

use Rattle.std.proofs.Common.{ℕ, List, map, set, vec_items, refl}
use Rattle.schedule.specs.Ranks.{altered}
use Rattle.records.specs.Records.{seek}
use Rattle.records.specs.Tables.{Is}
use Rattle.wire.specs.declared.priorities.Priority.{Priority}
use Rattle.rotation.specs.declared.seats.Seat.{Seat}
use Rattle.rotation.specs.Orders.{Turned, id_of, with_priority}
use Rattle.rotation.specs.Answering.{refused, done, distinct-turned, is_in, not_in}
use Rattle.rotation.specs.Turning.{altering-found}
use Rattle.rotation.proofs.Sameness.{same}
use Rattle.rotation.proofs.rotations.calls.RotationPolicy.alter.Goals as goal

-- the seat that was found has another priority
now-altered : (order : List Seat) (id : ℕ) (p : Priority) (x : Seat) → Is id_of order id x → Turned order (altered id p) (set order (seek (map id_of order) id) (with_priority p x))
now-altered order id p x is = record { accepted = is_in order id x is; order = altering-found order id p x is.there is.at }

pub returns-in_default : goal.returns-in_default
returns-in_default g c = refused (not_in (vec_items c.args.self.now.table.rows) c.args.id c.in_default.ensures.finds) (same c.args.self.now _ _)

pub invariant_of-self-2 : goal.invariant_of-self-2
invariant_of-self-2 g c =
    let order = vec_items c.args.self.now.table.rows in
    record { roomy = c.args.self.now.roomy; distinct = distinct-turned order _ (altered c.args.id c.args.priority) c.args.self.now.distinct (now-altered order c.args.id c.args.priority c.in-Some.seat.now c.in-Some.ensures.finds) }

pub returns : goal.returns
returns g c = let t = now-altered (vec_items c.args.self.now.table.rows) c.args.id c.args.priority c.in-Some.seat.now c.in-Some.ensures.finds in done refl t.accepted t

-- The order that a rotation holds.
use Rattle.std.specs.Prelude.{List, vec_items}
use Rattle.rotation.specs.declared.rotations.Rotation.{Rotation}
use Rattle.rotation.specs.declared.seats.Seat.{Seat}

-- its seats, in order
abbrev pub order_in : {R : Type 0} → Rotation R → List Seat
order_in s = vec_items s.table.rows

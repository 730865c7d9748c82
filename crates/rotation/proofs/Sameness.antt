-- A rotation whose table is as it was is as it was.
use Rattle.std.proofs.Common.{◌≡◌, sym, subst, vec_items}
use Rattle.std.proofs.Math.Bridge.{le_prop}
use Rattle.records.specs.Tables.{Roomy}
use Rattle.records.specs.declared.tables.Table.{Table}
use Rattle.rotation.specs.declared.rotations.Rotation.{Rotation}
use Rattle.rotation.specs.declared.seats.Seat.{Seat}
use Rattle.rotation.specs.Orders.{Distinct, distinct_prop}

-- that a table has room has one proof, and so has that ids differ
pub same : {R : Type 0} (s : Rotation R) (roomy : Roomy s.table) (distinct : Distinct (vec_items s.table.rows)) → ◌≡◌ {A = Rotation R} (record { table = s.table; rule = s.rule; roomy = roomy; distinct = distinct }) s
same s roomy distinct = λ j. record { table = s.table; rule = s.rule; roomy = (le_prop roomy.0 s.roomy.0 j, le_prop roomy.1 s.roomy.1 j); distinct = distinct_prop _ distinct s.distinct j }

pub same-table : {R : Type 0} (s : Rotation R) (t : Table Seat) (roomy : Roomy t) (distinct : Distinct (vec_items t.rows)) → t ≡ s.table → ◌≡◌ {A = Rotation R} (record { table = t; rule = s.rule; roomy = roomy; distinct = distinct }) s
same-table {R = R} s t roomy distinct e = subst (λ (u : Table Seat). (m : Roomy u) (d : Distinct (vec_items u.rows)) → ◌≡◌ {A = Rotation R} (record { table = u; rule = s.rule; roomy = m; distinct = d }) s) (sym e) (same s) roomy distinct

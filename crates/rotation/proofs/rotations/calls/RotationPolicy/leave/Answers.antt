use Rattle.std.proofs.Common.{◌≡◌, ℕ, Bool, vec_items, sym, subst, ap, ◌∙◌, is_some, Some, None, Option, refl, arith}
use Rattle.std.proofs.lemmas.Bool.{true≢false}
use Rattle.std.specs.Option.{option_map}
use Rattle.schedule.specs.Policies.{Did}
use Rattle.schedule.specs.Ranks.{left}
use Rattle.records.specs.Tables.{without}
use Rattle.rotation.specs.declared.rotations.Rotation.{Rotation}
use Rattle.rotation.specs.declared.seats.Seat.{Seat}
use Rattle.rotation.specs.Answering.{refused, done, seat-lent, seat-taken}
use Rattle.rotation.specs.Orders.{Distinct, Turned, id_of, priority_of, ranked, seat_of}
use Rattle.rotation.specs.Rotations.{order_in}
use Rattle.rotation.specs.Turning.{distinct_without}
use Rattle.rotation.proofs.Sameness.{same-table}
use Rattle.rotation.proofs.rotations.calls.RotationPolicy.leave.Goals as goal

-- the id's seat was taken out, and where it had none all stays
taken-out : {R : Type 0} (s t : Rotation R) (id : ℕ) (r : Bool) (o : Option Seat) → seat_of (order_in s) id ≡ o → r ≡ is_some o → order_in t ≡ without id_of id (order_in s) → (o ≡ None → t ≡ s)
    → Did (λ u. ranked (order_in u)) (λ u e v. Turned (order_in u) e (order_in v)) (left id) s r t
taken-out s t id r None e a rows same = rw a (refused (λ i. true≢false (sym i ∙ ap (λ o. is_some (option_map priority_of o)) e)) (same refl))
taken-out s t id r (Some x) e a rows same = let accepted = ap (λ o. is_some (option_map priority_of o)) e in done a accepted (record { accepted = accepted; order = rows })

pub invariant_of-self : goal.invariant_of-self
invariant_of-self g c =
    let s = c.args.self.now in
    record { roomy = c.remove.ensures.room s.roomy; distinct = subst Distinct (sym c.remove.ensures.rows) (distinct_without (vec_items s.table.rows) c.args.id s.distinct) }

-- the answer may be that of any call which tells of the id's seat
pub returns : goal.returns
returns g c =
    let s = c.args.self.now in
    let seat = seat-taken (vec_items s.table.rows) c.args.id c.remove.result c.remove.ensures.answers in
    taken-out s _ c.args.id _ c.remove.result seat (grind (arith, seat, seat-lent)) c.remove.ensures.rows (λ none. same-table s c.remove.new.self _ _ (c.remove.ensures.stays none))

use Rattle.std.proofs.Common.{◌≤◌, length, vec_items, refl, sym, subst, arith}
use Rattle.schedule.specs.Ranks.{served}
use Rattle.rotation.specs.declared.rotations.Rotation.{Rotation}
use Rattle.rotation.specs.Answering.{distinct-turned, served-turned, unserved-turned, not-out}
use Rattle.rotation.specs.Orders.{Turned}
use Rattle.rotation.specs.Rotations.{order_in}
use Rattle.rotation.proofs.Sameness.{same-table}
use Rattle.rotation.proofs.rotations.calls.RotationPolicy.served.Goals as goal

pub returns-in_default : goal.returns-in_default
returns-in_default g c =
    let s = c.args.self.now in
    let stays = same-table s c.remove.new.self _ _ (c.in_default.ensures.stays refl) in
    record {
      turns = subst (λ (t : Rotation g.row.R.Denot). Turned (order_in s) (served c.args.id c.args.octets) (order_in t)) (sym stays) (unserved-turned (vec_items s.table.rows) c.args.id c.args.octets c.in_default.ensures.answers);
      stays = λ none. stays;
    }

pub invariant_of-self-2 : goal.invariant_of-self-2
invariant_of-self-2 g c =
    let s = c.args.self.now in
    let order = vec_items s.table.rows in
    let most : length order ≤ 64 = omega (arith, s.roomy.0, s.table.rows.ok.0) in
    let turned = served-turned order _ _ c.args.id c.args.octets c.in-Some.seat c.add.result most c.in-Some.ensures.answers c.remove.ensures.rows (c.add.ensures.limit (c.remove.ensures.room s.roomy)) c.add.ensures.rows in
    record { roomy = c.add.ensures.room (c.remove.ensures.room s.roomy); distinct = distinct-turned order _ (served c.args.id c.args.octets) s.distinct turned }

pub returns : goal.returns
returns g c =
    let s = c.args.self.now in
    let order = vec_items s.table.rows in
    let most : length order ≤ 64 = omega (arith, s.roomy.0, s.table.rows.ok.0) in
    record {
      turns = served-turned order _ _ c.args.id c.args.octets c.in-Some.seat c.add.result most c.in-Some.ensures.answers c.remove.ensures.rows (c.add.ensures.limit (c.remove.ensures.room s.roomy)) c.add.ensures.rows;
      stays = λ none. absurd (not-out order c.args.id c.in-Some.seat c.in-Some.ensures.answers none);
    }

use Rattle.std.proofs.Common.{◌<◌, length, is_some, vec_items, refl, sym, ap, ◌∙◌, arith}
use Rattle.std.proofs.lemmas.Bool.{true≢false}
use Rattle.schedule.specs.Ranks.{entered}
use Rattle.rotation.specs.Answering.{refused, done, distinct-turned, entered-turned, room, lent, not_lent}
use Rattle.rotation.proofs.rotations.calls.RotationPolicy.enter.Goals as goal

pub returns-then-len-ge-LIMIT : goal.returns-then-len-ge-LIMIT
returns-then-len-ge-LIMIT g c = refused (λ a. omega (arith, a.1, c.len.ensures, c.if-len-ge-LIMIT.true)) refl

pub returns-then-is_some : goal.returns-then-is_some
returns-then-is_some g c =
    refused (λ a. true≢false (sym (lent (vec_items c.args.self.now.table.rows) c.args.id c.get.result c.get.ensures (sym c.if-is_some.ensures)) ∙ ap is_some a.0)) refl

pub invariant_of-self : goal.invariant_of-self
invariant_of-self g c =
    let s = c.args.self.now in
    let order = vec_items s.table.rows in
    let none = not_lent order c.args.id c.get.result c.get.ensures (sym c.if-is_some.ensures) in
    let few : length order < 64 = omega (arith, c.len.ensures, c.if-len-ge-LIMIT.false) in
    let turned = entered-turned order _ c.args.id c.args.priority c.add.result none few (c.add.ensures.limit s.roomy) c.add.ensures.rows in
    record { roomy = c.add.ensures.room s.roomy; distinct = distinct-turned order _ (entered c.args.id c.args.priority) s.distinct turned }

pub returns : goal.returns
returns g c =
    let s = c.args.self.now in
    let order = vec_items s.table.rows in
    let none = not_lent order c.args.id c.get.result c.get.ensures (sym c.if-is_some.ensures) in
    let few : length order < 64 = omega (arith, c.len.ensures, c.if-len-ge-LIMIT.false) in
    let turned = entered-turned order _ c.args.id c.args.priority c.add.result none few (c.add.ensures.limit s.roomy) c.add.ensures.rows in
    done (room order c.add.result few (c.add.ensures.limit s.roomy)) turned.accepted turned

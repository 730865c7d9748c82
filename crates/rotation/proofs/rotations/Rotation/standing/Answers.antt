use Rattle.std.proofs.Common.{Some, vec_items, sym, ap, ◌∙◌}
use Rattle.rotation.specs.Places.{standing-absent, standing-found}
use Rattle.rotation.proofs.rotations.Rotation.standing.Goals as goal

pub returns-in_err-place : goal.returns-in_err-place
returns-in_err-place g c =
    let absent = rw c.as_slice.ensures.value at c.in_err-place.ensures in
    c.from_residual.ensures ∙ sym (standing-absent g.R.Rule.stands (vec_items c.args.self.now.table.rows) c.args.id absent)

pub returns : goal.returns
returns g c =
    let found = rw c.as_slice.ensures.value at c.in_ok-place.ensures in
    ap (λ s. Some s) c.standing.ensures ∙ standing-found g.R.Rule.stands (vec_items c.args.self.now.table.rows) c.args.id c.in_ok-place.place c.index.result.now found c.index.ensures

use Rattle.std.proofs.Common.{◌≡◌, map, vec_items, refl}
use Rattle.records.specs.Records.{seek}
use Rattle.records.proofs.Ids.{seek-first}
use Rattle.records.proofs.Rows.{lent_found}
use Rattle.records.proofs.tables.Table.get_mut.Goals as goal

pub returns : goal.returns
returns g c =
    let f = c.in_ok-i.ensures in
    let rows = vec_items c.args.self.now.rows in
    let first : seek (map g.R.Record.key rows) c.args.id ≡ c.in_ok-i.i = seek-first _ _ _ f.0 f.1 f.2 in
    (simp first refl, record { follows = tt; finds = lent_found g.R.Record.key rows c.args.id c.in_ok-i.i c.get_mut.result f c.get_mut.ensures.item })

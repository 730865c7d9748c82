use Rattle.std.proofs.Common.{vec_items}
use Rattle.records.proofs.Rows.{found-is}
use Rattle.records.proofs.tables.Table.get.Goals as goal

pub returns : goal.returns
returns g c =
    found-is g.R.Record.key (vec_items c.args.self.now.rows) c.args.id c.in_ok-i.i c.index.result.now c.in_ok-i.ensures c.index.ensures

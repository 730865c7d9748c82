use Rattle.std.proofs.Common.{vec_items}
use Rattle.waiting.proofs.Waiting.{by-history}
use Rattle.waiting.proofs.waits.foremost.Goals as goal

pub returns : goal.returns
returns g c = by-history g.R.Rule.stands g.R.Waits.ahead g.met.R.Waits.goes (vec_items c.args.rotation.now.table.rows) c.args.ids.now c.first.result c.first.ensures.first

use Rattle.std.proofs.Common.{vec_items, sym, ◌∙◌}
use Rattle.records.proofs.Rows.{found-is, without-none, without-found}
use Rattle.records.proofs.tables.Table.remove.Goals as goal

pub returns-in_err-i-clause-rows : goal.returns-in_err-i-clause-rows
returns-in_err-i-clause-rows g c = sym (without-none g.R.Record.key (vec_items c.args.self.now.rows) c.args.id c.in_err-i.ensures)

pub returns-clause-answers : goal.returns-clause-answers
returns-clause-answers g c = found-is g.R.Record.key (vec_items c.args.self.now.rows) c.args.id c.in_ok-i.i c.remove.result c.in_ok-i.ensures c.remove.ensures.value

pub returns-clause-rows : goal.returns-clause-rows
returns-clause-rows g c = c.remove.ensures.items ∙ without-found g.R.Record.key (vec_items c.args.self.now.rows) c.args.id c.in_ok-i.i c.in_ok-i.ensures

use Rattle.accounts.proofs.Soundness.{did}
use Rattle.credit.specs.Calls.{finish}
use Rattle.windows.specs.declared.gates.Windows.{Windows}
use Rattle.windows.proofs.gates.WindowsGate.finish.Goals as goal

pub returns : goal.returns
returns g c = did {G = Windows g.row.L.Denot g.L.Layout} (λ w. w.books) (finish c.args.id) _ _ _ c.finish.ensures

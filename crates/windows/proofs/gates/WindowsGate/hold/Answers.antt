use Rattle.accounts.proofs.Soundness.{did}
use Rattle.credit.specs.Calls.{hold}
use Rattle.windows.specs.declared.gates.Windows.{Windows}
use Rattle.windows.proofs.gates.WindowsGate.hold.Goals as goal

pub returns : goal.returns
returns g c = did {G = Windows g.row.L.Denot g.L.Layout} (λ w. w.books) (hold c.args.id c.args.n) _ _ _ c.hold.ensures

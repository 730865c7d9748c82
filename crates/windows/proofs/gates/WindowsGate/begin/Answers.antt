use Rattle.accounts.proofs.Soundness.{did}
use Rattle.credit.specs.Calls.{begin}
use Rattle.windows.specs.declared.gates.Windows.{Windows}
use Rattle.windows.proofs.gates.WindowsGate.begin.Goals as goal

pub returns : goal.returns
returns g c = did {G = Windows g.row.L.Denot g.L.Layout} (λ w. w.books) (begin c.args.id) _ _ _ c.begin.ensures

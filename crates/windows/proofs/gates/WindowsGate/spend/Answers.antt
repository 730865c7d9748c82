use Rattle.accounts.proofs.Soundness.{did}
use Rattle.credit.specs.Calls.{spend}
use Rattle.windows.specs.declared.gates.Windows.{Windows}
use Rattle.windows.proofs.gates.WindowsGate.spend.Goals as goal

pub returns : goal.returns
returns g c = did {G = Windows g.row.L.Denot g.L.Layout} (λ w. w.books) (spend c.args.id c.args.n) _ _ _ c.spend.ensures

use Rattle.accounts.proofs.Soundness.{did}
use Rattle.credit.specs.Calls.{initial}
use Rattle.windows.specs.declared.gates.Windows.{Windows}
use Rattle.windows.proofs.gates.WindowsGate.initial.Goals as goal

pub returns : goal.returns
returns g c = did {G = Windows g.row.L.Denot g.L.Layout} (λ w. w.books) (initial c.args.v) _ _ _ c.initial.ensures

use Rattle.model.proofs.Law.{goes_on}
use Rattle.sender.proofs.Meanings.{meant-of}
use Rattle.sender.proofs.connections.Connection.open.Goals as goal

pub returns : goal.returns
returns g c k = goes_on _ _ _ _ (meant-of g.G.Gate g.P.Policy g.met.G.Gate.sound g.met.G.Gate.roomy g.met.P.Policy.least c.opened.new.self k) (c.opened.ensures k)

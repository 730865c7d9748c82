use Rattle.std.proofs.Common.{refl}
use Rattle.model.specs.Rules.{acknowledged, not_ours}
use Rattle.sender.proofs.connections.Connection.handled.Goals as goal

pub returns-in-SettingsAck : goal.returns-in-SettingsAck
returns-in-SettingsAck g c = rw c.in-SettingsAck.is (λ k tied. (acknowledged, refl))

pub returns-in-Other : goal.returns-in-Other
returns-in-Other g c = rw c.in-Other.is (λ k tied. (not_ours, refl))

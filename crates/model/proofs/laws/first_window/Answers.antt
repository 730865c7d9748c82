use Rattle.std.proofs.Common.{refl}
use Rattle.model.proofs.Law.{every-run}
use Rattle.model.proofs.laws.first_window.Goals as goal

pub returns : goal.returns
returns c = record { window = refl; law = every-run }

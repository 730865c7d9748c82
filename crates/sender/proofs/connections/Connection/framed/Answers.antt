use Rattle.std.proofs.Common.{refl}
use Rattle.std.proofs.lemmas.Result.{err_from_is_err_and}
use Rattle.model.specs.Rules.{dead}
use Rattle.sender.proofs.connections.Connection.framed.Goals as goal

pub returns-in_err-alive : goal.returns-in_err-alive
returns-in_err-alive g c =
    let p = err_from_is_err_and c.from_residual.result c.from_residual.ensures.1 in
    let a = c.in_err-alive.ensures in
    rw (p.1, p.2, a.1) (λ k tied. (dead a.0, refl))

use Rattle.std.proofs.Common.{vec_items, sym, refl, ◌∙◌, arith}
use Rattle.std.proofs.lemmas.Result.{err_from_is_err_and}
use Rattle.std.proofs.lemmas.Bool.{true≢false}
use Rattle.sender.specs.Connections.{state_of}
use Rattle.model.specs.Rules.{Full, dead, opens, bad_id, full, opened}
use Rattle.sender.proofs.Rows.{ordered-wider}
use Rattle.sender.proofs.connections.Connection.opened.Goals as goal

pub returns-in_err-alive : goal.returns-in_err-alive
returns-in_err-alive g c =
    let p = err_from_is_err_and c.from_residual.result c.from_residual.ensures.1 in
    let a = c.in_err-alive.ensures in
    rw (p.1, p.2, a.1) (λ k tied. (dead a.0, refl))

pub returns-in_err-openable : goal.returns-in_err-openable
returns-in_err-openable g c =
    let p = err_from_is_err_and c.from_residual-in_err-openable.result c.from_residual-in_err-openable.ensures.1 in
    let a = c.in_err-openable.ensures in
    rw (p.1, p.2, a.1) (λ k tied. (opens c.in_ok-alive.ensures (bad_id a.0), refl))

pub invariant_of-self : goal.invariant_of-self
invariant_of-self g c =
    let s = c.args.self.now in
    let a = c.in_ok-openable.ensures in
    record { roomy = s.roomy; order = ordered-wider 0 0 s.highest c.args.id (vec_items s.streams.rows) (omega arith) (omega arith) s.order }

pub returns-then-full : goal.returns-then-full
returns-then-full g c =
    let a = c.in_ok-openable.ensures in
    rw c.new.ensures (λ k tied. (opens c.in_ok-alive.ensures (full (record { odd = a.0; fits = a.1; above = a.2 }) ((c.full.ensures k).0 c.if-full.true)), refl))

pub returns : goal.returns
returns g c k tied =
    let a = c.in_ok-openable.ensures in
    let unfull : Full (state_of g.G.Gate g.P.Policy c.args.self.now k) → ⊥ = λ h. true≢false (sym ((c.full.ensures k).1 h) ∙ c.if-full.false) in
    let b = c.begin.ensures k tied unfull in
    (rw c.first_priority-priority.ensures (opens c.in_ok-alive.ensures (opened (record { odd = a.0; fits = a.1; above = a.2 }) unfull)), b)

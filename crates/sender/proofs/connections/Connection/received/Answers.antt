use Rattle.std.proofs.Common.{Ok, sym, ◌∙◌}
use Rattle.std.proofs.lemmas.Result.{err_from_is_err_and}
use Rattle.wire.specs.Frames.{told_frame}
use Rattle.model.specs.Rules.{unread, frames}
use Rattle.model.proofs.Effects.{frame-err}
use Rattle.sender.proofs.Endings.{codec-stays, fault-handled, accepted-handled}
use Rattle.sender.proofs.connections.Connection.received.Goals as goal

pub returns-in_err-frame : goal.returns-in_err-frame
returns-in_err-frame g c =
    let p = err_from_is_err_and c.from_residual.result c.from_residual.ensures.1 in
    let e = sym c.in_err-frame.ensures in
    rw (p.1, p.2) (λ k live tied. (unread live e, sym (codec-stays _ _ (frame-err c.args.octets.now _ e))))

pub returns-in_err-accepted : goal.returns-in_err-accepted
returns-in_err-accepted g c =
    let p = err_from_is_err_and c.from_residual-in_err-accepted.result c.from_residual-in_err-accepted.ensures.1 in
    let e = sym c.in_ok-frame.ensures in
    rw (p.1, p.2)
    (λ k live tied.
    let h = c.in_err-accepted.ensures k tied in
    (frames (told_frame c.in_ok-frame.frame) _ live e h.0, h.1 ∙ fault-handled _ _ _ _ h.0))

pub returns : goal.returns
returns g c =
    let e = sym c.in_ok-frame.ensures in
    rw (c.kind_of.ensures, c.stream_of.ensures)
    (λ k live tied.
    let h = c.in_ok-accepted.ensures k tied in
    (frames (told_frame c.in_ok-frame.frame) (Ok c.in_ok-accepted.accepted) live e h.0, h.1 ∙ accepted-handled _ c.args.octets.now (told_frame c.in_ok-frame.frame) c.in_ok-accepted.accepted e))

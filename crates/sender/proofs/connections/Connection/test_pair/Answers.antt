use Rattle.std.proofs.Common.{◌≡◌, ◌<◌, ◌⊎◌, sym, ap, ◌∙◌, arith}
use Rattle.std.proofs.lemmas.Bool.{true≢false}
use Rattle.std.proofs.lemmas.Bool.Decides.{nat_tests}
use Rattle.wire.specs.Parameters.{identifier_of}
use Rattle.model.specs.Rules.{bad_window, bad_size}
use Rattle.sender.proofs.Initial.{decoded}
use Rattle.sender.proofs.connections.Connection.test_pair.Goals as goal

pub returns-then-initial_fits : goal.returns-then-initial_fits
returns-then-initial_fits g c k tied =
    let four : c.args.pair.identifier ≡ 4 = decoded c.args.pair.identifier c.in-Ok-InitialWindow.field-0 c.in-Ok-InitialWindow.ensures ∙ ap identifier_of c.in-Ok-InitialWindow.field-0-is in
    record { window = λ _. (c.initial_fits.ensures k tied).0 c.if-initial_fits.true; size = λ five. absurd (omega (arith, four, five)) }

pub returns-else-initial_fits : goal.returns-else-initial_fits
returns-else-initial_fits g c =
    let four : c.args.pair.identifier ≡ 4 = decoded c.args.pair.identifier c.in-Ok-InitialWindow.field-0 c.in-Ok-InitialWindow.ensures ∙ ap identifier_of c.in-Ok-InitialWindow.field-0-is in
    rw c.new.ensures (λ k tied. bad_window four (λ fits. true≢false (sym ((c.initial_fits.ensures k tied).1 fits) ∙ c.if-initial_fits.false)))

pub returns-else-contains : goal.returns-else-contains
returns-else-contains g c =
    let five : c.args.pair.identifier ≡ 5 = decoded c.args.pair.identifier c.in-Ok-FrameSize.field-0 c.in-Ok-FrameSize.ensures ∙ ap identifier_of c.in-Ok-FrameSize.field-0-is in
    let out : (c.args.pair.value < 16384) ⊎ (16777215 < c.args.pair.value) = grind (arith, nat_tests, c.contains.ensures.value, c.new-in-Ok-FrameSize.ensures.start, c.new-in-Ok-FrameSize.ensures.end) in
    rw c.new-else-contains.ensures (λ k tied. bad_size five out)

use Rattle.recording.proofs.Steps.{line-written}
use Rattle.recording.specs.Listings.{state}
use Rattle.recording.proofs.listings.steps.list.Goals as goal

pub loop-text-preserved : goal.loop-text-preserved
loop-text-preserved c =
    let line = c.in_ok-append_line.ensures in
    line-written (state c.loop-text.listing) (state c.append_line.new.self) _ _ _ _
    c.loop-text.listing.counted.0 line.answer c.if-branch.true line.after line.text c.loop-text.invariant

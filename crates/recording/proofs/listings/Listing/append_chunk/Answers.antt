use Rattle.std.proofs.Common.{arith}
use Rattle.std.proofs.lemmas.Grind.{common_steps}
use Rattle.recording.proofs.Steps.{line-written}
use Rattle.recording.specs.Listings.{state}
use Rattle.recording.proofs.listings.Listing.append_chunk.Goals as goal

pub returns-then-len-ge-CHUNK-clause-text : goal.returns-then-len-ge-CHUNK-clause-text
returns-then-len-ge-CHUNK-clause-text c =
    let line = c.in_ok-append_line.ensures in
    line-written (state c.loop-text.self) (state c.append_line.new.self) _ _ _ _
    c.loop-text.self.counted.0 line.answer c.if-branch.true line.after line.text c.loop-text.invariant.0

pub loop-text-preserved : goal.loop-text-preserved
loop-text-preserved c =
    let line = c.in_ok-append_line.ensures in (
      line-written (state c.loop-text.self) (state c.append_line.new.self) _ _ _ _
          c.loop-text.self.counted.0 line.answer c.if-branch.true line.after line.text c.loop-text.invariant.0,
      grind (arith, common_steps),
    )

use Rattle.std.proofs.Common.{◌++◌, string_bytes, arith}
use Rattle.std.proofs.KnownBytes.{Appends-trans}
use Rattle.std.proofs.lemmas.Grind.{common_steps}
use Rattle.recording.proofs.printing.list_to.Goals as goal

pub loop-text-preserved : goal.loop-text-preserved
loop-text-preserved g c =
    let written = c.loop-text.invariant.1 in
    let text = string_bytes c.append_chunk.new.text in (
      c.clear.ensures.bytes,
      (
        written.0 ++ text,
        Appends-trans _ _ _ written.0 text written.1 (rw c.as_bytes.ensures.value at c.in_ok-write_all.ensures.bytes),
        grind (arith, common_steps),
      ),
    )

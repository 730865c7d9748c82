use Rattle.std.proofs.Common.{◌≡◌, List, [], ◌++◌, ℕ, length, string_bytes}
use Rattle.std.specs.Io.KnownBytes.{Appends}
use Rattle.recording.specs.Listings.{state, to_come}
use Rattle.recording.proofs.printing.list_to.Given as goal

abbrev pub invariant-loop-text : goal.invariant-loop-text
invariant-loop-text g l =
    (string_bytes l.text ≡ [])
    × ((written : List ℕ) × Appends (g.W.Write.contents l.initial.to) (g.W.Write.contents l.to) written × (written ++ to_come (state l.listing) ≡ to_come (state l.initial.listing)))

abbrev pub decreases-loop-text : goal.decreases-loop-text
decreases-loop-text g l = length l.listing.left.now

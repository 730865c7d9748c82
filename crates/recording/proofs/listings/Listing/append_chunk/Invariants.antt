use Rattle.std.proofs.Common.{◌≡◌, ◌≤◌, ◌++◌, length, string_bytes}
use Rattle.recording.specs.Listings.{state, to_come}
use Rattle.recording.proofs.listings.Listing.append_chunk.Given as goal

abbrev pub invariant-loop-text : goal.invariant-loop-text
invariant-loop-text l =
    (string_bytes l.text ++ to_come (state l.self) ≡ string_bytes l.initial.text ++ to_come (state l.initial.self))
    × (length l.self.left.now ≤ length l.initial.self.left.now)

abbrev pub decreases-loop-text : goal.decreases-loop-text
decreases-loop-text l = length l.self.left.now

use Rattle.std.proofs.Common.{◌≡◌, ◌++◌, length, string_bytes}
use Rattle.recording.specs.Listings.{state, to_come, listing_of}
use Rattle.recording.proofs.listings.steps.list.Given as goal

abbrev pub invariant-loop-text : goal.invariant-loop-text
invariant-loop-text l = string_bytes l.text ++ to_come (state l.listing) ≡ listing_of l.octets

abbrev pub decreases-loop-text : goal.decreases-loop-text
decreases-loop-text l = length l.listing.left.now

use Rattle.std.proofs.Common.{◌≡◌, ℕ, ◌≤◌, length}
use Rattle.wire.specs.Grammar.{is_blank}
use Rattle.wire.specs.Values.{absent, members_of}
use Rattle.wire.proofs.priorities.values.read_members.Given as goal

abbrev pub ghost-skip : goal.ghost-skip
ghost-skip a = is_blank

abbrev pub invariant-loop-latest : goal.invariant-loop-latest
invariant-loop-latest l = (k : ℕ) × (length l.reader.rest.now ≤ k) × (members_of k l.latest l.reader.rest.now ≡ members_of (length l.text) absent l.text)

abbrev pub decreases-loop-latest : goal.decreases-loop-latest
decreases-loop-latest l = length l.reader.rest.now

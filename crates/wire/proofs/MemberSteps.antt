-- One step of reading members: what comes of a value whose first member was read.
use Rattle.std.proofs.Common.{◌≡◌, ℕ, suc, List, Some, sym, ap}
use Rattle.wire.specs.declared.priorities.Latest.{Latest}
use Rattle.wire.specs.Grammar.{is_blank}
use Rattle.wire.specs.Values.{past, and_then, member_at, go_on, members_of}

pub one-read : (j k : ℕ) (l m : Latest) (bs after : List ℕ) → k ≡ suc j → Some (record { value = m; rest = after }) ≡ member_at l bs → members_of k l bs ≡ go_on (members_of j) m (past is_blank after)
one-read j k l m bs after n e = rw n (ap (λ first. and_then first (λ next rest. go_on (members_of j) next (past is_blank rest))) (sym e))

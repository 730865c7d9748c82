-- What a memory holds after two frames of a stream were written through a byte sink.
use Rattle.std.specs.Prelude.{ℕ, ◌+◌, ◌-◌, min, Bool, true, false, cond, ◌&&◌, List, length, nat_le}
use Rattle.wire.specs.DataFrames.{encoded, put_at}

-- the octets that a byte sink may write
abbrev pub space_of : List ℕ → ℕ
space_of memory = min 65536 (length memory)

-- the first frame fits, and so do both
abbrev pub first_fits : List ℕ → List ℕ → Bool
first_fits memory first = nat_le (9 + length first) (space_of memory)

abbrev pub both_fit : List ℕ → List ℕ → List ℕ → Bool
both_fit memory first second = first_fits memory first && nat_le (9 + length second) (space_of memory - (9 + length first))

-- the memory with the first frame at its front, and with the second behind it
abbrev pub with_first : List ℕ → ℕ → List ℕ → List ℕ
with_first memory id first = put_at memory 0 (encoded id false first)

abbrev pub with_both : List ℕ → ℕ → List ℕ → List ℕ → List ℕ
with_both memory id first second = put_at (with_first memory id first) (9 + length first) (encoded id true second)

abbrev pub after_pair : List ℕ → ℕ → List ℕ → List ℕ → List ℕ
after_pair memory id first second = cond (both_fit memory first second) (with_both memory id first second) (cond (first_fits memory first) (with_first memory id first) memory)

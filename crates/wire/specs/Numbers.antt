-- Numbers in octets, the highest octet first.
use Rattle.std.specs.Prelude.{ℕ, zero, suc, ◌+◌, ◌*◌, ◌/◌, ◌%◌, ◌^◌, List, [], ◌∷◌}

-- the number that octets write behind a number n: each octet counts 256 times less than the one before it
abbrev pub number_after : ℕ → List ℕ → ℕ
number_after n [] = n
number_after n (b ∷ bs) = number_after (n * 256 + b) bs

-- the number that octets write
abbrev pub number_of : List ℕ → ℕ
number_of bs = number_after 0 bs

-- the octets of a number in a width; what is above the width is lost
abbrev pub octets_of : ℕ → ℕ → List ℕ
octets_of zero n = []
octets_of (suc width) n = (n / 256 ^ width % 256) ∷ octets_of width n

-- the top bit of a stream id or of an increment is reserved
abbrev pub without_top_bit : ℕ → ℕ
without_top_bit n = n % 2147483648

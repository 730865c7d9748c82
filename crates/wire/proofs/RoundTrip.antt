-- What is written is read as it was meant.
use Rattle.std.proofs.Common.{◌≡◌, ℕ, ◌+◌, ◌^◌, ◌<◌, Bool, true, false, cond, not, eqb, ltb, List, ◌++◌, length, Ok, refl, ap, ◌∙◌, mod-eq_of_lt, arith}
use lib.Bits.{bit_and}
use Rattle.std.proofs.lemmas.Bool.{le-ltb, eq-eqb}
use Rattle.wire.specs.declared.headers.Header.{Header}
use Rattle.wire.specs.Numbers.{without_top_bit}
use Rattle.wire.specs.Faults.{not_whole}
use Rattle.wire.specs.Frames.{field, refuse, behind, header_of, header_octets, lowest_flag}
use Rattle.wire.specs.DataFrames.{data_of, encoded}
use Rattle.wire.proofs.Octets.{number-octets}

-- a header that is written before a payload of its length is read as it was meant, but for the reserved bit
pub header-back : (h : Header) (payload : List ℕ) → h.length ≡ length payload → length payload < 2 ^ 24
    → header_of (header_octets h ++ payload) ≡ Ok (record { length = h.length; kind = h.kind; flags = h.flags; stream = without_top_bit h.stream })
header-back h payload e short =
    let o : List ℕ = header_octets h ++ payload in
    let len : field o 0 3 ≡ h.length = number-octets 3 h.length (omega arith) in
    let id : field o 5 4 ≡ without_top_bit h.stream = number-octets 4 (without_top_bit h.stream) (omega arith) in
    let same : without_top_bit (field o 5 4) ≡ without_top_bit h.stream = ap without_top_bit id ∙ mod-eq_of_lt (omega arith) in
    let long : ltb (length o) 9 ≡ false = le-ltb (length o) 9 (omega arith) in
    let whole : eqb (length o) (9 + h.length) ≡ true = eq-eqb (length o) (9 + h.length) (omega arith) in
    simp (long, len, whole, same)

flag-back : (end : Bool) → not (eqb (bit_and (cond end 1 0) 1) 0) ≡ end
flag-back true = refl
flag-back false = refl

pub data-back : (stream : ℕ) (end : Bool) (payload : List ℕ) → stream < 2 ^ 31 → length payload < 2 ^ 24
    → data_of (encoded stream end payload) ≡ Ok (record { stream = stream; end = end; payload = payload })
data-back stream end payload hi short =
    let h = header-back (record { length = length payload; kind = 0; flags = cond end 1 0; stream = stream }) payload refl short in
    let id : without_top_bit stream ≡ stream = mod-eq_of_lt hi in
    ap (λ r. behind r (λ g. refuse (not (eqb g.kind 0)) not_whole (Ok (record { stream = g.stream; end = lowest_flag g; payload = payload })))) h
    ∙ (λ i. Ok (record { stream = id i; end = flag-back end i; payload = payload }))

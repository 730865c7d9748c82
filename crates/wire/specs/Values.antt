-- What a priority value says, by computation from its front; the reader's contract has that this is what the grammar derives.
use Rattle.std.specs.Prelude.{ℕ, zero, suc, ◌+◌, Bool, true, false, cond, ◌&&◌, List, length, take, drop, ℤ, pos, neg_ℤ, Some, None, Option, ◌==◌, nat_le, slice_index}
use Rattle.std.specs.Option.{option_map}
use Rattle.std.specs.List.{prefix_len}
use Rattle.wire.specs.declared.priorities.Item.{Item}
use Rattle.wire.specs.declared.priorities.Item.TheVariants.{Boolean, Integer}
use Rattle.wire.specs.declared.priorities.Latest.{Latest}
use Rattle.wire.specs.declared.priorities.Priority.{Priority}
use Rattle.wire.specs.Grammar.{is_space, is_blank, is_digit, starts_key, goes_on_key, decimal_of, is_named, priority_of}

-- what follows the octets at the front that pass a test
abbrev pub past : (ℕ → Bool) → List ℕ → List ℕ
past test bs = drop (prefix_len test bs) bs

-- what was read at the front, and the octets behind it
pub record Front (X : Type 0) : Type 0 where
  pub value : X
  pub rest : List ℕ

-- a reader's answer with what it left, as one value
abbrev pub leaving : {X : Type 0} → Option X → List ℕ → Option (Front X)
leaving None rest = None
leaving (Some x) rest = Some (record { value = x; rest = rest })

abbrev pub and_then : {X Y : Type 0} → Option (Front X) → (X → List ℕ → Option Y) → Option Y
and_then None next = None
and_then (Some r) next = next r.value r.rest

-- how many octets the key at the front has, if one begins there
abbrev pub key_length : List ℕ → ℕ
key_length bs = 1 + prefix_len goes_on_key (drop 1 bs)

abbrev pub key_at : List ℕ → Option (Front (List ℕ))
key_at bs = cond (starts_key (slice_index bs 0)) (Some (record { value = take (key_length bs) bs; rest = drop (key_length bs) bs })) None

abbrev pub signed : Bool → ℕ → ℤ
signed negative n = cond negative (neg_ℤ (pos n)) (pos n)

abbrev pub digit_count : List ℕ → ℕ
digit_count bs = prefix_len is_digit bs

abbrev pub integer_at : Bool → List ℕ → Option (Front Item)
integer_at negative bs =
    cond (nat_le 1 (digit_count bs) && nat_le (digit_count bs) 15)
    (Some (record { value = Integer (signed negative (decimal_of (take (digit_count bs) bs))); rest = drop (digit_count bs) bs }))
    None

abbrev pub boolean_at : List ℕ → Option (Front Item)
boolean_at bs =
    cond (slice_index bs 0 == 48) (Some (record { value = Boolean false; rest = drop 1 bs }))
    (cond (slice_index bs 0 == 49) (Some (record { value = Boolean true; rest = drop 1 bs })) None)

abbrev pub item_at : List ℕ → Option (Front Item)
item_at bs = cond (slice_index bs 0 == 63) (boolean_at (drop 1 bs)) (cond (slice_index bs 0 == 45) (integer_at true (drop 1 bs)) (integer_at false bs))

abbrev pub absent : Latest
absent = record { u = None; i = None }

-- one member more
abbrev pub noted : Latest → List ℕ → Item → Latest
noted l name item = record { u = cond (is_named 117 name) (Some item) l.u; i = cond (is_named 105 name) (Some item) l.i }

abbrev pub after_key : Latest → List ℕ → List ℕ → Option (Front Latest)
after_key l name bs =
    cond (slice_index bs 0 == 61)
    (and_then (item_at (drop 1 bs)) (λ item rest. Some (record { value = noted l name item; rest = rest })))
    (Some (record { value = noted l name (Boolean true); rest = bs }))

abbrev pub member_at : Latest → List ℕ → Option (Front Latest)
member_at l bs = and_then (key_at bs) (after_key l)

-- what follows a member: the end, or a comma and further members, of which at most n are read
abbrev pub go_on : (Latest → List ℕ → Option Latest) → Latest → List ℕ → Option Latest
go_on further l rest =
    cond (length rest == 0) (Some l)
    (cond (slice_index rest 0 == 44) (further l (past is_blank (drop 1 rest))) None)

abbrev pub members_of : ℕ → Latest → List ℕ → Option Latest
members_of zero l bs = None
members_of (suc n) l bs = and_then (member_at l bs) (λ next after. go_on (members_of n) next (past is_blank after))

-- the latest members of a value
abbrev pub latest_in : List ℕ → Option Latest
latest_in bs = cond (length (past is_space bs) == 0) (Some absent) (members_of (length (past is_space bs)) absent (past is_space bs))

abbrev pub value_of : List ℕ → Option Priority
value_of bs = cond (nat_le (length bs) 256) (option_map priority_of (latest_in bs)) None

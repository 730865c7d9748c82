-- Priority values, the part of RFC 8941 that RFC 9218 needs: which octets a key, an item, a member and a value may be, and what a value means.
use Rattle.std.specs.Prelude.{◌≡◌, ℕ, ◌+◌, ◌-◌, ◌*◌, ◌≤◌, Bool, true, false, cond, ◌&&◌, ◌||◌, List, [], ◌∷◌, ◌++◌, length, pos, negsuc, neg_ℤ, Some, None, Option, ◌==◌, nat_le, slice_index}
use Rattle.std.specs.Option.{unwrap_or}
use Rattle.std.specs.List.{AllByRecursion}
use Rattle.wire.specs.declared.priorities.Item.{Item}
use Rattle.wire.specs.declared.priorities.Item.TheVariants.{Boolean, Integer}
use Rattle.wire.specs.declared.priorities.Latest.{Latest}
use Rattle.wire.specs.declared.priorities.Priority.{Priority}
use Rattle.wire.specs.declared.urgencies.Urgency.{Urgency}
use Rattle.wire.specs.declared.urgencies.Urgency.TheVariants.{U3}
use Rattle.wire.specs.Urgencies.{urgency_numbered}

-- the octets that a value is made of
abbrev pub is_space : ℕ → Bool
is_space b = b == 32

-- a space or a tab
abbrev pub is_blank : ℕ → Bool
is_blank b = b == 32 || b == 9

-- 0 to 9
abbrev pub is_digit : ℕ → Bool
is_digit b = nat_le 48 b && nat_le b 57

-- a to z
abbrev pub is_letter : ℕ → Bool
is_letter b = nat_le 97 b && nat_le b 122

-- a letter or "*"
abbrev pub starts_key : ℕ → Bool
starts_key b = is_letter b || b == 42

-- a letter, a digit, "_", "-", "." or "*"
abbrev pub goes_on_key : ℕ → Bool
goes_on_key b = is_letter b || (is_digit b || (b == 95 || (b == 45 || (b == 46 || b == 42))))

-- every octet passes a test
abbrev pub Each : (ℕ → Bool) → List ℕ → Type 0
Each test bs = AllByRecursion (λ b. test b ≡ true) bs

-- a key
pub data Key : List ℕ → Type 0 where
  key : (b : ℕ) (bs : List ℕ) → starts_key b ≡ true → Each goes_on_key bs → Key (b ∷ bs)

-- one to fifteen digits
pub record Digits (ds : List ℕ) : Type 0 where
  pub each : Each is_digit ds
  pub some : 1 ≤ length ds
  pub few : length ds ≤ 15

-- the number that digits write behind a number n
abbrev pub decimal_after : ℕ → List ℕ → ℕ
decimal_after n [] = n
decimal_after n (d ∷ ds) = decimal_after (n * 10 + (d - 48)) ds

-- the number that digits write
abbrev pub decimal_of : List ℕ → ℕ
decimal_of ds = decimal_after 0 ds

-- an item: "?0" or "?1", or digits, alone or behind "-"
pub data Spells : List ℕ → Item → Type 0 where
  off : Spells (63 ∷ 48 ∷ []) (Boolean false)
  on : Spells (63 ∷ 49 ∷ []) (Boolean true)
  plus : (ds : List ℕ) → Digits ds → Spells ds (Integer (pos (decimal_of ds)))
  minus : (ds : List ℕ) → Digits ds → Spells (45 ∷ ds) (Integer (neg_ℤ (pos (decimal_of ds))))

-- a member: a key, and what it says
pub record Member : Type 0 where
  pub name : List ℕ
  pub item : Item

-- a key alone says true; else "=" and an item follow it
pub data OneMember : List ℕ → Member → Type 0 where
  bare : (k : List ℕ) → Key k → OneMember k (record { name = k; item = Boolean true })
  full : (k t : List ℕ) (i : Item) → Key k → Spells t i → OneMember (k ++ (61 ∷ t)) (record { name = k; item = i })

-- members joined by commas, with spaces or tabs around each comma and behind the last member
pub data Members : List ℕ → List Member → Type 0 where
  last : (t w : List ℕ) (m : Member) → OneMember t m → Each is_blank w → Members (t ++ w) (m ∷ [])
  more : (t w v bs : List ℕ) (m : Member) (ms : List Member) → OneMember t m → Each is_blank w → Each is_blank v → Members bs ms → Members (t ++ (w ++ (44 ∷ (v ++ bs)))) (m ∷ ms)

-- a value: spaces, and then nothing, or members
pub data Value : List ℕ → List Member → Type 0 where
  empty : (w : List ℕ) → Each is_space w → Value w []
  some : (w bs : List ℕ) (ms : List Member) → Each is_space w → Members bs ms → Value (w ++ bs) ms

-- a key that is one letter
abbrev pub is_named : ℕ → List ℕ → Bool
is_named letter name = length name == 1 && slice_index name 0 == letter

-- what members say of a key of one letter, behind what was said of it before: of equal keys the last member stands
abbrev pub latest_after : Option Item → ℕ → List Member → Option Item
latest_after before letter [] = before
latest_after before letter (m ∷ ms) = latest_after (cond (is_named letter m.name) (Some m.item) before) letter ms

-- the latest members "u" and "i"
abbrev pub latest_of : List Member → Latest
latest_of ms = record { u = latest_after None 117 ms; i = latest_after None 105 ms }

-- an integer from 0 to 7 is an urgency; anything else, and an absent member, is 3
abbrev pub urgency_of : Option Item → Urgency
urgency_of None = U3
urgency_of (Some (Boolean b)) = U3
urgency_of (Some (Integer (pos n))) = unwrap_or (urgency_numbered n) U3
urgency_of (Some (Integer (negsuc n))) = U3

-- only what says true is true
abbrev pub is_true : Option Item → Bool
is_true None = false
is_true (Some (Boolean b)) = b
is_true (Some (Integer n)) = false

abbrev pub priority_of : Latest → Priority
priority_of l = record { urgency = urgency_of l.u; incremental = is_true l.i }

-- what a value's members mean
abbrev pub meaning : List Member → Priority
meaning ms = priority_of (latest_of ms)

-- a value that is read has at most 256 octets
abbrev pub Readable : List ℕ → List Member → Type 0
Readable bs ms = Value bs ms × (length bs ≤ 256)

-- an answer to some octets: a priority exactly where they can be derived, and every derivation means that one; none exactly where they cannot
abbrev pub Reads : List ℕ → Option Priority → Type 0
Reads bs None = (ms : List Member) → Readable bs ms → ⊥
Reads bs (Some p) = ((ms : List Member) × Readable bs ms) × ((ms : List Member) → Readable bs ms → p ≡ meaning ms)

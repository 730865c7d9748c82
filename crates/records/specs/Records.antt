-- Records, by the list of their ids.
use Rattle.std.specs.Prelude.{◌≡◌, ℕ, suc, ◌<◌, cond, List, [], ◌∷◌, length, Some, None, Option, ◌==◌, ◌≢◌, slice_index}

-- no record has the id
abbrev pub Absent : List ℕ → ℕ → Type 0
Absent ids id = (k : ℕ) → k < length ids → slice_index ids k ≢ id

-- the index of the first record with the id; none exactly where no record has it
abbrev pub Finds : List ℕ → ℕ → Option ℕ → Type 0
Finds ids id None = Absent ids id
Finds ids id (Some i) = (i < length ids) × (slice_index ids i ≡ id) × ((k : ℕ) → k < i → slice_index ids k ≢ id)

-- how many records stand before the first with the id: all of them, where none has it
abbrev pub seek : List ℕ → ℕ → ℕ
seek [] id = 0
seek (k ∷ ids) id = cond (k == id) 0 (suc (seek ids id))

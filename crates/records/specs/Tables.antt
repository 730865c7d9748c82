-- A table of records: the record with an id, and the table without it.
use Rattle.std.specs.Prelude.{◌≡◌, ℕ, ◌<◌, ◌≤◌, cond, List, [], ◌∷◌, map, length, Some, None, Option, ◌==◌, slice_index_or, vec_len, vec_capacity}
use Rattle.std.specs.Borrow.{Bor, MutBor}
use Rattle.records.specs.Records.{Absent, seek}
use Rattle.records.specs.declared.tables.Table.{Table}

-- a table holds at most 64 records, and has the memory for as many
abbrev pub Roomy : {R : Type 0} → Table R → Type 0
Roomy t = (vec_len t.rows ≤ 64) × (64 ≤ vec_capacity t.rows)

-- a record is the first with the id
pub record Is {X : Type 0} (key : X → ℕ) (rows : List X) (id : ℕ) (x : X) : Type 0 where
  pub there : seek (map key rows) id < length rows
  pub at : x ≡ slice_index_or rows (seek (map key rows) id) x
  pub named : key x ≡ id

-- the record with the id is lent; none exactly where no record has it
abbrev pub Found : {X : Type 0} → (X → ℕ) → List X → ℕ → Option (Bor X) → Type 0
Found key rows id None = Absent (map key rows) id
Found key rows id (Some x) = Is key rows id x.now

-- the record with the id is lent to be changed; none exactly where no record has it
abbrev pub FoundMut : {X : Type 0} → (X → ℕ) → List X → ℕ → Option (MutBor X) → Type 0
FoundMut key rows id None = Absent (map key rows) id
FoundMut key rows id (Some x) = Is key rows id x.now

-- the record with the id is taken
abbrev pub Taken : {X : Type 0} → (X → ℕ) → List X → ℕ → Option X → Type 0
Taken key rows id None = Absent (map key rows) id
Taken key rows id (Some x) = Is key rows id x

-- the records but for the first with the id, in their order
abbrev pub without : {X : Type 0} → (X → ℕ) → ℕ → List X → List X
without key id [] = []
without key id (x ∷ xs) = cond (key x == id) xs (x ∷ without key id xs)

-- the record with an id, as a value; none where no record has it
abbrev pub record_of : {X : Type 0} → (X → ℕ) → List X → ℕ → Option X
record_of key [] id = None
record_of key (x ∷ xs) id = cond (key x == id) (Some x) (record_of key xs id)

-- no two records have one id
abbrev pub Distinct : {X : Type 0} → (X → ℕ) → List X → Type 0
Distinct key [] = Unit {0}
Distinct key (x ∷ xs) = (record_of key xs (key x) ≡ None) × Distinct key xs

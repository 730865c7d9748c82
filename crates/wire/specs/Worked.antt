-- Worked priority values: each with the answer that the grammar gives it.
use Rattle.std.specs.Prelude.{ℕ, true, false, List, [], ◌∷◌, map, Some, None, codes, Option}
use Rattle.std.specs.List.{AllByRecursion}
use Rattle.wire.specs.declared.priorities.Priority.{Priority}
use Rattle.wire.specs.declared.urgencies.Urgency.TheVariants.{U0, U3, U5}
use Rattle.wire.specs.Grammar.{Reads}

-- a value, and the reader's answer to it
pub record Example : Type 0 where
  pub value : List ℕ
  pub answer : Option Priority

abbrev pub examples : List Example
examples =
    record { value = codes "u=1, u=9"; answer = Some (record { urgency = U3; incremental = false }) }
    ∷ record { value = codes "i=?0, u=-0"; answer = Some (record { urgency = U0; incremental = false }) }
    ∷ record { value = codes "u=5 , i"; answer = Some (record { urgency = U5; incremental = true }) }
    ∷ record { value = codes "u=2,"; answer = None }
    ∷ []

abbrev pub answers : List (Option Priority)
answers = map (λ e. e.answer) examples

-- the answers are the grammar's
abbrev pub Derived : Type 0
Derived = AllByRecursion (λ e. Reads e.value e.answer) examples

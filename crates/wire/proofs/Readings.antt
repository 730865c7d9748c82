-- What is computed of a value is what the grammar says of it.
use Rattle.std.proofs.Common.{◌≡◌, ℕ, leb, List, [], ◌∷◌, length, Some, None, Option, refl, ap, ◌∙◌}
use Rattle.std.specs.Option.{option_map}
use Rattle.std.specs.List.{AllByRecursion}
use Rattle.std.proofs.lemmas.Bool.{cond-true, le-leb, leb-true}
use Rattle.wire.specs.declared.priorities.Latest.{Latest}
use Rattle.wire.specs.declared.priorities.Priority.{Priority}
use Rattle.wire.specs.Grammar.{Member, Value, priority_of, meaning, Readable, Reads}
use Rattle.wire.specs.Values.{latest_in, value_of}
use Rattle.wire.specs.Worked.{Example}
use Rattle.wire.proofs.Meanings.{gathered-latest}
use Rattle.wire.proofs.Sound.{by_first, sound}
use Rattle.wire.proofs.Complete.{complete}

read_whole : (bs : List ℕ) (ms : List Member) → Readable bs ms → value_of bs ≡ Some (meaning ms)
read_whole bs ms (derived, few) =
    cond-true _ _ None (le-leb (length bs) 256 few)
    ∙ ap (option_map priority_of) (complete bs ms derived ∙ ap Some (gathered-latest ms))

-- a priority that was read has a derivation
derived-from : (bs : List ℕ) (o : Option Latest) (p : Priority) → o ≡ latest_in bs → Some p ≡ option_map priority_of o → (ms : List Member) × Value bs ms
derived-from bs None p e is = cc
derived-from bs (Some q) p e is = let s = sound bs q e in (s.0, s.1)

pub reads : (bs : List ℕ) (r : Option Priority) → r ≡ value_of bs → Reads bs r
reads bs None e = λ ms readable. let is = read_whole bs ms readable in cc
reads bs (Some p) e =
    let way = by_first (leb (length bs) 256) p (option_map priority_of (latest_in bs)) e in
    let from = derived-from bs (latest_in bs) p refl way.1 in (
      (from.0, (from.1, leb-true (length bs) 256 way.0)),
      λ ms readable. let is = read_whole bs ms readable in cc,
    )

-- examples whose answers are computed are derived
pub examples-derived : (es : List Example) → AllByRecursion (λ e. e.answer ≡ value_of e.value) es → AllByRecursion (λ e. Reads e.value e.answer) es
examples-derived [] h = tt
examples-derived (e ∷ es) h = (reads e.value e.answer h.0, examples-derived es h.1)

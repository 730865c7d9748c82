-- The seat of an id, and where it stands.
use Rattle.std.specs.Prelude.{◌≡◌, ℕ, ◌⊎◌, List, [], ◌∷◌, map, Some, None, Option, slice_index_or, refl}
use Rattle.std.proofs.Common.{arith, sym, ◌∙◌, ⊎_elim, eq-eqb, ne_eqb}
use Rattle.std.specs.Option.{option_map}
use Rattle.std.proofs.lemmas.Bool.{cases_eq}
use Rattle.records.specs.Records.{seek, Absent, Finds}
use Rattle.records.proofs.Lookups.{record-absent, record-found, record-named}
use Rattle.records.proofs.Ids.{seek-first}
use Rattle.records.proofs.Rows.{found-is}
use Rattle.rotation.specs.declared.seats.Seat.{Seat}
use Rattle.rotation.specs.declared.standings.Standing.{Standing}
use Rattle.rotation.specs.Orders.{id_of, seat_of}
use Rattle.rotation.specs.Choices.{standing_of}

-- seats at one place have one id
place-apart : (xs : List Seat) (p q : ℕ) (a b : Seat) → seat_of xs p ≡ Some a → seat_of xs q ≡ Some b → seek (map id_of xs) p ≡ seek (map id_of xs) q → p ≡ q
place-apart [] p q a b = λ e f same. absurd cc
place-apart (x ∷ xs) p q a b =
    ⊎_elim
    (λ s. rw (eq-eqb x.id p s) (⊎_elim (λ t. rw (eq-eqb x.id q t) (λ e f same. sym s ∙ t)) (λ n. rw (ne_eqb x.id q n) (λ e f same. absurd (omega arith))) (cases_eq x.id q)))
    (λ m. rw (ne_eqb x.id p m) (⊎_elim (λ t. rw (eq-eqb x.id q t) (λ e f same. absurd (omega arith))) (λ n. rw (ne_eqb x.id q n) (λ e f same. place-apart xs p q a b e f (omega arith))) (cases_eq x.id q)))
    (cases_eq x.id p)

-- what a mapped option came from
pub mapped-some : {X Y : Type 0} (f : X → Y) (o : Option X) (y : Y) → option_map f o ≡ Some y → (x : X) × (o ≡ Some x) × (f x ≡ y)
mapped-some f None y e = absurd cc
mapped-some f (Some x) y e = (x, refl, cc)

pub mapped-none : {X Y : Type 0} (f : X → Y) (o : Option X) → option_map f o ≡ None → o ≡ None
mapped-none f None e = refl
mapped-none f (Some x) e = absurd cc

-- no two ids stand alike, under a rule that tells seats of different ids and places apart
pub stands-apart : (rule : ℕ → Seat → Standing) → ((i j : ℕ) (a b : Seat) → rule i a ≡ rule j b → (a.id ≡ b.id) ⊎ (i ≡ j))
    → (xs : List Seat) (p q : ℕ) (s : Standing) → standing_of rule xs p ≡ Some s → standing_of rule xs q ≡ Some s → p ≡ q
stands-apart rule apart xs p q s e f =
    let a = mapped-some (rule (seek (map id_of xs) p)) (seat_of xs p) s e in
    let b = mapped-some (rule (seek (map id_of xs) q)) (seat_of xs q) s f in
    ⊎_elim
    (λ same. sym (record-named id_of xs p a.0 a.1) ∙ same ∙ record-named id_of xs q b.0 b.1)
    (place-apart xs p q a.0 b.0 a.1 b.1)
    (apart (seek (map id_of xs) p) (seek (map id_of xs) q) a.0 b.0 (a.2 ∙ sym b.2))

-- where an id stands whose seat was found at a place
pub standing-found : (rule : ℕ → Seat → Standing) (xs : List Seat) (id i : ℕ) (x : Seat) → Finds (map id_of xs) id (Some i) → x ≡ slice_index_or xs i x → Some (rule i x) ≡ standing_of rule xs id
standing-found rule xs id i x f at =
    let first : seek (map id_of xs) id ≡ i = seek-first (map id_of xs) id i f.0 f.1 f.2 in
    rw (first, record-found id_of xs id x (found-is id_of xs id i x f at)) refl

pub standing-absent : (rule : ℕ → Seat → Standing) (xs : List Seat) (id : ℕ) → Absent (map id_of xs) id → standing_of rule xs id ≡ None
standing-absent rule xs id none = rw (record-absent id_of xs id none) refl

-- The table of the open streams: what stays in order, and what it is as a function of ids.
use Rattle.std.proofs.Common.{◌≡◌, ℕ, ◌<◌, ◌≤◌, Bool, true, false, cond, eqb, List, [], ◌∷◌, ◌++◌, map, length, set, Some, None, Option, sym, refl, ap, ◌∙◌, ⊎_elim, arith, eq-eqb, ne_eqb}
use Rattle.std.specs.Option.{option_map}
use Rattle.std.specs.Map.{update}
use Rattle.std.proofs.lemmas.Bool.{cases_eq}
use Rattle.std.proofs.lemmas.Bool.Decides.{nat_tests}
use Rattle.records.specs.Records.{seek}
use Rattle.records.specs.Tables.{without, record_of, Distinct}
use Rattle.records.proofs.Lookups.{record-push, record-set, record-without}
use Rattle.model.proofs.Points.{either-way}
use Rattle.sender.specs.Streams.{id_of, ordered, plain, streams_in}
use Rattle.sender.specs.declared.streams.Stream.{Stream}

-- the least and the highest id may be further apart
pub ordered-wider : (a b c d : ℕ) (xs : List Stream) → a ≤ b → c ≤ d → ordered b c xs ≡ true → ordered a d xs ≡ true
ordered-wider a b c d [] l m h = grind (arith, nat_tests)
ordered-wider a b c d (x ∷ xs) l m h = grind (arith, nat_tests, ordered-wider x.id x.id c d xs)

pub ordered-push : (a b : ℕ) (xs : List Stream) (x : Stream) → b < x.id → ordered a b xs ≡ true → ordered a x.id (xs ++ x ∷ []) ≡ true
ordered-push a b [] x l h = grind (arith, nat_tests)
ordered-push a b (y ∷ xs) x l h = grind (arith, nat_tests, ordered-push y.id b xs x)

pub ordered-without : (a b id : ℕ) (xs : List Stream) → ordered a b xs ≡ true → ordered a b (without id_of id xs) ≡ true
ordered-without a b id [] h = h
ordered-without a b id (x ∷ xs) h =
    ⊎_elim
    (λ e. let t : eqb x.id id ≡ true = eq-eqb x.id id e in rw t (ordered-wider a x.id b b xs (grind (arith, nat_tests)) (omega arith) (grind (arith, nat_tests))))
    (λ n. let f : eqb x.id id ≡ false = ne_eqb x.id id n in rw f (grind (arith, nat_tests, ordered-without x.id b id xs)))
    (cases_eq x.id id)

-- ids that rise are distinct
above-none : (a b id : ℕ) (xs : List Stream) → id ≤ a → ordered a b xs ≡ true → record_of id_of xs id ≡ None
above-none a b id [] l h = refl
above-none a b id (x ∷ xs) l h =
    let less : a < x.id = grind (arith, nat_tests) in
    let f : eqb x.id id ≡ false = ne_eqb x.id id (λ e. omega arith) in
    rw f (above-none x.id b id xs (omega arith) (grind (arith, nat_tests)))

pub ordered-distinct : (a b : ℕ) (xs : List Stream) → ordered a b xs ≡ true → Distinct id_of xs
ordered-distinct a b [] h = tt
ordered-distinct a b (x ∷ xs) h = let rest : ordered x.id b xs ≡ true = grind (arith, nat_tests) in (above-none x.id b x.id xs (omega arith) rest, ordered-distinct x.id b xs rest)

-- no id above the highest
pub past-none : (a b id : ℕ) (xs : List Stream) → b < id → ordered a b xs ≡ true → record_of id_of xs id ≡ None
past-none a b id [] l h = refl
past-none a b id (x ∷ xs) l h =
    let rest : ordered x.id b xs ≡ true = grind (arith, nat_tests) in
    let most : x.id ≤ b = top x.id b xs rest in
    let f : eqb x.id id ≡ false = ne_eqb x.id id (λ e. omega arith) in
    rw f (past-none x.id b id xs l rest)
  where
    top : (c d : ℕ) (ys : List Stream) → ordered c d ys ≡ true → c ≤ d
    top c d [] k = grind (arith, nat_tests)
    top c d (y ∷ ys) k = let m : y.id ≤ d = top y.id d ys (grind (arith, nat_tests)) in grind (arith, nat_tests)

-- the streams after a record is added, changed, or taken out
mapped-cond : (b : Bool) (u v : Option Stream) → option_map plain (cond b u v) ≡ cond b (option_map plain u) (option_map plain v)
mapped-cond true u v = refl
mapped-cond false u v = refl

pub streams-push : (xs : List Stream) (x : Stream) (q : ℕ) → record_of id_of xs x.id ≡ None → streams_in (xs ++ x ∷ []) q ≡ update eqb (streams_in xs) x.id (Some (plain x)) q
streams-push xs x q h = ap (option_map plain) (record-push id_of xs x q h) ∙ mapped-cond (eqb q x.id) (Some x) (record_of id_of xs q) ∙ ap (λ b. cond b (Some (plain x)) (streams_in xs q)) (either-way q x.id)

pub streams-set : (xs : List Stream) (id : ℕ) (x : Stream) (q : ℕ) → x.id ≡ id → seek (map id_of xs) id < length xs → streams_in (set xs (seek (map id_of xs) id) x) q ≡ update eqb (streams_in xs) id (Some (plain x)) q
streams-set xs id x q e l = ap (option_map plain) (record-set id_of xs id x q e l) ∙ mapped-cond (eqb q id) (Some x) (record_of id_of xs q) ∙ ap (λ b. cond b (Some (plain x)) (streams_in xs q)) (either-way q id)

pub streams-without : (xs : List Stream) (id q : ℕ) → Distinct id_of xs → streams_in (without id_of id xs) q ≡ update eqb (streams_in xs) id None q
streams-without xs id q d = ap (option_map plain) (record-without id_of xs id q d) ∙ mapped-cond (eqb q id) None (record_of id_of xs q) ∙ ap (λ b. cond b None (streams_in xs q)) (either-way q id)

-- what the table keeps when a record is added, and when one is taken out
pub grown-ordered : (xs ys : List Stream) (highest : ℕ) (x : Stream) (a : Bool) → highest < x.id → ordered 0 highest xs ≡ true → ys ≡ cond a (xs ++ x ∷ []) xs → ordered 0 x.id ys ≡ true
grown-ordered xs ys highest x a above order rows = ap (ordered 0 x.id) rows ∙ cases a
  where
    cases : (b : Bool) → ordered 0 x.id (cond b (xs ++ x ∷ []) xs) ≡ true
    cases true = ordered-push 0 highest xs x above order
    cases false = ordered-wider 0 0 highest x.id xs (omega arith) (omega arith) order

pub shrunk-ordered : (xs ys : List Stream) (highest id : ℕ) → ordered 0 highest xs ≡ true → ys ≡ without id_of id xs → ordered 0 highest ys ≡ true
shrunk-ordered xs ys highest id order rows = ap (ordered 0 highest) rows ∙ ordered-without 0 highest id xs order

-- another record of the same id at its place keeps the order
pub ordered-set : (a b id : ℕ) (xs : List Stream) (y : Stream) → y.id ≡ id → seek (map id_of xs) id < length xs → ordered a b xs ≡ true → ordered a b (set xs (seek (map id_of xs) id) y) ≡ true
ordered-set a b id [] y e = λ l h. absurd (omega arith)
ordered-set a b id (x ∷ xs) y e =
    ⊎_elim
    (λ s. rw (eq-eqb x.id id s) (λ l h. let same : y.id ≡ x.id = e ∙ sym s in rw same h))
    (λ n. rw (ne_eqb x.id id n) (λ l h. grind (arith, nat_tests, ordered-set x.id b id xs y e)))
    (cases_eq x.id id)

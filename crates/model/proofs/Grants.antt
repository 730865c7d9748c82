-- Open grants over a run: what they hold together, and that each grant has one fate.
use Rattle.std.proofs.Common.{◌≡◌, ℕ, ◌+◌, true, false, cond, eqb, List, [], ◌∷◌, Some, Option, sym, refl, ap, ◌∙◌, ⊎_elim, arith, eq-eqb, ne_eqb}
use Rattle.std.specs.List.{AllByRecursion}
use Rattle.std.proofs.lemmas.Bool.{cases_eq}
use Rattle.std.proofs.lemmas.Option.{same_Some}
use Rattle.model.specs.Histories.{on, without_number, without_stream, total, total_on, times, times_on}
use Rattle.model.specs.declared.calls.Grant.{Grant}

-- the grants of one stream go
pub total-without : (q : ℕ) (gs : List Grant) → total (without_stream q gs) + total_on q gs ≡ total gs
total-without q [] = omega arith
total-without q (g ∷ gs) = elim (eqb q g.id) as (λ b. total (cond b (without_stream q gs) (g ∷ without_stream q gs)) + (cond b g.octets 0 + total_on q gs) ≡ g.octets + total gs) [ true ↦ omega (arith, total-without q gs) | false ↦ omega (arith, total-without q gs) ]

pub none-on : (q : ℕ) (gs : List Grant) → total_on q (without_stream q gs) ≡ 0
none-on q [] = refl
none-on q (g ∷ gs) =
    ⊎_elim
    (λ e. let t : eqb q g.id ≡ true = eq-eqb q g.id e in rw t (none-on q gs))
    (λ n. let t : eqb q g.id ≡ false = ne_eqb q g.id n in rw (t, t) (omega (arith, none-on q gs)))
    (cases_eq q g.id)

pub other-on : (p q : ℕ) (gs : List Grant) → (p ≡ q → ⊥) → total_on p (without_stream q gs) ≡ total_on p gs
other-on p q [] n = refl
other-on p q (g ∷ gs) n =
    ⊎_elim
    (λ e.
    let t : eqb q g.id ≡ true = eq-eqb q g.id e in
    let f : eqb p g.id ≡ false = ne_eqb p g.id (λ e₁. n (e₁ ∙ sym e)) in
    rw (t, f) (omega (arith, other-on p q gs n)))
    (λ m. let t : eqb q g.id ≡ false = ne_eqb q g.id m in rw t (ap (λ k. on p g.id g.octets + k) (other-on p q gs n)))
    (cases_eq q g.id)

pub all_without : (P Q : Grant → Type 0) (q : ℕ) (gs : List Grant) → ((g : Grant) → (g.id ≡ q → ⊥) → P g → Q g) → AllByRecursion P gs → AllByRecursion Q (without_stream q gs)
all_without P Q q [] f h = tt
all_without P Q q (g ∷ gs) f h =
    ⊎_elim
    (λ e. let t : eqb q g.id ≡ true = eq-eqb q g.id e in rw t (all_without P Q q gs f h.1))
    (λ n. let t : eqb q g.id ≡ false = ne_eqb q g.id n in rw t (f g (λ e. n (sym e)) h.0, all_without P Q q gs f h.1))
    (cases_eq q g.id)

pub all-to : (P Q : Grant → Type 0) (gs : List Grant) → ((g : Grant) → P g → Q g) → AllByRecursion P gs → AllByRecursion Q gs
all-to P Q [] f h = tt
all-to P Q (g ∷ gs) f h = (f g h.0, all-to P Q gs f h.1)

-- the grant with the number that a stream has open is the only one of the stream
pub number-stream : (o : ℕ → Option ℕ) (id n : ℕ) (gs : List Grant) → o id ≡ Some n → ((p q k : ℕ) → o p ≡ Some k → o q ≡ Some k → p ≡ q) → AllByRecursion (λ g. o g.id ≡ Some g.number) gs → without_number n gs ≡ without_stream id gs
number-stream o id n [] e d h = refl
number-stream o id n (g ∷ gs) e d h =
    ⊎_elim
    (λ s.
    let t : eqb g.number n ≡ true = eq-eqb g.number n s in
    let i : id ≡ g.id = d id g.id n e (h.0 ∙ ap (λ k. Some k) s) in
    let u : eqb id g.id ≡ true = eq-eqb id g.id i in
    rw (t, u) (number-stream o id n gs e d h.1))
    (λ m.
    let t : eqb g.number n ≡ false = ne_eqb g.number n m in
    let u : eqb id g.id ≡ false = ne_eqb id g.id (λ i. m (same_Some g.number n (sym h.0 ∙ ap o (sym i) ∙ e))) in
    rw (t, u) (ap (λ zs. g ∷ zs) (number-stream o id n gs e d h.1)))
    (cases_eq g.number n)

-- how often a number is left
pub times-same : (n : ℕ) (gs : List Grant) → times n (without_number n gs) ≡ 0
times-same n [] = refl
times-same n (g ∷ gs) =
    ⊎_elim
    (λ e. let t : eqb g.number n ≡ true = eq-eqb g.number n e in rw t (times-same n gs))
    (λ m. let t : eqb g.number n ≡ false = ne_eqb g.number n m in rw (t, t) (omega (arith, times-same n gs)))
    (cases_eq g.number n)

pub times-other : (n k : ℕ) (gs : List Grant) → (k ≡ n → ⊥) → times n (without_number k gs) ≡ times n gs
times-other n k [] ne = refl
times-other n k (g ∷ gs) ne =
    ⊎_elim
    (λ e.
    let t : eqb g.number k ≡ true = eq-eqb g.number k e in
    let f : eqb g.number n ≡ false = ne_eqb g.number n (λ i. ne (sym e ∙ i)) in
    rw (t, f) (omega (arith, times-other n k gs ne)))
    (λ m. let t : eqb g.number k ≡ false = ne_eqb g.number k m in rw t (ap (λ z. on g.number n 1 + z) (times-other n k gs ne)))
    (cases_eq g.number k)

pub times-without : (q n : ℕ) (gs : List Grant) → times n (without_stream q gs) + times_on q n gs ≡ times n gs
times-without q n [] = omega arith
times-without q n (g ∷ gs) = elim (eqb q g.id) as (λ b. times n (cond b (without_stream q gs) (g ∷ without_stream q gs)) + (cond b (on g.number n 1) 0 + times_on q n gs) ≡ on g.number n 1 + times n gs) [ true ↦ omega (arith, times-without q n gs) | false ↦ omega (arith, times-without q n gs) ]

pub times_none : (o : ℕ → Option ℕ) (q n : ℕ) (gs : List Grant) → AllByRecursion (λ g. o g.id ≡ Some g.number) gs → (o q ≡ Some n → ⊥) → times_on q n gs ≡ 0
times_none o q n [] h ne = refl
times_none o q n (g ∷ gs) h ne =
    ⊎_elim
    (λ e.
    let t : eqb q g.id ≡ true = eq-eqb q g.id e in
    let f : eqb g.number n ≡ false = ne_eqb g.number n (λ i. ne (ap o e ∙ h.0 ∙ ap (λ z. Some z) i)) in
    rw (t, f) (omega (arith, times_none o q n gs h.1 ne)))
    (λ m. let t : eqb q g.id ≡ false = ne_eqb q g.id m in rw t (omega (arith, times_none o q n gs h.1 ne)))
    (cases_eq q g.id)

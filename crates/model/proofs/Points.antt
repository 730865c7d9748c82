-- Functions of ids that change at one id, and counts on one id.
use Rattle.std.proofs.Common.{◌≡◌, ℕ, ◌≤◌, true, false, cond, eqb, is_some, Some, None, Option, sym, refl, ◌∙◌, subst, ⊎_elim, arith, eq-eqb, ne_eqb, MatchOption}
use Rattle.std.specs.Option.{option_map}
use Rattle.std.specs.Map.{update}
use Rattle.std.proofs.lemmas.Bool.{cases_eq, true≢false}
use Rattle.model.specs.Histories.{on}

pub on_same : (q n : ℕ) → on q q n ≡ n
on_same q n = let t : eqb q q ≡ true = eq-eqb q q refl in rw t refl

pub on-is : (q id n : ℕ) → q ≡ id → on q id n ≡ n
on-is q id n e = let t : eqb q id ≡ true = eq-eqb q id e in rw t refl

pub on-other : (q id n : ℕ) → (q ≡ id → ⊥) → on q id n ≡ 0
on-other q id n ne = let f : eqb q id ≡ false = ne_eqb q id ne in rw f refl

pub on-most : (q id n : ℕ) → on q id n ≤ n
on-most q id n = elim (eqb q id) as (λ b. cond b n 0 ≤ n) [ true ↦ omega arith | false ↦ omega arith ]

-- whether two ids are one is tested either way round
pub either-way : (q id : ℕ) → eqb q id ≡ eqb id q
either-way q id =
    ⊎_elim
    (λ e. eq-eqb q id e ∙ sym (eq-eqb id q (sym e)))
    (λ n. ne_eqb q id n ∙ sym (ne_eqb id q (λ e. n (sym e))))
    (cases_eq q id)

-- what holds at one id of the new value, and at every other id of the old one, holds at each
pub at_each : {X : Type 0} (P : ℕ → Option X → Type 0) (f : ℕ → Option X) (id : ℕ) (o : Option X) → P id o → ((q : ℕ) → (q ≡ id → ⊥) → P q (f q)) → (q : ℕ) → P q (update eqb f id o q)
at_each P f id o here apart q =
    ⊎_elim
    (λ e. let t : eqb id q ≡ true = eq-eqb id q (sym e) in rw t (subst (λ i. P i o) (sym e) here))
    (λ n. let t : eqb id q ≡ false = ne_eqb id q (λ e. n (sym e)) in rw t (apart q n))
    (cases_eq q id)

-- the same of two functions that change at the same id
pub at_both : {X Y : Type 0} (P : ℕ → Option X → Option Y → Type 0) (f : ℕ → Option X) (g : ℕ → Option Y) (id : ℕ) (o : Option X) (u : Option Y) → P id o u → ((q : ℕ) → (q ≡ id → ⊥) → P q (f q) (g q)) → (q : ℕ) → P q (update eqb f id o q) (update eqb g id u q)
at_both P f g id o u here apart q =
    ⊎_elim
    (λ e. let t : eqb id q ≡ true = eq-eqb id q (sym e) in rw t (subst (λ i. P i o u) (sym e) here))
    (λ n. let t : eqb id q ≡ false = ne_eqb id q (λ e. n (sym e)) in rw t (apart q n))
    (cases_eq q id)

pub none-some : {X : Type 0} (o : Option X) (x : X) → o ≡ None → o ≡ Some x → ⊥
none-some o x a b = cc

pub some_is : {X : Type 0} (o : Option X) (x : X) → o ≡ Some x → is_some o ≡ true
some_is o x e = rw e refl

pub none_is : {X : Type 0} (o : Option X) → o ≡ None → is_some o ≡ false
none_is o e = rw e refl

pub is_none : {X : Type 0} (o : Option X) → is_some o ≡ false → o ≡ None
is_none None e = refl
is_none (Some x) e = absurd (true≢false e)

pub some_of : {X : Type 0} (o : Option X) → is_some o ≡ true → (x : X) × (o ≡ Some x)
some_of None e = absurd (true≢false (sym e))
some_of (Some x) e = (x, refl)

pub some_mapped : {X Y : Type 0} (f : X → Y) (o : Option X) → is_some (option_map f o) ≡ is_some o
some_mapped f None = refl
some_mapped f (Some x) = refl

pub cases_of : {X : Type 0} (P : X → Type 0) (o : Option X) (x : X) → o ≡ Some x → P x → MatchOption o ⊥ P
cases_of P o x e h = rw e h

pub cases-is : {X : Type 0} (P : X → Type 0) (o : Option X) → MatchOption o ⊥ P → (x : X) × (o ≡ Some x) × P x
cases-is P None h = absurd h
cases-is P (Some x) h = (x, refl, h)

-- Of two seats that a history placed, the one that stands before the other goes before it, under each rule.
use Rattle.std.specs.Prelude.{◌≡◌, ℕ, ◌<◌, Bool, true, false, cond, ◌⊎◌, is_some, Some, None, Option, List}
use Rattle.std.proofs.Common.{inl, inr, ⊎_elim, arith}
use Rattle.std.proofs.lemmas.Bool.{cases_order}
use Rattle.std.proofs.lemmas.Bool.Decides.{nat_tests}
use Rattle.wire.specs.Urgencies.{urgency_number}
use Rattle.schedule.specs.Ranks.{Event}
use Rattle.rotation.specs.declared.seats.Seat.{Seat}
use Rattle.rotation.specs.declared.standings.Group.{Group}
use Rattle.rotation.specs.declared.standings.Group.TheVariants.{Plain, New, Served}
use Rattle.rotation.specs.declared.standings.Standing.{Standing}
use Rattle.rotation.specs.Choices.{group_number, in_turn, plain_first, before}
use Rattle.waiting.specs.Histories.{Longer, last_served, Earlier, Placed}
use Rattle.waiting.specs.Waits.{waited_longer, PlainFirst, plain_or_waited, GoesBefore}

-- a standing in a group of ours under a number
abbrev at : ℕ → Group → ℕ → Standing
at urgency group number = record { urgency = urgency; group = group_number group; number = number }

-- what comes before by place has waited longer
abbrev turn : ℕ → Bool → ℕ → ℕ → Standing
turn urgency served place id = cond served (at urgency Served place) (at urgency New id)

ranked-by : (u v : ℕ) (g h : Group) (m n : ℕ) (P : Type 0) → before (at u g m) (at v h n) ≡ true
    → ((group_number g < group_number h) ⊎ ((group_number g ≡ group_number h) × (m < n)) → P) → (u < v) ⊎ ((u ≡ v) × P)
ranked-by u v g h m n P b p =
    ⊎_elim
    (λ same. inr (same, p (⊎_elim (λ e. let l : m < n = grind (arith, nat_tests) in inr (e, l)) (⊎_elim inl (λ more. absurd (grind (arith, nat_tests)))) (cases_order (group_number g) (group_number h)))))
    (⊎_elim inl (λ more. absurd (grind (arith, nat_tests))))
    (cases_order u v)

turn-longer : (u v i j a b : ℕ) (s t : Option ℕ) → before (turn u (is_some s) i a) (turn v (is_some t) j b) ≡ true → (i < j → Earlier s t) → (u < v) ⊎ ((u ≡ v) × Longer a s b t)
turn-longer u v i j a b None None h k = ranked-by u v New New a b _ h (⊎_elim (λ l. absurd (omega arith)) (λ e. e.1))
turn-longer u v i j a b None (Some t) h k = ranked-by u v New Served a j _ h (λ l. tt)
turn-longer u v i j a b (Some s) None h k = ranked-by u v Served New i b _ h (⊎_elim (λ l. omega arith) (λ e. omega (arith, e.0)))
turn-longer u v i j a b (Some s) (Some t) h k = ranked-by u v Served Served i j _ h (⊎_elim (λ l. absurd (omega arith)) (λ e. k e.1))

plain-longer : (u v i j a b : ℕ) (m n : Bool) (s t : Option ℕ) → before (cond m (turn u (is_some s) i a) (at u Plain a)) (cond n (turn v (is_some t) j b) (at v Plain b)) ≡ true → (i < j → Earlier s t)
    → (u < v) ⊎ ((u ≡ v) × PlainFirst m n a b (Longer a s b t))
plain-longer u v i j a b false false s t h k = ranked-by u v Plain Plain a b _ h (⊎_elim (λ l. absurd (omega arith)) (λ e. e.1))
plain-longer u v i j a b false true s None h k = ranked-by u v Plain New a b _ h (λ l. tt)
plain-longer u v i j a b false true s (Some t) h k = ranked-by u v Plain Served a j _ h (λ l. tt)
plain-longer u v i j a b true false None t h k = ranked-by u v New Plain a b _ h (⊎_elim (λ l. omega arith) (λ e. omega (arith, e.0)))
plain-longer u v i j a b true false (Some s) t h k = ranked-by u v Served Plain i b _ h (⊎_elim (λ l. omega arith) (λ e. omega (arith, e.0)))
plain-longer u v i j a b true true s t h k = turn-longer u v i j a b s t h k

-- turns, and ordered
pub turn-goes : (history : List Event) (i j : ℕ) (a b : Seat) → Placed history i j a b → before (in_turn i a) (in_turn j b) ≡ true → GoesBefore (waited_longer history) a.id a.priority b.id b.priority
turn-goes history i j a b placed h =
    turn-longer (urgency_number a.priority.urgency) (urgency_number b.priority.urgency) i j a.id b.id (last_served history a.id) (last_served history b.id) (rw (placed.one, placed.other) at h) placed.ahead

pub plain-goes : (history : List Event) (i j : ℕ) (a b : Seat) → Placed history i j a b → before (plain_first i a) (plain_first j b) ≡ true → GoesBefore (plain_or_waited history) a.id a.priority b.id b.priority
plain-goes history i j a b placed h =
    plain-longer (urgency_number a.priority.urgency) (urgency_number b.priority.urgency) i j a.id b.id a.priority.incremental b.priority.incremental (last_served history a.id) (last_served history b.id)
    (rw (placed.one, placed.other) at h) placed.ahead

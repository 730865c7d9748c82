-- What the answers of a rotation tell of a policy.
use Rattle.std.specs.Prelude.{◌≡◌, ℕ, ◌+◌, ◌<◌, ◌≤◌, Bool, true, false, cond, List, [], ◌∷◌, ◌++◌, map, length, is_some, Some, None, Option, ◌≢◌, nat_lt}
use Rattle.std.specs.Borrow.{Bor}
use Rattle.std.proofs.Common.{arith, sym, ◌∙◌, ap, subst, ⊎_elim}
use Rattle.std.specs.Option.{option_map}
use Rattle.std.proofs.lemmas.Bool.{true≢false, false≢true, lt-ltb, cond-true}
use Rattle.std.proofs.lemmas.Bool.Decides.{nat_tests}
use Rattle.records.specs.Records.{seek, Absent}
use Rattle.records.specs.Tables.{Is, Found, Taken, without}
use Rattle.records.proofs.Lookups.{record-absent, record-found, length_without}
use Rattle.wire.specs.declared.priorities.Priority.{Priority}
use Rattle.wire.specs.Urgencies.{urgency_number}
use Rattle.schedule.specs.Ranks.{Ranks, Event, Accepts, Listed, Least, entered, served}
use Rattle.schedule.specs.Policies.{Did}
use Rattle.rotation.specs.declared.seats.Seat.{Seat}
use Rattle.rotation.specs.declared.standings.Standing.{Standing}
use Rattle.rotation.specs.Orders.{id_of, priority_of, seat_of, ranked, Distinct, new_seat, served_now, to_end, Turned}
use Rattle.rotation.specs.Choices.{before, standing_of, First}
use Rattle.rotation.specs.Places.{mapped-some, mapped-none}
use Rattle.rotation.specs.Turning.{distinct-after, few-after}

-- a call that is refused, and one that is accepted
pub refused : {P : Type 0} {ranks : P → Ranks} {turned : P → Event → P → Type 0} {event : Event} {s t : P} → (Accepts (ranks s) event → ⊥) → t ≡ s → Did ranks turned event s false t
refused never same = record { answers = (λ e. absurd (false≢true e), λ a. absurd (never a)); turns = λ e. absurd (false≢true e); stays = λ e. same }

pub done : {P : Type 0} {ranks : P → Ranks} {turned : P → Event → P → Type 0} {event : Event} {s : P} {r : Bool} {t : P} → r ≡ true → Accepts (ranks s) event → turned s event t → Did ranks turned event s r t
done e accepted turns = record { answers = (λ z. accepted, λ a. e); turns = λ z. turns; stays = λ z. absurd (true≢false (sym e ∙ z)) }

-- an accepted event leaves an order of different ids
pub distinct-turned : (xs ys : List Seat) (event : Event) → Distinct xs → Turned xs event ys → Distinct ys
distinct-turned xs ys event d t = subst Distinct (sym t.order) (distinct-after xs event d t.accepted)

-- and at most 64 seats
pub few-turned : (xs ys : List Seat) (event : Event) → length xs ≤ 64 → Turned xs event ys → length ys ≤ 64
few-turned xs ys event few t = subst (λ zs. length zs ≤ 64) (sym t.order) (few-after xs event few t.accepted)

-- a table with fewer than 64 seats takes one more
pub room : (xs : List Seat) (r : Bool) → length xs < 64 → r ≡ nat_lt (length xs) 64 → r ≡ true
room xs r few e = e ∙ lt-ltb (length xs) 64 few

-- an id that has a seat is in, and another is not
pub is_in : (xs : List Seat) (id : ℕ) (x : Seat) → Is id_of xs id x → is_some ((ranked xs).rank id) ≡ true
is_in xs id x is = ap (λ o. is_some (option_map priority_of o)) (record-found id_of xs id x is)

pub is-out : (xs : List Seat) (id : ℕ) → Absent (map id_of xs) id → (ranked xs).rank id ≡ None
is-out xs id none = ap (option_map priority_of) (record-absent id_of xs id none)

pub not-out : (xs : List Seat) (id : ℕ) (x : Seat) → Is id_of xs id x → (ranked xs).rank id ≢ None
not-out xs id x is none = true≢false (sym (is_in xs id x is) ∙ ap is_some none)

pub not_in : (xs : List Seat) (id : ℕ) → Absent (map id_of xs) id → is_some ((ranked xs).rank id) ≢ true
not_in xs id none is = true≢false (sym is ∙ ap is_some (is-out xs id none))

-- the seat that a table takes out is the id's
pub seat-taken : (xs : List Seat) (id : ℕ) (r : Option Seat) → Taken id_of xs id r → seat_of xs id ≡ r
seat-taken xs id None none = record-absent id_of xs id none
seat-taken xs id (Some x) is = record-found id_of xs id x is

-- the seat that a table lends is the id's, so the id is in exactly where one is lent
pub seat-lent : (xs : List Seat) (id : ℕ) (r : Option (Bor Seat)) → Found id_of xs id r → seat_of xs id ≡ option_map (λ x. x.now) r
seat-lent xs id None none = record-absent id_of xs id none
seat-lent xs id (Some x) is = record-found id_of xs id x.now is

pub lent : (xs : List Seat) (id : ℕ) (r : Option (Bor Seat)) → Found id_of xs id r → is_some r ≡ true → is_some ((ranked xs).rank id) ≡ true
lent xs id None none e = absurd cc
lent xs id (Some x) is e = is_in xs id x.now is

pub not_lent : (xs : List Seat) (id : ℕ) (r : Option (Bor Seat)) → Found id_of xs id r → is_some r ≡ false → (ranked xs).rank id ≡ None
not_lent xs id None none e = is-out xs id none
not_lent xs id (Some x) is e = absurd cc

-- a new seat at the end
pub entered-turned : (xs ys : List Seat) (id : ℕ) (p : Priority) (r : Bool) → (ranked xs).rank id ≡ None → length xs < 64
    → r ≡ nat_lt (length xs) 64 → ys ≡ cond r (xs ++ new_seat id p ∷ []) xs → Turned xs (entered id p) ys
entered-turned xs ys id p r none few answers rows = record { accepted = (none, few); order = rows ∙ cond-true r _ _ (room xs r few answers) }

-- a seat that was taken out and put at the end as served
pub served-turned : (xs rest ys : List Seat) (id octets : ℕ) (x : Seat) (r : Bool) → length xs ≤ 64 → Is id_of xs id x → rest ≡ without id_of id xs
    → r ≡ nat_lt (length rest) 64 → ys ≡ cond r (rest ++ served_now x ∷ []) rest → Turned xs (served id octets) ys
served-turned xs rest ys id octets x r most is gone answers rows =
    let seat = record-found id_of xs id x is in
    let fewer : length rest + 1 ≡ length xs = ap (λ zs. length zs + 1) gone ∙ length_without id_of xs id x seat in
    let few : length rest < 64 = omega (arith, most) in
    record {
      accepted = tt;
      order = rows ∙ cond-true r _ _ (answers ∙ lt-ltb (length rest) 64 few) ∙ ap (λ zs. zs ++ served_now x ∷ []) gone ∙ ap (λ o. to_end id o xs) (sym seat);
    }

-- and where the id has no seat, nothing happens
pub unserved-turned : (xs : List Seat) (id octets : ℕ) → Absent (map id_of xs) id → Turned xs (served id octets) xs
unserved-turned xs id octets none = record { accepted = tt; order = ap (λ o. to_end id o xs) (sym (record-absent id_of xs id none)) }

-- the id that comes first has the least urgency
pub least-from : (rule : ℕ → Seat → Standing) → ((i : ℕ) (a : Seat) → (rule i a).urgency ≡ urgency_number a.priority.urgency)
    → (xs : List Seat) (ids : List ℕ) (answer : Option ℕ) → First (standing_of rule xs) ids answer → Least (ranked xs) ids answer
least-from rule urgent xs ids None f = λ q l. ap (option_map priority_of) (mapped-none (rule (seek (map id_of xs) q)) (seat_of xs q) (f q l))
least-from rule urgent xs ids (Some id) f =
    let x = mapped-some (rule (seek (map id_of xs) id)) (seat_of xs id) f.stands f.is in
    record { listed = f.listed; priority = x.0.priority; is_in = ap (option_map priority_of) x.1; least = least x }
  where
    sooner : (s t : Standing) → before s t ≡ true → s.urgency ≤ t.urgency
    sooner s t h = grind (arith, nat_tests)

    least : (x : (y : Seat) × (seat_of xs id ≡ Some y) × (rule (seek (map id_of xs) id) y ≡ f.stands)) (q : ℕ) (p : Priority) → Listed ids q → (ranked xs).rank q ≡ Some p → urgency_number x.0.priority.urgency ≤ urgency_number p.urgency
    least x q p l e =
        let y = mapped-some priority_of (seat_of xs q) p e in
        let mine : f.stands.urgency ≡ urgency_number x.0.priority.urgency = ap (λ s. s.urgency) (sym x.2) ∙ urgent (seek (map id_of xs) id) x.0 in
        let its : (rule (seek (map id_of xs) q) y.0).urgency ≡ urgency_number p.urgency = urgent (seek (map id_of xs) q) y.0 ∙ ap (λ z. urgency_number z.urgency) y.2 in
        ⊎_elim
        (λ same.
        let one : Some x.0 ≡ Some y.0 = sym x.1 ∙ ap (seat_of xs) (sym same) ∙ y.1 in
        let m : x.0 ≡ y.0 = cc in
        let u : urgency_number x.0.priority.urgency ≡ urgency_number p.urgency = ap (λ z. urgency_number z.priority.urgency) m ∙ ap (λ z. urgency_number z.urgency) y.2 in
        omega (arith, u))
        (λ first. omega (arith, mine, its, sooner f.stands (rule (seek (map id_of xs) q) y.0) first))
        (f.first q (rule (seek (map id_of xs) q) y.0) l (ap (option_map (rule (seek (map id_of xs) q))) y.1))

-- The seat that comes first is that of the id that has waited longest.
use Rattle.std.proofs.Common.{get_or, ◌≡◌, ℕ, true, List, map, Some, None, Option, ap, ◌∙◌, subst, inl, inr, ⊎_elim}
use Rattle.std.specs.Option.{option_map}
use Rattle.records.specs.Records.{seek}
use Rattle.records.proofs.Lookups.{record-named}
use Rattle.schedule.specs.Ranks.{Event}
use Rattle.rotation.specs.declared.seats.Seat.{Seat}
use Rattle.rotation.specs.declared.standings.Standing.{Standing}
use Rattle.rotation.specs.Orders.{id_of, priority_of, seat_of, ranked}
use Rattle.rotation.specs.Choices.{before, standing_of, First}
use Rattle.rotation.specs.Places.{mapped-some, mapped-none}
use Rattle.waiting.specs.Histories.{last_served, Placed}
use Rattle.waiting.specs.Waits.{Rule, GoesBefore, Answers, order_of, ByHistory}
use Rattle.waiting.proofs.Seats.{seat-there, seat-at}
use Rattle.waiting.proofs.Timing.{Marked, InOrder, Timely, reached}

-- the seats of an order that agrees with a history are so placed
placed-in : (history : List Event) (xs : List Seat) (p q : ℕ) (a b : Seat) → Timely (last_served history) xs → seat_of xs p ≡ Some a → seat_of xs q ≡ Some b → Placed history (seek (map id_of xs) p) (seek (map id_of xs) q) a b
placed-in history xs p q a b timely is its =
    let here = seat-there xs p a is in
    let there = seat-there xs q b its in
    record {
      one = subst (Marked (last_served history)) (seat-at xs p a a is) (timely.marked _ a here);
      other = subst (Marked (last_served history)) (seat-at xs q b a its) (timely.marked _ a there);
      ahead = λ h. subst (InOrder (last_served history) a) (seat-at xs q b a its) (subst (λ x. InOrder (last_served history) x (get_or xs (seek (map id_of xs) q) a)) (seat-at xs p a a is) (timely.rising _ _ a h there));
    }

-- a rule by which the seats that stand first go first
module _ (stands : ℕ → Seat → Standing) (rule : List Event → Rule)
    (goes : (history : List Event) (i j : ℕ) (a b : Seat) → Placed history i j a b → before (stands i a) (stands j b) ≡ true → GoesBefore (rule history) a.id a.priority b.id b.priority) where
  goes-in : (history : List Event) (xs : List Seat) (p q : ℕ) (a b : Seat) → Timely (last_served history) xs → seat_of xs p ≡ Some a → seat_of xs q ≡ Some b
      → before (stands (seek (map id_of xs) p) a) (stands (seek (map id_of xs) q) b) ≡ true → GoesBefore (rule history) p a.priority q b.priority
  goes-in history xs p q a b timely is its h =
      let g : GoesBefore (rule history) a.id a.priority b.id b.priority = goes history (seek (map id_of xs) p) (seek (map id_of xs) q) a b (placed-in history xs p q a b timely is its) h in
      subst (λ k. GoesBefore (rule history) p a.priority k b.priority) (record-named id_of xs q b its) (subst (λ k. GoesBefore (rule history) k a.priority b.id b.priority) (record-named id_of xs p a is) g)

  -- the answer by places is the answer by the history
  answers-from : (history : List Event) (xs : List Seat) → Timely (last_served history) xs → (ids : List ℕ) (answer : Option ℕ) → First (standing_of stands xs) ids answer → Answers (ranked xs) (rule history) ids answer
  answers-from history xs timely ids None f = λ q l. ap (option_map priority_of) (mapped-none (stands (seek (map id_of xs) q)) (seat_of xs q) (f q l))
  answers-from history xs timely ids (Some id) f =
      let x = mapped-some (stands (seek (map id_of xs) id)) (seat_of xs id) f.stands f.is in
      record {
        listed = f.listed;
        priority = x.0.priority;
        is_in = ap (option_map priority_of) x.1;
        foremost = λ q p l e.
            let y = mapped-some priority_of (seat_of xs q) p e in
            ⊎_elim inl
            (λ first.
            let h : before (stands (seek (map id_of xs) id) x.0) (stands (seek (map id_of xs) q) y.0) ≡ true = ap (λ s. before s (stands (seek (map id_of xs) q) y.0)) x.2 ∙ first in
            inr (subst (λ z. GoesBefore (rule history) id x.0.priority q z) y.2 (goes-in history xs id q x.0 y.0 timely x.1 y.1 h)))
            (f.first q (stands (seek (map id_of xs) q) y.0) l (ap (option_map (stands (seek (map id_of xs) q))) y.1));
      }

  -- of an order that a history made
  pub by-history : (xs : List Seat) (ids : List ℕ) (answer : Option ℕ) → First (standing_of stands xs) ids answer → ByHistory rule xs ids answer
  by-history xs ids answer f history accepted made =
      let r = reached history accepted in
      subst (λ m. Answers m (rule history) ids answer) r.means (answers-from history (order_of history) r.timely ids answer (subst (λ zs. First (standing_of stands zs) ids answer) made f))

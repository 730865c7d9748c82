-- Which of the listed ids comes first, under each rule.
use Rattle.std.specs.Prelude.{◌≡◌, ℕ, Bool, true, false, cond, ◌⊎◌, List, map, fold, Some, None, Option, ◌==◌, nat_lt}
use Rattle.std.specs.Option.{option_map, option_and_then}
use Rattle.records.specs.Records.{seek}
use Rattle.wire.specs.Urgencies.{urgency_number}
use Rattle.schedule.specs.Ranks.{Listed}
use Rattle.rotation.specs.declared.seats.Seat.{Seat}
use Rattle.rotation.specs.declared.standings.Group.{Group}
use Rattle.rotation.specs.declared.standings.Group.TheVariants.{Plain, New, Served}
use Rattle.rotation.specs.declared.standings.Standing.{Standing}
use Rattle.rotation.specs.Orders.{id_of, seat_of}

-- the numbers of our groups, the first one first
abbrev pub group_number : Group → ℕ
group_number Plain = 0
group_number New = 1
group_number Served = 2

-- a seat of an urgency stands in a group under a number
abbrev pub standing : Seat → ℕ → ℕ → Standing
standing x group number = record { urgency = urgency_number x.priority.urgency; group = group; number = number }

-- turns: within an urgency those never served come first, by id, and then the others by their place in the order
abbrev pub in_turn : ℕ → Seat → Standing
in_turn place x = cond x.served (standing x (group_number Served) place) (standing x (group_number New) x.id)

-- ordered: within an urgency those that are not incremental come first, by id, and then the others as in turns
abbrev pub plain_first : ℕ → Seat → Standing
plain_first place x = cond x.priority.incremental (in_turn place x) (standing x (group_number Plain) x.id)

-- a standing comes before another: the smaller urgency first, then the smaller group, then the smaller number
abbrev pub before : Standing → Standing → Bool
before s t =
    cond (s.urgency == t.urgency)
    (cond (s.group == t.group) (nat_lt s.number t.number) (nat_lt s.group t.group))
    (nat_lt s.urgency t.urgency)

-- where an id stands under a rule; none where it has no seat
abbrev pub standing_of : (ℕ → Seat → Standing) → List Seat → ℕ → Option Standing
standing_of rule xs id = option_map (rule (seek (map id_of xs) id)) (seat_of xs id)

-- a standing comes before what is best so far, if anything is
abbrev pub sooner : Option Standing → Option Standing → Bool
sooner None o = false
sooner (Some s) None = true
sooner (Some s) (Some t) = before s t

-- the better of the best id so far and another
abbrev pub better : (ℕ → Option Standing) → Option ℕ → ℕ → Option ℕ
better at best id = cond (sooner (at id) (option_and_then at best)) (Some id) best

-- the best of a list, beside the best so far
abbrev pub chosen : (ℕ → Option Standing) → Option ℕ → List ℕ → Option ℕ
chosen at best ids = fold (better at) best ids

-- an id is listed and stands somewhere, and comes before every other listed id that does
pub record ComesFirst (at : ℕ → Option Standing) (ids : List ℕ) (id : ℕ) : Type 0 where
  pub listed : Listed ids id
  pub stands : Standing
  pub is : at id ≡ Some stands
  pub first : (q : ℕ) (t : Standing) → Listed ids q → at q ≡ Some t → (q ≡ id) ⊎ (before stands t ≡ true)

-- the answer to a list: none exactly where no listed id stands anywhere, else the one that comes first
abbrev pub First : (ℕ → Option Standing) → List ℕ → Option ℕ → Type 0
First at ids None = (q : ℕ) → Listed ids q → at q ≡ None
First at ids (Some id) = ComesFirst at ids id

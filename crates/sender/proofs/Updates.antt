-- What WINDOW_UPDATE, RST_STREAM and PRIORITY_UPDATE find.
use Rattle.std.proofs.Common.{◌≡◌, ℕ, true, false, eqb, List, map, pos, ◌≤ℤ◌, ◌<ℤ◌, is_some, Bor, Some, None, Ok, Err, Option, Result, refl, ap, ◌∙◌, ne_eqb, MatchOption}
use Rattle.std.specs.Option.{option_map, ok_or}
use Rattle.std.proofs.lemmas.Int.{by_lt_z}
use Rattle.records.specs.Records.{Absent}
use Rattle.records.specs.Tables.{Is, Found}
use Rattle.records.proofs.Lookups.{record-absent, record-found}
use Rattle.credit.specs.Credit.{Credit, Sound, MAX}
use Rattle.credit.specs.Calls.{Accepts, raise, raised}
use Rattle.model.specs.Rules.{IsOpen, Overflows}
use Rattle.model.specs.States.{State, Tied}
use Rattle.model.proofs.Points.{some_of, none-some}
use Rattle.model.proofs.Ties.{paired-some}
use Rattle.sender.specs.Streams.{id_of, plain, streams_in}
use Rattle.sender.specs.declared.streams.Stream.{Stream as Row}

-- a record that was found is an open stream, and where none was there is none
pub row_open : (xs : List Row) (id : ℕ) (x : Row) → Is id_of xs id x → is_some (streams_in xs id) ≡ true
row_open xs id x is = ap (λ o. is_some (option_map plain o)) (record-found id_of xs id x is)

pub row-none : (xs : List Row) (id : ℕ) → Absent (map id_of xs) id → streams_in xs id ≡ None
row-none xs id none = ap (option_map plain) (record-absent id_of xs id none)

-- a stream is open where its record was found
pub found-open : (xs : List Row) (id : ℕ) (r : Option (Bor Row)) → Found id_of xs id r → is_some (streams_in xs id) ≡ is_some r
found-open xs id None h = ap is_some (row-none xs id h)
found-open xs id (Some x) h = row_open xs id x.now h

-- stream 0 is never open
pub open-nonzero : (s : State) (id : ℕ) → Tied s → Sound s.gate → IsOpen s id → id ≡ 0 → ⊥
open-nonzero s id tied sound is zero =
    let x = some_of (s.streams id) is in
    let c = paired-some (s.streams id) (s.gate.stream id) x.0 (tied.paired id) x.1 in
    none-some (s.gate.stream id) c.0 (ap s.gate.stream zero ∙ sound.zero) c.1

-- an increment that an open stream's window does not take passes the maximum
pub overflows : (s : State) (room : ℕ → ℕ) (id v : ℕ) → Tied s → (id ≡ 0 → ⊥) → IsOpen s id → (Accepts s.gate room (raise id v) → ⊥) → Overflows s id v
overflows s room id v tied ne is never =
    let x = some_of (s.streams id) is in
    let c = paired-some (s.streams id) (s.gate.stream id) x.0 (tied.paired id) x.1 in
    let b : eqb id 0 ≡ false = ne_eqb id 0 ne in
    let not-raised : MatchOption (s.gate.stream id) ⊥ (λ d. (raised v d).window ≤ℤ pos MAX) → ⊥ = λ h. never (rw b h) in
    over (s.gate.stream id) c.0 c.1 not-raised
  where
    over : (o : Option Credit) (c : Credit) → o ≡ Some c → (MatchOption o ⊥ (λ d. (raised v d).window ≤ℤ pos MAX) → ⊥) → MatchOption o ⊥ (λ d. pos MAX <ℤ (raised v d).window)
    over None c e h = absurd cc
    over (Some d) c e h = by_lt_z (pos MAX) (raised v d).window (λ l. l) (λ l. absurd (h l))

-- what a value that is there, and one that is not, is as a result
pub ok_or-err : {X E : Type 0} (o : Option X) (d f : E) → ◌≡◌ {A = Result X E} (Err f) (ok_or o d) → (o ≡ None) × (f ≡ d)
ok_or-err None d f e = (refl, cc)
ok_or-err (Some x) d f e = absurd cc

pub ok_or-ok : {X E : Type 0} (o : Option X) (d : E) (x : X) → ◌≡◌ {A = Result X E} (Ok x) (ok_or o d) → o ≡ Some x
ok_or-ok None d x e = absurd cc
ok_or-ok (Some y) d x e = cc

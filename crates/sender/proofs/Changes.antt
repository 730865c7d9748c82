-- The record of one open stream is lent and changed.
use Rattle.std.proofs.Common.{◌≡◌, ℕ, ◌+◌, Bool, false, ◌||◌, eqb, List, map, length, set, Some, Ok, Err, Result, sym, refl, ap, ◌∙◌, ⊎_elim, length-set}
use Rattle.std.specs.Option.{option_map}
use Rattle.std.specs.Map.{update}
use Rattle.std.proofs.lemmas.Iterator.Adapters.{option_map_id}
use Rattle.records.specs.Records.{seek}
use Rattle.records.specs.Tables.{Is}
use Rattle.records.proofs.Lookups.{record-found}
use Rattle.wire.specs.Faults.{fault}
use Rattle.wire.specs.declared.faults.Cause.TheVariants as cause
use Rattle.wire.specs.declared.faults.Fault.{Fault}
use Rattle.model.specs.Calls.{offer}
use Rattle.model.specs.Happenings.{after, amended, queued, happened}
use Rattle.model.specs.Rules.{AnswersOffer, was_ended, too_much, offered}
use Rattle.model.specs.States.{Stream, State}
use Rattle.model.specs.declared.calls.Done.{Done}
use Rattle.model.proofs.Points.{at_each}
use Rattle.sender.specs.Answers.{Offers, offered_to}
use Rattle.sender.specs.Streams.{id_of, plain, streams_in}
use Rattle.sender.specs.declared.streams.Stream.{Stream as Row}
use Rattle.sender.proofs.Moves.{same-state}
use Rattle.sender.proofs.Rows.{streams-set}

module _ (s : State) (xs : List Row) (streams : s.streams ≡ streams_in xs) (many : s.many ≡ length xs) (id : ℕ) (x : Row) (is : Is id_of xs id x) where
  -- the stream's record
  pub found-stream : s.streams id ≡ Some (plain x)
  found-stream = ap (λ f. f id) streams ∙ ap (option_map plain) (record-found id_of xs id x is)

  -- the state with another record in its place
  abbrev pub with_row : Row → State
  with_row y = record { gate = s.gate; ranks = s.ranks; sink = s.sink; streams = streams_in (set xs (seek (map id_of xs) id) y); many = length (set xs (seek (map id_of xs) id) y); live = s.live; frame_size = s.frame_size; highest = s.highest; given = s.given }

  changed-streams : (y : Row) (change : Stream → Stream) → y.id ≡ id → plain y ≡ change (plain x) → (q : ℕ) → streams_in (set xs (seek (map id_of xs) id) y) q ≡ amended id change s.streams q
  changed-streams y change named same q =
      streams-set xs id y q named is.there ∙ ap (λ f. update eqb f id (Some (plain y)) q) (sym streams) ∙ ap (λ o. update eqb s.streams id o q) (ap (λ z. Some z) same ∙ ap (option_map change) (sym found-stream))

  same-many : (y : Row) → length (set xs (seek (map id_of xs) id) y) ≡ s.many
  same-many y = length-set xs (seek (map id_of xs) id) y ∙ sym many

  -- where it stays as it was, all stays
  pub unchanged : (y : Row) → y ≡ x → with_row y ≡ s
  unchanged y same =
      same-state refl refl
      (λ q. changed-streams y (λ z. z) (ap id_of same ∙ is.named) (ap plain same) q ∙ at_each (λ k o. o ≡ s.streams k) s.streams id (option_map (λ z. z) (s.streams id)) (option_map_id (s.streams id)) (λ k n. refl) q)
      (same-many y) refl refl refl

  pub offers-state : (n : ℕ) (end : Bool) (r : Result Done Fault) (y : Row) → Offers x n end r y → AnswersOffer s id n end r × (with_row y ≡ after s (happened (offer id n end) r))
  offers-state n end (Ok d) y h =
      let told : d ≡ Done.Offered id n end = h.2 ∙ ap (λ i. Done.Offered i n end) is.named in
      let kept : plain y ≡ queued n end (plain x) = ap plain h.3 ∙ ended-or h.0 in
      rw told (offered (plain x) found-stream h.0 h.1, same-state refl refl (changed-streams y (queued n end) (ap id_of h.3 ∙ is.named) kept) (same-many y) refl refl refl)
    where
      ended-or : x.ended ≡ false → plain (offered_to n end x) ≡ queued n end (plain x)
      ended-or e = λ j. record { queue = x.queue + n; ended = sym (ap (λ b. b || end) e) j; grant = x.grant }
  offers-state n end (Err f) y h =
      ⊎_elim
      (λ a. let told : f ≡ fault cause.EndOffered id 0 = a.1 ∙ ap (λ i. fault cause.EndOffered i 0) is.named in rw told (was_ended (plain x) found-stream a.0, unchanged y h.1))
      (λ a. let told : f ≡ fault cause.QueueOverflow id 0 = a.2 ∙ ap (λ i. fault cause.QueueOverflow i 0) is.named in rw told (too_much (plain x) found-stream a.0 a.1, unchanged y h.1))
      h.0

-- an offer keeps the id
pub offers-named : (x : Row) (n : ℕ) (end : Bool) (r : Result Done Fault) (y : Row) → Offers x n end r y → y.id ≡ x.id
offers-named x n end (Ok d) y h = ap id_of h.3
offers-named x n end (Err f) y h = ap id_of h.1

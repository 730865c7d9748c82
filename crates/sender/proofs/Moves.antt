-- A stream begins or ends in the gate, in the policy and in the table alike.
use Rattle.std.proofs.Common.{◌≡◌, ℕ, ◌+◌, ◌<◌, ◌≤◌, Bool, true, false, cond, eqb, ltb, List, [], ◌∷◌, ◌++◌, length, is_some, Some, None, Option, sym, refl, ap, ◌∙◌, inl, inr, arith}
use mathlib.Core.Path.{fun_ext}
use Rattle.std.specs.Option.{option_map}
use Rattle.std.specs.Map.{update}
use Rattle.std.proofs.lemmas.List.{length_push}
use Rattle.std.proofs.lemmas.Bool.{lt-ltb, cond-true}
use Rattle.records.specs.Tables.{without, record_of}
use Rattle.records.proofs.Lookups.{length_without}
use Rattle.wire.specs.declared.priorities.Priority.{Priority}
use Rattle.credit.specs.Calls as calls
use Rattle.credit.specs.Credit as credit
use Rattle.schedule.specs.Ranks as schedule
use Rattle.sink.specs.Meaning as sink
use Rattle.model.specs.Happenings.{after, starting, closing}
use Rattle.model.specs.Rules.{Full, IsOpen}
use Rattle.model.specs.States.{Stream, State, Tied}
use Rattle.model.proofs.Points.{is_none, some_is, some_of}
use Rattle.model.proofs.Ties.{paired_none, paired-some}
use Rattle.sender.specs.Streams.{id_of, ordered, plain, streams_in}
use Rattle.sender.specs.declared.streams.Stream.{Stream as Row}
use Rattle.sender.proofs.Rows.{ordered-distinct, past-none, streams-push, streams-without}

abbrev pub new_row : ℕ → Row
new_row id = record { id = id; queue = 0; ended = false; grant = None }

abbrev fresh : Stream
fresh = record { queue = 0; ended = false; grant = None }

-- what a mapped option came from
pub mapped-some : {X Y : Type 0} (f : X → Y) (o : Option X) (y : Y) → option_map f o ≡ Some y → (x : X) × (o ≡ Some x) × (f x ≡ y)
mapped-some f None y e = absurd cc
mapped-some f (Some x) y e = (x, refl, cc)

-- states with the same parts
pub same-state : {g h : credit.Meaning} {p r : schedule.Ranks} {k : sink.Meaning} {f u : ℕ → Option Stream} {m n : ℕ} {l : Bool} {s t : ℕ} {i j : ℕ} {v w : ℕ} → g ≡ h → p ≡ r → ((q : ℕ) → f q ≡ u q) → m ≡ n → s ≡ t → i ≡ j → v ≡ w → ◌≡◌ {A = State} (record { gate = g; ranks = p; sink = k; streams = f; many = m; live = l; frame_size = s; highest = i; given = v }) (record { gate = h; ranks = r; sink = k; streams = u; many = n; live = l; frame_size = t; highest = j; given = w })
same-state {k = k} {l = l} eg ep ef em es ei ev = λ y. record { gate = eg y; ranks = ep y; sink = k; streams = fun_ext ef y; many = em y; live = l; frame_size = es y; highest = ei y; given = ev y }

-- a state but for the gate
abbrev pub with_gate : State → credit.Meaning → State
with_gate s g = record { gate = g; ranks = s.ranks; sink = s.sink; streams = s.streams; many = s.many; live = s.live; frame_size = s.frame_size; highest = s.highest; given = s.given }

pub not-le : (a b : ℕ) → (a ≤ b → ⊥) → b < a
not-le a b h = omega arith

-- what a full table and its limits leave
pub has-space : (s : State) → (Full s → ⊥) → (s.many < 64) × (s.gate.begun < s.gate.limit) × (s.ranks.entered < s.ranks.limit)
has-space s unfull = (not-le 64 s.many (λ h. unfull (inl h)), not-le s.gate.limit s.gate.begun (λ h. unfull (inr (inl h))), not-le s.ranks.limit s.ranks.entered (λ h. unfull (inr (inr h))))

pub table-adds : (xs ys : List Row) (x : Row) (a : Bool) → length xs < 64 → a ≡ ltb (length xs) 64 → ys ≡ cond a (xs ++ x ∷ []) xs → ys ≡ xs ++ x ∷ []
table-adds xs ys x a few answers rows = rows ∙ cond-true a _ _ (answers ∙ lt-ltb (length xs) 64 few)

module _ (s : State) (xs : List Row) (streams : s.streams ≡ streams_in xs) (many : s.many ≡ length xs) (order : ordered 0 s.highest xs ≡ true) (tied : Tied s) where
  pub begin-state : (ys : List Row) (id : ℕ) (p : Priority) (room : ℕ → ℕ) (g : credit.Meaning) (r : schedule.Ranks) (b e a : Bool) → s.highest < id → (Full s → ⊥) → (calls.Accepts s.gate room (calls.begin id) → b ≡ true) → g ≡ cond b (calls.after s.gate (calls.begin id)) s.gate → (schedule.Accepts s.ranks (schedule.entered id p) → e ≡ true) → (e ≡ true → r ≡ schedule.after s.ranks (schedule.entered id p)) → a ≡ ltb (length xs) 64 → ys ≡ cond a (xs ++ new_row id ∷ []) xs → ◌≡◌ {A = State} (record { gate = g; ranks = r; sink = s.sink; streams = streams_in ys; many = length ys; live = s.live; frame_size = s.frame_size; highest = id; given = s.given }) (after s (starting id p))
  begin-state ys id p room g r b e a above unfull can gate able ranks answers rows =
      let space = has-space s unfull in
      let none : s.streams id ≡ None = tied.below id above in
      let unbegun : s.gate.stream id ≡ None = paired_none (s.streams id) (s.gate.stream id) (tied.paired id) none in
      let unranked : s.ranks.rank id ≡ None = is_none (s.ranks.rank id) (tied.ranked id ∙ ap is_some none) in
      let begins : b ≡ true = can (λ z. omega arith, unbegun, space.1) in
      let enters : e ≡ true = able (unranked, space.2) in
      let adds : ys ≡ xs ++ new_row id ∷ [] = table-adds xs ys (new_row id) a (omega (arith, space.0, many)) answers rows in
      same-state (gate ∙ cond-true b _ _ begins) (ranks enters) (λ q. ap (λ zs. streams_in zs q) adds ∙ streams-push xs (new_row id) q (past-none 0 s.highest id xs above order) ∙ ap (λ f. update eqb f id (Some fresh) q) (sym streams)) (ap length adds ∙ length_push xs (new_row id) ∙ ap (λ n. n + 1) (sym many)) refl refl refl

  pub close-state : (ys : List Row) (id : ℕ) (room : ℕ → ℕ) (g : credit.Meaning) (r : schedule.Ranks) (b e : Bool) → IsOpen s id → (calls.Accepts s.gate room (calls.finish id) → b ≡ true) → g ≡ cond b (calls.after s.gate (calls.finish id)) s.gate → (schedule.Accepts s.ranks (schedule.left id) → e ≡ true) → (e ≡ true → r ≡ schedule.after s.ranks (schedule.left id)) → ys ≡ without id_of id xs → ◌≡◌ {A = State} (record { gate = g; ranks = r; sink = s.sink; streams = streams_in ys; many = length ys; live = s.live; frame_size = s.frame_size; highest = s.highest; given = s.given }) (after s (closing id))
  close-state ys id room g r b e is can gate able ranks rows =
      let x = some_of (s.streams id) is in
      let c = paired-some (s.streams id) (s.gate.stream id) x.0 (tied.paired id) x.1 in
      let finishes : b ≡ true = can (some_is (s.gate.stream id) c.0 c.1) in
      let leaves : e ≡ true = able (tied.ranked id ∙ is) in
      let y = mapped-some plain (record_of id_of xs id) x.0 (ap (λ f. f id) (sym streams) ∙ x.1) in
      let fewer : length (without id_of id xs) + 1 ≡ length xs = length_without id_of xs id y.0 y.1 in
      same-state (gate ∙ cond-true b _ _ finishes) (ranks leaves) (λ q. ap (λ zs. streams_in zs q) rows ∙ streams-without xs id q (ordered-distinct 0 s.highest xs order) ∙ ap (λ f. update eqb f id None q) (sym streams)) (ap length rows ∙ (omega (arith, fewer, many))) refl refl refl

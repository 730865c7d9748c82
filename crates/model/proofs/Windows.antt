-- Windows over a run: what the tale tells of increments and octets sent, and what gate and sink mean.
use Rattle.std.proofs.Common.{◌≡◌, ℕ, ◌+◌, ◌<◌, ◌≤◌, Bool, true, false, eqb, ◌⊎◌, [], ◌∷◌, ℤ, pos, ◌+ℤ◌, ◌≤ℤ◌, ◌<ℤ◌, Some, None, Option, sym, refl, ap, ◌∙◌, subst, inl, inr, ⊎_elim, arith, ne_eqb, MatchOption}
use Rattle.std.specs.Option.{option_map}
use Rattle.std.proofs.lemmas.Int.{ints, by_lt_z}
use Rattle.std.proofs.lemmas.Bool.{cases_eq}
use Rattle.wire.specs.declared.priorities.Priority.{Priority}
use native.Mathlib.Decide.{dec_lt}
use Rattle.credit.specs.Credit.{Credit, Sound, Within, MAX, held_by}
use Rattle.credit.specs.Calls.{Accepts, raise, raised, shifted, holding, spent}
use Rattle.model.specs.States.{Stream, State, Moment}
use Rattle.model.specs.Happenings.{Happening, nothing, ending, raising, renewing, starting, skipping, ranking, offering, granting, sending, giving_back, closing, after}
use Rattle.model.specs.Histories.{Tale, on, increments, sent_on, sent_all, frames_put, initial_in}
use Rattle.model.specs.Laws.{Fresh, EachWithin}
use Rattle.model.specs.Rules.{TooLong}
use Rattle.model.specs.declared.calls.Grant.{Grant}
use Rattle.model.proofs.Points.{on_same, on-other, on-most, at_each, none-some, cases-is}
use Rattle.model.proofs.Effects.{Effect, quiet, ends, raises, renews, closes, ranks, starts, skips, queues, grants, sends, backs}
use Rattle.model.proofs.Ties.{Ties, settling, paired-some, paired_none}

-- a stream's window and what was sent on it are the initial window in force and its increments
abbrev pub Window : Tale → ℕ → Option Credit → Type 0
Window es q None = Unit {0}
Window es q (Some c) = c.window +ℤ pos (sent_on q es) ≡ pos (initial_in es + increments q es)

pub record Money (es : Tale) (s : State) : Type 0 where
  pub initial : s.gate.initial ≡ initial_in es
  pub connection : s.gate.connection + sent_all es ≡ 65535 + increments 0 es
  pub octets : s.sink.octets ≡ sent_all es
  pub frames : s.sink.frames ≡ frames_put es
  pub windows : (q : ℕ) → Window es q (s.gate.stream q)
  pub later : (q : ℕ) → s.highest < q → (increments q es ≡ 0) × (sent_on q es ≡ 0)

-- what a happening tells of one stream moves its window so
moved : (es fs : Tale) (q : ℕ) (f : Credit → Credit) (o : Option Credit) → ((c : Credit) → c.window +ℤ pos (sent_on q es) ≡ pos (initial_in es + increments q es) → (f c).window +ℤ pos (sent_on q fs) ≡ pos (initial_in fs + increments q fs)) → Window es q o → Window fs q (option_map f o)
moved es fs q f None h w = tt
moved es fs q f (Some c) h w = h c w

-- the window of a stream of which nothing is told stays
stays : (es fs : Tale) (q : ℕ) (o : Option Credit) → increments q fs ≡ increments q es → sent_on q fs ≡ sent_on q es → initial_in fs ≡ initial_in es → Window es q o → Window fs q o
stays es fs q None a b c w = tt
stays es fs q (Some d) a b c w = omega (arith, ints, w, a, b, c)

none-window : (fs : Tale) (q : ℕ) (o : Option Credit) → o ≡ None → Window fs q o
none-window fs q None e = tt
none-window fs q (Some c) e = absurd (none-some (Some c) c e refl)

not-less : (a b : ℤ) → (a <ℤ b → ⊥) → b ≤ℤ a
not-less a b h = by_lt_z a b (λ l. absurd (h l)) (λ l. l)

raise-connection : (es : Tale) (s : State) (v : ℕ) → Sound s.gate → Money es s → Money (raising 0 v ∷ es) (after s (raising 0 v))
raise-connection es s v sound k =
    record {
      initial = k.initial;
      connection = omega (arith, k.connection);
      octets = k.octets;
      frames = k.frames;
      windows = λ q. ⊎_elim (λ e. none-window (raising 0 v ∷ es) q (s.gate.stream q) (ap s.gate.stream e ∙ sound.zero)) (λ n. stays es (raising 0 v ∷ es) q (s.gate.stream q) (omega (arith, on-other q 0 v n)) refl refl (k.windows q)) (cases_eq q 0);
      later = λ q l. (omega (arith, (k.later q l).0, on-other q 0 v (λ e. omega arith)), (k.later q l).1);
    }

raise-stream : (es : Tale) (s : State) (id v : ℕ) (c : Credit) → Ties es s → s.gate.stream id ≡ Some c → (id ≡ 0 → ⊥) → Money es s → Money (raising id v ∷ es) (after s (raising id v))
raise-stream es s id v c ties is ne k =
    let b : eqb id 0 ≡ false = ne_eqb id 0 ne in
    record {
      initial = rw b k.initial;
      connection = rw b (omega (arith, k.connection, on-other 0 id v (λ e. ne (sym e))));
      octets = k.octets;
      frames = k.frames;
      windows = rw b (at_each (Window (raising id v ∷ es)) s.gate.stream id (option_map (raised v) (s.gate.stream id)) (moved es (raising id v ∷ es) id (raised v) (s.gate.stream id) (λ d w. omega (arith, ints, w, on_same id v)) (k.windows id)) (λ q n. stays es (raising id v ∷ es) q (s.gate.stream q) (omega (arith, on-other q id v n)) refl refl (k.windows q)));
      later = λ q l. let n : q ≡ id → ⊥ = λ e. none-some (s.gate.stream id) c (ap s.gate.stream (sym e) ∙ paired_none (s.streams q) (s.gate.stream q) (ties.paired q) (ties.below q l)) is in (omega (arith, (k.later q l).0, on-other q id v n), (k.later q l).1);
    }

raise-money : (es : Tale) (m : Moment) (id v : ℕ) → Sound m.state.gate → Ties es m.state → Accepts m.state.gate m.room (raise id v) → Money es m.state → Money (raising id v ∷ es) (after m.state (raising id v))
raise-money es m id v sound ties can k =
    ⊎_elim
    (λ e. subst (λ i. Money (raising i v ∷ es) (after m.state (raising i v))) (sym e) (raise-connection es m.state v sound k))
    (λ n.
    let b : eqb id 0 ≡ false = ne_eqb id 0 n in
    let open-credit : MatchOption (m.state.gate.stream id) ⊥ (λ c. (raised v c).window ≤ℤ pos MAX) = rw b at can in
    let c = cases-is _ (m.state.gate.stream id) open-credit in
    raise-stream es m.state id v c.0 ties c.1 n k)
    (cases_eq id 0)

-- a new initial window moves every window by the difference
renew-money : (es : Tale) (s : State) (i f : Option ℕ) → Money es s → Money (renewing i f ∷ es) (after s (renewing i f))
renew-money es s None f k = record { initial = k.initial; connection = k.connection; octets = k.octets; frames = k.frames; windows = λ q. stays es (renewing None f ∷ es) q (s.gate.stream q) refl refl refl (k.windows q); later = k.later }
renew-money es s (Some v) f k =
    record {
      initial = refl;
      connection = k.connection;
      octets = k.octets;
      frames = k.frames;
      windows = λ q. moved es (renewing (Some v) f ∷ es) q (shifted s.gate.initial v) (s.gate.stream q) (λ d w. omega (arith, ints, w, k.initial)) (k.windows q);
      later = k.later;
    }

start-money : (es : Tale) (s : State) (id : ℕ) (p : Priority) → s.highest < id → Money es s → Money (starting id p ∷ es) (after s (starting id p))
start-money es s id p above k =
    let none = k.later id above in
    record {
      initial = k.initial;
      connection = k.connection;
      octets = k.octets;
      frames = k.frames;
      windows = at_each (Window (starting id p ∷ es)) s.gate.stream id (Some (record { window = pos s.gate.initial; held = None })) (omega (arith, ints, none.0, none.1, k.initial)) (λ q n. stays es (starting id p ∷ es) q (s.gate.stream q) refl refl refl (k.windows q));
      later = λ q l. k.later q (omega arith);
    }

hold-money : (es : Tale) (s : State) (g : Grant) → Money es s → Money (granting g ∷ es) (after s (granting g))
hold-money es s g k =
    record {
      initial = k.initial;
      connection = k.connection;
      octets = k.octets;
      frames = k.frames;
      windows = at_each (Window (granting g ∷ es)) s.gate.stream g.id (option_map (holding g.octets) (s.gate.stream g.id)) (moved es (granting g ∷ es) g.id (holding g.octets) (s.gate.stream g.id) (λ d w. w) (k.windows g.id)) (λ q n. stays es (granting g ∷ es) q (s.gate.stream q) refl refl refl (k.windows q));
      later = k.later;
    }

close-money : (es : Tale) (s : State) (id : ℕ) → Money es s → Money (closing id ∷ es) (after s (closing id))
close-money es s id k =
    record {
      initial = k.initial;
      connection = k.connection;
      octets = k.octets;
      frames = k.frames;
      windows = at_each (Window (closing id ∷ es)) s.gate.stream id None tt (λ q n. stays es (closing id ∷ es) q (s.gate.stream q) refl refl refl (k.windows q));
      later = k.later;
    }

split : (a b : ℕ) → (a ≤ b) ⊎ (b < a)
split a b = elim (dec_lt b a) [ yes h ↦ inr h | no h ↦ inl (omega arith) ]

zero_or : (a : ℕ) → (a ≡ 0) ⊎ (0 < a)
zero_or a = elim (dec_lt 0 a) [ yes h ↦ inr h | no h ↦ inl (omega arith) ]

-- what a stream holds is part of what all hold, and that of the connection's window
part_held : (initial held : ℕ) (o : Option Credit) → Within initial held o → held_by o ≤ held
part_held i held None w = omega arith
part_held i held (Some c) w = w.part

pub enough : (m : Moment) (id n : ℕ) → Sound m.state.gate → (TooLong m.state id n → ⊥) → n ≤ m.state.gate.connection
enough m id n sound fits =
    let g = m.state.gate in
    let held : held_by (g.stream id) ≤ g.held = part_held g.initial g.held (g.stream id) (sound.streams id) in
    ⊎_elim (λ e. omega arith) (λ p. omega (arith, sound.held, ⊎_elim (λ a. a) (λ a. absurd (fits (p, inl a))) (split n (held_by (g.stream id))))) (zero_or n)

settle-money : (es : Tale) (s : State) (number id n : ℕ) (end : Bool) (x : Stream) → Ties es s → s.streams id ≡ Some x → n ≤ s.gate.connection → Money es s → Money (settling number id n (Some end) ∷ es) (after s (settling number id n (Some end)))
settle-money es s number id n end x ties is most k =
    let e = settling number id n (Some end) in
    record {
      initial = k.initial;
      connection = omega (arith, k.connection);
      octets = omega (arith, k.octets);
      frames = omega (arith, k.frames);
      windows = at_each (Window (e ∷ es)) s.gate.stream id (option_map (spent n) (s.gate.stream id)) (moved es (e ∷ es) id (spent n) (s.gate.stream id) (λ d w. omega (arith, ints, w, on_same id n)) (k.windows id)) (λ q ne. stays es (e ∷ es) q (s.gate.stream q) refl (omega (arith, on-other q id n ne)) refl (k.windows q));
      later = λ q l. let ne : q ≡ id → ⊥ = λ i. none-some (s.streams id) x (ap s.streams (sym i) ∙ ties.below q l) is in ((k.later q l).0, omega (arith, (k.later q l).1, on-other q id n ne));
    }

back-money : (es : Tale) (s : State) (number id : ℕ) → Money es s → Money (giving_back number id ∷ es) (after s (giving_back number id))
back-money es s number id k =
    let e = giving_back number id in
    let none : (q : ℕ) → on q id 0 ≤ 0 = λ q. on-most q id 0 in
    record {
      initial = k.initial;
      connection = omega (arith, k.connection);
      octets = omega (arith, k.octets);
      frames = k.frames;
      windows = at_each (Window (e ∷ es)) s.gate.stream id (option_map (spent 0) (s.gate.stream id)) (moved es (e ∷ es) id (spent 0) (s.gate.stream id) (λ d w. omega (arith, ints, w, none id)) (k.windows id)) (λ q ne. stays es (e ∷ es) q (s.gate.stream q) refl (omega (arith, none q)) refl (k.windows q));
      later = λ q l. ((k.later q l).0, omega (arith, (k.later q l).1, none q));
    }

-- windows follow what happens
pub money-after : (es : Tale) (m : Moment) (e : Happening) → Sound m.state.gate → Ties es m.state → Money es m.state → Effect m e → Money (e ∷ es) (after m.state e)
money-after es m e sound ties k quiet = record { initial = k.initial; connection = k.connection; octets = k.octets; frames = k.frames; windows = λ q. stays es (nothing ∷ es) q (m.state.gate.stream q) refl refl refl (k.windows q); later = k.later }
money-after es m e sound ties k ends = record { initial = k.initial; connection = k.connection; octets = k.octets; frames = k.frames; windows = λ q. stays es (ending ∷ es) q (m.state.gate.stream q) refl refl refl (k.windows q); later = k.later }
money-after es m e sound ties k (raises id v can) = raise-money es m id v sound ties can k
money-after es m e sound ties k (renews i f) = renew-money es m.state i f k
money-after es m e sound ties k (closes id is) = close-money es m.state id k
money-after es m e sound ties k (ranks id p is) = record { initial = k.initial; connection = k.connection; octets = k.octets; frames = k.frames; windows = λ q. stays es (ranking id (Some p) ∷ es) q (m.state.gate.stream q) refl refl refl (k.windows q); later = k.later }
money-after es m e sound ties k (starts id p above) = start-money es m.state id p above k
money-after es m e sound ties k (skips id above) = record { initial = k.initial; connection = k.connection; octets = k.octets; frames = k.frames; windows = λ q. stays es (skipping id ∷ es) q (m.state.gate.stream q) refl refl refl (k.windows q); later = λ q l. k.later q (omega arith) }
money-after es m e sound ties k (queues id n end is) = record { initial = k.initial; connection = k.connection; octets = k.octets; frames = k.frames; windows = λ q. stays es (offering id n end ∷ es) q (m.state.gate.stream q) refl refl refl (k.windows q); later = k.later }
money-after es m e sound ties k (grants g by) = hold-money es m.state g k
money-after es m e sound ties k (sends number id n true x holds fits) =
    let before = settling number id n (Some true) in
    let t = close-money (before ∷ es) (after m.state before) id (settle-money es m.state number id n true x ties holds.open_stream (enough m id n sound fits) k) in
    record { initial = t.initial; connection = t.connection; octets = t.octets; frames = t.frames; windows = λ q. stays (closing id ∷ (before ∷ es)) (sending number id n true ∷ es) q _ refl refl refl (t.windows q); later = t.later }
money-after es m e sound ties k (sends number id n false x holds fits) = settle-money es m.state number id n false x ties holds.open_stream (enough m id n sound fits) k
money-after es m e sound ties k (backs number id x holds) = back-money es m.state number id k

pub money-fresh : (m : Moment) → Fresh m → Money [] m.state
money-fresh m f =
    record {
      initial = ap (λ g. g.initial) f.gate;
      connection = omega (arith, ap (λ g. g.connection) f.gate);
      octets = ap (λ k. k.octets) f.sink;
      frames = ap (λ k. k.frames) f.sink;
      windows = λ q. none-window [] q (m.state.gate.stream q) (ap (λ g. g.stream q) f.gate);
      later = λ q l. (refl, refl);
    }

-- a window that is not short of octets, as the tale tells it
wide : (es : Tale) (q n : ℕ) (o : Option Credit) (c : Credit) → o ≡ Some c → Window es q o → (MatchOption o ⊥ (λ d. d.window <ℤ pos n) → ⊥) → sent_on q es + n ≤ initial_in es + increments q es
wide es q n None c e w short = absurd (none-some None c refl e)
wide es q n (Some d) c e w short = omega (arith, ints, w, not-less d.window (pos n) short)

-- each frame with octets was within both windows and the frame size
pub within-after : (es : Tale) (m : Moment) (e : Happening) → Sound m.state.gate → Ties es m.state → Money es m.state → EachWithin es → Effect m e → EachWithin (e ∷ es)
within-after es m e sound ties k w quiet = (w, tt)
within-after es m e sound ties k w ends = (w, tt)
within-after es m e sound ties k w (raises id v can) = (w, tt)
within-after es m e sound ties k w (renews i f) = (w, tt)
within-after es m e sound ties k w (closes id is) = (w, tt)
within-after es m e sound ties k w (ranks id p is) = (w, tt)
within-after es m e sound ties k w (starts id p above) = (w, tt)
within-after es m e sound ties k w (skips id above) = (w, tt)
within-after es m e sound ties k w (queues id n end is) = (w, tt)
within-after es m e sound ties k w (grants g by) = (w, tt)
within-after es m e sound ties k w (sends number id n end x holds fits) =
    let s = m.state in
    let c = paired-some (s.streams id) (s.gate.stream id) x (ties.paired id) holds.open_stream in (
      w,
      λ some. (
        omega (arith, k.connection, enough m id n sound fits),
        wide es id n (s.gate.stream id) c.0 c.1 (k.windows id) (λ short. fits (some, inr (inr short))),
        omega (arith, ties.frame_size, ⊎_elim (λ a. a) (λ a. absurd (fits (some, inr (inl a)))) (split n s.frame_size)),
        refl,
      ),
    )
within-after es m e sound ties k w (backs number id x holds) = (w, λ some. absurd (omega arith))

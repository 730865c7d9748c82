-- A new initial window, stream by stream and pair by pair.
use Rattle.std.proofs.Common.{◌≡◌, MatchBool, ℕ, suc, ◌<◌, ◌≤◌, Bool, true, false, cond, eqb, List, [], ◌∷◌, map, length, get_or, ℤ, pos, ◌+ℤ◌, ◌-ℤ◌, ◌≤ℤ◌, is_some, IfSome, Some, None, Ok, Err, Decides, Option, sym, refl, ap, ◌∙◌, subst, ⊎_elim, arith, eq-eqb, ne_eqb}
use Rattle.std.specs.List.{AllByRecursion, AllWithin, HoldsAt}
use Rattle.std.proofs.lemmas.Iterator.Search.{true_from_All}
use Rattle.std.proofs.lemmas.List.{get_or-map}
use Rattle.std.proofs.lemmas.Bool.{cases_eq, false≢true}
use Rattle.std.proofs.lemmas.Bool.Decides.{nat_tests}
use Rattle.credit.specs.Credit.{Credit, window_of}
use Rattle.credit.specs.Calls.{Accepts, initial, shifted}
use Rattle.wire.specs.Parameters.{Decodes, identifier_of}
use Rattle.wire.specs.declared.parameters.Parameter.{Parameter}
use Rattle.wire.specs.declared.parameters.Parameter.TheVariants.{InitialWindow, FrameSize}
use Rattle.wire.specs.declared.settings.Setting.{Setting}
use Rattle.model.specs.Happenings.{last_after, last_of}
use Rattle.wire.specs.Frames.{Told}
use Rattle.wire.specs.declared.faults.Fault.{Fault}
use Rattle.sender.specs.Answers.{handled}
use Rattle.model.specs.Rules.{PassesPair, RefusesPair, RefusesPairs, here, further, bad_window, bad_size}
use Rattle.model.specs.States.{State, Moment, Tied}
use Rattle.model.proofs.Ties.{paired-open}
use Rattle.sender.specs.Streams.{id_of, streams_in}
use Rattle.sender.specs.declared.streams.Stream.{Stream as Row}

-- a window fits where its stream does
pub fits-window : (o : Option Credit) (w : Option ℤ) (before v : ℕ) (b : Bool) → w ≡ window_of o → Decides b (IfSome w (λ x. (x +ℤ (pos v -ℤ pos before)) ≤ℤ pos 2147483647)) → Decides b (IfSome o (λ c. (shifted before v c).window ≤ℤ pos 2147483647))
fits-window None w before v b e d = subst (λ (x : Option ℤ). Decides b (IfSome x (λ y. (y +ℤ (pos v -ℤ pos before)) ≤ℤ pos 2147483647))) e d
fits-window (Some c) w before v b e d = subst (λ (x : Option ℤ). Decides b (IfSome x (λ y. (y +ℤ (pos v -ℤ pos before)) ≤ℤ pos 2147483647))) e d

-- an open stream is one of the rows
row_at : (xs : List Row) (id : ℕ) → is_some (streams_in xs id) ≡ true → (j : ℕ) × (j < length xs) × (get_or (map id_of xs) j 0 ≡ id)
row_at [] id = λ h. absurd (false≢true h)
row_at (x ∷ xs) id =
    ⊎_elim
    (λ e. rw (eq-eqb x.id id e) (λ h. (0, omega arith, e)))
    (λ n. rw (ne_eqb x.id id n) (λ h. let r = row_at xs id h in (suc r.0, omega (arith, r.1), r.2)))
    (cases_eq x.id id)

fits-at : (o : Option Credit) (P : Credit → Type 0) → ((c : Credit) → o ≡ Some c → IfSome o P) → IfSome o P
fits-at None P h = tt
fits-at (Some c) P h = h c refl

-- where every row fits, the initial window does
pub all_fit : (s : State) (room : ℕ → ℕ) (xs : List Row) (v : ℕ) → s.streams ≡ streams_in xs → Tied s → v ≤ 2147483647 → ((j : ℕ) → j < length xs → IfSome (s.gate.stream (get_or (map id_of xs) j 0)) (λ c. (shifted s.gate.initial v c).window ≤ℤ pos 2147483647)) → Accepts s.gate room (initial v)
all_fit s room xs v streams tied most each = (
  most,
  λ id. fits-at (s.gate.stream id) (λ c. (shifted s.gate.initial v c).window ≤ℤ pos 2147483647) (λ c e.
      let r = row_at xs id (ap (λ f. is_some (f id)) (sym streams) ∙ paired-open (s.streams id) (s.gate.stream id) c (tied.paired id) e) in
      subst (λ q. IfSome (s.gate.stream q) (λ d. (shifted s.gate.initial v d).window ≤ℤ pos 2147483647)) r.2 (each r.0 r.1)),
)

-- a row's stream fits under a new initial window
abbrev pub FitsRow : State → ℕ → ℕ → Row → Type 0
FitsRow s before v x = IfSome (s.gate.stream x.id) (λ c. (shifted before v c).window ≤ℤ pos 2147483647)

-- a new initial window is accepted exactly where each row's stream fits
pub all-decide : (s : State) (room : ℕ → ℕ) (xs : List Row) (before v : ℕ) (r : Bool) → s.streams ≡ streams_in xs → Tied s → v ≤ 2147483647 → before ≡ s.gate.initial
    → MatchBool r (AllWithin (FitsRow s before v) xs 0 (length xs)) ((k : ℕ) × (k < length xs) × HoldsAt (λ x. FitsRow s before v x → ⊥) xs k) → Decides r (Accepts s.gate room (initial v))
all-decide s room xs before v true streams tied most same m =
    let row : Row = record { id = 0; queue = 0; ended = false; grant = None } in (
      (λ _. all_fit s room xs v streams tied most (λ j l. subst (λ n. IfSome (s.gate.stream (get_or (map id_of xs) j 0)) (λ c. (shifted n v c).window ≤ℤ pos 2147483647)) same
          (subst (λ q. IfSome (s.gate.stream q) (λ c. (shifted before v c).window ≤ℤ pos 2147483647)) (sym (get_or-map id_of xs j row 0 l)) (m j row (omega arith) l)))),
      λ _. refl,
    )
all-decide s room xs before v false streams tied most same m = (
  (λ e. absurd (false≢true e)),
  λ a. true_from_All (FitsRow s before v) (λ x. FitsRow s before v x → ⊥) false xs (λ x p n. n p) m (λ k d l. subst (λ n. IfSome (s.gate.stream (get_or xs k d).id) (λ c. (shifted n v c).window ≤ℤ pos 2147483647)) (sym same) (a.1 (get_or xs k d).id)),
)

-- what is told of some pairs is told of more: that they are refused, or that they pass
abbrev pub Carries : Moment → List Setting → List Setting → Type 0
Carries m some all = ((f : Fault) → RefusesPairs m some f → RefusesPairs m all f) × (AllByRecursion (PassesPair m) some → AllByRecursion (PassesPair m) all)

pub carries-more : (m : Moment) (before behind all : List Setting) (p : Setting) → before ≡ p ∷ behind → PassesPair m p → Carries m before all → Carries m behind all
carries-more m before behind all p e passes c = ((λ f r. c.0 f (subst (λ ps. RefusesPairs m ps f) (sym e) (further passes r))), λ a. c.1 (subst (AllByRecursion (PassesPair m)) (sym e) (passes, a)))

pub carries-fault : (m : Moment) (before behind all : List Setting) (p : Setting) (f : Fault) → before ≡ p ∷ behind → RefusesPair m p f → Carries m before all → RefusesPairs m all f
carries-fault m before behind all p f e refused c = c.0 f (subst (λ ps. RefusesPairs m ps f) (sym e) (here refused))

pub carries-all : (m : Moment) (before all : List Setting) → before ≡ [] → Carries m before all → AllByRecursion (PassesPair m) all
carries-all m before all e c = c.1 (subst (AllByRecursion (PassesPair m)) (sym e) tt)

-- the last initial window of pairs that pass is accepted
last-after : (m : Moment) (latest : Option ℕ) (ps : List Setting) → IfSome latest (λ v. Accepts m.state.gate m.room (initial v)) → AllByRecursion (PassesPair m) ps → IfSome (last_after 4 latest ps) (λ v. Accepts m.state.gate m.room (initial v))
last-after m latest [] h a = h
last-after m latest (p ∷ ps) h a =
    last-after m (cond (eqb p.identifier 4) (Some p.value) latest) ps
    (⊎_elim (λ e. let t : eqb p.identifier 4 ≡ true = eq-eqb p.identifier 4 e in rw t (a.0.window e)) (λ n. let f : eqb p.identifier 4 ≡ false = ne_eqb p.identifier 4 n in rw f h) (cases_eq p.identifier 4))
    a.1

pub last-accepted : (m : Moment) (ps : List Setting) → AllByRecursion (PassesPair m) ps → IfSome (last_of 4 ps) (λ v. Accepts m.state.gate m.room (initial v))
last-accepted m ps a = last-after m None ps tt a

-- a refused pair closes no stream
pub pairs-stay : (m : Moment) (s : State) (t : Told) (ps : List Setting) (f : Fault) → RefusesPairs m ps f → handled s t (Err f) ≡ s
pairs-stay m s t ps f (here (bad_window i n)) = refl
pairs-stay m s t ps f (here (bad_size i n)) = refl
pairs-stay m s t ps f (further {ps = rest} p r) = pairs-stay m s t rest f r

-- a setting that is known has its own identifier
pub decoded : (identifier : ℕ) (p : Parameter) → Decodes identifier (Ok p) → identifier ≡ identifier_of p
decoded identifier InitialWindow e = grind (arith, nat_tests)
decoded identifier FrameSize e = grind (arith, nat_tests)

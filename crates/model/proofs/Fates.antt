-- Grants over a run: the open ones are what gate and streams hold, and each grant has one fate.
use Rattle.std.proofs.Common.{◌≡◌, ℕ, ◌+◌, ◌-◌, ◌<◌, ◌≤◌, Bool, true, false, cond, eqb, [], ◌∷◌, is_some, Some, None, Option, sym, refl, ap, ◌∙◌, subst, ⊎_elim, arith}
use Rattle.std.specs.Option.{option_map}
use Rattle.std.specs.List.{AllByRecursion}
use Rattle.std.specs.Map.{update}
use Rattle.std.proofs.lemmas.Map.{update_here, update_apart}
use Rattle.std.proofs.lemmas.Bool.{cases_eq}
use Rattle.std.proofs.lemmas.Option.{same_Some, MatchOption-at_some}
use Rattle.wire.specs.declared.priorities.Priority.{Priority}
use Rattle.credit.specs.Credit.{Credit, Meaning, amount, held_by}
use Rattle.credit.specs.Calls.{raise, initial, raised, shifted, holding, spent, with_stream}
use Rattle.credit.specs.Calls.{after as credit-after}
use Rattle.model.specs.States.{Stream, State, Moment}
use Rattle.model.specs.Happenings.{Happening, starting, granting, closing, after, upon, queued, granted, settled_by}
use Rattle.model.specs.Histories.{Tale, on, open_grants, total, total_on, times, without_stream, settled_times, voided_times}
use Rattle.model.specs.Laws.{Fresh, Meant}
use Rattle.schedule.specs.Ranks.{Least, Chosen}
use Rattle.model.specs.Rules.{Holds, Ready, ReadyStream}
use Rattle.model.specs.declared.calls.Grant.{Grant}
use Rattle.model.proofs.Points.{on_same, on-is, on-other, on-most, at_each, none-some, is_none}
use Rattle.model.proofs.Effects.{Effect, Leases, quiet, ends, raises, renews, closes, ranks, starts, skips, queues, grants, sends, backs}
use Rattle.model.proofs.Grants.{total-without, none-on, other-on, all_without, all-to, number-stream, times-same, times-other, times-without, times_none}
use Rattle.model.proofs.Ties.{Ties, settling, fresh-stream, paired-some, paired_none}

-- the number of a stream's open grant
abbrev pub grant_of : Option Stream → Option ℕ
grant_of None = None
grant_of (Some x) = x.grant

abbrev pub opens_at : State → ℕ → Option ℕ
opens_at s q = grant_of (s.streams q)

-- how a grant's fates are counted
abbrev pub fates : ℕ → Tale → ℕ
fates n es = settled_times n es + voided_times n es + times n (open_grants es)

pub record Granted (es : Tale) (s : State) : Type 0 where
  pub sum : s.gate.held ≡ total (open_grants es)
  pub holds : (q : ℕ) → held_by (s.gate.stream q) ≡ total_on q (open_grants es)
  pub matched : AllByRecursion (λ g. opens_at s g.id ≡ Some g.number) (open_grants es)
  pub distinct : (p q n : ℕ) → opens_at s p ≡ Some n → opens_at s q ≡ Some n → p ≡ q
  pub below : (q n : ℕ) → opens_at s q ≡ Some n → (1 ≤ n) × (n ≤ s.given)
  pub most_once : (n : ℕ) → fates n es ≤ 1
  pub each_once : (n : ℕ) → 1 ≤ n → n ≤ s.given → fates n es ≡ 1
  pub none_yet : (n : ℕ) → s.given < n → fates n es ≡ 0
  pub listed : (q n : ℕ) → opens_at s q ≡ Some n → 1 ≤ times n (open_grants es)

-- a happening that touches no grant
quiet-grants : (es : Tale) (e : Happening) (s t : State) → Granted es s → open_grants (e ∷ es) ≡ open_grants es → ((n : ℕ) → settled_times n (e ∷ es) ≡ settled_times n es) → ((n : ℕ) → voided_times n (e ∷ es) ≡ voided_times n es) → t.gate.held ≡ s.gate.held → ((q : ℕ) → held_by (t.gate.stream q) ≡ held_by (s.gate.stream q)) → ((q : ℕ) → opens_at t q ≡ opens_at s q) → t.given ≡ s.given → Granted (e ∷ es) t
quiet-grants es e s t k same settled voided held holds opens given =
    let fate : (n : ℕ) → fates n (e ∷ es) ≡ fates n es = λ n. let a : times n (open_grants (e ∷ es)) ≡ times n (open_grants es) = ap (times n) same in omega (arith, settled n, voided n, a) in
    record {
      sum = held ∙ k.sum ∙ ap total (sym same);
      holds = λ q. holds q ∙ k.holds q ∙ ap (total_on q) (sym same);
      matched = subst (AllByRecursion (λ g. opens_at t g.id ≡ Some g.number)) (sym same) (all-to _ _ (open_grants es) (λ g h. opens g.id ∙ h) k.matched);
      distinct = λ p q n a b. k.distinct p q n (sym (opens p) ∙ a) (sym (opens q) ∙ b);
      below = λ q n a. ((k.below q n (sym (opens q) ∙ a)).0, omega (arith, given, (k.below q n (sym (opens q) ∙ a)).1));
      most_once = λ n. omega (arith, fate n, k.most_once n);
      each_once = λ n a b. fate n ∙ k.each_once n a (omega (arith, given));
      none_yet = λ n a. fate n ∙ k.none_yet n (omega (arith, given));
      listed = λ q n a. subst (λ gs. 1 ≤ times n gs) (sym same) (k.listed q n (sym (opens q) ∙ a));
    }

raise-held : (g : Meaning) (id v : ℕ) → (credit-after g (raise id v)).held ≡ g.held
raise-held g id v =
    elim (eqb id 0) as (λ b. (cond {A = Meaning} b (record { initial = g.initial; connection = g.connection + v; stream = g.stream; begun = g.begun; held = g.held; limit = g.limit }) (record { initial = g.initial; connection = g.connection; stream = with_stream g id (option_map (raised v) (g.stream id)); begun = g.begun; held = g.held; limit = g.limit })).held ≡ g.held) [ true ↦ refl | false ↦ refl ]

raised-held : (v : ℕ) (o : Option Credit) → held_by (option_map (raised v) o) ≡ held_by o
raised-held v None = refl
raised-held v (Some c) = refl

raise-holds : (g : Meaning) (id v q : ℕ) → held_by ((credit-after g (raise id v)).stream q) ≡ held_by (g.stream q)
raise-holds g id v q =
    elim (eqb id 0) as (λ b. held_by ((cond {A = Meaning} b (record { initial = g.initial; connection = g.connection + v; stream = g.stream; begun = g.begun; held = g.held; limit = g.limit }) (record { initial = g.initial; connection = g.connection; stream = with_stream g id (option_map (raised v) (g.stream id)); begun = g.begun; held = g.held; limit = g.limit })).stream q) ≡ held_by (g.stream q)) [ true ↦ refl | false ↦ at_each (λ k o. held_by o ≡ held_by (g.stream k)) g.stream id (option_map (raised v) (g.stream id)) (raised-held v (g.stream id)) (λ k n. refl) q ]

renew-held : (g : Meaning) (i : Option ℕ) → (upon i (λ v h. credit-after h (initial v)) g).held ≡ g.held
renew-held g None = refl
renew-held g (Some v) = refl

shifted-held : (a v : ℕ) (o : Option Credit) → held_by (option_map (shifted a v) o) ≡ held_by o
shifted-held a v None = refl
shifted-held a v (Some c) = refl

renew-holds : (g : Meaning) (i : Option ℕ) (q : ℕ) → held_by ((upon i (λ v h. credit-after h (initial v)) g).stream q) ≡ held_by (g.stream q)
renew-holds g None q = refl
renew-holds g (Some v) q = shifted-held g.initial v (g.stream q)

-- a record that changes and keeps its grant
grant-kept : (f : ℕ → Option Stream) (id : ℕ) (change : Stream → Stream) → ((x : Stream) → (change x).grant ≡ x.grant) → (q : ℕ) → grant_of (update eqb f id (option_map change (f id)) q) ≡ grant_of (f q)
grant-kept f id change same q = at_each (λ k o. grant_of o ≡ grant_of (f k)) f id (option_map change (f id)) (keeps (f id)) (λ k n. refl) q
  where
    keeps : (o : Option Stream) → grant_of (option_map change o) ≡ grant_of o
    keeps None = refl
    keeps (Some x) = same x

start-grants : (es : Tale) (s : State) (id : ℕ) (p : Priority) → s.highest < id → Ties es s → Granted es s → Granted (starting id p ∷ es) (after s (starting id p))
start-grants es s id p above ties k =
    let none : s.streams id ≡ None = ties.below id above in
    quiet-grants es (starting id p) s (after s (starting id p)) k refl (λ n. refl) (λ n. refl) refl
    (at_each (λ q o. held_by o ≡ held_by (s.gate.stream q)) s.gate.stream id (Some (record { window = _; held = None })) (ap held_by (sym (paired_none (s.streams id) (s.gate.stream id) (ties.paired id) none))) (λ q n. refl))
    (at_each (λ q o. grant_of o ≡ opens_at s q) s.streams id (Some fresh-stream) (ap grant_of (sym none)) (λ q n. refl))
    refl

-- a grant is given to a stream that has none
lease-grants : (es : Tale) (s t : State) (g : Grant) → Granted es s → opens_at s g.id ≡ None → g.number ≡ s.given + 1 → t.gate.held ≡ s.gate.held + g.octets → ((q : ℕ) → held_by (t.gate.stream q) ≡ on q g.id g.octets + held_by (s.gate.stream q)) → ((q : ℕ) → opens_at t q ≡ update eqb (opens_at s) g.id (Some g.number) q) → t.given ≡ s.given + 1 → Granted (granting g ∷ es) t
lease-grants es s t g k free number held holds opens given =
    let gs = open_grants es in
    let new : fates g.number es ≡ 0 = k.none_yet g.number (omega arith) in
    record {
      sum = omega (arith, held, k.sum);
      holds = λ q. holds q ∙ ap (λ z. on q g.id g.octets + z) (k.holds q);
      matched = (opens g.id ∙ update_here (opens_at s) g.id (Some g.number), all-to _ _ gs (λ y h. opens y.id ∙ update_apart (opens_at s) g.id (Some g.number) y.id (λ i. none-some (opens_at s g.id) y.number free (ap (opens_at s) (sym i) ∙ h)) ∙ h) k.matched);
      distinct = λ p q n a b. apart p q n (sym (opens p) ∙ a) (sym (opens q) ∙ b);
      below = λ q n a. at_each (λ i o. (n : ℕ) → o ≡ Some n → (1 ≤ n) × (n ≤ t.given)) (opens_at s) g.id (Some g.number) (λ j e. let same : g.number ≡ j = same_Some g.number j e in (omega arith, omega (arith, given))) (λ i ne j e. ((k.below i j e).0, omega (arith, given, (k.below i j e).1))) q n (sym (opens q) ∙ a);
      most_once = λ n. ⊎_elim (λ e. omega (arith, subst (λ j. fates j es ≡ 0) e new, on-most g.number n 1)) (λ ne. omega (arith, k.most_once n, on-other g.number n 1 ne)) (cases_eq g.number n);
      each_once = λ n a b. ⊎_elim (λ e. omega (arith, subst (λ j. fates j es ≡ 0) e new, on-is g.number n 1 e)) (λ ne. omega (arith, k.each_once n a (omega (arith, given, number)), on-other g.number n 1 ne)) (cases_eq g.number n);
      none_yet = λ n a. omega (arith, k.none_yet n (omega (arith, given)), on-other g.number n 1 (λ e. omega (arith, given)));
      listed = λ q n a. at_each (λ i o. (n : ℕ) → o ≡ Some n → 1 ≤ on g.number n 1 + times n gs) (opens_at s) g.id (Some g.number) (λ j e. omega (arith, on-is g.number j 1 (same_Some g.number j e))) (λ i ne j e. omega (arith, k.listed i j e)) q n (sym (opens q) ∙ a);
    }
  where
    new-of : (i n : ℕ) → opens_at s i ≡ Some n → g.number ≡ n → ⊥
    new-of i n e same = omega (arith, number, (k.below i n e).1)

    apart : (p q n : ℕ) → update eqb (opens_at s) g.id (Some g.number) p ≡ Some n → update eqb (opens_at s) g.id (Some g.number) q ≡ Some n → p ≡ q
    apart = at_each (λ p o. (q n : ℕ) → o ≡ Some n → update eqb (opens_at s) g.id (Some g.number) q ≡ Some n → p ≡ q) (opens_at s) g.id (Some g.number)
        (λ q n e. at_each (λ i o. o ≡ Some n → g.id ≡ i) (opens_at s) g.id (Some g.number) (λ _. refl) (λ i ne e₁. absurd (new-of i n e₁ (same_Some g.number n e))) q)
        (λ p ne q n e. at_each (λ i o. o ≡ Some n → p ≡ i) (opens_at s) g.id (Some g.number) (λ e₁. absurd (new-of p n e (same_Some g.number n e₁))) (λ i ne₁ e₁. k.distinct p i n e e₁) q)

-- the grant of a stream goes, if it has one
gone-grants : (es : Tale) (e : Happening) (s t : State) (id : ℕ) → Granted es s → open_grants (e ∷ es) ≡ without_stream id (open_grants es) → ((n : ℕ) → fates n (e ∷ es) ≡ fates n es) → t.gate.held ≡ s.gate.held - held_by (s.gate.stream id) → ((q : ℕ) → (q ≡ id → ⊥) → held_by (t.gate.stream q) ≡ held_by (s.gate.stream q)) → held_by (t.gate.stream id) ≡ 0 → ((q : ℕ) → opens_at t q ≡ update eqb (opens_at s) id None q) → t.given ≡ s.given → Granted (e ∷ es) t
gone-grants es e s t id k same fate held others here opens given =
    let gs = open_grants es in
    record {
      sum = let a : total (open_grants (e ∷ es)) ≡ total (without_stream id gs) = ap total same in omega (arith, held, k.sum, k.holds id, total-without id gs, a);
      holds = λ q. ⊎_elim (λ i. ap (λ j. held_by (t.gate.stream j)) i ∙ here ∙ sym (ap (λ j. total_on j (without_stream id gs)) i ∙ none-on id gs) ∙ ap (total_on q) (sym same)) (λ ne. others q ne ∙ k.holds q ∙ sym (other-on q id gs ne) ∙ ap (total_on q) (sym same)) (cases_eq q id);
      matched = subst (AllByRecursion (λ y. opens_at t y.id ≡ Some y.number)) (sym same) (all_without _ _ id gs (λ y ne h. opens y.id ∙ update_apart (opens_at s) id None y.id ne ∙ h) k.matched);
      distinct = λ p q n a b. k.distinct p q n (was p n a) (was q n b);
      below = λ q n a. ((k.below q n (was q n a)).0, omega (arith, given, (k.below q n (was q n a)).1));
      most_once = λ n. omega (arith, fate n, k.most_once n);
      each_once = λ n a b. fate n ∙ k.each_once n a (omega (arith, given));
      none_yet = λ n a. fate n ∙ k.none_yet n (omega (arith, given));
      listed = λ q n a. let b : times n (open_grants (e ∷ es)) ≡ times n (without_stream id gs) = ap (times n) same in omega (arith, b, k.listed q n (was q n a), times-without id n gs, times_none (opens_at s) id n gs k.matched (λ o. free q n a (k.distinct q id n (was q n a) o)));
    }
  where
    was : (q n : ℕ) → opens_at t q ≡ Some n → opens_at s q ≡ Some n
    was q n a = at_each (λ i o. o ≡ Some n → opens_at s i ≡ Some n) (opens_at s) id None (λ e₁. absurd (none-some None n refl e₁)) (λ i ne e₁. e₁) q (sym (opens q) ∙ a)

    free : (q n : ℕ) → opens_at t q ≡ Some n → q ≡ id → ⊥
    free q n a i = none-some (opens_at t id) n (opens id ∙ update_here (opens_at s) id None) (ap (opens_at t) (sym i) ∙ a)

-- what the streams' open grants are after a change at one of them
granted-opens : (f : ℕ → Option Stream) (id number : ℕ) (x : Stream) → f id ≡ Some x → (q : ℕ) → grant_of (update eqb f id (option_map (granted number) (f id)) q) ≡ update eqb (λ k. grant_of (f k)) id (Some number) q
granted-opens f id number x e q = elim (eqb id q) as (λ b. grant_of (cond b (option_map (granted number) (f id)) (f q)) ≡ cond b (Some number) (grant_of (f q))) [ true ↦ ap (λ o. grant_of (option_map (granted number) o)) e | false ↦ refl ]

settled-opens : (f : ℕ → Option Stream) (id n q : ℕ) → grant_of (update eqb f id (option_map (settled_by n) (f id)) q) ≡ update eqb (λ k. grant_of (f k)) id None q
settled-opens f id n q = elim (eqb id q) as (λ b. grant_of (cond b (option_map (settled_by n) (f id)) (f q)) ≡ cond b None (grant_of (f q))) [ true ↦ none (f id) | false ↦ refl ]
  where
    none : (o : Option Stream) → grant_of (option_map (settled_by n) o) ≡ None
    none None = refl
    none (Some x) = refl

closed-opens : (f : ℕ → Option Stream) (id q : ℕ) → grant_of (update eqb f id None q) ≡ update eqb (λ k. grant_of (f k)) id None q
closed-opens f id q = elim (eqb id q) as (λ b. grant_of (cond b None (f q)) ≡ cond b None (grant_of (f q))) [ true ↦ refl | false ↦ refl ]

-- what streams hold after a change at one of them
held-apart : (f : ℕ → Option Credit) (id : ℕ) (o : Option Credit) (q : ℕ) → (q ≡ id → ⊥) → held_by (update eqb f id o q) ≡ held_by (f q)
held-apart f id o q ne = ap held_by (update_apart f id o q ne)

spent-none : (n : ℕ) (o : Option Credit) → held_by (option_map (spent n) o) ≡ 0
spent-none n None = refl
spent-none n (Some c) = refl

holding-held : (id n : ℕ) (f : ℕ → Option Credit) (c : Credit) → f id ≡ Some c → c.held ≡ None → (q : ℕ) → held_by (update eqb f id (option_map (holding n) (f id)) q) ≡ on q id n + held_by (f q)
holding-held id n f c e none q =
    ⊎_elim
    (λ i. ap (λ j. held_by (update eqb f id (option_map (holding n) (f id)) j)) i ∙ ap held_by (update_here f id (option_map (holding n) (f id)) ∙ ap (option_map (holding n)) e) ∙ (let a : held_by (f q) ≡ 0 = ap (λ j. held_by (f j)) i ∙ ap held_by e ∙ ap amount none in omega (arith, a, on-is q id n i)))
    (λ ne. held-apart f id (option_map (holding n) (f id)) q ne ∙ (omega (arith, on-other q id n ne)))
    (cases_eq q id)

settle-grants : (es : Tale) (s : State) (number id n : ℕ) (put : Option Bool) (x : Stream) → Holds s number id x → Granted es s → Granted (settling number id n put ∷ es) (after s (settling number id n put))
settle-grants es s number id n put x holds k =
    let e = settling number id n put in
    let gs = open_grants es in
    let mine : opens_at s id ≡ Some number = ap grant_of holds.open_stream ∙ holds.grant in
    let had = k.listed id number mine in
    gone-grants es e s (after s e) id k (number-stream (opens_at s) id number gs mine k.distinct k.matched)
    (λ j. ⊎_elim (λ i. subst (λ j₁. fates j₁ (e ∷ es) ≡ fates j₁ es) i (omega (arith, k.most_once number, had, times-same number gs, on_same number 1))) (λ ne. omega (arith, times-other j number gs ne, on-other number j 1 ne)) (cases_eq number j))
    refl (held-apart s.gate.stream id (option_map (spent n) (s.gate.stream id))) (ap held_by (update_here s.gate.stream id (option_map (spent n) (s.gate.stream id))) ∙ spent-none n (s.gate.stream id)) (settled-opens s.streams id n) refl

close-grants : (es : Tale) (s : State) (id : ℕ) → Granted es s → Granted (closing id ∷ es) (after s (closing id))
close-grants es s id k =
    gone-grants es (closing id) s (after s (closing id)) id k refl (λ n. omega (arith, times-without id n (open_grants es))) refl (held-apart s.gate.stream id None) (ap held_by (update_here s.gate.stream id None)) (closed-opens s.streams id) refl

-- the granted stream is one of the ready ones, so it has no grant
pub lease-ready : (m : Moment) (g : Grant) → Meant m → Leases m g → Ready m g.id
lease-ready m g meant by = by.ready.ready g.id (chosen (m.picks by.ids) by.picked (meant.choice by.ids)).listed
  where
    chosen : (o : Option ℕ) → o ≡ Some g.id → Least m.state.ranks by.ids o → Chosen m.state.ranks by.ids g.id
    chosen None e l = absurd (none-some None g.id refl e)
    chosen (Some i) e l = subst (Chosen m.state.ranks by.ids) (same_Some i g.id e) l

grant-grants : (es : Tale) (m : Moment) (g : Grant) → Meant m → Ties es m.state → Leases m g → Granted es m.state → Granted (granting g ∷ es) (after m.state (granting g))
grant-grants es m g meant ties by k =
    let s = m.state in
    let x = by.stream in
    let free : x.grant ≡ None = (MatchOption-at_some ⊥ (ReadyStream (m.room g.id)) x by.is (lease-ready m g meant by)).0 in
    let c = paired-some (s.streams g.id) (s.gate.stream g.id) x (ties.paired g.id) by.is in
    let unheld : c.0.held ≡ None = is_none c.0.held (c.2 ∙ ap is_some free) in
    lease-grants es s (after s (granting g)) g k (ap grant_of by.is ∙ free) by.number refl (holding-held g.id g.octets s.gate.stream c.0 c.1 unheld) (granted-opens s.streams g.id g.number x by.is) refl

-- grants follow what happens
pub grants-after : (es : Tale) (m : Moment) (e : Happening) → Meant m → Ties es m.state → Granted es m.state → Effect m e → Granted (e ∷ es) (after m.state e)
grants-after es m e meant ties k quiet = quiet-grants es e m.state (after m.state e) k refl (λ n. refl) (λ n. refl) refl (λ q. refl) (λ q. refl) refl
grants-after es m e meant ties k ends = quiet-grants es e m.state (after m.state e) k refl (λ n. refl) (λ n. refl) refl (λ q. refl) (λ q. refl) refl
grants-after es m e meant ties k (raises id v can) = quiet-grants es e m.state (after m.state e) k refl (λ n. refl) (λ n. refl) (raise-held m.state.gate id v) (raise-holds m.state.gate id v) (λ q. refl) refl
grants-after es m e meant ties k (renews i f) = quiet-grants es e m.state (after m.state e) k refl (λ n. refl) (λ n. refl) (renew-held m.state.gate i) (renew-holds m.state.gate i) (λ q. refl) refl
grants-after es m e meant ties k (closes id is) = close-grants es m.state id k
grants-after es m e meant ties k (ranks id p is) = quiet-grants es e m.state (after m.state e) k refl (λ n. refl) (λ n. refl) refl (λ q. refl) (λ q. refl) refl
grants-after es m e meant ties k (starts id p above) = start-grants es m.state id p above ties k
grants-after es m e meant ties k (skips id above) = quiet-grants es e m.state (after m.state e) k refl (λ n. refl) (λ n. refl) refl (λ q. refl) (λ q. refl) refl
grants-after es m e meant ties k (queues id n end is) = quiet-grants es e m.state (after m.state e) k refl (λ j. refl) (λ j. refl) refl (λ q. refl) (grant-kept m.state.streams id (queued n end) (λ x. refl)) refl
grants-after es m e meant ties k (grants g by) = grant-grants es m g meant ties by k
grants-after es m e meant ties k (sends number id n true x holds fits) =
    let before = settling number id n (Some true) in
    let t = close-grants (before ∷ es) (after m.state before) id (settle-grants es m.state number id n (Some true) x holds k) in
    record { sum = t.sum; holds = t.holds; matched = t.matched; distinct = t.distinct; below = t.below; most_once = t.most_once; each_once = t.each_once; none_yet = t.none_yet; listed = t.listed }
grants-after es m e meant ties k (sends number id n false x holds fits) = settle-grants es m.state number id n (Some false) x holds k
grants-after es m e meant ties k (backs number id x holds) = settle-grants es m.state number id 0 None x holds k

pub grants-fresh : (m : Moment) → Fresh m → Granted [] m.state
grants-fresh m f =
    let none : (q : ℕ) → opens_at m.state q ≡ None = λ q. ap (λ g. grant_of (g q)) f.streams in
    record {
      sum = ap (λ g. g.held) f.gate;
      holds = λ q. ap (λ g. held_by (g.stream q)) f.gate;
      matched = tt;
      distinct = λ p q n a b. absurd (none-some (opens_at m.state p) n (none p) a);
      below = λ q n a. absurd (none-some (opens_at m.state q) n (none q) a);
      most_once = λ n. omega arith;
      each_once = λ n a b. absurd (omega (arith, f.given));
      none_yet = λ n a. refl;
      listed = λ q n a. absurd (none-some (opens_at m.state q) n (none q) a);
    }

-- The credit law, by induction over the history.
use Rattle.std.proofs.Common.{◌≡◌, ℕ, ◌+◌, ◌<◌, ◌≤◌, true, false, List, [], ◌∷◌, is_some, is_ok, Some, None, Option, sym, refl, ap, ◌∙◌, subst, arith, MatchOption}
use Rattle.std.proofs.lemmas.Int.{ints}
use Rattle.std.proofs.lemmas.Bool.{true≢false}
use Rattle.std.proofs.lemmas.Option.{same_Some}
use Rattle.wire.specs.Urgencies.{urgency_number}
use Rattle.wire.specs.declared.priorities.Priority.{Priority}
use Rattle.schedule.specs.Ranks.{Least, Chosen}
use Rattle.credit.specs.Credit.{Credit, held_by}
use Rattle.model.specs.Calls.{Ask, lease, Answer}
use Rattle.model.specs.States.{Stream, State, Moment, Paired, Tied}
use Rattle.model.specs.Happenings.{Happening, happened, after}
use Rattle.model.specs.Histories.{History, start, call, Tale, tale_of, open_in, priority_in, live_in, given_in, total_on, open_grants}
use Rattle.model.specs.Laws.{Meant, Fresh, Runs, EachWithin, Balances, Law, FairGrant, FairLease, Fair, Every-run, GoesOn, Steps}
use Rattle.model.specs.Rules.{Answers, dead, leases, used_up, none_ready, leased, Ready, ReadyStream, grantable}
use Rattle.model.specs.declared.calls.Grant.{Grant}
use Rattle.model.proofs.Points.{none-some, some_is, some_of, cases-is, cases_of}
use Rattle.model.proofs.Effects.{Effect, Leases, quiet, ends, raises, renews, closes, ranks, starts, skips, queues, grants, sends, backs, effect}
use Rattle.model.proofs.Ties.{Ties, ties-after, ties-fresh, tied_of}
use Rattle.model.proofs.Windows.{Money, Window, money-after, money-fresh, within-after}
use Rattle.model.proofs.Fates.{Granted, grants-after, grants-fresh, lease-ready}

-- what every run keeps
pub record Kept (es : Tale) (s : State) : Type 0 where
  pub ties : Ties es s
  pub money : Money es s
  pub grants : Granted es s
  pub within : EachWithin es

step_kept : (es : Tale) (m : Moment) (e : Happening) → Meant m → Kept es m.state → Effect m e → Kept (e ∷ es) (after m.state e)
step_kept es m e meant k does =
    record {
      ties = ties-after es m e k.ties does;
      money = money-after es m e meant.gate k.ties k.money does;
      grants = grants-after es m e meant k.ties k.grants does;
      within = within-after es m e meant.gate k.ties k.money k.within does;
    }

pub kept : (m : Moment) (h : History) (n : Moment) → Fresh m → Runs m h n → Kept (tale_of h) n.state × Meant n
kept m start n fresh run = subst (λ (u : Moment). Kept [] u.state × Meant u) (sym run) (record { ties = ties-fresh m fresh; money = money-fresh m fresh; grants = grants-fresh m fresh; within = tt }, fresh.meant)
kept m (call h a r) n fresh run =
    let between = run.0 in
    let k = kept m h between fresh run.1 in
    let step = run.2 in
    (subst (Kept (tale_of (call h a r))) (sym step.leaves) (step_kept (tale_of h) between (happened a r) k.1 k.0 (effect between a r step.answers)), step.meant)

balanced : (es : Tale) (q : ℕ) (x : Option Stream) (o : Option Credit) → Paired x o → is_some x ≡ open_in q es → Window es q o → held_by o ≡ total_on q (open_grants es) → MatchOption o (open_in q es ≡ false) (Balances q es)
balanced es q None None paired opened w held = sym opened
balanced es q None (Some c) paired opened w held = absurd paired
balanced es q (Some x) None paired opened w held = absurd paired
balanced es q (Some x) (Some c) paired opened w held = record { opened = sym opened; balance = omega (arith, ints, w, held); held = held }

law-of : (es : Tale) (n : Moment) → Meant n → Kept es n.state → Law es n.state
law-of es n meant k =
    let s = n.state in
    let ties = k.ties in
    let money = k.money in
    let granted = k.grants in
    record {
      connection = omega (arith, money.connection, money.octets, meant.gate.held);
      streams = λ q. balanced es q (s.streams q) (s.gate.stream q) (ties.paired q) (ties.opened q) (money.windows q) (granted.holds q);
      window = money.connection;
      sent = money.octets;
      frames = money.frames;
      held = granted.sum;
      fates = λ j a b. granted.each_once j a (omega (arith, ties.given));
      within = k.within;
      opened = ties.opened;
      initial = money.initial;
      frame_size = ties.frame_size;
      given = ties.given;
      live = ties.live;
      urgencies = λ q o. ties.urgencies q (ties.opened q ∙ o);
    }

-- only a lease grants
only-leases : (m : Moment) (e : Happening) (g : Grant) → Effect m e → e.granted ≡ Some g → Leases m g
only-leases m e g quiet i = absurd (none-some None g refl i)
only-leases m e g ends i = absurd (none-some None g refl i)
only-leases m e g (raises id v can) i = absurd (none-some None g refl i)
only-leases m e g (renews w f) i = absurd (none-some None g refl i)
only-leases m e g (closes id is) i = absurd (none-some None g refl i)
only-leases m e g (ranks id p is) i = absurd (none-some None g refl i)
only-leases m e g (starts id p above) i = absurd (none-some None g refl i)
only-leases m e g (skips id above) i = absurd (none-some None g refl i)
only-leases m e g (queues id n end is) i = absurd (none-some None g refl i)
only-leases m e g (grants k by) i = subst (Leases m) (same_Some k g i) by
only-leases m e g (sends number id n end x holds fits) i = absurd (none-some None g refl i)
only-leases m e g (backs number id x holds) i = absurd (none-some None g refl i)

-- a ready stream is open and has a rank, which is its priority as last accepted
ready-ranked : (es : Tale) (m : Moment) (q : ℕ) → Ties es m.state → Ready m q → (p : Priority) × (m.state.ranks.rank q ≡ Some p) × (priority_in q es ≡ Some p)
ready-ranked es m q ties ready =
    let x = cases-is (ReadyStream (m.room q)) (m.state.streams q) ready in
    let is : is_some (m.state.streams q) ≡ true = some_is (m.state.streams q) x.0 x.1 in
    let p = some_of (m.state.ranks.rank q) (ties.ranked q ∙ is) in
    (p.0, p.1, sym (ties.urgencies q is) ∙ p.1)

least-of : (m : Moment) (ids : List ℕ) (id : ℕ) → m.picks ids ≡ Some id → Meant m → Chosen m.state.ranks ids id
least-of m ids id e meant = at (m.picks ids) e (meant.choice ids)
  where
    at : (o : Option ℕ) → o ≡ Some id → Least m.state.ranks ids o → Chosen m.state.ranks ids id
    at None i l = absurd (none-some None id refl i)
    at (Some j) i l = subst (Chosen m.state.ranks ids) (same_Some j id i) l

fair-grant : (es : Tale) (m : Moment) (g : Grant) → Meant m → Ties es m.state → Leases m g → FairGrant es m g
fair-grant es m g meant ties by =
    let chosen = least-of m by.ids g.id by.picked meant in
    let ready = lease-ready m g meant by in
    let mine = ready-ranked es m g.id ties ready in
    record {
      number = by.number ∙ ap (λ n. n + 1) ties.given;
      ready = ready;
      least = λ q other.
          let theirs = ready-ranked es m q ties other in
          let order : urgency_number chosen.priority.urgency ≤ urgency_number theirs.0.urgency = chosen.least q theirs.0 (by.ready.all q other) theirs.1 in
          let same : chosen.priority ≡ mine.0 = same_Some chosen.priority mine.0 (sym chosen.is_in ∙ mine.1) in
          rw (mine.2, theirs.2) (subst (λ (p : Priority). urgency_number p.urgency ≤ urgency_number theirs.0.urgency) same order);
      length = cases_of (λ x. g.octets ≡ grantable m g.id x) (m.state.streams g.id) by.stream by.is by.octets;
    }

refused-lease : (es : Tale) (m : Moment) (r : Answer) → Ties es m.state → Answers m lease r → live_in es ≡ true → given_in es < 1000000 → is_ok r ≡ false → (q : ℕ) → Ready m q → ⊥
refused-lease es m r ties (dead n) live few not-ok q ready = absurd (true≢false (sym live ∙ sym ties.live ∙ n))
refused-lease es m r ties (leases l (used_up u)) live few not-ok q ready = omega (arith, ties.given)
refused-lease es m r ties (leases l (none_ready u n)) live few not-ok q ready = n q ready
refused-lease es m r ties (leases l (leased ids id x u i p e)) live few not-ok q ready = true≢false not-ok

carried-lease : (es : Tale) (m : Moment) (r : Answer) → Meant m → Answers m lease r → ((q : ℕ) → Ready m q → ⊥) → is_ok r ≡ false
carried-lease es m r meant (dead n) none = refl
carried-lease es m r meant (leases l (used_up u)) none = refl
carried-lease es m r meant (leases l (none_ready u n)) none = refl
carried-lease es m r meant (leases l (leased ids id x u i p e)) none = absurd (none id (i.ready id (least-of m ids id p meant).listed))

fair-lease : (es : Tale) (m : Moment) (a : Ask) (r : Answer) → Meant m → Ties es m.state → Answers m a r → FairLease es m a r
fair-lease es m a r meant ties answers =
    record {
      grants = λ g e. fair-grant es m g meant ties (only-leases m (happened a r) g (effect m a r answers) e);
      refused = λ e. refused-lease es m r ties (subst (λ b. Answers m b r) e answers);
      carried = λ e live few. carried-lease es m r meant (subst (λ b. Answers m b r) e answers);
    }

fair : (m : Moment) (h : History) (n : Moment) → Fresh m → (run : Runs m h n) → Fair m h n run
fair m start n fresh run = tt
fair m (call h a r) n fresh run =
    let k = kept m h run.0 fresh run.1 in
    (fair m h run.0 fresh run.1, fair-lease (tale_of h) run.0 a r k.1 k.0.ties run.2.answers)

pub every-run : Every-run
every-run m h n fresh run = let k = kept m h n fresh run in (law-of (tale_of h) n k.1 k.0, fair m h n fresh run)

-- where a run leads, all stands together
pub run-tied : (m : Moment) (h : History) (n : Moment) → Fresh m → Runs m h n → Tied n.state
run-tied m h n fresh run = let k = kept m h n fresh run in tied_of (tale_of h) n.state k.0.ties

-- one call by the rules goes on
pub goes_on : (e x : Moment) (a : Ask) (r : Answer) → Meant x → Steps e a r x → GoesOn e a r x
goes_on e x a r meant step m h reached =
    let done = step (run-tied m h e reached.fresh reached.run) in
    let run : Runs m (call h a r) x = (e, reached.run, record { answers = done.0; leaves = done.1; meant = meant }) in
    let all = every-run m (call h a r) x reached.fresh run in
    record { reached = record { fresh = reached.fresh; run = run }; law = all.0; fair = all.1 }

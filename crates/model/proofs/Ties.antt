-- What stands together at every moment of a run: a stream's record, its credit and its rank, and what the tale tells of it.
use Rattle.std.proofs.Common.{◌≡◌, ℕ, ◌+◌, ◌-◌, ◌<◌, Bool, true, false, cond, eqb, [], ◌∷◌, pos, is_some, Some, None, Option, sym, refl, ap, ◌∙◌, subst, arith}
use Rattle.std.specs.Option.{option_map}
use Rattle.std.specs.Map.{update}
use Rattle.std.proofs.lemmas.Bool.{false≢true}
use Rattle.std.proofs.lemmas.Option.{same_Some}
use Rattle.std.proofs.lemmas.Iterator.Adapters.{option_map_id}
use Rattle.credit.specs.Credit.{Credit, Meaning}
use Rattle.credit.specs.Calls.{raise, initial, raised, shifted, holding, spent, with_stream}
use Rattle.credit.specs.Calls.{after as credit-after}
use Rattle.model.specs.States.{Stream, State, Moment, Paired, Tied}
use Rattle.model.specs.Happenings.{Happening, closing, after, upon, queued, granted, settled_by}
use Rattle.model.specs.Histories.{Tale, open_in, priority_in, frame_size_in, given_in, live_in}
use Rattle.model.specs.Laws.{Fresh}
use Rattle.model.specs.Rules.{IsOpen}
use Rattle.model.proofs.Points.{either-way, at_each, at_both, none-some, some_is, none_is, is_none, some_mapped}
use Rattle.model.proofs.Effects.{Effect, quiet, ends, raises, renews, closes, ranks, starts, skips, queues, grants, sends, backs}

-- a settle that closes nothing
abbrev pub settling : ℕ → ℕ → ℕ → Option Bool → Happening
settling number id n put = record { raised = None; initial = None; frame_size = None; opened = None; counted = None; ranked = None; offered = None; granted = None; settled = Some (record { number = number; id = id; octets = n; put = put }); closed = None; ended = false }

abbrev pub fresh-stream : Stream
fresh-stream = record { queue = 0; ended = false; grant = None }

pub record Ties (es : Tale) (s : State) : Type 0 where
  pub paired : (q : ℕ) → Paired (s.streams q) (s.gate.stream q)
  pub ranked : (q : ℕ) → is_some (s.ranks.rank q) ≡ is_some (s.streams q)
  pub below : (q : ℕ) → s.highest < q → s.streams q ≡ None
  pub begun : s.gate.begun ≡ s.many
  pub entered : s.ranks.entered ≡ s.many
  pub opened : (q : ℕ) → is_some (s.streams q) ≡ open_in q es
  pub urgencies : (q : ℕ) → is_some (s.streams q) ≡ true → s.ranks.rank q ≡ priority_in q es
  pub frame_size : s.frame_size ≡ frame_size_in es
  pub given : s.given ≡ given_in es
  pub live : s.live ≡ live_in es

pub tied_of : (es : Tale) (s : State) → Ties es s → Tied s
tied_of es s k = record { paired = k.paired; ranked = k.ranked; below = k.below; begun = k.begun; entered = k.entered }

pub paired-some : (o : Option Stream) (c : Option Credit) (x : Stream) → Paired o c → o ≡ Some x → (d : Credit) × (c ≡ Some d) × (is_some d.held ≡ is_some x.grant)
paired-some None c x h e = absurd (none-some None x refl e)
paired-some (Some y) None x h e = absurd h
paired-some (Some y) (Some d) x h e = (d, refl, h ∙ ap (λ z. is_some z.grant) (same_Some y x e))

pub paired_none : (o : Option Stream) (c : Option Credit) → Paired o c → o ≡ None → c ≡ None
paired_none None None h e = refl
paired_none None (Some c) h e = absurd h
paired_none (Some y) c h e = absurd (none-some (Some y) y e refl)

pub paired-open : (o : Option Stream) (c : Option Credit) (d : Credit) → Paired o c → c ≡ Some d → is_some o ≡ true
paired-open None None d h e = absurd (none-some None d refl e)
paired-open None (Some c) d h e = absurd h
paired-open (Some y) c d h e = refl

-- both change, and what is held stays
same-held : (f : Stream → Stream) (g : Credit → Credit) → ((x : Stream) → (f x).grant ≡ x.grant) → ((c : Credit) → (g c).held ≡ c.held) → (o : Option Stream) (c : Option Credit) → Paired o c → Paired (option_map f o) (option_map g c)
same-held f g p q None None h = tt
same-held f g p q None (Some c) h = h
same-held f g p q (Some x) None h = h
same-held f g p q (Some x) (Some c) h = ap is_some (q c) ∙ h ∙ sym (ap is_some (p x))

-- one of the two changes, and what is held stays
credit-held : (g : Credit → Credit) → ((c : Credit) → (g c).held ≡ c.held) → (o : Option Stream) (c : Option Credit) → Paired o c → Paired o (option_map g c)
credit-held g q o c h = subst (λ u. Paired u (option_map g c)) (option_map_id o) (same-held (λ x. x) g (λ x. refl) q o c h)

stream-held : (f : Stream → Stream) → ((x : Stream) → (f x).grant ≡ x.grant) → (o : Option Stream) (c : Option Credit) → Paired o c → Paired (option_map f o) c
stream-held f p o c h = subst (λ u. Paired (option_map f o) u) (option_map_id c) (same-held f (λ d. d) p (λ d. refl) o c h)

-- both hold from now on, or neither does
now-held : (number n : ℕ) (o : Option Stream) (c : Option Credit) → Paired o c → Paired (option_map (granted number) o) (option_map (holding n) c)
now-held number n None None h = tt
now-held number n None (Some c) h = h
now-held number n (Some x) None h = h
now-held number n (Some x) (Some c) h = refl

now-free : (n k : ℕ) (o : Option Stream) (c : Option Credit) → Paired o c → Paired (option_map (settled_by n) o) (option_map (spent k) c)
now-free n k None None h = tt
now-free n k None (Some c) h = h
now-free n k (Some x) None h = h
now-free n k (Some x) (Some c) h = refl

-- a change at one id that keeps what is there
some-amended : (f : ℕ → Option Stream) (change : Stream → Stream) (id q : ℕ) → is_some (update eqb f id (option_map change (f id)) q) ≡ is_some (f q)
some-amended f change id q = at_each (λ k o. is_some o ≡ is_some (f k)) f id (option_map change (f id)) (some_mapped change (f id)) (λ k n. refl) q

none-amended : (f : ℕ → Option Stream) (change : Stream → Stream) (id q : ℕ) → f q ≡ None → update eqb f id (option_map change (f id)) q ≡ None
none-amended f change id q e = is_none _ (some-amended f change id q ∙ none_is (f q) e)

-- an open stream's record or credit changes, and nothing else that is tied
amend-ties : (es : Tale) (e : Happening) (s : State) (change : Stream → Stream) (id : ℕ) (t : State) → Ties es s → t.streams ≡ update eqb s.streams id (option_map change (s.streams id)) → ((q : ℕ) → Paired (update eqb s.streams id (option_map change (s.streams id)) q) (t.gate.stream q)) → t.ranks ≡ s.ranks → t.highest ≡ s.highest → t.gate.begun ≡ s.gate.begun → t.many ≡ s.many → ((q : ℕ) → open_in q (e ∷ es) ≡ open_in q es) → ((q : ℕ) → priority_in q (e ∷ es) ≡ priority_in q es) → t.frame_size ≡ frame_size_in (e ∷ es) → t.given ≡ given_in (e ∷ es) → t.live ≡ live_in (e ∷ es) → Ties (e ∷ es) t
amend-ties es e s change id t k streams paired same-ranks highest begun many open-same rank_same frame given live =
    record {
      paired = λ q. subst (λ f. Paired (f q) (t.gate.stream q)) (sym streams) (paired q);
      ranked = λ q. ap (λ m. is_some (m.rank q)) same-ranks ∙ k.ranked q ∙ sym (some-amended s.streams change id q) ∙ ap (λ f. is_some (f q)) (sym streams);
      below = λ q l. ap (λ f. f q) streams ∙ none-amended s.streams change id q (k.below q (subst (λ n. n < q) highest l));
      begun = begun ∙ k.begun ∙ sym many;
      entered = ap (λ m. m.entered) same-ranks ∙ k.entered ∙ sym many;
      opened = λ q. ap (λ f. is_some (f q)) streams ∙ some-amended s.streams change id q ∙ k.opened q ∙ sym (open-same q);
      urgencies = λ q i. ap (λ m. m.rank q) same-ranks ∙ k.urgencies q (sym (some-amended s.streams change id q) ∙ ap (λ f. is_some (f q)) (sym streams) ∙ i) ∙ sym (rank_same q);
      frame_size = frame;
      given = given;
      live = live;
    }

close-ties : (es : Tale) (s : State) (id : ℕ) → IsOpen s id → Ties es s → Ties (closing id ∷ es) (after s (closing id))
close-ties es s id is k =
    record {
      paired = at_both (λ q o c. Paired o c) s.streams s.gate.stream id None None tt (λ q n. k.paired q);
      ranked = at_both (λ q o c. is_some c ≡ is_some o) s.streams s.ranks.rank id None None refl (λ q n. k.ranked q);
      below = λ q l. at_each (λ i o. s.highest < i → o ≡ None) s.streams id None (λ _. refl) (λ i n. k.below i) q l;
      begun = ap (λ n. n - 1) k.begun;
      entered = ap (λ n. n - 1) k.entered;
      opened = λ q.
          subst (λ c. is_some (cond c None (s.streams q)) ≡ cond (eqb q id) false (open_in q es)) (either-way q id)
          (elim (eqb q id) as (λ b. is_some (cond b None (s.streams q)) ≡ cond b false (open_in q es)) [ true ↦ refl | false ↦ k.opened q ]);
      urgencies = λ q. elim (eqb id q) as (λ b. is_some (cond b None (s.streams q)) ≡ true → cond b None (s.ranks.rank q) ≡ priority_in q es) [ true ↦ (λ i. absurd (false≢true i)) | false ↦ k.urgencies q ];
      frame_size = k.frame_size;
      given = k.given;
      live = k.live;
    }

-- the gate alone moves, and keeps what is begun and held
gate-ties : (es : Tale) (e : Happening) (s t : State) → Ties es s → ((q : ℕ) → Paired (s.streams q) (t.gate.stream q)) → t.gate.begun ≡ s.gate.begun → t.streams ≡ s.streams → t.ranks ≡ s.ranks → t.highest ≡ s.highest → t.many ≡ s.many → ((q : ℕ) → open_in q (e ∷ es) ≡ open_in q es) → ((q : ℕ) → priority_in q (e ∷ es) ≡ priority_in q es) → t.frame_size ≡ frame_size_in (e ∷ es) → t.given ≡ given_in (e ∷ es) → t.live ≡ live_in (e ∷ es) → Ties (e ∷ es) t
gate-ties es e s t k paired begun streams same-ranks highest many open-same rank_same frame given live =
    record {
      paired = λ q. subst (λ f. Paired (f q) (t.gate.stream q)) (sym streams) (paired q);
      ranked = λ q. ap (λ m. is_some (m.rank q)) same-ranks ∙ k.ranked q ∙ ap (λ f. is_some (f q)) (sym streams);
      below = λ q l. ap (λ f. f q) streams ∙ k.below q (subst (λ n. n < q) highest l);
      begun = begun ∙ k.begun ∙ sym many;
      entered = ap (λ m. m.entered) same-ranks ∙ k.entered ∙ sym many;
      opened = λ q. ap (λ f. is_some (f q)) streams ∙ k.opened q ∙ sym (open-same q);
      urgencies = λ q i. ap (λ m. m.rank q) same-ranks ∙ k.urgencies q (ap (λ f. is_some (f q)) (sym streams) ∙ i) ∙ sym (rank_same q);
      frame_size = frame;
      given = given;
      live = live;
    }

raise-paired : (g : Meaning) (id v : ℕ) (f : ℕ → Option Stream) → ((q : ℕ) → Paired (f q) (g.stream q)) → (q : ℕ) → Paired (f q) ((credit-after g (raise id v)).stream q)
raise-paired g id v f h q =
    elim (eqb id 0) as (λ b. Paired (f q) ((cond {A = Meaning} b (record { initial = g.initial; connection = g.connection + v; stream = g.stream; begun = g.begun; held = g.held; limit = g.limit }) (record { initial = g.initial; connection = g.connection; stream = with_stream g id (option_map (raised v) (g.stream id)); begun = g.begun; held = g.held; limit = g.limit })).stream q)) [ true ↦ h q | false ↦ at_each (λ k c. Paired (f k) c) g.stream id (option_map (raised v) (g.stream id)) (credit-held (raised v) (λ c. refl) (f id) (g.stream id) (h id)) (λ k n. h k) q ]

raise-begun : (g : Meaning) (id v : ℕ) → (credit-after g (raise id v)).begun ≡ g.begun
raise-begun g id v =
    elim (eqb id 0) as (λ b. (cond {A = Meaning} b (record { initial = g.initial; connection = g.connection + v; stream = g.stream; begun = g.begun; held = g.held; limit = g.limit }) (record { initial = g.initial; connection = g.connection; stream = with_stream g id (option_map (raised v) (g.stream id)); begun = g.begun; held = g.held; limit = g.limit })).begun ≡ g.begun) [ true ↦ refl | false ↦ refl ]

renew-paired : (g : Meaning) (f : ℕ → Option Stream) (i : Option ℕ) → ((q : ℕ) → Paired (f q) (g.stream q)) → (q : ℕ) → Paired (f q) ((upon i (λ v h. credit-after h (initial v)) g).stream q)
renew-paired g f None h q = h q
renew-paired g f (Some v) h q = credit-held (shifted g.initial v) (λ c. refl) (f q) (g.stream q) (h q)

renew-begun : (g : Meaning) (i : Option ℕ) → (upon i (λ v h. credit-after h (initial v)) g).begun ≡ g.begun
renew-begun g None = refl
renew-begun g (Some v) = refl

-- a stream that is settled
settle-ties : (es : Tale) (s : State) (number id n : ℕ) (put : Option Bool) → Ties es s → Ties (settling number id n put ∷ es) (after s (settling number id n put))
settle-ties es s number id n put k =
    amend-ties es (settling number id n put) s (settled_by n) id (after s (settling number id n put)) k refl
    (at_both (λ q o c. Paired o c) s.streams s.gate.stream id (option_map (settled_by n) (s.streams id)) (option_map (spent n) (s.gate.stream id)) (now-free n n (s.streams id) (s.gate.stream id) (k.paired id)) (λ q ne. k.paired q))
    refl refl refl refl (λ q. refl) (λ q. refl) k.frame_size k.given k.live

-- what is tied stays tied
pub ties-after : (es : Tale) (m : Moment) (e : Happening) → Ties es m.state → Effect m e → Ties (e ∷ es) (after m.state e)
ties-after es m e k quiet = record { paired = k.paired; ranked = k.ranked; below = k.below; begun = k.begun; entered = k.entered; opened = k.opened; urgencies = k.urgencies; frame_size = k.frame_size; given = k.given; live = k.live }
ties-after es m e k ends = record { paired = k.paired; ranked = k.ranked; below = k.below; begun = k.begun; entered = k.entered; opened = k.opened; urgencies = k.urgencies; frame_size = k.frame_size; given = k.given; live = refl }
ties-after es m e k (raises id v can) =
    gate-ties es e m.state (after m.state e) k (raise-paired m.state.gate id v m.state.streams k.paired) (raise-begun m.state.gate id v) refl refl refl refl (λ q. refl) (λ q. refl) k.frame_size k.given k.live
ties-after es m e k (renews i f) =
    gate-ties es e m.state (after m.state e) k (renew-paired m.state.gate m.state.streams i k.paired) (renew-begun m.state.gate i) refl refl refl refl (λ q. refl) (λ q. refl) (ap (upon f (λ v n. v)) k.frame_size) k.given k.live
ties-after es m e k (closes id is) = close-ties es m.state id is k
ties-after es m e k (ranks id p is) =
    let s = m.state in
    record {
      paired = k.paired;
      ranked = at_each (λ q o. is_some o ≡ is_some (s.streams q)) s.ranks.rank id (Some p) (sym is) (λ q n. k.ranked q);
      below = k.below;
      begun = k.begun;
      entered = k.entered;
      opened = k.opened;
      urgencies = λ q i.
          subst (λ c. cond c (Some p) (s.ranks.rank q) ≡ cond (eqb q id) (Some p) (priority_in q es)) (either-way q id)
          (elim (eqb q id) as (λ b. cond b (Some p) (s.ranks.rank q) ≡ cond b (Some p) (priority_in q es)) [ true ↦ refl | false ↦ k.urgencies q i ]);
      frame_size = k.frame_size;
      given = k.given;
      live = k.live;
    }
ties-after es m e k (starts id p above) =
    let s = m.state in
    record {
      paired = at_both (λ q o c. Paired o c) s.streams s.gate.stream id (Some fresh-stream) (Some (record { window = pos s.gate.initial; held = None })) refl (λ q n. k.paired q);
      ranked = at_both (λ q o c. is_some c ≡ is_some o) s.streams s.ranks.rank id (Some fresh-stream) (Some p) refl (λ q n. k.ranked q);
      below = λ q l. at_each (λ i o. id < i → o ≡ None) s.streams id (Some fresh-stream) (λ l₁. absurd (omega arith)) (λ i n l₁. k.below i (omega arith)) q l;
      begun = ap (λ n. n + 1) k.begun;
      entered = ap (λ n. n + 1) k.entered;
      opened = λ q.
          subst (λ c. is_some (cond c (Some fresh-stream) (s.streams q)) ≡ cond (eqb q id) true (open_in q es)) (either-way q id)
          (elim (eqb q id) as (λ b. is_some (cond b (Some fresh-stream) (s.streams q)) ≡ cond b true (open_in q es)) [ true ↦ refl | false ↦ k.opened q ]);
      urgencies = λ q.
          subst (λ c. is_some (cond c (Some fresh-stream) (s.streams q)) ≡ true → cond c (Some p) (s.ranks.rank q) ≡ cond (eqb q id) (Some p) (priority_in q es)) (either-way q id)
          (elim (eqb q id) as (λ b. is_some (cond b (Some fresh-stream) (s.streams q)) ≡ true → cond b (Some p) (s.ranks.rank q) ≡ cond b (Some p) (priority_in q es)) [ true ↦ (λ i. refl) | false ↦ k.urgencies q ]);
      frame_size = k.frame_size;
      given = k.given;
      live = k.live;
    }
ties-after es m e k (skips id above) = record { paired = k.paired; ranked = k.ranked; below = λ q l. k.below q (omega arith); begun = k.begun; entered = k.entered; opened = k.opened; urgencies = k.urgencies; frame_size = k.frame_size; given = k.given; live = k.live }
ties-after es m e k (queues id n end is) =
    let s = m.state in
    amend-ties es e s (queued n end) id (after s e) k refl
    (at_each (λ q o. Paired o (s.gate.stream q)) s.streams id (option_map (queued n end) (s.streams id)) (stream-held (queued n end) (λ x. refl) (s.streams id) (s.gate.stream id) (k.paired id)) (λ q ne. k.paired q))
    refl refl refl refl (λ q. refl) (λ q. refl) k.frame_size k.given k.live
ties-after es m e k (grants g by) =
    let s = m.state in
    amend-ties es e s (granted g.number) g.id (after s e) k refl
    (at_both (λ q o c. Paired o c) s.streams s.gate.stream g.id (option_map (granted g.number) (s.streams g.id)) (option_map (holding g.octets) (s.gate.stream g.id)) (now-held g.number g.octets (s.streams g.id) (s.gate.stream g.id) (k.paired g.id)) (λ q ne. k.paired q))
    refl refl refl refl (λ q. refl) (λ q. refl) k.frame_size (ap (λ n. n + 1) k.given) k.live
ties-after es m e k (sends number id n true x holds fits) =
    let s = m.state in
    let before = settling number id n (Some true) in
    let t = close-ties (before ∷ es) (after s before) id (some-amended s.streams (settled_by n) id id ∙ some_is (s.streams id) x holds.open_stream) (settle-ties es s number id n (Some true) k) in
    record { paired = t.paired; ranked = t.ranked; below = t.below; begun = t.begun; entered = t.entered; opened = t.opened; urgencies = t.urgencies; frame_size = t.frame_size; given = t.given; live = t.live }
ties-after es m e k (sends number id n false x holds fits) = settle-ties es m.state number id n (Some false) k
ties-after es m e k (backs number id x holds) = settle-ties es m.state number id 0 None k

-- at a fresh start
pub ties-fresh : (m : Moment) → Fresh m → Ties [] m.state
ties-fresh m f =
    record {
      paired = λ q. subst (λ (g : ℕ → Option Stream). Paired (g q) (m.state.gate.stream q)) (sym f.streams) (subst (λ (g : Meaning). Paired None (g.stream q)) (sym f.gate) tt);
      ranked = λ q. ap (λ r. is_some (r.rank q)) f.ranks ∙ ap (λ g. is_some (g q)) (sym f.streams);
      below = λ q l. ap (λ g. g q) f.streams;
      begun = ap (λ g. g.begun) f.gate ∙ sym f.many;
      entered = ap (λ r. r.entered) f.ranks ∙ sym f.many;
      opened = λ q. ap (λ g. is_some (g q)) f.streams;
      urgencies = λ q i. ap (λ r. r.rank q) f.ranks;
      frame_size = f.frame_size;
      given = f.given;
      live = f.live;
    }

-- What can happen at a moment, and that every answer by the rules makes one of it happen.
use Rattle.std.proofs.Common.{◌≡◌, ℕ, ◌+◌, ◌%◌, ◌<◌, Bool, true, false, cond, not, eqb, ltb, ◌⊎◌, List, length, drop, Some, Ok, Err, Option, Result, sym, refl, ap, subst, inl, inr, ⊎_elim}
use Rattle.wire.specs.Faults.{not_whole, frame_size, protocol}
use Rattle.wire.specs.declared.headers.Header.{Header}
use Rattle.wire.specs.declared.settings.Setting.{Setting}
use Rattle.wire.specs.Frames.{field, refuse, behind, header_of, body_of, lowest_flag, settings_frame, window_update_frame, reset_stream_frame, priority_update_frame, Told, settings, settings_ack, window_update, reset_stream, priority_update, other, frame_of}
use Rattle.wire.specs.declared.faults.Fault.{Fault}
use Rattle.wire.specs.declared.priorities.Priority.{Priority}
use Rattle.credit.specs.Calls.{Accepts, raise}
use Rattle.model.specs.Calls.{Ask, Answer, answer_to, frame, opening, offer, lease, settle}
use Rattle.model.specs.States.{Stream, Moment}
use Rattle.model.specs.Happenings.{Happening, nothing, ending, raising, renewing, starting, skipping, ranking, offering, granting, sending, giving_back, closing, fault_does, frame_does, happened}
use Rattle.model.specs.Rules.{IsOpen, ReadyIds, grantable, Holds, TooLong, RefusesPairs, here, further, bad_window, bad_size, Answers, AnswersFrame, AnswersOpen, AnswersOffer, AnswersLease, AnswersSettle, dead, frames, opens, offers, leases, settles, unread, acknowledged, settings_refused, settings_accepted, window_idle, window_closed, window_none_connection, window_none_stream, window_over_connection, window_over_stream, window_accepted, reset_idle, reset_closed, reset_accepted, target_even, target_not_open, priority_unreadable, priority_accepted, not_ours, bad_id, full, opened, not_open, was_ended, too_much, offered, used_up, none_ready, leased, not_granted, too_long, no_space, sent, back}
use Rattle.model.specs.declared.calls.Grant.{Grant}
use Rattle.model.proofs.Points.{some_is}

-- a grant by the rules
pub record Leases (m : Moment) (g : Grant) : Type 0 where
  pub ids : List ℕ
  pub stream : Stream
  pub ready : ReadyIds m ids
  pub picked : m.picks ids ≡ Some g.id
  pub is : m.state.streams g.id ≡ Some stream
  pub number : g.number ≡ m.state.given + 1
  pub octets : g.octets ≡ grantable m g.id stream

pub data Effect (m : Moment) : Happening → Type 0 where
  quiet : Effect m nothing
  ends : Effect m ending
  raises : (id v : ℕ) → Accepts m.state.gate m.room (raise id v) → Effect m (raising id v)
  renews : (i f : Option ℕ) → Effect m (renewing i f)
  closes : (id : ℕ) → IsOpen m.state id → Effect m (closing id)
  ranks : (id : ℕ) (p : Priority) → IsOpen m.state id → Effect m (ranking id (Some p))
  starts : (id : ℕ) (p : Priority) → m.state.highest < id → Effect m (starting id p)
  skips : (id : ℕ) → m.state.highest < id → Effect m (skipping id)
  queues : (id n : ℕ) (end : Bool) → IsOpen m.state id → Effect m (offering id n end)
  grants : (g : Grant) → Leases m g → Effect m (granting g)
  sends : (number id n : ℕ) (end : Bool) (x : Stream) → Holds m.state number id x → (TooLong m.state id n → ⊥) → Effect m (sending number id n end)
  backs : (number id : ℕ) (x : Stream) → Holds m.state number id x → Effect m (giving_back number id)

-- the codec's faults are 2, 3 and 4
refuse-err : {X : Type 0} (b : Bool) (x f : Fault) (next : Result X Fault) → refuse b x next ≡ Err f → (f ≡ x) ⊎ (next ≡ Err f)
refuse-err true x f next e = inl (cc)
refuse-err false x f next e = inr e

ok-err : {X : Type 0} (x : X) (f : Fault) → ◌≡◌ {A = Result X Fault} (Ok x) (Err f) → ⊥
ok-err x f e = cc

abbrev pub OfCodec : Fault → Type 0
OfCodec f = (f ≡ not_whole) ⊎ (f ≡ frame_size) ⊎ (f ≡ protocol 5)

not-whole : (f : Fault) → f ≡ not_whole → OfCodec f
not-whole f e = inl e

bad-size-of : (f : Fault) → f ≡ frame_size → OfCodec f
bad-size-of f e = inr (inl e)

bad-stream : (f : Fault) → f ≡ protocol 5 → OfCodec f
bad-stream f e = inr (inr e)

settings-err : (h : Header) (o : List ℕ) (f : Fault) → settings_frame h o ≡ Err f → OfCodec f
settings-err h o f e =
    ⊎_elim (bad-stream f)
    (λ e₁. cases (lowest_flag h) e₁)
    (refuse-err (not (eqb h.stream 0)) (protocol 5) f _ e)
  where
    cases : (b : Bool) → cond b (refuse (not (eqb h.length 0)) frame_size (Ok settings_ack)) (refuse (not (eqb (h.length % 6) 0)) frame_size (Ok (settings (drop 9 o) 9))) ≡ Err f → OfCodec f
    cases true e₁ = ⊎_elim (bad-size-of f) (λ e₂. absurd (ok-err settings_ack f e₂)) (refuse-err (not (eqb h.length 0)) frame_size f _ e₁)
    cases false e₁ = ⊎_elim (bad-size-of f) (λ e₂. absurd (ok-err (settings (drop 9 o) 9) f e₂)) (refuse-err (not (eqb (h.length % 6) 0)) frame_size f _ e₁)

update-err : (h : Header) (o : List ℕ) (f : Fault) → priority_update_frame h o ≡ Err f → OfCodec f
update-err h o f e =
    ⊎_elim (bad-stream f)
    (λ e₁. ⊎_elim (bad-size-of f) (λ e₂. absurd (ok-err _ f e₂)) (refuse-err (ltb h.length 4) frame_size f _ e₁))
    (refuse-err (not (eqb h.stream 0)) (protocol 5) f _ e)

body-err : (o : List ℕ) (h : Header) (f : Fault) → body_of o h ≡ Err f → OfCodec f
body-err o h f e =
    ⊎_elim (bad-size-of f)
    (λ e₁. reset (eqb h.kind 3) e₁)
    (refuse-err (ltb 16384 h.length) frame_size f _ e)
  where
    priority : (b : Bool) → cond b (priority_update_frame h o) (Ok (other h.kind h.stream)) ≡ Err f → OfCodec f
    priority true e₁ = update-err h o f e₁
    priority false e₁ = absurd (ok-err (other h.kind h.stream) f e₁)

    window : (b : Bool) → cond b (window_update_frame h o) (cond (eqb h.kind 16) (priority_update_frame h o) (Ok (other h.kind h.stream))) ≡ Err f → OfCodec f
    window true e₁ = ⊎_elim (bad-size-of f) (λ e₂. absurd (ok-err _ f e₂)) (refuse-err (not (eqb h.length 4)) frame_size f _ e₁)
    window false e₁ = priority (eqb h.kind 16) e₁

    setting : (b : Bool) → cond b (settings_frame h o) (cond (eqb h.kind 8) (window_update_frame h o) (cond (eqb h.kind 16) (priority_update_frame h o) (Ok (other h.kind h.stream)))) ≡ Err f → OfCodec f
    setting true e₁ = settings-err h o f e₁
    setting false e₁ = window (eqb h.kind 8) e₁

    reset : (b : Bool) → cond b (reset_stream_frame h o) (cond (eqb h.kind 4) (settings_frame h o) (cond (eqb h.kind 8) (window_update_frame h o) (cond (eqb h.kind 16) (priority_update_frame h o) (Ok (other h.kind h.stream))))) ≡ Err f → OfCodec f
    reset true e₁ = ⊎_elim (bad-size-of f) (λ e₂. absurd (ok-err _ f e₂)) (refuse-err (not (eqb h.length 4)) frame_size f _ e₁)
    reset false e₁ = setting (eqb h.kind 4) e₁

behind-err : {X Y : Type 0} (r : Result X Fault) (next : X → Result Y Fault) (f : Fault) → behind r next ≡ Err f → (r ≡ Err f) ⊎ ((x : X) × (next x ≡ Err f))
behind-err (Ok x) next f e = inr (x, e)
behind-err (Err g) next f e = inl (let same : g ≡ f = cc in ap (λ k. Err k) same)

pub frame-err : (o : List ℕ) (f : Fault) → frame_of o ≡ Err f → OfCodec f
frame-err o f e =
    ⊎_elim
    (λ e₁. ⊎_elim (not-whole f) (λ e₂. ⊎_elim (not-whole f) (λ e₃. absurd (ok-err _ f e₃)) (refuse-err (not (eqb (length o) (9 + field o 0 3))) not_whole f _ e₂)) (refuse-err (ltb (length o) 9) not_whole f _ e₁))
    (λ b. body-err o b.0 f b.1)
    (behind-err (header_of o) (body_of o) f e)

module _ (m : Moment) where
  codec-effect : (f : Fault) → OfCodec f → Effect m (fault_does f)
  codec-effect f c =
      ⊎_elim
      (λ e. subst (λ g. Effect m (fault_does g)) (sym e) quiet)
      (λ d. ⊎_elim (λ e. subst (λ g. Effect m (fault_does g)) (sym e) ends) (λ e. subst (λ g. Effect m (fault_does g)) (sym e) ends) d)
      c

  pairs-effect : {ps : List Setting} {f : Fault} → RefusesPairs m ps f → Effect m (fault_does f)
  pairs-effect (here (bad_window i n)) = ends
  pairs-effect (here (bad_size i n)) = ends
  pairs-effect (further p r) = pairs-effect r

  -- an accepted frame does what its octets tell
  accepted-effect : (octets : List ℕ) (t : Told) → frame_of octets ≡ Ok t → Effect m (frame_does (Ok t)) → Effect m (frame_does (frame_of octets))
  accepted-effect octets t e h = subst (λ u. Effect m (frame_does u)) (sym e) h

  frame-effect : (octets : List ℕ) (t : Told) (r : Result Bool Fault) → frame_of octets ≡ Ok t → AnswersFrame m t r → Effect m (happened (frame octets) (answer_to t r))
  frame-effect octets t r e acknowledged = accepted-effect octets settings_ack e quiet
  frame-effect octets t r e (settings_refused b) = pairs-effect b
  frame-effect octets t r e (settings_accepted {o = o} {at = at} p) = accepted-effect octets (settings o at) e (renews _ _)
  frame-effect octets t r e (window_idle i) = ends
  frame-effect octets t r e (window_closed c) = quiet
  frame-effect octets t r e window_none_connection = ends
  frame-effect octets t r e (window_none_stream {id = id} o) = closes id o
  frame-effect octets t r e (window_over_connection v b) = ends
  frame-effect octets t r e (window_over_stream {id = id} o v b) = closes id o
  frame-effect octets t r e (window_accepted {id = id} {v = v} p a) = accepted-effect octets (window_update id v) e (raises id v a)
  frame-effect octets t r e (reset_idle i) = ends
  frame-effect octets t r e (reset_closed c) = quiet
  frame-effect octets t r e (reset_accepted {id = id} {code = code} o) = accepted-effect octets (reset_stream id code) e (closes id o)
  frame-effect octets t r e (target_even z) = ends
  frame-effect octets t r e (target_not_open o n) = quiet
  frame-effect octets t r e (priority_unreadable o i u) = quiet
  frame-effect octets t r e (priority_accepted {id = id} {at = at} {value = value} p o i u) = accepted-effect octets (priority_update id value at) e (subst (λ w. Effect m (ranking id w)) (sym u) (ranks id p i))
  frame-effect octets t r e not_ours = quiet

  open-effect : (id : ℕ) (value : List ℕ) (r : Answer) → AnswersOpen m.state id value r → Effect m (happened (opening id value) r)
  open-effect id value r (bad_id b) = quiet
  open-effect id value r (full g f) = skips id g.above
  open-effect id value r (opened g n) = starts id _ g.above

  offer-effect : (id n : ℕ) (end : Bool) (r : Answer) → AnswersOffer m.state id n end r → Effect m (happened (offer id n end) r)
  offer-effect id n end r (not_open e) = quiet
  offer-effect id n end r (was_ended x e b) = quiet
  offer-effect id n end r (too_much x e b l) = quiet
  offer-effect id n end r (offered x e b l) = queues id n end (some_is _ x e)

  lease-effect : (r : Answer) → AnswersLease m r → Effect m (happened lease r)
  lease-effect r (used_up l) = quiet
  lease-effect r (none_ready l n) = quiet
  lease-effect r (leased ids id x l i p e) = grants _ (record { ids = ids; stream = x; ready = i; picked = p; is = e; number = refl; octets = refl })

  settle-effect : (number : ℕ) (payload : List ℕ) (r : Answer) → AnswersSettle m.state number payload r → Effect m (happened (settle number payload) r)
  settle-effect number payload r (not_granted n) = quiet
  settle-effect number payload r (too_long id x h l) = quiet
  settle-effect number payload r (no_space id x h l d n) = quiet
  settle-effect number payload r (sent id x h l d n) = sends number id (length payload) _ x h l
  settle-effect number payload r (back id x h z n) = backs number id x h

  -- every answer by the rules makes something happen that can
  pub effect : (a : Ask) (r : Answer) → Answers m a r → Effect m (happened a r)
  effect a r (dead n) = quiet
  effect a r (unread {octets = octets} {f = f} l e) = codec-effect f (frame-err octets f e)
  effect a r (frames {octets = octets} t u l e b) = frame-effect octets t u e b
  effect a r (opens {id = id} {value = value} l b) = open-effect id value r b
  effect a r (offers {id = id} {n = n} {end = end} l b) = offer-effect id n end r b
  effect a r (leases l b) = lease-effect r b
  effect a r (settles {number = number} {payload = payload} l b) = settle-effect number payload r b

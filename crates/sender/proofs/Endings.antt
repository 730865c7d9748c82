-- What a frame leaves, and how a fault ends the connection.
use Rattle.std.proofs.Common.{◌≡◌, ℕ, Bool, true, false, cond, eqb, List, Ok, Err, Result, sym, refl, ap, ◌∙◌, subst, ⊎_elim}
use Rattle.wire.specs.Faults.{cause_number}
use Rattle.wire.specs.Frames.{Told, settings, settings_ack, window_update, reset_stream, priority_update, other, frame_of}
use Rattle.wire.specs.declared.faults.Fault.{Fault}
use Rattle.wire.specs.declared.settings.Setting.{Setting}
use Rattle.model.specs.Calls.{frame}
use Rattle.model.specs.Happenings.{Happening, nothing, ending, closing, skipping, after, frame_does, fault_does, happened, ends, closes}
use Rattle.model.specs.Rules.{AnswersFrame, RefusesPairs, here, further, bad_window, bad_size, settings_refused, window_idle, window_none_connection, window_none_stream, window_over_connection, window_over_stream, reset_idle, target_even, priority_unreadable}
use Rattle.model.specs.States.{State, Moment}
use Rattle.model.specs.declared.calls.Done.{Done}
use Rattle.model.specs.declared.calls.Done.TheVariants.{Frame as FrameDone, Opened, Offered, Granted, Sent, Back}
use Rattle.model.proofs.Effects.{OfCodec}
use Rattle.sender.specs.Answers.{handled, before_end, ends_with}

-- a fault of the codec leaves all but the connection's life
pub codec-stays : (s : State) (f : Fault) → OfCodec f → before_end s (fault_does f) ≡ s
codec-stays s f c =
    ⊎_elim
    (λ e. subst (λ g. before_end s (fault_does g) ≡ s) (sym e) refl)
    (λ d. ⊎_elim (λ e. subst (λ g. before_end s (fault_does g) ≡ s) (sym e) refl) (λ e. subst (λ g. before_end s (fault_does g) ≡ s) (sym e) refl) d)
    c

pairs-handled : (m : Moment) (s : State) (t : Told) (ps : List Setting) (f : Fault) → RefusesPairs m ps f → handled s t (Err f) ≡ before_end s (fault_does f)
pairs-handled m s t ps f (here (bad_window i n)) = refl
pairs-handled m s t ps f (here (bad_size i n)) = refl
pairs-handled m s t ps f (further {ps = rest} p r) = pairs-handled m s t rest f r

-- a frame's fault does to the streams what it has done
pub fault-handled : (m : Moment) (s : State) (t : Told) (f : Fault) → AnswersFrame m t (Err f) → handled s t (Err f) ≡ before_end s (fault_does f)
fault-handled m s t f (settings_refused b) = pairs-handled m s t _ f b
fault-handled m s t f (window_idle i) = refl
fault-handled m s t f window_none_connection = refl
fault-handled m s t f (window_none_stream o) = refl
fault-handled m s t f (window_over_connection v b) = refl
fault-handled m s t f (window_over_stream o v b) = refl
fault-handled m s t f (reset_idle i) = refl
fault-handled m s t f (target_even z) = refl
fault-handled m s t f (priority_unreadable o i u) = refl

alike : (s : State) (t : Told) → after s (frame_does (Ok t)) ≡ before_end s (frame_does (Ok t))
alike s (settings o at) = refl
alike s settings_ack = refl
alike s (window_update id v) = refl
alike s (reset_stream id code) = refl
alike s (priority_update target value at) = refl
alike s (other kind id) = refl

pub accepted-handled : (s : State) (octets : List ℕ) (t : Told) (accepted : Bool) → frame_of octets ≡ Ok t → handled s t (Ok accepted) ≡ before_end s (cond accepted (frame_does (frame_of octets)) nothing)
accepted-handled s octets t true e = alike s t ∙ ap (λ u. before_end s (frame_does u)) (sym e)
accepted-handled s octets t false e = refl

-- the connection ends exactly with faults 3, 4 and 5
frame-goes-on : (t : Result Told Fault) → (frame_does t).ended ≡ false
frame-goes-on (Err f) = refl
frame-goes-on (Ok (settings o at)) = refl
frame-goes-on (Ok settings_ack) = refl
frame-goes-on (Ok (window_update id v)) = refl
frame-goes-on (Ok (reset_stream id code)) = refl
frame-goes-on (Ok (priority_update target value at)) = refl
frame-goes-on (Ok (other kind id)) = refl

pub ended_is : (octets : List ℕ) (r : Result Done Fault) → (happened (frame octets) r).ended ≡ ends_with r
ended_is octets (Ok (FrameDone kind id accepted)) = elim accepted as (λ b. (cond {A = Happening} b (frame_does (frame_of octets)) nothing).ended ≡ false) [ true ↦ frame-goes-on (frame_of octets) | false ↦ refl ]
ended_is octets (Ok (Opened id p)) = refl
ended_is octets (Ok (Offered id n end)) = refl
ended_is octets (Ok (Granted g)) = refl
ended_is octets (Ok (Sent grant id n end)) = refl
ended_is octets (Ok (Back grant id)) = refl
ended_is octets (Err f) =
    elim (ends f) as (λ b. (cond {A = Happening} b ending (cond (closes f) (closing f.stream) (cond (eqb (cause_number f.cause) 10) (skipping f.stream) nothing))).ended ≡ b) [
      | true ↦ refl
      | false ↦ elim (closes f) as (λ b. (cond {A = Happening} b (closing f.stream) (cond (eqb (cause_number f.cause) 10) (skipping f.stream) nothing)).ended ≡ false) [ true ↦ refl | false ↦ elim (eqb (cause_number f.cause) 10) as (λ b. (cond {A = Happening} b (skipping f.stream) nothing).ended ≡ false) [ true ↦ refl | false ↦ refl ] ]
    ]

-- a state but for the connection's life
abbrev pub with_live : State → Bool → State
with_live s l = record { gate = s.gate; ranks = s.ranks; sink = s.sink; streams = s.streams; many = s.many; live = l; frame_size = s.frame_size; highest = s.highest; given = s.given }

-- with the connection's life, what happened is done
pub final-state : (s x : State) (e : Happening) (b : Bool) → e.ended ≡ b → x ≡ before_end s e → with_live x (cond b false x.live) ≡ after s e
final-state s x e b ended same = ap (λ (u : State). with_live u (cond b false u.live)) same ∙ ap (λ c. with_live (before_end s e) (cond c false s.live)) (sym ended)

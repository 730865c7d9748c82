-- The pairs of a SETTINGS frame: RFC 9113, section 6.5.1.
use Rattle.std.specs.Prelude.{◌≡◌, ℕ, zero, suc, ◌+◌, ◌/◌, Bool, true, false, List, [], ◌∷◌, length, drop, Some, None, Option, nat_le}
use Rattle.wire.specs.declared.settings.Setting.{Setting}
use Rattle.wire.specs.declared.settings.Pairs.{Pairs}
use Rattle.wire.specs.Frames.{field}

-- the pair at the front of octets that stand at a place of the frame: two octets of identifier, four of value
abbrev pub setting_at : List ℕ → ℕ → Setting
setting_at o at = record { identifier = field o 0 2; value = field o 2 4; place = at + 2 }

-- so many settings, from octets that stand at a place of their frame
abbrev pub settings_from : ℕ → List ℕ → ℕ → List Setting
settings_from zero o at = []
settings_from (suc n) o at = setting_at o at ∷ settings_from n (drop 6 o) (at + 6)

-- the settings of a frame, six octets each
abbrev pub settings_of : List ℕ → ℕ → List Setting
settings_of o at = settings_from (length o / 6) o at

-- another pair is to come: six octets are left
abbrev pub more : Pairs → Bool
more s = nat_le 6 (length s.octets.now)

-- one step along the pairs: the pair that came, and what is left then; none where no other is to come, and then nothing moves
abbrev pub Next : Pairs → Option Setting → Pairs → Type 0
Next s None t = (more s ≡ false) × (t ≡ s)
Next s (Some x) t = (more s ≡ true) × (x ≡ setting_at s.octets.now s.place) × (t.octets.now ≡ drop 6 s.octets.now) × (t.place ≡ s.place + 6)

-- the settings that are still to come
abbrev pub to_come : Pairs → List Setting
to_come s = settings_of s.octets.now s.place

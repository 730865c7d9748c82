-- The pairs of a SETTINGS frame, one step after another.
use Rattle.std.proofs.Common.{◌≡◌, ℕ, suc, ◌+◌, ◌-◌, ◌/◌, ◌<◌, ◌≤◌, List, [], ◌∷◌, length, drop, Some, None, Ok, Err, Result, sym, refl, ap, ◌∙◌, arith, length-drop}
use Rattle.std.proofs.lemmas.Bool.{leb-true, leb-false}
use Rattle.std.proofs.lemmas.Bool.Decides.{nat_tests}
use Rattle.wire.specs.Frames.{Told, settings, header_of, body_of, behind, frame_of}
use Rattle.wire.specs.Settings.{setting_at, settings_from, settings_of, Next, to_come}
use Rattle.wire.specs.declared.faults.Fault.{Fault}
use Rattle.wire.specs.declared.headers.Header.{Header}
use Rattle.wire.specs.declared.settings.Pairs.{Pairs}
use Rattle.wire.specs.declared.settings.Setting.{Setting}

-- with six octets left, the first pair comes before the others
settings-more : (o : List ℕ) (at : ℕ) → 6 ≤ length o → settings_of o at ≡ setting_at o at ∷ settings_of (drop 6 o) (at + 6)
settings-more o at h =
    let len : length (drop 6 o) ≡ length o - 6 = length-drop 6 o in
    let n : length o / 6 ≡ suc (length (drop 6 o) / 6) = omega (arith, len) in
    ap (λ k. settings_from k o at) n

-- with fewer, none is left
settings-none : (o : List ℕ) (at : ℕ) → length o < 6 → settings_of o at ≡ []
settings-none o at h = let n : length o / 6 ≡ 0 = omega arith in ap (λ k. settings_from k o at) n

-- a step takes the first of the settings to come
pub next-comes : (s t : Pairs) (x : Setting) → Next s (Some x) t → to_come s ≡ x ∷ to_come t
next-comes s t x n =
    let six : 6 ≤ length s.octets.now = leb-true _ _ n.0 in
    settings-more s.octets.now s.place six ∙ (λ i. sym n.1 i ∷ settings_of (sym n.2 i) (sym n.3 i))

-- where no step is left, no settings are to come
pub none-comes : (s t : Pairs) → Next s None t → to_come s ≡ []
none-comes s t n = settings-none s.octets.now s.place (leb-false _ _ n.0)

-- a frame that is read has a header, which counts the octets behind it
header_read : (r : Result Header Fault) (next : Header → Result Told Fault) (t : Told) → behind r next ≡ Ok t → (h : Header) × (r ≡ Ok h) × (next h ≡ Ok t)
header_read (Ok h) next t e = (h, refl, e)
header_read (Err f) next t e = let z : ◌≡◌ {A = ℕ} 0 1 = cc in absurd (omega arith)

header-counts : (o : List ℕ) (h : Header) → header_of o ≡ Ok h → 9 + h.length ≡ length o
header-counts o h e = grind (arith, nat_tests)

-- the pairs begin behind the header, and are not too long
body-pairs : (o os : List ℕ) (h : Header) (at : ℕ) → body_of o h ≡ Ok (settings os at) → (h.length ≤ 16384) × (at ≡ 9) × (os ≡ drop 9 o)
body-pairs o os h at e = grind (arith, nat_tests)

-- the pairs of a frame end at a place of 32 bits
pub settings-end : (o os : List ℕ) (at : ℕ) → frame_of o ≡ Ok (settings os at) → at + length os < 4294967296
settings-end o os at e =
    let p = header_read (header_of o) (body_of o) (settings os at) e in
    let long : 9 + p.0.length ≡ length o = header-counts o p.0 p.1 in
    let b = body-pairs o os p.0 at p.2 in
    let len : length os ≡ length o - 9 = ap length b.2 ∙ length-drop 9 o in
    omega (arith, long, len, b.0, b.1)

-- What a tally of frames says.
use Rattle.std.specs.Prelude.{ℕ, ◌+◌, ◌*◌}
use Rattle.sink.specs.declared.tallies.Tally.{Tally}
use Rattle.sink.specs.Meaning.{Meaning}

-- the octets of the frames, headers and payloads
abbrev pub used_by : Tally → ℕ
used_by t = 9 * t.frames + t.octets

abbrev pub meaning_of : Tally → Meaning
meaning_of t = record { frames = t.frames; octets = t.octets; latest = t.latest; space = t.space }

-- What a sink means, and what putting a frame makes of it.
use Rattle.std.specs.Prelude.{ℕ, ◌+◌, ◌-◌, ◌*◌, Bool, Some, None, Option}
use Rattle.sink.specs.declared.tallies.Latest.{Latest}

-- the frames and the payload octets that were taken, the latest frame, and the space that is left, headers counted
pub record Meaning : Type 0 where
  pub frames : ℕ
  pub octets : ℕ
  pub latest : Option Latest
  pub space : ℕ

-- a sink that has taken nothing
abbrev pub fresh : ℕ → Meaning
fresh space = record { frames = 0; octets = 0; latest = None; space = space }

-- one frame more: nine octets of header and a payload of n
abbrev pub taken : Meaning → ℕ → Bool → ℕ → Meaning
taken m id end n = record { frames = m.frames + 1; octets = m.octets + n; latest = Some (record { id = id; end = end; length = n }); space = m.space - (9 + n) }

-- what was taken and what is left together, which no frame moves
abbrev pub whole : Meaning → ℕ
whole m = 9 * m.frames + m.octets + m.space

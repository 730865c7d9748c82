-- The table of the open streams: its ids rise, and it is read as a function of ids.
use Rattle.std.specs.Prelude.{ℕ, Bool, ◌&&◌, List, [], ◌∷◌, Option, nat_le, nat_lt}
use Rattle.std.specs.Option.{option_map}
use Rattle.records.specs.Tables.{record_of}
use Rattle.model.specs.States as model
use Rattle.sender.specs.declared.streams.Stream.{Stream}

abbrev pub id_of : Stream → ℕ
id_of x = x.id

-- ids rise from above a least one, and none is above the highest
abbrev pub ordered : ℕ → ℕ → List Stream → Bool
ordered least highest [] = nat_le least highest
ordered least highest (x ∷ xs) = nat_lt least x.id && ordered x.id highest xs

abbrev pub plain : Stream → model.Stream
plain x = record { queue = x.queue; ended = x.ended; grant = x.grant }

abbrev pub streams_in : List Stream → ℕ → Option model.Stream
streams_in rows q = option_map plain (record_of id_of rows q)

-- Members gathered one after the other are the latest of each key.
use Rattle.std.proofs.Common.{◌≡◌, List, [], ◌∷◌, refl}
use Rattle.wire.specs.declared.priorities.Latest.{Latest}
use Rattle.wire.specs.Grammar.{Member, latest_after, latest_of}
use Rattle.wire.specs.Values.{absent, noted}

abbrev pub gathered : Latest → List Member → Latest
gathered l [] = l
gathered l (m ∷ ms) = gathered (noted l m.name m.item) ms

after : (l : Latest) (ms : List Member) → gathered l ms ≡ record { u = latest_after l.u 117 ms; i = latest_after l.i 105 ms }
after l [] = refl
after l (m ∷ ms) = after (noted l m.name m.item) ms

pub gathered-latest : (ms : List Member) → gathered absent ms ≡ latest_of ms
gathered-latest ms = after absent ms

-- The settings that are known, each with its identifier: RFC 9113, section 6.5.2.
use Rattle.std.specs.Prelude.{◌≡◌, ℕ, cond, Some, None, Option, Result, ◌==◌}
use Rattle.std.specs.Option.{ok_or}
use Rattle.wire.specs.declared.parameters.Parameter.{Parameter}
use Rattle.wire.specs.declared.parameters.Parameter.TheVariants.{InitialWindow, FrameSize}
use Rattle.wire.specs.declared.parameters.UnknownParameter.{UnknownParameter}

abbrev pub identifier_of : Parameter → ℕ
identifier_of InitialWindow = 4
identifier_of FrameSize = 5

-- the setting that an identifier stands for, if it is known
abbrev pub parameter_of : ℕ → Option Parameter
parameter_of identifier = cond (identifier == 4) (Some InitialWindow) (cond (identifier == 5) (Some FrameSize) None)

-- the answer is the setting that the identifier stands for, or the identifier itself where it stands for none
abbrev pub Decodes : ℕ → Result Parameter UnknownParameter → Type 0
Decodes identifier r = r ≡ ok_or (parameter_of identifier) (record { 0 = identifier })

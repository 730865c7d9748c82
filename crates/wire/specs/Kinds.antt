-- The frame types that are known, each with its octet: RFC 9113, section 6, and RFC 9218, section 7.1.
use Rattle.std.specs.Prelude.{◌≡◌, ℕ, cond, Some, None, Option, Result, ◌==◌}
use Rattle.std.specs.Option.{ok_or}
use Rattle.wire.specs.declared.kinds.Kind.{Kind}
use Rattle.wire.specs.declared.kinds.Kind.TheVariants.{Data, ResetStream, Settings, WindowUpdate, PriorityUpdate}
use Rattle.wire.specs.declared.kinds.UnknownKind.{UnknownKind}

abbrev pub octet_of : Kind → ℕ
octet_of Data = 0
octet_of ResetStream = 3
octet_of Settings = 4
octet_of WindowUpdate = 8
octet_of PriorityUpdate = 16

-- the type that an octet stands for, if it is known
abbrev pub kind_of : ℕ → Option Kind
kind_of octet =
    cond (octet == 0) (Some Data)
    (cond (octet == 3) (Some ResetStream)
    (cond (octet == 4) (Some Settings)
    (cond (octet == 8) (Some WindowUpdate)
    (cond (octet == 16) (Some PriorityUpdate) None))))

-- the answer is the type that the octet stands for, or the octet itself where it stands for none
abbrev pub Decodes : ℕ → Result Kind UnknownKind → Type 0
Decodes octet r = r ≡ ok_or (kind_of octet) (record { 0 = octet })

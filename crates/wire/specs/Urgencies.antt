-- Urgencies, and their numbers from 0 to 7: RFC 9218, section 4.1.
use Rattle.std.specs.Prelude.{◌≡◌, ℕ, cond, Some, None, Option, Result, ◌==◌}
use Rattle.std.specs.Option.{ok_or}
use Rattle.wire.specs.declared.urgencies.Urgency.{Urgency}
use Rattle.wire.specs.declared.urgencies.Urgency.TheVariants.{U0, U1, U2, U3, U4, U5, U6, U7}
use Rattle.wire.specs.declared.urgencies.UnknownUrgency.{UnknownUrgency}

abbrev pub urgency_number : Urgency → ℕ
urgency_number U0 = 0
urgency_number U1 = 1
urgency_number U2 = 2
urgency_number U3 = 3
urgency_number U4 = 4
urgency_number U5 = 5
urgency_number U6 = 6
urgency_number U7 = 7

-- the urgency of a number: none above 7
abbrev pub urgency_numbered : ℕ → Option Urgency
urgency_numbered n =
    cond (n == 0) (Some U0)
    (cond (n == 1) (Some U1)
    (cond (n == 2) (Some U2)
    (cond (n == 3) (Some U3)
    (cond (n == 4) (Some U4)
    (cond (n == 5) (Some U5)
    (cond (n == 6) (Some U6)
    (cond (n == 7) (Some U7) None)))))))

-- the answer is the urgency of the number, or the number itself where it is none
abbrev pub Decodes : ℕ → Result Urgency UnknownUrgency → Type 0
Decodes n r = r ≡ ok_or (urgency_numbered n) (record { 0 = n })

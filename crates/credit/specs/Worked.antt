-- Worked cases of credit, over what each call does.
use Rattle.std.specs.Prelude.{◌≡◌, List, [], ◌∷◌, ℤ, pos, negsuc, Some, Option}
use Rattle.std.specs.Option.{option_map}
use Rattle.credit.specs.Credit.{Meaning, fresh, left, most_room, window_of}
use Rattle.credit.specs.Calls.{Call, Accepts, after, begin, raise, initial, hold, spend}

-- a gate with the largest room accepts a call
abbrev Takes : Meaning → Call → Type 0
Takes m call = Accepts m (most_room m) call

-- stream 1 on a fresh gate
abbrev pub begun : Meaning
begun = after (fresh 64) (begin 1)

-- 60,000 octets are spent on it, and then the initial window is 16,384
abbrev pub sixty_held : Meaning
sixty_held = after begun (hold 1 60000)

abbrev pub sixty_spent : Meaning
sixty_spent = after sixty_held (spend 1 60000)

abbrev pub sixty_below : Meaning
sixty_below = after sixty_spent (initial 16384)

-- 10,000 octets are held on it, and then the initial window is 4,000
abbrev pub ten_held : Meaning
ten_held = after begun (hold 1 10000)

abbrev pub over_held : Meaning
over_held = after ten_held (initial 4000)

abbrev left_of : Meaning → Option ℤ
left_of m = option_map left (m.stream 1)

pub record Worked : Type 0 where
  pub sixty_taken : Takes (fresh 64) (begin 1) × Takes begun (hold 1 60000) × Takes sixty_held (spend 1 60000) × Takes sixty_spent (initial 16384)
  pub below_zero : window_of (sixty_below.stream 1) ≡ Some (negsuc 43615)
  pub raised_taken : Takes sixty_below (raise 1 43617)
  pub above_zero : window_of ((after sixty_below (raise 1 43617)).stream 1) ≡ Some (pos 1)
  pub ten_taken : Takes begun (hold 1 10000) × Takes ten_held (initial 4000)
  pub left_below : left_of over_held ≡ Some (negsuc 5999)
  pub too_much : Takes over_held (spend 1 4001) → ⊥
  pub just_enough : Takes over_held (spend 1 4000)
  pub up_to_most : Takes ten_held (raise 1 2147418112)
  pub past_most : Takes ten_held (raise 1 2147418113) → ⊥

-- the window below zero, the window after the increment, and the left below zero
abbrev pub worked_numbers : List ℤ
worked_numbers = negsuc 43615 ∷ pos 1 ∷ negsuc 5999 ∷ []

-- One line after another: each moves from what is to come to what is written.
use Rattle.std.proofs.Common.{◌≡◌, ℕ, suc, ◌+◌, ◌-◌, ◌≤◌, Bool, true, false, not, List, ◌++◌, length, ap, ◌∙◌, arith}
use Rattle.std.proofs.lemmas.Bool.{eqb-false, cond-false}
use Rattle.std.proofs.lemmas.Grind.{common_steps}
use Rattle.recording.specs.Listings.{State, done, next, moved, next_text, moved_text, sum_text, text_from, to_come}

-- where a frame is left, its line comes before the others
line-comes : (s : State) → done s ≡ false → s.frames + length s.left ≤ s.octets → to_come s ≡ next_text s ++ to_come (next s)
line-comes s busy room =
    let some = eqb-false (length s.left) 0 busy in
    let fuel : s.octets - s.frames ≡ suc (s.octets - (s.frames + 1)) = omega (arith, room, some) in
    ap (λ k. text_from k s) fuel ∙ cond-false (done s) (sum_text s) (next_text s ++ to_come (next s)) busy

-- a line moves from what is to come to what is written
pub line-written : (s t : State) (more : Bool) (before after all : List ℕ) → s.frames + length s.left ≤ s.octets → more ≡ not (done s) → more ≡ true → t ≡ moved s
    → after ≡ before ++ moved_text s → before ++ to_come s ≡ all → after ++ to_come t ≡ all
line-written s t more before after all room answer went step text inv = grind (arith, common_steps, line-comes s)

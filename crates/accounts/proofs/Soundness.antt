-- What holds of all books.
use Rattle.std.proofs.Common.{◌≡◌, ◌≤◌, Bool, ap, ◌∙◌, arith}
use Rattle.std.proofs.lemmas.Bool.{cond-true, cond-false}
use Rattle.credit.specs.Calls.{Call, after}
use Rattle.credit.specs.Credit.{Sound, most_room}
use Rattle.credit.specs.Gates.{Did}
use Rattle.accounts.specs.declared.bookkeeping.Books.{Books}
use Rattle.accounts.specs.Accounts.{held_in}
use Rattle.accounts.specs.Books.{meaning_of, Kept}
use Rattle.accounts.proofs.Fairness.{within-from, zero-none}
use Rattle.accounts.proofs.Settlements.{base, rows_of, fair_of}

pub books-sound : (s : Books) → Sound (meaning_of s)
books-sound s =
    let all : held_in (rows_of s) ≤ s.held = omega (arith, s.sums) in
    record {
      initial = s.within.0;
      connection = s.within.1;
      held = s.within.2;
      some_limit = omega arith;
      least_limit = omega arith;
      begun = omega (arith, s.roomy.0, s.table.rows.ok.0);
      zero = zero-none (base s) s.initial (rows_of s) (fair_of s);
      streams = λ id. within-from (base s) s.initial (rows_of s) id s.held all (fair_of s);
    }

-- a gate that stands on books does what they do
pub did : {G : Type 0} (books : G → Books) (call : Call) (s : G) (r : Bool) (t : G) → Kept call (books s) r (books t)
    → Did (λ g. meaning_of (books g)) (λ g. most_room (meaning_of (books g))) (λ a k b. meaning_of (books b) ≡ after (meaning_of (books a)) k) call s r t
did books call s r t k =
    record {
      answers = k.answers;
      leaves = k.leaves;
      stays = λ e. ap most_room (k.leaves ∙ cond-false r (after (meaning_of (books s)) call) (meaning_of (books s)) e);
      moves = λ e. k.leaves ∙ cond-true r (after (meaning_of (books s)) call) (meaning_of (books s)) e;
    }

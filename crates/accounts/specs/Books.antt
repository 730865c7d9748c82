-- What the books mean, and what a call on them does.
use Rattle.std.specs.Prelude.{◌≡◌, Bool, cond, vec_items, Decides}
use Rattle.credit.specs.Credit.{Meaning, most_room}
use Rattle.credit.specs.Calls.{Call, Accepts, after}
use Rattle.accounts.specs.declared.bookkeeping.Books.{Books}
use Rattle.accounts.specs.Accounts.{meant}
use Rattle.accounts.specs.Storages.{base_of}

abbrev pub meaning_of : Books → Meaning
meaning_of b = meant (base_of b.storage b.initial) b.initial b.connection b.held (vec_items b.table.rows)

-- a call was answered r: accepted exactly where a gate with the largest room accepts it, and then done; else nothing moved
pub record Kept (call : Call) (s : Books) (r : Bool) (t : Books) : Type 0 where
  pub answers : Decides r (Accepts (meaning_of s) (most_room (meaning_of s)) call)
  pub leaves : meaning_of t ≡ cond r (after (meaning_of s) call) (meaning_of s)
  pub storage : t.storage ≡ s.storage

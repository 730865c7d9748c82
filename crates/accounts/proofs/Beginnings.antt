-- What a stream that begins makes of the books.
use Rattle.std.proofs.Common.{◌≡◌, ℕ, ◌<◌, ◌≤◌, Bool, true, false, cond, ltb, List, [], ◌∷◌, ◌++◌, length, pos, ◌+ℤ◌, Bor, is_some, Some, None, Option, Decides, sym, refl, ap, ◌∙◌, subst, arith}
use Rattle.std.proofs.lemmas.Bool.{ltb-true, ltb-false, false≢true, true≢false}
use Rattle.records.specs.Records.{Absent}
use Rattle.records.specs.Tables.{Found}
use Rattle.credit.specs.Credit.{MAX, most_room}
use Rattle.credit.specs.Calls.{Accepts, after, begin}
use Rattle.accounts.specs.Accounts.{credit_at, stream_in, held_in, Fairs, meant}
use Rattle.accounts.specs.declared.accounts_of_streams.Account.{Account}
use Rattle.accounts.specs.declared.storages.Storage.{Storage}
use Rattle.accounts.specs.declared.storages.Storage.TheVariants.{Direct, Offset}
use Rattle.accounts.specs.Storages.{base_of}
use Rattle.accounts.proofs.Streams.{id_of, ids, stream-found}
use Rattle.accounts.proofs.Changes.{begin-leaves, begin-fair, begin-held}

-- the base does not pass the initial window
pub base-within : (s : Storage) (i : ℕ) → base_of s i ≤ i
base-within Direct i = omega arith
base-within Offset i = omega arith

-- a stream whose account was found is begun
pub begun-already : (b : ℕ) (rows : List Account) (id : ℕ) (r : Option (Bor Account)) → Found id_of rows id r → is_some r ≡ true → stream_in b rows id ≡ None → ⊥
begun-already b rows id None f e none = false≢true e
begun-already b rows id (Some x) f e none = let s : Some (credit_at b x.now) ≡ None = sym (stream-found b rows id x.now f) ∙ none in cc

-- one whose account was not found has none
pub not-begun : (rows : List Account) (id : ℕ) (r : Option (Bor Account)) → Found id_of rows id r → is_some r ≡ false → Absent (ids rows) id
not-begun rows id None f e = f
not-begun rows id (Some x) f e = absurd (true≢false e)

-- what comes of a stream that has no account, where r says whether there was a place for one
pub record Added (b i c t id : ℕ) (rows after-rows : List Account) (r : Bool) : Type 0 where
  pub held : held_in after-rows ≡ held_in rows
  pub fair : Fairs b i after-rows
  pub answers : Decides r (Accepts (meant b i c t rows) (most_room (meant b i c t rows)) (begin id))
  pub leaves : meant b i c t after-rows ≡ cond r (after (meant b i c t rows) (begin id)) (meant b i c t rows)

pub added : (b i c t id : ℕ) (rows : List Account) (y : Account) (after-rows : List Account) (r : Bool)
    → y.id ≡ id → (y.balance +ℤ pos b) ≡ pos i → y.held ≡ None → stream_in b rows id ≡ None → (id ≡ 0 → ⊥) → i ≤ MAX → Fairs b i rows
    → r ≡ ltb (length rows) 64 → after-rows ≡ cond r (rows ++ y ∷ []) rows → Added b i c t id rows after-rows r
added b i c t id rows y after-rows true named whole free none above m fair is e =
    let place : length rows < 64 = ltb-true (length rows) 64 (sym is) in
    record {
      held = ap held_in e ∙ begin-held b i c t id rows y named whole free none;
      fair = subst (Fairs b i) (sym e) (begin-fair b i c t id rows y named whole free none m (omega arith) fair);
      answers = (λ _. (above, none, omega arith), λ _. refl);
      leaves = ap (meant b i c t) e ∙ begin-leaves b i c t id rows y named whole free none;
    }
added b i c t id rows y after-rows false named whole free none above m fair is e =
    let full : 64 ≤ length rows = ltb-false (length rows) 64 (sym is) in
    record {
      held = ap held_in e;
      fair = subst (Fairs b i) (sym e) fair;
      answers = (λ z. absurd (false≢true z), λ h. absurd (omega (arith, h.2)));
      leaves = ap (meant b i c t) e;
    }

-- Whatever is read is derived by the grammar.
use Rattle.std.proofs.Common.{◌≡◌, ℕ, zero, suc, ◌+◌, ◌<◌, Bool, true, false, cond, ◌&&◌, eqb, leb, ◌⊎◌, List, [], ◌∷◌, ◌++◌, length, get_or, take, drop, Some, None, Option, sym, refl, ap, ◌∙◌, subst, inl, inr, ⊎_elim, append_assoc, append-nil, one-add, arith, take-append-drop}
use Rattle.std.specs.List.{prefix_len}
use Rattle.std.proofs.lemmas.Bool.{eqb-true, cond_both}
use Rattle.std.proofs.lemmas.Option.{same_Some}
use Rattle.std.proofs.lemmas.Bool.Decides.{nat_tests}
use Rattle.std.proofs.lemmas.List.Folds.{length-prefix_len}
use Rattle.std.proofs.lemmas.List.{nil_from_length}
use Rattle.wire.specs.declared.priorities.Item.{Item}
use Rattle.wire.specs.declared.priorities.Item.TheVariants.{Boolean}
use Rattle.wire.specs.declared.priorities.Latest.{Latest}
use Rattle.wire.specs.Grammar.{is_space, is_blank, is_digit, starts_key, goes_on_key, Each, Key, key, Digits, Spells, off, on, plus, minus, Member, OneMember, bare, full, Members, last, more, Value, empty, some}
use Rattle.wire.specs.Values.{past, Front, and_then, key_length, key_at, digit_count, integer_at, boolean_at, item_at, absent, noted, after_key, member_at, go_on, members_of, latest_in}
use Rattle.wire.proofs.Meanings.{gathered}

-- the longest front that passes a test passes it
front : (test : ℕ → Bool) (bs : List ℕ) → Each test (take (prefix_len test bs) bs)
front test [] = tt
front test (b ∷ bs) =
    cond_both (test b) (1 + prefix_len test bs) 0 (λ n. Each test (take n (b ∷ bs))) (λ e. rw one-add (e, front test bs)) (λ e. tt)

-- and the rest follows it
front-split : (test : ℕ → Bool) (bs : List ℕ) → bs ≡ take (prefix_len test bs) bs ++ drop (prefix_len test bs) bs
front-split test bs = sym (take-append-drop (prefix_len test bs) bs)

-- which way a test went that led to an answer
pub by_first : {X : Type 0} (b : Bool) (x : X) (o : Option X) → Some x ≡ cond b o None → (b ≡ true) × (Some x ≡ o)
by_first true x o e = (refl, e)
by_first false x o e = cc

by-either : {X : Type 0} (b : Bool) (x : X) (o u : Option X) → Some x ≡ cond b o u → ((b ≡ true) × (Some x ≡ o)) ⊎ ((b ≡ false) × (Some x ≡ u))
by-either true x o u e = inl (refl, e)
by-either false x o u e = inr (refl, e)

-- what led to an answer of two readers in a row
by_both : {X Y : Type 0} (o : Option (Front X)) (next : X → List ℕ → Option Y) (y : Y) → Some y ≡ and_then o next
    → (r : Front X) × (Some r ≡ o) × (Some y ≡ next r.value r.rest)
by_both None next y e = cc
by_both (Some r) next y e = (r, refl, e)

headed : (bs : List ℕ) (n : ℕ) → 0 < n → eqb (get_or bs 0 0) n ≡ true → bs ≡ n ∷ drop 1 bs
headed [] n h e = absurd (omega (arith, eqb-true 0 n e))
headed (b ∷ bs) n h e = ap (λ x. x ∷ bs) (eqb-true b n e)

key-sound : (bs : List ℕ) → starts_key (get_or bs 0 0) ≡ true → Key (take (key_length bs) bs)
key-sound [] e = cc
key-sound (b ∷ bs) e = rw one-add (key b (take (prefix_len goes_on_key bs) bs) e (front goes_on_key bs))

-- an item at the front, and what is left
record ItemRead (bs : List ℕ) (r : Front Item) : Type 0 where
  text : List ℕ
  split : bs ≡ text ++ r.rest
  spells : Spells text r.value

digits-sound : (bs : List ℕ) → (leb 1 (digit_count bs) && leb (digit_count bs) 15) ≡ true → Digits (take (digit_count bs) bs)
digits-sound bs e =
    let long : length (take (digit_count bs) bs) ≡ digit_count bs = length-prefix_len is_digit bs in
    record { each = front is_digit bs; some = grind (arith, nat_tests); few = grind (arith, nat_tests) }

plus-sound : (bs : List ℕ) (r : Front Item) → Some r ≡ integer_at false bs → ItemRead bs r
plus-sound bs r e =
    let w = by_first (leb 1 (digit_count bs) && leb (digit_count bs) 15) r _ e in
    subst (ItemRead bs) (sym (same_Some _ _ w.1))
    (record { text = take (digit_count bs) bs; split = front-split is_digit bs; spells = plus (take (digit_count bs) bs) (digits-sound bs w.0) })

minus-sound : (bs : List ℕ) (r : Front Item) → Some r ≡ integer_at true bs → ItemRead (45 ∷ bs) r
minus-sound bs r e =
    let w = by_first (leb 1 (digit_count bs) && leb (digit_count bs) 15) r _ e in
    subst (ItemRead (45 ∷ bs)) (sym (same_Some _ _ w.1))
    (record { text = 45 ∷ take (digit_count bs) bs; split = ap (λ x. 45 ∷ x) (front-split is_digit bs); spells = minus (take (digit_count bs) bs) (digits-sound bs w.0) })

boolean-sound : (bs : List ℕ) (r : Front Item) → Some r ≡ boolean_at bs → ItemRead (63 ∷ bs) r
boolean-sound bs r e =
    ⊎_elim
    (λ w.
    subst (ItemRead (63 ∷ bs)) (sym (same_Some _ _ w.1))
    (record { text = 63 ∷ 48 ∷ []; split = ap (λ x. 63 ∷ x) (headed bs 48 (omega arith) w.0); spells = off }))
    (λ w.
    let v = by_first (eqb (get_or bs 0 0) 49) r _ w.1 in
    subst (ItemRead (63 ∷ bs)) (sym (same_Some _ _ v.1))
    (record { text = 63 ∷ 49 ∷ []; split = ap (λ x. 63 ∷ x) (headed bs 49 (omega arith) v.0); spells = on }))
    (by-either (eqb (get_or bs 0 0) 48) r _ _ e)

item-sound : (bs : List ℕ) (r : Front Item) → Some r ≡ item_at bs → ItemRead bs r
item-sound bs r e =
    ⊎_elim
    (λ w. subst (λ x. ItemRead x r) (sym (headed bs 63 (omega arith) w.0)) (boolean-sound (drop 1 bs) r w.1))
    (λ w.
    ⊎_elim
    (λ v. subst (λ x. ItemRead x r) (sym (headed bs 45 (omega arith) v.0)) (minus-sound (drop 1 bs) r v.1))
    (λ v. plus-sound bs r v.1)
    (by-either (eqb (get_or bs 0 0) 45) r _ _ w.1))
    (by-either (eqb (get_or bs 0 0) 63) r _ _ e)

-- a member at the front, and what is left
record MemberRead (l : Latest) (bs : List ℕ) (r : Front Latest) : Type 0 where
  text : List ℕ
  member : Member
  split : bs ≡ text ++ r.rest
  is : r.value ≡ noted l member.name member.item
  spells : OneMember text member

after-key : (l : Latest) (k bs : List ℕ) (r : Front Latest) → Key k → Some r ≡ after_key l k bs → MemberRead l (k ++ bs) r
after-key l k bs r is_key e =
    ⊎_elim
    (λ v.
    let j = by_both (item_at (drop 1 bs)) (λ item rest. Some (record { value = noted l k item; rest = rest })) r v.1 in
    let i = item-sound (drop 1 bs) j.0 j.1 in
    subst (MemberRead l (k ++ bs)) (sym (same_Some _ _ j.2))
    (record {
      text = k ++ (61 ∷ i.text);
      member = record { name = k; item = j.0.value };
      split = ap (λ x. k ++ x) (headed bs 61 (omega arith) v.0 ∙ ap (λ x. 61 ∷ x) i.split) ∙ sym (append_assoc k (61 ∷ i.text) j.0.rest);
      is = refl;
      spells = full k i.text j.0.value is_key i.spells;
    }))
    (λ v.
    subst (MemberRead l (k ++ bs)) (sym (same_Some _ _ v.1))
    (record { text = k; member = record { name = k; item = Boolean true }; split = refl; is = refl; spells = bare k is_key }))
    (by-either (eqb (get_or bs 0 0) 61) r _ _ e)

member-sound : (l : Latest) (bs : List ℕ) (r : Front Latest) → Some r ≡ member_at l bs → MemberRead l bs r
member-sound l bs r e =
    let j = by_both (key_at bs) (after_key l) r e in
    let w = by_first (starts_key (get_or bs 0 0)) j.0 _ j.1 in
    let k = take (key_length bs) bs in
    let rest = drop (key_length bs) bs in
    let is : j.0 ≡ record { value = k; rest = rest } = same_Some _ _ w.1 in
    let next : Some r ≡ after_key l k rest = j.2 ∙ ap (λ f. after_key l f.value f.rest) is in
    subst (λ x. MemberRead l x r) (take-append-drop (key_length bs) bs) (after-key l k rest r (key-sound bs w.0) next)

members-sound : (n : ℕ) (l q : Latest) (bs : List ℕ) → Some q ≡ members_of n l bs → (ms : List Member) × Members bs ms × (q ≡ gathered l ms)
members-sound zero l q bs e = cc
members-sound (suc n) l q bs e =
    let t = by_both (member_at l bs) (λ next after. go_on (members_of n) next (past is_blank after)) q e in
    let m = member-sound l bs t.0 t.1 in
    let after = t.0.rest in
    let w = take (prefix_len is_blank after) after in
    let rest = past is_blank after in
    let whole : bs ≡ m.text ++ (w ++ rest) = m.split ∙ ap (λ x. m.text ++ x) (front-split is_blank after) in
    ⊎_elim
    (λ v.
    let none : rest ≡ [] = nil_from_length rest (eqb-true (length rest) 0 v.0) in (
      m.member ∷ [],
      subst (λ x. Members x (m.member ∷ [])) (sym (whole ∙ ap (λ x. m.text ++ (w ++ x)) none ∙ ap (λ x. m.text ++ x) (append-nil w))) (last m.text w m.member m.spells (front is_blank after)),
      same_Some _ _ v.1 ∙ m.is,
    ))
    (λ v.
    let u = by_first (eqb (get_or rest 0 0) 44) q _ v.1 in
    let tail = drop 1 rest in
    let gap = take (prefix_len is_blank tail) tail in
    let again = members-sound n t.0.value q (past is_blank tail) u.1 in
    let comma : rest ≡ 44 ∷ (gap ++ past is_blank tail) = headed rest 44 (omega arith) u.0 ∙ ap (λ x. 44 ∷ x) (front-split is_blank tail) in (
      m.member ∷ again.0,
      subst (λ x. Members x (m.member ∷ again.0)) (sym (whole ∙ ap (λ x. m.text ++ (w ++ x)) comma))
          (more m.text w gap (past is_blank tail) m.member again.0 m.spells (front is_blank after) (front is_blank tail) again.1),
      again.2 ∙ ap (λ x. gathered x again.0) m.is,
    ))
    (by-either (eqb (length rest) 0) q _ _ t.2)

pub sound : (bs : List ℕ) (q : Latest) → Some q ≡ latest_in bs → (ms : List Member) × Value bs ms × (q ≡ gathered absent ms)
sound bs q e =
    let rest = past is_space bs in
    ⊎_elim
    (λ v.
    let none : rest ≡ [] = nil_from_length rest (eqb-true (length rest) 0 v.0) in
    let all : bs ≡ take (prefix_len is_space bs) bs = front-split is_space bs ∙ ap (λ x. take (prefix_len is_space bs) bs ++ x) none ∙ append-nil _ in
    ([], subst (λ x. Value x []) (sym all) (empty _ (front is_space bs)), same_Some _ _ v.1))
    (λ v.
    let m = members-sound (length rest) absent q rest v.1 in
    (m.0, subst (λ x. Value x m.0) (sym (front-split is_space bs)) (some _ rest m.0 (front is_space bs) m.1), m.2))
    (by-either (eqb (length rest) 0) q _ _ e)

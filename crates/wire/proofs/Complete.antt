-- Whatever the grammar derives is read.
use Rattle.std.proofs.Common.{◌≡◌, ℕ, zero, suc, ◌<◌, ◌≤◌, Bool, true, false, cond, ◌&&◌, eqb, leb, ◌⊎◌, List, [], ◌∷◌, ◌++◌, length, get_or, take, drop, Some, Option, sym, refl, ap, ◌∙◌, subst, inl, inr, append_assoc, append-nil, one-add, arith, length-append}
use Rattle.std.specs.List.{prefix_len}
use Rattle.std.proofs.lemmas.Bool.{cond-true, cond-false, ne_eqb}
use Rattle.std.proofs.lemmas.Bool.Decides.{nat_tests}
use Rattle.std.proofs.lemmas.List.{take_at, drop_at}
use Rattle.wire.specs.declared.priorities.Item.{Item}
use Rattle.wire.specs.declared.priorities.Item.TheVariants.{Integer}
use Rattle.wire.specs.declared.priorities.Latest.{Latest}
use Rattle.wire.specs.Grammar.{is_space, is_blank, is_digit, goes_on_key, Each, Key, key, Digits, decimal_of, Spells, off, on, plus, minus, Member, OneMember, bare, full, Members, last, more, Value, empty, some}
use Rattle.wire.specs.Values.{past, and_then, key_length, key_at, signed, digit_count, integer_at, boolean_at, item_at, absent, noted, after_key, member_at, go_on, members_of, latest_in}
use Rattle.wire.proofs.Meanings.{gathered}
use Rattle.wire.proofs.MemberSteps.{one-read}

-- a run of octets that pass a test ends where another octet stands
run_is : (test : ℕ → Bool) (w rest : List ℕ) → Each test w → test (get_or rest 0 0) ≡ false → prefix_len test (w ++ rest) ≡ length w
run_is test [] [] h e = refl
run_is test [] (b ∷ rest) h e = cond-false _ _ _ e
run_is test (b ∷ w) rest h e = cond-true _ _ _ h.0 ∙ one-add _ ∙ ap suc (run_is test w rest h.1 e)

past_is : (test : ℕ → Bool) (w rest : List ℕ) → Each test w → test (get_or rest 0 0) ≡ false → drop (prefix_len test (w ++ rest)) (w ++ rest) ≡ rest
past_is test w rest h e = drop_at w rest _ (sym (run_is test w rest h e))

-- what may follow a member: the end, a blank or a comma
abbrev Stops : ℕ → Type 0
Stops b = (goes_on_key b ≡ false) × (is_digit b ≡ false) × (eqb b 61 ≡ false)

digits-read : (negative : Bool) (ds rest : List ℕ) → Digits ds → is_digit (get_or rest 0 0) ≡ false
    → integer_at negative (ds ++ rest) ≡ Some (record { value = Integer (signed negative (decimal_of ds)); rest = rest })
digits-read negative ds rest d e =
    let n : digit_count (ds ++ rest) ≡ length ds = run_is is_digit ds rest d.each e in
    let front : take (digit_count (ds ++ rest)) (ds ++ rest) ≡ ds = take_at ds rest _ (sym n) in
    let back : drop (digit_count (ds ++ rest)) (ds ++ rest) ≡ rest = drop_at ds rest _ (sym n) in
    let ok : (leb 1 (digit_count (ds ++ rest)) && leb (digit_count (ds ++ rest)) 15) ≡ true = let some = d.some in let few = d.few in grind (arith, nat_tests) in
    cond-true _ _ _ ok ∙ (λ i. Some (record { value = Integer (signed negative (decimal_of (front i))); rest = back i }))

first-digit : (ds rest : List ℕ) → Digits ds → is_digit (get_or (ds ++ rest) 0 0) ≡ true
first-digit [] rest d = absurd (omega (arith, d.some))
first-digit (b ∷ ds) rest d = d.each.0

-- a digit is neither "?" nor "-"
other-first : (d : ℕ) → is_digit d ≡ true → (eqb d 63 ≡ false) × (eqb d 45 ≡ false)
other-first d e = grind (arith, nat_tests)

item-read : (t rest : List ℕ) (i : Item) → Spells t i → is_digit (get_or rest 0 0) ≡ false → item_at (t ++ rest) ≡ Some (record { value = i; rest = rest })
item-read t rest i off e = refl
item-read t rest i on e = refl
item-read t rest i (plus ds d) e =
    let o = other-first (get_or (ds ++ rest) 0 0) (first-digit ds rest d) in
    cond-false _ (boolean_at (drop 1 (ds ++ rest))) _ o.0 ∙ cond-false _ (integer_at true (drop 1 (ds ++ rest))) _ o.1 ∙ digits-read false ds rest d e
item-read t rest i (minus ds d) e = digits-read true ds rest d e

key-read : (k rest : List ℕ) → Key k → goes_on_key (get_or rest 0 0) ≡ false → key_at (k ++ rest) ≡ Some (record { value = k; rest = rest })
key-read k rest (key b bs s each) e =
    let n : key_length (b ∷ (bs ++ rest)) ≡ length (b ∷ bs) = one-add _ ∙ ap suc (run_is goes_on_key bs rest each e) in
    let front : take (key_length (b ∷ (bs ++ rest))) (b ∷ (bs ++ rest)) ≡ b ∷ bs = take_at (b ∷ bs) rest _ (sym n) in
    let back : drop (key_length (b ∷ (bs ++ rest))) (b ∷ (bs ++ rest)) ≡ rest = drop_at (b ∷ bs) rest _ (sym n) in
    cond-true _ _ _ s ∙ (λ i. Some (record { value = front i; rest = back i }))

-- a key begins with no blank
key-first : (k rest : List ℕ) → Key k → (is_blank (get_or (k ++ rest) 0 0) ≡ false) × (is_space (get_or (k ++ rest) 0 0) ≡ false)
key-first k rest (key b bs s each) = grind (arith, nat_tests)

key-some : (k : List ℕ) → Key k → 0 < length k
key-some k (key b bs s each) = omega arith

member-read : (l : Latest) (t rest : List ℕ) (m : Member) → OneMember t m → Stops (get_or rest 0 0)
    → member_at l (t ++ rest) ≡ Some (record { value = noted l m.name m.item; rest = rest })
member-read l t rest m (bare k is_key) s =
    ap (λ o. and_then o (after_key l)) (key-read k rest is_key s.0)
    ∙ cond-false _ (and_then (item_at (drop 1 rest)) (λ item after. Some (record { value = noted l k item; rest = after }))) _ s.2
member-read l t rest m (full k u i is_key spelled) s =
    ap (member_at l) (append_assoc k (61 ∷ u) rest)
    ∙ ap (λ o. and_then o (after_key l)) (key-read k (61 ∷ (u ++ rest)) is_key refl)
    ∙ ap (λ o. and_then o (λ item after. Some (record { value = noted l k item; rest = after }))) (item-read u rest i spelled s.1)

-- after blanks, at the end or before a comma, a member stops
blank-stops : (w rest : List ℕ) → Each is_blank w → (get_or rest 0 0 ≡ 0) ⊎ (get_or rest 0 0 ≡ 44) → Stops (get_or (w ++ rest) 0 0)
blank-stops [] rest h (inl e) = subst Stops (sym e) (refl, refl, refl)
blank-stops [] rest h (inr e) = subst Stops (sym e) (refl, refl, refl)
blank-stops (b ∷ w) rest h e = grind (arith, nat_tests)

one-first : (t rest : List ℕ) (m : Member) → OneMember t m → (is_blank (get_or (t ++ rest) 0 0) ≡ false) × (is_space (get_or (t ++ rest) 0 0) ≡ false)
one-first t rest m (bare k is_key) = key-first k rest is_key
one-first t rest m (full k u i is_key spelled) =
    let P : List ℕ → Type 0 = λ x. (is_blank (get_or x 0 0) ≡ false) × (is_space (get_or x 0 0) ≡ false) in
    subst P (sym (append_assoc k (61 ∷ u) rest)) (key-first k (61 ∷ (u ++ rest)) is_key)

members-first : (bs : List ℕ) (ms : List Member) → Members bs ms → (is_blank (get_or bs 0 0) ≡ false) × (is_space (get_or bs 0 0) ≡ false)
members-first bs ms (last t w m one blanks) = one-first t w m one
members-first bs ms (more t w v cs m ns one b1 b2 others) = one-first t _ m one

one-some : (t : List ℕ) (m : Member) → OneMember t m → 0 < length t
one-some t m (bare k is_key) = key-some k is_key
one-some t m (full k u i is_key spelled) = omega (arith, key-some k is_key, length-append k (61 ∷ u))

members-some : (bs : List ℕ) (ms : List Member) → Members bs ms → 0 < length bs
members-some bs ms (last t w m one blanks) = omega (arith, one-some t m one, length-append t w)
members-some bs ms (more t w v cs m ns one b1 b2 others) = omega (arith, one-some t m one, length-append t (w ++ (44 ∷ (v ++ cs))))

members-read : (n : ℕ) (l : Latest) (bs : List ℕ) (ms : List Member) → Members bs ms → length bs ≤ n → members_of n l bs ≡ Some (gathered l ms)
members-read zero l bs ms all le = absurd (omega (arith, members-some bs ms all))
members-read (suc n) l bs ms (last t w m one blanks) le =
    let next : Latest = noted l m.name m.item in
    let stop : Stops (get_or w 0 0) = subst (λ x. Stops (get_or x 0 0)) (append-nil w) (blank-stops w [] blanks (inl refl)) in
    let none : past is_blank w ≡ [] = ap (past is_blank) (sym (append-nil w)) ∙ past_is is_blank w [] blanks refl in
    one-read n (suc n) l next (t ++ w) w refl (sym (member-read l t w m one stop)) ∙ ap (go_on (members_of n) next) none
members-read (suc n) l bs ms (more t w v cs m ns one b1 b2 others) le =
    let next : Latest = noted l m.name m.item in
    let rest : List ℕ = 44 ∷ (v ++ cs) in
    let stop : Stops (get_or (w ++ rest) 0 0) = blank-stops w rest b1 (inr refl) in
    let here : past is_blank (w ++ rest) ≡ rest = past_is is_blank w rest b1 refl in
    let further : past is_blank (v ++ cs) ≡ cs = past_is is_blank v cs b2 (members-first cs ns others).0 in
    let long = length-append t (w ++ rest) in
    let longer = length-append w rest in
    let longest = length-append v cs in
    one-read n (suc n) l next (t ++ (w ++ rest)) (w ++ rest) refl (sym (member-read l t (w ++ rest) m one stop))
    ∙ ap (go_on (members_of n) next) here
    ∙ cond-false _ (Some next) _ (ne_eqb (length rest) 0 (λ x. omega arith))
    ∙ ap (members_of n next) further
    ∙ members-read n next cs ns others (omega (arith, one-some t m one))

-- what is left behind the leading spaces
abbrev from : List ℕ → Option Latest
from rest = cond (eqb (length rest) 0) (Some absent) (members_of (length rest) absent rest)

pub complete : (bs : List ℕ) (ms : List Member) → Value bs ms → latest_in bs ≡ Some (gathered absent ms)
complete bs ms (empty w spaces) =
    let none : past is_space w ≡ [] = ap (past is_space) (sym (append-nil w)) ∙ past_is is_space w [] spaces refl in
    ap from none
complete bs ms (some w cs ns spaces all) =
    let rest : past is_space (w ++ cs) ≡ cs = past_is is_space w cs spaces (members-first cs ns all).1 in
    ap from rest
    ∙ cond-false _ (Some absent) _ (ne_eqb (length cs) 0 (λ x. omega (arith, members-some cs ns all)))
    ∙ members-read (length cs) absent cs ns all (omega arith)

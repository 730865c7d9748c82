-- The best of a list comes before every other listed id.
use Rattle.std.specs.Prelude.{◌≡◌, ℕ, Bool, true, false, cond, ◌⊎◌, List, [], ◌∷◌, ◌++◌, Some, None, Option, refl}
use Rattle.std.specs.Option.{option_and_then}
use Rattle.std.proofs.Common.{arith, sym, ◌∙◌, ap, subst, inl, inr, ⊎_elim, append_assoc, append-nil}
use Rattle.std.proofs.lemmas.Bool.Decides.{nat_tests}
use Rattle.std.proofs.lemmas.Bool.{cases_Bool}
use Rattle.schedule.specs.Ranks.{Listed}
use Rattle.rotation.specs.declared.standings.Standing.{Standing}
use Rattle.rotation.specs.Choices.{before, sooner, better, chosen, ComesFirst, First}

-- standings are in a total order
pub before-trans : (s t u : Standing) → before s t ≡ true → before t u ≡ true → before s u ≡ true
before-trans s t u h k = grind (arith, nat_tests)

pub before-else : (s t : Standing) → before s t ≡ false → (s ≡ t) ⊎ (before t s ≡ true)
before-else s t h = ⊎_elim inr (λ k. inl (same k)) (cases_Bool (before t s))
  where
    same : before t s ≡ false → s ≡ t
    same k =
        let u : s.urgency ≡ t.urgency = grind (arith, nat_tests) in
        let g : s.group ≡ t.group = grind (arith, nat_tests) in
        let n : s.number ≡ t.number = grind (arith, nat_tests) in
        λ j. record { urgency = u j; group = g j; number = n j }

listed-push : (ids : List ℕ) (id q : ℕ) → Listed (ids ++ id ∷ []) q → Listed ids q ⊎ (id ≡ q)
listed-push [] id q (inl e) = inr e
listed-push [] id q (inr e) = absurd e
listed-push (p ∷ ids) id q (inl e) = inl (inl e)
listed-push (p ∷ ids) id q (inr h) = ⊎_elim (λ l. inl (inr l)) inr (listed-push ids id q h)

listed-still : (ids : List ℕ) (id q : ℕ) → Listed ids q → Listed (ids ++ id ∷ []) q
listed-still [] id q h = absurd h
listed-still (p ∷ ids) id q (inl e) = inl e
listed-still (p ∷ ids) id q (inr h) = inr (listed-still ids id q h)

listed-last : (ids : List ℕ) (id : ℕ) → Listed (ids ++ id ∷ []) id
listed-last [] id = inl refl
listed-last (p ∷ ids) id = inr (listed-last ids id)

-- where no two ids stand at one place, the best of a list is first
module _ (at : ℕ → Option Standing) (apart : (p q : ℕ) (s : Standing) → at p ≡ Some s → at q ≡ Some s → p ≡ q) where
  -- an id that stands nowhere leaves the best so far
  past : (ids : List ℕ) (id : ℕ) (best : Option ℕ) → at id ≡ None → First at ids best → First at (ids ++ id ∷ []) best
  past ids id None e f = λ q l. ⊎_elim (f q) (λ same. ap at (sym same) ∙ e) (listed-push ids id q l)
  past ids id (Some b) e f =
      record {
        listed = listed-still ids id b f.listed;
        stands = f.stands;
        is = f.is;
        first = λ q t l s. ⊎_elim (λ h. f.first q t h s) (λ same. absurd (let n : at q ≡ None = ap at (sym same) ∙ e in cc)) (listed-push ids id q l);
      }

  -- the first id that stands somewhere is the best so far
  alone : (ids : List ℕ) (id : ℕ) (s : Standing) → at id ≡ Some s → First at ids None → First at (ids ++ id ∷ []) (Some id)
  alone ids id s e f =
      record {
        listed = listed-last ids id;
        stands = s;
        is = e;
        first = λ q t l u. ⊎_elim (λ h. absurd (let n : at q ≡ None = f q h in cc)) (λ same. inl (sym same)) (listed-push ids id q l);
      }

  -- an id that comes before the best so far takes its place
  passes : (ids : List ℕ) (id b : ℕ) (s : Standing) → at id ≡ Some s → (f : ComesFirst at ids b) → before s f.stands ≡ true → First at (ids ++ id ∷ []) (Some id)
  passes ids id b s e f h =
      record {
        listed = listed-last ids id;
        stands = s;
        is = e;
        first = λ q t l u.
            ⊎_elim
            (λ k.
            ⊎_elim
            (λ same. let at_b : Some t ≡ Some f.stands = sym u ∙ ap at same ∙ f.is in let m : t ≡ f.stands = cc in inr (ap (before s) m ∙ h))
            (λ later. inr (before-trans s f.stands t h later))
            (f.first q t k u))
            (λ same. inl (sym same))
            (listed-push ids id q l);
      }

  -- one that does not leaves it
  stays : (ids : List ℕ) (id b : ℕ) (s : Standing) → at id ≡ Some s → (f : ComesFirst at ids b) → before s f.stands ≡ false → First at (ids ++ id ∷ []) (Some b)
  stays ids id b s e f h =
      record {
        listed = listed-still ids id b f.listed;
        stands = f.stands;
        is = f.is;
        first = λ q t l u.
            ⊎_elim
            (λ k. f.first q t k u)
            (λ same.
            let at-id : Some t ≡ Some s = sym u ∙ ap at (sym same) ∙ e in
            let m : t ≡ s = cc in
            ⊎_elim (λ equal. inl (apart q b t u (f.is ∙ ap (λ v. Some v) (sym (m ∙ equal))))) (λ later. inr (ap (before f.stands) m ∙ later)) (before-else s f.stands h))
            (listed-push ids id q l);
      }

  step : (ids : List ℕ) (id : ℕ) (best : Option ℕ) → First at ids best → First at (ids ++ id ∷ []) (better at best id)
  step ids id best f = go (at id) best refl f
    where
      against : (s : Standing) (b : ℕ) → at id ≡ Some s → (g : ComesFirst at ids b) → (v : Bool) → before s g.stands ≡ v → First at (ids ++ id ∷ []) (cond v (Some id) (Some b))
      against s b e g true h = passes ids id b s e g h
      against s b e g false h = stays ids id b s e g h

      go : (o : Option Standing) (b : Option ℕ) → at id ≡ o → First at ids b → First at (ids ++ id ∷ []) (cond (sooner o (option_and_then at b)) (Some id) b)
      go None b e g = past ids id b e g
      go (Some s) None e g = alone ids id s e g
      go (Some s) (Some b) e g = rw g.is (against s b e g (before s g.stands) refl)

  first-from : (front ids : List ℕ) (best : Option ℕ) → First at front best → First at (front ++ ids) (chosen at best ids)
  first-from front [] best f = rw (append-nil front) f
  first-from front (id ∷ ids) best f = subst (λ all. First at all (chosen at (better at best id) ids)) (append_assoc front (id ∷ []) ids) (first-from (front ++ id ∷ []) ids (better at best id) (step front id best f))

  pub chosen-first : (ids : List ℕ) → First at ids (chosen at None ids)
  chosen-first ids = first-from [] ids None (λ q l. absurd l)

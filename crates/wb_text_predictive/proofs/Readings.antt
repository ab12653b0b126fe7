-- A text has one outcome: it is whole with one list of tokens, or it has one first fault.
use Rattle.std.proofs.Common.{◌≡◌, ℕ, List, [], ◌∷◌, ◌++◌, refl, sym, ap, ◌∙◌, subst, append_assoc}
use Rattle.std.proofs.lemmas.List.{append-nil}
use Rattle.wb_text_predictive.specs.declared.table.Placed.{Placed}
use Rattle.wb_text_predictive.specs.declared.table.Next.{Next}
use Rattle.wb_text_predictive.specs.declared.table.Next.TheVariants.{Found, End}
use Rattle.wb_text_predictive.specs.Grammar.{Grammar, IsText, CanStart}
use Rattle.wb_text_predictive.specs.Reading.{Spells, none, next, IsReading, CannotFollow, IsFirstFault, place_of}

module _ {X : Type 0} (IsNext : ℕ → Next X → Type 0) where
  -- one token more
  pub spells_more : {from to : ℕ} {xs : List (Placed X)} (x : Placed X) → Spells IsNext from xs to
      → IsNext to (Found x) → Spells IsNext from (xs ++ x ∷ []) x.end
  spells_more x (none e) n = next (subst (λ i. IsNext i (Found x)) (sym e) n) (none refl)
  spells_more x (next m s) n = next m (spells_more x s n)

  -- further tokens
  pub spells_append : {from mid to : ℕ} {xs ys : List (Placed X)} → Spells IsNext from xs mid → Spells IsNext mid ys to
      → Spells IsNext from (xs ++ ys) to
  spells_append {to = to} {ys = ys} (none e) s = subst (λ i. Spells IsNext i ys to) (sym e) s
  spells_append (next m r) s = next m (spells_append r s)

  -- how two lists of tokens of one text lie: they are one, or one goes on where the other ends
  data Compared : List (Placed X) → List (Placed X) → ℕ → ℕ → Type 0 where
    equal : {xs ys : List (Placed X)} {a b : ℕ} → xs ≡ ys → a ≡ b → Compared xs ys a b
    longer : {xs ys : List (Placed X)} {a b : ℕ} (x : Placed X) (zs : List (Placed X))
        → xs ≡ ys ++ x ∷ zs → IsNext b (Found x) → Compared xs ys a b
    shorter : {xs ys : List (Placed X)} {a b : ℕ} (y : Placed X) (zs : List (Placed X))
        → ys ≡ xs ++ y ∷ zs → IsNext a (Found y) → Compared xs ys a b

  module _ (one : (from : ℕ) (a b : Next X) → IsNext from a → IsNext from b → a ≡ b) where
    -- one token is next
    one_token : (from : ℕ) (x y : Placed X) → IsNext from (Found x) → IsNext from (Found y) → x ≡ y
    one_token from x y m n = let e = one from (Found x) (Found y) m n in cc

    -- one token more before both
    compared_more : (x : Placed X) (xs ys : List (Placed X)) (a b : ℕ) → Compared xs ys a b → Compared (x ∷ xs) (x ∷ ys) a b
    compared_more x xs ys a b (equal e f) = equal (ap (λ w. x ∷ w) e) f
    compared_more x xs ys a b (longer z zs e n) = longer z zs (ap (λ w. x ∷ w) e) n
    compared_more x xs ys a b (shorter z zs e n) = shorter z zs (ap (λ w. x ∷ w) e) n

    -- two lists of tokens of one text
    compare : (from : ℕ) (xs ys : List (Placed X)) (a b : ℕ) → Spells IsNext from xs a → Spells IsNext from ys b → Compared xs ys a b
    compare from [] [] a b (none e) (none f) = equal refl (sym e ∙ f)
    compare from [] (y ∷ ys) a b (none e) (next n t) = shorter y ys refl (subst (λ i. IsNext i (Found y)) e n)
    compare from (x ∷ xs) [] a b (next m s) (none f) = longer x xs refl (subst (λ i. IsNext i (Found x)) f m)
    compare from (x ∷ xs) (y ∷ ys) a b (next m s) (next n t) =
        let e : y ≡ x = one_token from y x n m in
        subst (λ z. Compared (x ∷ xs) (z ∷ ys) a b) (sym e) (compared_more x xs ys a b
        (compare x.end xs ys a b s (subst (λ z. Spells IsNext z.end ys b) e t)))

module _ {K N A X V : Type 0} (g : Grammar K N A X V) (IsNext : ℕ → Next X → Type 0) (first : V)
    (one : (from : ℕ) (a b : Next X) → IsNext from a → IsNext from b → a ≡ b) where
  -- what begins a text begins it with its first tokens
  can_start_less : (f : List (Placed X)) (x : Placed X) (zs : List (Placed X)) → CanStart g first (f ++ x ∷ zs)
      → CanStart g first (f ++ x ∷ [])
  can_start_less f x zs c = record {
    rest = zs ++ c.rest;
    last = c.last;
    text = subst (λ w. IsText g first w c.last) (append_assoc f (x ∷ zs) c.rest ∙ sym (append_assoc f (x ∷ []) (zs ++ c.rest))) c.text;
  }

  -- the end and a token aren't both next
  end_or_token : (from at : ℕ) (x : Placed X) → IsNext from (End at) → IsNext from (Found x) → ⊥
  end_or_token from at x m n = let e = one from (End at) (Found x) m n in cc

  -- two whole texts are one
  pub one_text : (a b : V) (r : IsReading g IsNext first a) (s : IsReading g IsNext first b) → r.tokens ≡ s.tokens
  one_text a b r s = go (compare IsNext one 0 r.tokens s.tokens r.to s.to r.spelled s.spelled)
    where
      go : Compared IsNext r.tokens s.tokens r.to s.to → r.tokens ≡ s.tokens
      go (equal e f) = e
      go (longer x zs e n) = absurd (end_or_token s.to s.at x s.ended n)
      go (shorter y zs e n) = absurd (end_or_token r.to r.at y r.ended n)

  -- a token that is next and can't follow
  no_token : (front : List (Placed X)) (from : ℕ) (a : Next X) (x : Placed X) → IsNext from a
      → CannotFollow g first front a → IsNext from (Found x) → CanStart g first (front ++ x ∷ []) → ⊥
  no_token front from a x m f n = subst (λ a. CannotFollow g first front a) (one from a (Found x) m n) f

  -- a whole text has no fault
  pub not_both : (last : V) (at : ℕ) → IsReading g IsNext first last → IsFirstFault g IsNext first at → ⊥
  not_both last at r s = go (compare IsNext one 0 r.tokens s.front r.to s.from r.spelled s.spelled)
    where
      go : Compared IsNext r.tokens s.front r.to s.from → ⊥
      go (equal e f) =
          let h = subst (λ a. CannotFollow g first s.front a) (one s.from s.next (End r.at) s.stands
          (subst (λ i. IsNext i (End r.at)) f r.ended)) s.fault in
          h last (subst (λ w. IsText g first w last) e r.text)
      go (longer x zs e n) =
          no_token s.front s.from s.next x s.stands s.fault n
          (can_start_less s.front x zs (record {
            rest = [];
            last = last;
            text = subst (λ w. IsText g first w last) (e ∙ sym (append-nil (s.front ++ x ∷ zs))) r.text;
          }))
      go (shorter y zs e n) = end_or_token r.to r.at y r.ended n

  -- two first faults are one
  pub one_fault : (a b : ℕ) → IsFirstFault g IsNext first a → IsFirstFault g IsNext first b → a ≡ b
  one_fault a b r s = go (compare IsNext one 0 r.front s.front r.from s.from r.spelled s.spelled)
    where
      go : Compared IsNext r.front s.front r.from s.from → a ≡ b
      go (equal e f) = sym r.place ∙ ap place_of (one s.from r.next s.next (subst (λ i. IsNext i r.next) f r.stands) s.stands) ∙ s.place
      go (longer x zs e n) =
          absurd (no_token s.front s.from s.next x s.stands s.fault n
          (can_start_less s.front x zs (subst (λ w. CanStart g first w) e r.before)))
      go (shorter y zs e n) =
          absurd (no_token r.front r.from r.next y r.stands r.fault n
          (can_start_less r.front y zs (subst (λ w. CanStart g first w) e s.before)))

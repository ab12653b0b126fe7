-- A right side in place of its nonterminal weighs less, so the way to the next token ends.
use Rattle.std.proofs.Common.{◌≡◌, ℕ, suc, ◌+◌, ◌<◌, List, [], ◌∷◌, ◌++◌, Bool, true, false, ◌&&◌, cond, Some, refl, arith}
use Rattle.wb_text_predictive.specs.declared.symbol.Symbol.{Symbol}
use Rattle.wb_text_predictive.specs.declared.symbol.Symbol.TheVariants.{Token, Nonterminal, Act}
use Rattle.wb_text_predictive.specs.Entries.{Entry, all_nullable, weight_of, is_decided}
use Rattle.wb_text_predictive.specs.Choice.{choose}
use Rattle.wb_text_predictive.proofs.Booleans.{implied}
use Rattle.wb_text_predictive.proofs.Members.{chosen_is}
use Rattle.wb_text_predictive.proofs.Rights.{right_facts}

module _ {K N A : Type 0} (entries : N → Entry K) where
  -- the weight of a row that is put together
  weight_append : (f g : List (Symbol K N A))
      → weight_of entries (f ++ g) ≡ weight_of entries f + cond (all_nullable entries f) (weight_of entries g) 0
  weight_append [] g = let z : weight_of entries g ≡ 0 + weight_of entries g = omega arith in z
  weight_append (Token k ∷ f) g = refl
  weight_append (Act c ∷ f) g = more (all_nullable entries f) (weight_of entries f) (weight_of entries (f ++ g))
      (weight_of entries g) (weight_append f g)
    where
      more : (b : Bool) (x y z : ℕ) → y ≡ x + cond b z 0 → suc y ≡ suc x + cond b z 0
      more true x y z e = omega arith
      more false x y z e = omega arith
  weight_append (Nonterminal n ∷ f) g = more (entries n).nullable (all_nullable entries f)
      (entries n).weight (weight_of entries f) (weight_of entries (f ++ g)) (weight_of entries g) (weight_append f g)
    where
      more : (b c : Bool) (w x y z : ℕ) → y ≡ x + cond c z 0 → w + cond b y 0 ≡ (w + cond b x 0) + cond (b && c) z 0
      more true true w x y z e = omega arith
      more true false w x y z e = omega arith
      more false c w x y z e = omega arith

-- the arithmetic of one step
less : (m n : Bool) (x w z y : ℕ) → (m ≡ true → n ≡ true) → x < w → y ≡ x + cond m z 0 → y < w + cond n z 0
less true true x w z y i l e = omega arith
less true false x w z y i l e = let j = i refl in absurd (cc)
less false n x w z y i l e = omega arith

module _ {K N A : Type 0} (same : K → K → Bool) (end : K) (entries : N → Entry K) (rights : N → List (List (Symbol K N A)))
    (decided : (n : N) → is_decided same end entries rights n ≡ true) where
  -- the right side that is chosen, in place of its nonterminal
  pub lighter : (n : N) (f r : List (Symbol K N A)) (k : K) → choose same (rights n) (entries n).kinds k ≡ Some r
      → weight_of entries (r ++ f) < weight_of entries (Nonterminal n ∷ f)
  lighter n f r k c =
      let h = chosen_is same (rights n) (entries n).kinds k r c in
      let facts = right_facts same end entries rights n (decided n) h.0 r h.1 in
      let l = facts.lighter in
      let under : weight_of entries r < (entries n).weight = grind (arith, l) in
      less (all_nullable entries r) (entries n).nullable (weight_of entries r) (entries n).weight
      (weight_of entries f) (weight_of entries (r ++ f)) (implied (all_nullable entries r) (entries n).nullable facts.nullable) under
      (weight_append entries r f)

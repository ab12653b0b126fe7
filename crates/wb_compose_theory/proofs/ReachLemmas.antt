-- A reachable nonterminal is after the dot of a valid item.
use Rattle.std.proofs.Common.{◌++◌, ◌∙◌, ◌∷◌, ◌≡◌, ◌⊎◌, List, [], add-one, ap, drop, inl, inr, refl, suc, sym, zero, ℕ}
use Rattle.wb_base.specs.declared.symbol.Symbol.{Symbol}
use Rattle.wb_base.specs.declared.symbol.Symbol.TheVariants.{Nonterminal}
use Rattle.wb_grammar_theory.specs.declared.item.Item.{Item}
use Rattle.wb_grammar_theory.proofs.DerivesLemmas.{append_nil, nil_parts}
use Rattle.wb_grammar_theory.specs.Items.{advance, initial_item}
use Rattle.wb_compose_theory.proofs.StepLemmas.{live, open_names}
use Rattle.wb_compose_theory.specs.Derives.{AreProductiveIn, DerivesIn, IsReachableIn, done, expand, keep}
use Rattle.wb_compose_theory.specs.Items.{IsValidItemIn, after_dot_in, close, move, start, start_item_in}
use Rattle.wb_compose_theory.specs.Marks.{IsMarked}
use Rattle.wb_compose_theory.specs.Worlds.{Has, Owner, Part, World}

-- the rest after one more
drop_next : (d : ℕ) (xs : List Symbol) (x : Symbol) (rest : List Symbol) → drop d xs ≡ x ∷ rest → drop (suc d) xs ≡ rest
drop_next zero [] x rest e = cc
drop_next zero (y ∷ xs) x rest e = let h : xs ≡ rest = cc in h
drop_next (suc d) [] x rest e = cc
drop_next (suc d) (y ∷ xs) x rest e = drop_next d xs x rest e

-- what is after a dot that moved
pub after_advance : (w : World) (item : Item) (x : Symbol) (rest : List Symbol) → after_dot_in w item ≡ x ∷ rest →
    after_dot_in w (advance item) ≡ rest
after_advance w item x rest e = rw add-one (drop_next item.dot (w.right item.production) x rest e)

-- the nonterminal is after the dot of a valid item
pub record Opens (w : World) (part : Part) (h : ℕ) : Type 0 where
  pub prefix : List Symbol
  pub item : Item
  pub t : ℕ
  pub rest : List Symbol
  pub valid : IsValidItemIn w part prefix item t
  pub is : after_dot_in w item ≡ Nonterminal h ∷ rest

-- where a joined list has a symbol
middle_cut : (x : Symbol) (a b u v : List Symbol) → a ++ b ≡ u ++ x ∷ v → ((v' : List Symbol) × (a ≡ u ++ x ∷ v')) ⊎
    ((u' : List Symbol) × (b ≡ u' ++ x ∷ v))
middle_cut x [] b u v e = inr (u, e)
middle_cut x (y ∷ a) b [] v e = inl (a, (let h : y ≡ x = cc in ap (λ z. z ∷ a) h))
middle_cut x (y ∷ a) b (z ∷ u) v e =
    let f : a ++ b ≡ u ++ x ∷ v = cc in
    let g : y ≡ z = cc in
    elim (middle_cut x a b u v f) [
      | inl k ↦ inl (k.0, (let k1 = k.1 in cc))
      | inr k ↦ inr k
    ]

-- a nonterminal that what is after a dot derives
pub reach_in : {w : World} {sub part : Part} {a x : List Symbol} → IsMarked w → AreProductiveIn w part →
    ((o : Owner) → Has sub o → Has part o) → DerivesIn w sub a x → (h : ℕ) (u v : List Symbol) → x ≡ u ++ Nonterminal h ∷ v →
    (item : Item) (t : ℕ) (prefix rest : List Symbol) → IsValidItemIn w part prefix item t → after_dot_in w item ≡ a ++ rest →
    Opens w part h
reach_in ok p more done h u v e item t prefix rest valid is = let n = nil_parts u (Nonterminal h ∷ v) e in let m = n.1 in cc
reach_in ok p more (keep y {a} {b} r) h [] v e item t prefix rest valid is =
    record {
      prefix = prefix;
      item = item;
      t = t;
      rest = a ++ rest;
      valid = valid;
      is = is ∙
          (let k : y ≡ Nonterminal h = cc in ap (λ z. z ∷ (a ++ rest)) k);
    }
reach_in {w} ok p more (keep y {a} {b} r) h (z ∷ u) v e item t prefix rest valid is =
    let k : b ≡ u ++ Nonterminal h ∷ v = cc in
    reach_in ok p more r h u v k (advance item) t (prefix ++ y ∷ []) rest (move item y (a ++ rest) prefix valid is refl refl)
    (after_advance w item y (a ++ rest) is)
reach_in {w} ok p more (expand q b u1 v1 {a} rule left r s joined) h u v e item t prefix rest valid is =
    elim (middle_cut (Nonterminal h) u1 v1 u v (sym joined ∙ e)) [
      | inl k ↦
          let (c, f) = live p (a ++ rest) ((open_names ok valid b (a ++ rest) is).1) t in
          reach_in ok p more r h u k.0 k.1 (initial_item q) c prefix []
          (close item t b (a ++ rest) q c valid is (more (w.production_owner q) rule) left f) (sym (append_nil (w.right q)))
      | inr k ↦
          reach_in ok p more s h k.0 v k.1 (advance item) t (prefix ++ Nonterminal b ∷ []) rest
          (move item (Nonterminal b) (a ++ rest) prefix valid is refl refl) (after_advance w item (Nonterminal b) (a ++ rest) is)
    ]

-- a reachable nonterminal
pub reach : {w : World} {sub part : Part} → IsMarked w → AreProductiveIn w part → ((o : Owner) → Has sub o → Has part o) → (h : ℕ) →
    IsReachableIn w sub h → Opens w part h
reach {w} ok p more h (u, v, d) = reach_in ok p more d h u v refl (start_item_in w) w.end_terminal [] [] start ok.start.top_right

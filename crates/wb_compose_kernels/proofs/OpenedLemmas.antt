-- Items that one nonterminal opens: their lookaheads, and where they are in the union.
use Rattle.std.proofs.Common.{◌+◌, ◌≤◌, ◌∙◌, ◌∷◌, ◌≡◌, ap, arith, inl, inr, length, refl, subst, sym, ℕ, suc, zero}
use Rattle.std.proofs.Common.{List, [], Some}
use Rattle.std.specs.Prelude.{Contains, slice_get}
use Rattle.std.proofs.lemmas.Option.{slice_get_within}
use Rattle.wb_lemmas.proofs.Members.{contains_at, contains_later}
use Rattle.wb_lemmas.proofs.Places.{at_append}
use Rattle.wb_base.specs.declared.symbol.Symbol.{Symbol}
use Rattle.wb_base.specs.declared.symbol.Symbol.TheVariants.{Nonterminal, Terminal}
use Rattle.wb_base.specs.Grammar.{GrammarView, IsGrammar, Production}
use Rattle.wb_grammar_theory.proofs.ProductionLemmas.{production_once, production_within}
use Rattle.wb_grammar_theory.specs.declared.item.Item.{Item}
use Rattle.wb_grammar_theory.specs.Derives.{Derives, IsText, done, empty, expand, keep, next}
use Rattle.wb_grammar_theory.specs.Items.{HasItem, IsValidItem, close, initial_item, move, start}
use Rattle.wb_grammar_theory.specs.Lookaheads.{IsLookahead}
use Rattle.wb_grammar_theory.specs.Productions.{IsProduction, end_of}
use Rattle.wb_grammar_theory.specs.Shape.{IsProductive}
use Rattle.wb_items.specs.Apart.{BelongTogether}
use Rattle.wb_marking_holes.specs.Holes.{hole_productions, with_holes_of}
use Rattle.wb_recheck_theory.proofs.RangeLemmas.{first_below}

-- an item with its dot at the left end is its production's initial item
pub initial_is : (item : Item) → item.dot ≡ 0 → item ≡ initial_item item.production
initial_is item e = λ i. record { production = item.production; dot = e i }

module _ (g : GrammarView) where
  -- where an initial item is valid, that of another production on the nonterminal is
  valid_opened : {prefix : List Symbol} {i : Item} {t : ℕ} (b p q : ℕ) (w v : List Symbol) → IsProduction g p b w → IsProduction g q b v →
      IsValidItem g prefix i t → i ≡ initial_item p → IsValidItem g prefix (initial_item q) t
  valid_opened b p q w v one other start i_is =
      let e : length g.productions ≡ p = ap (λ (z : Item). z.production) i_is in
      let lt = production_within g p b w one in
      absurd (omega (arith, e, lt))
  valid_opened b p q w v one other (close item s c rest r u right {prefix} valid is rule first) i_is =
      let e : r ≡ p = ap (λ (z : Item). z.production) i_is in
      let same : c ≡ b = (production_once g p c b right w (subst (λ z. IsProduction g z c right) e rule) one).0 in
      close item s b rest q u v valid (is ∙ ap (λ z. Nonterminal z ∷ rest) same) other first
  valid_opened b p q w v one other (move item x rest prefix {moved = moved} valid is longer_is moved_is) i_is =
      let e : moved.dot ≡ 0 = ap (λ (z : Item). z.dot) i_is in
      let f : moved.dot ≡ item.dot + 1 = ap (λ (z : Item). z.dot) moved_is in
      absurd (omega (arith, e, f))

  -- so items that belong together are valid together
  valid_together : {prefix : List Symbol} {t : ℕ} (one item : Item) → BelongTogether g one item → IsValidItem g prefix one t →
      IsValidItem g prefix item t
  valid_together {prefix} {t} one item (inl same) v = subst (λ z. IsValidItem g prefix z t) same v
  valid_together {prefix} {t} one item (inr (b, (dot, w, one_rule), (zero_dot, v, rule))) valid =
      subst (λ z. IsValidItem g prefix z t) (sym (initial_is item zero_dot))
      (valid_opened b one.production item.production w v one_rule rule valid (initial_is one dot))

  pub looks_together : (prefix : List Symbol) (one item : Item) (t : ℕ) → BelongTogether g one item → IsLookahead g prefix one t →
      IsLookahead g prefix item t
  looks_together prefix one item t belong (other, same, v) = (other, same, valid_together one item belong v)

  pub has_together : (prefix : List Symbol) (one item : Item) → BelongTogether g one item → HasItem g prefix one → HasItem g prefix item
  has_together prefix one item belong (t, v) = (t, valid_together one item belong v)

  -- items belong together both ways
  pub together_back : (one item : Item) → BelongTogether g one item → BelongTogether g item one
  together_back one item (inl same) = inl (sym same)
  together_back one item (inr (b, o, p)) = inr (b, p, o)

  -- lookaheads are terminals, or the end
  valid_below : IsGrammar g → {prefix : List Symbol} {item : Item} {t : ℕ} → IsValidItem g prefix item t → t ≤ end_of g
  valid_below ok start = omega arith
  valid_below ok (close item t b rest q u right v is rule first) =
      first_below g ok item (Nonterminal b) rest t u is (valid_below ok v) first
  valid_below ok (move item x rest prefix v is longer_is moved_is) = valid_below ok v

  pub looks_below : IsGrammar g → (prefix : List Symbol) (item : Item) (t : ℕ) → IsLookahead g prefix item t → t ≤ end_of g
  looks_below ok prefix item t (other, same, v) = valid_below ok v

  -- a nonterminal that derives a text has a production
  pub record HasRule (a : ℕ) : Type 0 where
    pub p : ℕ
    pub right : List Symbol
    pub rule : IsProduction g p a right

  no_text : (a : ℕ) (v : List Symbol) {w : List Symbol} → IsText w → w ≡ Nonterminal a ∷ v → ⊥
  no_text a v empty e = cc
  no_text a v (next t r) e = cc

  derived_rule : (a : ℕ) {w v : List Symbol} → Derives g w v → IsText v → w ≡ Nonterminal a ∷ [] → HasRule a
  derived_rule a done text e = absurd (let f : [] ≡ Nonterminal a ∷ [] = e in cc)
  derived_rule a (keep x {w} {v} r) text e =
      let x_is : x ≡ Nonterminal a = cc in absurd (no_text a v text (ap (λ z. z ∷ v) x_is))
  derived_rule a (expand p b right u v {w} rule r s is) text e =
      let b_is : b ≡ a = cc in record { p = p; right = right; rule = subst (λ z. IsProduction g p z right) b_is rule }

  pub some_rule : (a : ℕ) → IsProductive g a → HasRule a
  some_rule a (v, derives, text) = derived_rule a derives text refl

-- the productions of holes are on their nonterminals
holes_left : (first : ℕ) (xs : List ℕ) (j : ℕ) (rule : Production) → slice_get (hole_productions first xs) j ≡ Some rule →
    Contains xs rule.0
holes_left first xs j rule at = go first xs j at
  where
    ap_left : (one other : Production) → Some one ≡ Some other → one.0 ≡ other.0
    ap_left one other e = (let f : one ≡ other = cc in ap (λ (z : Production). z.0) f)

    go : (first : ℕ) (xs : List ℕ) (j : ℕ) → slice_get (hole_productions first xs) j ≡ Some rule → Contains xs rule.0
    go first [] j at = absurd (let f : slice_get [] j ≡ Some rule = at in cc)
    go first (x ∷ xs) zero at =
        let e : x ≡ rule.0 = ap_left (x, Terminal first ∷ []) rule at in contains_at (x ∷ xs) rule.0 0 (ap Some e)
    go first (x ∷ xs) (suc j) at = contains_later x rule.0 xs (go (suc first) xs j at)

pub hole_left : (x : GrammarView) (extensible : List ℕ) (p b : ℕ) (right : List Symbol) → length x.productions ≤ p →
    IsProduction (with_holes_of x extensible) p b right → Contains extensible b
hole_left x extensible p b right past rule =
    elim (at_append x.productions (hole_productions x.terminals extensible) (b, right) p rule) [
      | inl before ↦ absurd (let w = slice_get_within x.productions p (b, right) before in omega (arith, w, past))
      | inr (j, is, at) ↦ holes_left x.terminals extensible j (b, right) at
    ]

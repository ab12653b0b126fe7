-- A closure that grows by the productions of one nonterminal after another.
use Rattle.std.proofs.Common.{◌≡◌, ℕ, ◌+◌, ◌<◌, ◌≤◌, ◌⊎◌, zero, suc, Bool, true, false, List, [], ◌∷◌, ◌++◌, length, set, map, replicate}
use Rattle.std.proofs.Common.{Some, refl, sym, ◌∙◌, ap, subst, inl, inr, arith}
use Rattle.std.specs.Prelude.{slice_get, Contains, ◌↔◌}
use Rattle.std.proofs.lemmas.List.{length-replicate, length-set}
use Rattle.std.proofs.lemmas.Option.{slice_get_within}
use Rattle.std.proofs.lemmas.Bool.{cases_eq}
use Rattle.wb_lemmas.proofs.Places.{at_once}
use Rattle.wb_lemmas.proofs.Members.{contains_at, place_of, append_contains_left, append_contains_right}
use Rattle.wb_base.specs.declared.symbol.Symbol.{Symbol}
use Rattle.wb_base.specs.declared.symbol.Symbol.TheVariants.{Nonterminal}
use Rattle.wb_base.specs.Grammar.{GrammarView}
use Rattle.wb_termset.specs.Sets.{IsMember}
use Rattle.wb_termset.proofs.CallerLemmas.{IsSubset-insert, IsMember-insert_same, IsMember-insert, IsEmpty-replicate, has_or_not}
use Rattle.wb_grammar_theory.specs.declared.item.Item.{Item}
use Rattle.wb_grammar_theory.specs.Productions.{IsProduction}
use Rattle.wb_grammar_theory.specs.Items.{after_dot, initial_item}
use Rattle.wb_grammar_theory.specs.Closure.{InClosure, kernel, opened}
use Rattle.wb_items.specs.Inner.Closing.{IsClosing}
use Rattle.wb_items.specs.Table.{AreProductionsOf}

-- an element of joined lists
at_joined : {X : Type 0} (xs ys : List X) (j : ℕ) (z : X) → slice_get (xs ++ ys) j ≡ Some z → (slice_get xs j ≡ Some z) ⊎ Contains ys z
at_joined [] ys j z e = inr (contains_at ys z j e)
at_joined (x ∷ xs) ys zero z e = inl e
at_joined (x ∷ xs) ys (suc j) z e = at_joined xs ys j z e

at_left : {X : Type 0} (xs ys : List X) (j : ℕ) (z : X) → j < length xs → slice_get (xs ++ ys) j ≡ Some z → slice_get xs j ≡ Some z
at_left [] ys j z lt e = absurd (omega arith)
at_left (x ∷ xs) ys zero z lt e = e
at_left (x ∷ xs) ys (suc j) z lt e = at_left xs ys j z (omega arith) e

opening_at : (numbers : List ℕ) (j q : ℕ) → slice_get numbers j ≡ Some q → slice_get (map initial_item numbers) j ≡ Some (initial_item q)
opening_at [] j q e = cc
opening_at (n ∷ numbers) zero q e = let f : n ≡ q = cc in ap (λ k. Some (initial_item k)) f
opening_at (n ∷ numbers) (suc j) q e = opening_at numbers j q e

opening_from : (numbers : List ℕ) (j : ℕ) (z : Item) → slice_get (map initial_item numbers) j ≡ Some z →
    (q : ℕ) × (slice_get numbers j ≡ Some q) × (z ≡ initial_item q)
opening_from [] j z e = cc
opening_from (n ∷ numbers) zero z e = (n, refl, let f : initial_item n ≡ z = cc in sym f)
opening_from (n ∷ numbers) (suc j) z e = opening_from numbers j z e

-- the kernel alone
pub closing_start : (g : GrammarView) (items : List Item) → IsClosing g items (replicate g.nonterminals false) items 0
closing_start g items = record {
  len = length-replicate g.nonterminals false;
  front = λ item k. k;
  complete = λ b q right has rule. absurd (IsEmpty-replicate g.nonterminals b has);
  sound = λ p item at. kernel (contains_at items item p at);
  closed = λ p item b rest lt at is. absurd (omega arith);
}

-- nothing new is after the dot at the place
pub closing_pass : (g : GrammarView) (items : List Item) (set : List Bool) (closure : List Item) (place : ℕ) →
    ((item : Item) (b : ℕ) (rest : List Symbol) → slice_get closure place ≡ Some item → after_dot g item ≡ Nonterminal b ∷ rest →
    IsMember set b) → IsClosing g items set closure place → IsClosing g items set closure (place + 1)
closing_pass g items set closure place here h = record {
  len = h.len;
  front = h.front;
  complete = h.complete;
  sound = h.sound;
  closed = λ p item b rest lt at is. elim (cases_eq p place) [
    | inl same ↦ here item b rest (subst (λ k. slice_get closure k ≡ Some item) same at) is
    | inr ne ↦ h.closed p item b rest (omega arith) at is
  ];
}

nonterminal_same : (b c : ℕ) (rest more : List Symbol) → Nonterminal b ∷ rest ≡ Nonterminal c ∷ more → b ≡ c
nonterminal_same b c rest more e = cc

-- the initial items of the nonterminal after the dot at the place go after the others
pub closing_more : (g : GrammarView) (items : List Item) (flags : List Bool) (closure : List Item) (place : ℕ) (item : Item) (b : ℕ)
    (rest : List Symbol) (numbers : List ℕ) → slice_get closure place ≡ Some item → after_dot g item ≡ Nonterminal b ∷ rest →
    b < length flags → AreProductionsOf g b numbers → IsClosing g items flags closure place →
    IsClosing g items (set flags b true) (closure ++ map initial_item numbers) (place + 1)
closing_more g items flags closure place item b rest numbers here before lt rules h = record {
  len = length-set flags b true ∙ h.len;
  front = λ z k. append_contains_left closure (map initial_item numbers) z (h.front z k);
  complete = λ c q right has rule. elim (IsMember-insert flags b c has) [
    | inl old ↦ append_contains_left closure (map initial_item numbers) (initial_item q) (h.complete c q right old rule)
    | inr same ↦
        let (j, at) = place_of numbers q (rules.complete q right (subst (λ k. IsProduction g q k right) same rule)) in
        append_contains_right closure (map initial_item numbers) (initial_item q)
        (contains_at (map initial_item numbers) (initial_item q) j (opening_at numbers j q at))
  ];
  sound = λ p z at. elim (at_joined closure (map initial_item numbers) p z at) [
    | inl old ↦ h.sound p z old
    | inr k ↦
        let (j, at') = place_of (map initial_item numbers) z k in
        let (q, q_at, is) = opening_from numbers j z at' in
        let (right, rule) = rules.sound q (contains_at numbers q j q_at) in
        subst (InClosure g (Contains items)) (sym is) (opened item b rest q right (h.sound place item here) before rule)
  ];
  closed = λ p z c more lt' at is.
      let inside : p < length closure = (let w = slice_get_within closure place item here in omega arith) in
      let old = at_left closure (map initial_item numbers) p z inside at in
      elim (cases_eq p place) [
        | inl same ↦
            let e : item ≡ z = at_once closure place item z here (subst (λ k. slice_get closure k ≡ Some z) same old) in
            let f : b ≡ c = nonterminal_same b c rest more (sym before ∙ ap (after_dot g) e ∙ is) in
            subst (IsMember (set flags b true)) f (IsMember-insert_same flags b lt)
        | inr ne ↦ IsSubset-insert flags b c (h.closed p z c more (omega arith) old is)
      ];
}

closing_back : (g : GrammarView) (items : List Item) (flags : List Bool) (closure : List Item) (place : ℕ) → length closure ≤ place →
    IsClosing g items flags closure place → {item : Item} → InClosure g (Contains items) item → Contains closure item
closing_back g items flags closure place past h (kernel k) = h.front _ k
closing_back g items flags closure place past h (opened item b rest q right c is rule) =
    let (p, at) = place_of closure item (closing_back g items flags closure place past h c) in
    h.complete b q right (h.closed p item b rest (let w = slice_get_within closure p item at in omega (arith, w, past)) at is) rule

-- each place was gone over, and a list has the same items
pub closing_done : (g : GrammarView) (items : List Item) (flags : List Bool) (closure list : List Item) (place : ℕ) →
    length closure ≤ place → IsClosing g items flags closure place → ((item : Item) → Contains closure item → Contains list item) →
    ((item : Item) → Contains list item → Contains closure item) → (item : Item) → Contains list item ↔ InClosure g (Contains items) item
closing_done g items flags closure list place past h there back item = (
  λ k. (let (p, at) = place_of closure item (back item k) in h.sound p item at),
  λ c. there item (closing_back g items flags closure place past h c),
)

-- the nonterminal after the dot at the place is known
pub closing_known : (g : GrammarView) (items : List Item) (flags : List Bool) (closure : List Item) (place : ℕ) (item : Item) (b : ℕ)
    (rest : List Symbol) → slice_get closure place ≡ Some item → after_dot g item ≡ Nonterminal b ∷ rest → ((¬ IsMember flags b) → ⊥) →
    IsClosing g items flags closure place → IsClosing g items flags closure (place + 1)
closing_known g items flags closure place item b rest here before known h = closing_pass g items flags closure place (λ z c more at is.
    let e : item ≡ z = at_once closure place item z here at in
    let f : b ≡ c = nonterminal_same b c rest more (sym before ∙ ap (after_dot g) e ∙ is) in
    elim (has_or_not flags c) [
      | inl has ↦ has
      | inr without ↦ absurd (known (subst (λ k. ¬ IsMember flags k) (sym f) without))
    ]) h

-- Least sets of nonterminals that productions generate.
use Rattle.std.proofs.Common.{◌≡◌, ℕ, ◌<◌, Bool, true, false, List, [], ◌∷◌, ◌++◌, length, set, refl, sym, ◌∙◌, subst, inl, inr, arith}
use Rattle.std.specs.Prelude.{All, ◌↔◌}
use Rattle.std.proofs.lemmas.List.Elements.{All-head, All-tail, All-cons, All-nil}
use Rattle.wb_base.specs.declared.symbol.Symbol.{Symbol}
use Rattle.wb_base.specs.declared.symbol.Symbol.TheVariants.{Terminal, Nonterminal}
use Rattle.wb_base.specs.Grammar.{GrammarView, IsSymbolBelow}
use Rattle.wb_termset.proofs.CallerLemmas.{IsMember-insert}
use Rattle.wb_grammar_theory.specs.Productions.{IsProduction}
use Rattle.wb_grammar_theory.specs.Derives.{Derives, done, keep, expand, IsText, empty, next}
use Rattle.wb_grammar_theory.specs.Shape.{IsProductive}
use Rattle.wb_grammar_theory.proofs.DerivesLemmas.{nil_parts}
use Rattle.wb_grammar_theory.proofs.TreeLemmas.{text_left, text_right}
use Rattle.wb_grammar.specs.Inner.LeastSets.{Generates, nothing, terminal, nonterminal, Holds, IsKnown, AreGenerated, IsClosedAt}
use Rattle.wb_grammar.specs.Inner.LeastSets.{IsLeastSet}
use Rattle.wb_grammar.specs.Facts.{IsNullableSet}

-- what a sound set holds is generated
pub generated_within : (g : GrammarView) (terminals : Bool) (set : List Bool) → AreGenerated g terminals set → (w : List Symbol) →
    All (Holds terminals set) w → Generates g terminals w
generated_within g terminals set sound [] all = nothing
generated_within g terminals set sound (Terminal t ∷ w) all =
    terminal t (All-head (Holds terminals set) (Terminal t) w all)
    (generated_within g terminals set sound w (All-tail (Holds terminals set) (Terminal t) w all))
generated_within g terminals set sound (Nonterminal a ∷ w) all =
    more (sound a (All-head (Holds terminals set) (Nonterminal a) w all))
    (generated_within g terminals set sound w (All-tail (Holds terminals set) (Nonterminal a) w all))
  where
    more : Generates g terminals (Nonterminal a ∷ []) → Generates g terminals w → Generates g terminals (Nonterminal a ∷ w)
    more (nonterminal p _ right rule below rest) rest_generated = nonterminal p a right rule below rest_generated

-- what is generated is held by a closed set
pub within_closed : {g : GrammarView} (terminals : Bool) (set : List Bool) → ((p : ℕ) → IsClosedAt g terminals set p) → {w : List Symbol} →
    Generates g terminals w → All (Holds terminals set) w
within_closed terminals set closed nothing = All-nil (Holds terminals set)
within_closed terminals set closed (terminal t passes rest) = All-cons (Holds terminals set) (Terminal t) _ passes
    (within_closed terminals set closed rest)
within_closed terminals set closed (nonterminal p a right rule below rest) =
    All-cons (Holds terminals set) (Nonterminal a) _ (closed p a right rule (within_closed terminals set closed below))
    (within_closed terminals set closed rest)

-- a sound and closed set is that of what is generated
pub least_set_is : (g : GrammarView) (terminals : Bool) (set : List Bool) → length set ≡ g.nonterminals → AreGenerated g terminals set →
    ((p : ℕ) → IsClosedAt g terminals set p) → IsLeastSet g terminals set
least_set_is g terminals set len sound closed = record {
  len = len;
  each = λ a. (sound a, λ b. All-head (Holds terminals set) (Nonterminal a) [] (within_closed terminals set closed b));
}

-- a generated nonterminal more
pub generated_insert : (g : GrammarView) (terminals : Bool) (flags : List Bool) (p a : ℕ) (right : List Symbol) →
    AreGenerated g terminals flags → IsProduction g p a right → All (Holds terminals flags) right →
    AreGenerated g terminals (set flags a true)
generated_insert g terminals flags p a right sound rule all b has = elim (IsMember-insert flags a b has) [
  | inl old ↦ sound b old
  | inr same ↦ rw same (nonterminal p a right rule (generated_within g terminals flags sound right all) nothing)
]

-- what is generated without terminals derives the empty text
pub generated_empty : {g : GrammarView} {w : List Symbol} → Generates g false w → Derives g w []
generated_empty nothing = done
generated_empty (terminal t passes rest) = cc
generated_empty (nonterminal p a right rule below rest) = expand p a right [] [] rule (generated_empty below) (generated_empty rest) refl

pub empty_generated : {g : GrammarView} {w x : List Symbol} → Derives g w x → x ≡ [] → Generates g false w
empty_generated done e = nothing
empty_generated (keep x r) e = cc
empty_generated (expand p a right u v rule r s is) e =
    let parts = nil_parts u v (sym e ∙ is) in
    nonterminal p a right rule (empty_generated r parts.0) (empty_generated s parts.1)

-- the set of what is generated without terminals is that of the nullable nonterminals
pub nullable_exact : (g : GrammarView) (set : List Bool) → IsLeastSet g false set → IsNullableSet g set
nullable_exact g set is = record {
  len = is.len;
  each = λ a. (λ has. generated_empty ((is.each a).0 has), λ r. (is.each a).1 (empty_generated r refl));
}

-- a text that symbols derive
record Written (g : GrammarView) (w : List Symbol) : Type 0 where
  text : List Symbol
  derived : Derives g w text
  is_text : IsText text

text_joined : {u v : List Symbol} → IsText u → IsText v → IsText (u ++ v)
text_joined empty h = h
text_joined (next t g) h = next t (text_joined g h)

generated_text : {g : GrammarView} {w : List Symbol} → Generates g true w → Written g w
generated_text nothing = record { text = []; derived = done; is_text = empty }
generated_text (terminal t passes rest) =
    let r = generated_text rest in
    record { text = Terminal t ∷ r.text; derived = keep (Terminal t) r.derived; is_text = next t r.is_text }
generated_text (nonterminal p a right rule below rest) =
    let b = generated_text below in
    let r = generated_text rest in
    record {
      text = b.text ++ r.text;
      derived = expand p a right b.text r.text rule b.derived r.derived refl;
      is_text = text_joined b.is_text r.is_text;
    }

text_generated : {g : GrammarView} {w v : List Symbol} → Derives g w v → IsText v → Generates g true w
text_generated done h = nothing
text_generated (keep (Terminal t) r) (next _ h) = terminal t refl (text_generated r h)
text_generated (keep (Nonterminal a) r) h = elim h [ ]
text_generated (expand p a right u v rule r s is) h =
    let both : IsText (u ++ v) = subst IsText is h in
    nonterminal p a right rule (text_generated r (text_left u v both)) (text_generated s (text_right u v both))

-- a nonterminal is productive exactly where it is generated with terminals
pub productive_generated : (g : GrammarView) (a : ℕ) → Generates g true (Nonterminal a ∷ []) ↔ IsProductive g a
productive_generated g a = (λ b. let w = generated_text b in (w.text, w.derived, w.is_text), λ (v, r, h). text_generated r h)

-- symbols in range are known to a set with room for the nonterminals
pub known : (m n count : ℕ) (w : List Symbol) → n ≡ count → All (IsSymbolBelow m n) w → All (IsKnown count) w
known m n count [] e all = All-nil (IsKnown count)
known m n count (Terminal t ∷ w) e all = All-cons (IsKnown count) (Terminal t) w tt
    (known m n count w e (All-tail (IsSymbolBelow m n) (Terminal t) w all))
known m n count (Nonterminal a ∷ w) e all =
    let below : a < n = All-head (IsSymbolBelow m n) (Nonterminal a) w all in
    All-cons (IsKnown count) (Nonterminal a) w (omega arith) (known m n count w e (All-tail (IsSymbolBelow m n) (Nonterminal a) w all))

-- Derivation trees and derivations agree.
use Rattle.std.proofs.Common.{◌≡◌, List, [], ◌∷◌, ◌++◌, refl, sym, ◌∙◌, ap, subst}
use Rattle.wb_base.specs.declared.symbol.Symbol.{Symbol}
use Rattle.wb_base.specs.declared.symbol.Symbol.TheVariants.{Terminal, Nonterminal}
use Rattle.wb_base.specs.Grammar.{GrammarView}
use Rattle.wb_grammar_theory.specs.Productions.{IsProduction}
use Rattle.wb_grammar_theory.specs.Derives.{Derives, done, keep, expand, IsText, empty, next}
use Rattle.wb_grammar_theory.specs.Trees.{Forest, nothing, leaf, node, symbols, IsDerived, Leaf, leaves, text_of}

pub text_joined : (a b : List Leaf) → text_of (a ++ b) ≡ text_of a ++ text_of b
text_joined [] b = refl
text_joined (x ∷ a) b = ap (λ z. Terminal x.terminal ∷ z) (text_joined a b)

-- the text of leaves is one
pub text_is : (xs : List Leaf) → IsText (text_of xs)
text_is [] = empty
text_is (x ∷ xs) = next x.terminal (text_is xs)

-- the roots of trees derive the text of the leaves
pub forest_derives : (g : GrammarView) (prefix : List Symbol) (f : Forest) → IsDerived g f →
    Derives g (symbols f) (text_of (leaves prefix f))
forest_derives g prefix nothing d = done
forest_derives g prefix (leaf t l r) d = keep (Terminal t) (forest_derives g (prefix ++ Terminal t ∷ []) r d)
forest_derives g prefix (node p a k r) (rule, dk, dr) =
    expand p a (symbols k) (text_of (leaves prefix k)) (text_of (leaves (prefix ++ Nonterminal a ∷ []) r)) rule
    (forest_derives g prefix k dk) (forest_derives g (prefix ++ Nonterminal a ∷ []) r dr)
    (text_joined (leaves prefix k) (leaves (prefix ++ Nonterminal a ∷ []) r))

-- trees of these symbols with the text as their leaves
pub record Grown (g : GrammarView) (w v : List Symbol) : Type 0 where
  pub forest : Forest
  pub derived : IsDerived g forest
  pub roots : symbols forest ≡ w
  pub text : (prefix : List Symbol) → text_of (leaves prefix forest) ≡ v

pub text_left : (u v : List Symbol) → IsText (u ++ v) → IsText u
text_left [] v h = empty
text_left (Terminal t ∷ u) v (next _ h) = next t (text_left u v h)
text_left (Nonterminal a ∷ u) v h = elim h [ ]

pub text_right : (u v : List Symbol) → IsText (u ++ v) → IsText v
text_right [] v h = h
text_right (Terminal t ∷ u) v (next _ h) = text_right u v h
text_right (Nonterminal a ∷ u) v h = elim h [ ]

-- what derives a text has such trees
pub derives_grown : {g : GrammarView} {w v : List Symbol} → Derives g w v → IsText v → Grown g w v
derives_grown done h = record { forest = nothing; derived = tt; roots = refl; text = λ prefix. refl }
derives_grown (keep (Terminal t) r) (next _ h) =
    let rest = derives_grown r h in
    record {
      forest = leaf t [] rest.forest;
      derived = rest.derived;
      roots = ap (λ z. Terminal t ∷ z) rest.roots;
      text = λ prefix. ap (λ z. Terminal t ∷ z) (rest.text (prefix ++ Terminal t ∷ []));
    }
derives_grown (keep (Nonterminal a) r) h = elim h [ ]
derives_grown {g} (expand p a right u v {w} rule r s is) h =
    let both : IsText (u ++ v) = subst IsText is h in
    let below = derives_grown r (text_left u v both) in
    let rest = derives_grown s (text_right u v both) in
    record {
      forest = node p a below.forest rest.forest;
      derived = (subst (IsProduction g p a) (sym below.roots) rule, below.derived, rest.derived);
      roots = ap (λ z. Nonterminal a ∷ z) rest.roots;
      text = λ prefix.
          text_joined (leaves prefix below.forest) (leaves (prefix ++ Nonterminal a ∷ []) rest.forest)
          ∙ (ap (λ z. z ++ text_of (leaves (prefix ++ Nonterminal a ∷ []) rest.forest)) (below.text prefix)
          ∙ (ap (λ z. u ++ z) (rest.text (prefix ++ Nonterminal a ∷ [])) ∙ sym is));
    }

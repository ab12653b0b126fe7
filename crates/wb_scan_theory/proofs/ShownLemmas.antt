-- A derivation tree fits signatures that agree with its grammar.
use Rattle.std.proofs.Common.{◌≡◌, ℕ, List, [], ◌∷◌, refl, sym, ◌∙◌, ap, subst}
use Rattle.std.specs.Prelude.{map}
use Rattle.wb_base.specs.declared.symbol.Symbol.TheVariants.{Nonterminal}
use Rattle.wb_base.specs.declared.symbol.Kind.TheVariants as kind
use Rattle.wb_base.specs.Grammar.{GrammarView}
use Rattle.wb_grammar_theory.specs.Trees.{Forest, nothing, leaf, node, symbols, IsDerived, DerivationTree}
use Rattle.wb_values.specs.Tree.{Tree, Value, Values, empty, more, plain, text, tree}
use Rattle.wb_values.specs.Tree as values
use Rattle.wb_values.specs.Signature.{Signature}
use Rattle.wb_values.specs.Fits.{FitsTree, FitAll}
use Rattle.wb_scan_theory.specs.Shown.{values_of, Shows, kind_of, AgreesWith}

pub roots_fit : (signatures : List Signature) (g : GrammarView) → AgreesWith signatures g → (f : Forest) → IsDerived g f →
    FitAll signatures (values_of f) (map kind_of (symbols f))
roots_fit signatures g agrees nothing d = refl
roots_fit signatures g agrees (leaf t lexeme rest) d =
    (kind.Text, map kind_of (symbols rest), refl, refl, roots_fit signatures g agrees rest d)
roots_fit signatures g agrees (node p a children rest) (rule, dc, dr) =
    let (s, at, left, kinds) = agrees p a (symbols children) rule in (
      kind.Tree a,
      map kind_of (symbols rest),
      refl,
      (a, refl, (s, at, left, subst (FitAll signatures (values_of children)) (sym kinds) (roots_fit signatures g agrees children dc))),
      roots_fit signatures g agrees rest dr,
    )

one_root : (f : Forest) (a : ℕ) → symbols f ≡ Nonterminal a ∷ [] → (p : ℕ) × (children : Forest) × (f ≡ node p a children nothing)
one_root nothing a e = cc
one_root (leaf t lexeme rest) a e = cc
one_root (node p b children nothing) a e = let same : b ≡ a = cc in (p, children, ap (λ z. node p z children nothing) same)
one_root (node p b children (leaf t lexeme rest)) a e = cc
one_root (node p b children (node q c below rest)) a e = cc

tree_same : (t u : Tree) → more (tree t) empty ≡ more (tree u) empty → t ≡ u
tree_same t u e = cc

-- the tree fits, as one of the start
pub tree_fits : (signatures : List Signature) (g : GrammarView) → AgreesWith signatures g → (f : Forest) → DerivationTree g f →
    (value : Tree) → Shows value f → FitsTree signatures value g.start
tree_fits signatures g agrees f is value shows = go (one_root f g.start is.root)
  where
    go : (p : ℕ) × (children : Forest) × (f ≡ node p g.start children nothing) → FitsTree signatures value g.start
    go (p, children, same) =
        let d : IsDerived g (node p g.start children nothing) = subst (IsDerived g) same is.derived in
        let (s, at, left, kinds) = agrees p g.start (symbols children) d.0 in
        let value_is : values.node p (values_of children) ≡ value = tree_same _ _ (sym (ap values_of same) ∙ shows) in
        subst (λ z. FitsTree signatures z g.start) value_is
        (s, at, left, subst (FitAll signatures (values_of children)) (sym kinds) (roots_fit signatures g agrees children d.1))

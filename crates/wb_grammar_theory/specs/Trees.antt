-- Derivation trees, their leaves from left to right, and the left contexts of leaves.
use Rattle.std.specs.Prelude.{◌≡◌, ℕ, List, [], ◌∷◌, ◌++◌}
use Rattle.wb_base.specs.declared.symbol.Symbol.{Symbol}
use Rattle.wb_base.specs.declared.symbol.Symbol.TheVariants.{Terminal, Nonterminal}
use Rattle.wb_base.specs.Grammar.{GrammarView}
use Rattle.wb_grammar_theory.specs.Productions.{IsProduction, end_of}

-- trees, one after another: a leaf with its terminal and its text, or a node with its production, that production's left side and its
-- children
pub data Forest : Type 0 where
  nothing : Forest
  leaf : ℕ → List ℕ → Forest → Forest
  node : ℕ → ℕ → Forest → Forest → Forest

-- the symbols of the roots
abbrev pub symbols : Forest → List Symbol
symbols nothing = []
symbols (leaf t text rest) = Terminal t ∷ symbols rest
symbols (node p a children rest) = Nonterminal a ∷ symbols rest

-- each node is one of a production, with a leaf or a tree for each symbol of the right side
abbrev pub IsDerived : GrammarView → Forest → Type 0
IsDerived g nothing = Unit {0}
IsDerived g (leaf t text rest) = IsDerived g rest
IsDerived g (node p a children rest) = IsProduction g p a (symbols children) × IsDerived g children × IsDerived g rest

-- a tree of the nonterminal
pub record IsTree (g : GrammarView) (a : ℕ) (tree : Forest) : Type 0 where
  pub derived : IsDerived g tree
  pub root : symbols tree ≡ Nonterminal a ∷ []

-- a leaf: the symbols of the left siblings of each node on the path from the root to it, its terminal and its text
pub record Leaf : Type 0 where
  pub context : List Symbol
  pub terminal : ℕ
  pub text : List ℕ

-- the leaves from left to right, where the symbols of the prefix are before the roots
abbrev pub leaves : List Symbol → Forest → List Leaf
leaves prefix nothing = []
leaves prefix (leaf t text rest) = record { context = prefix; terminal = t; text = text } ∷ leaves (prefix ++ Terminal t ∷ []) rest
leaves prefix (node p a children rest) = leaves prefix children ++ leaves (prefix ++ Nonterminal a ∷ []) rest

-- the terminals of leaves, as symbols
abbrev pub text_of : List Leaf → List Symbol
text_of [] = []
text_of (x ∷ xs) = Terminal x.terminal ∷ text_of xs

-- the last leaf of a derivation tree, which is right of the tree of the start
abbrev pub end_leaf : GrammarView → Leaf
end_leaf g = record { context = Nonterminal g.start ∷ []; terminal = end_of g; text = [] }

-- a derivation tree: a tree of the start, followed by the one last leaf `end`
abbrev pub DerivationTree : GrammarView → Forest → Type 0
DerivationTree g tree = IsTree g g.start tree

-- the leaves of a derivation tree from left to right, `end` the last
abbrev pub leaves_of : GrammarView → Forest → List Leaf
leaves_of g tree = leaves [] tree ++ end_leaf g ∷ []

-- a leaf of the forest, by the path from a root to it: its context grows by the symbol of each sibling that the path passes on the left
pub data LeftContext : Forest → Leaf → Type 0 where
  here : (t : ℕ) (text : List ℕ) (rest : Forest) {x : Leaf} → x ≡ record { context = []; terminal = t; text = text } →
      LeftContext (leaf t text rest) x
  past_leaf : (t : ℕ) (text : List ℕ) (y : Leaf) {rest : Forest} {x : Leaf} → LeftContext rest y →
      x ≡ record y { context = Terminal t ∷ y.context } → LeftContext (leaf t text rest) x
  past_node : (p a : ℕ) (children : Forest) (y : Leaf) {rest : Forest} {x : Leaf} → LeftContext rest y →
      x ≡ record y { context = Nonterminal a ∷ y.context } → LeftContext (node p a children rest) x
  down : (p a : ℕ) (rest : Forest) {children : Forest} {x : Leaf} → LeftContext children x → LeftContext (node p a children rest) x

-- Trees as values, and signatures that agree with a grammar.
use Rattle.std.specs.Prelude.{◌≡◌, ℕ, List, map, slice_get, Some}
use Rattle.wb_base.specs.declared.symbol.Symbol.{Symbol}
use Rattle.wb_base.specs.declared.symbol.Symbol.TheVariants.{Terminal, Nonterminal}
use Rattle.wb_base.specs.declared.symbol.Kind.{Kind}
use Rattle.wb_base.specs.declared.symbol.Kind.TheVariants as kind
use Rattle.wb_base.specs.Grammar.{GrammarView}
use Rattle.wb_grammar_theory.specs.Productions.{IsProduction}
use Rattle.wb_grammar_theory.specs.Trees.{Forest, nothing, leaf, node}
use Rattle.wb_values.specs.Tree.{Tree, Values, empty, more, plain, text, tree}
use Rattle.wb_values.specs.Tree as values
use Rattle.wb_values.specs.Signature.{Signature}

-- the roots as values, in order: a leaf is its text, and a node the tree of its production over its children
abbrev pub values_of : Forest → Values
values_of nothing = empty
values_of (leaf t lexeme rest) = more (plain (text lexeme)) (values_of rest)
values_of (node p a children rest) = more (tree (values.node p (values_of children))) (values_of rest)

-- the value stands for the one root
abbrev pub Shows : Tree → Forest → Type 0
Shows value root = values_of root ≡ more (tree value) empty

-- the kind of the child for a symbol: a lexeme for a terminal, a tree for a nonterminal
abbrev pub kind_of : Symbol → Kind
kind_of (Terminal t) = kind.Text
kind_of (Nonterminal a) = kind.Tree a

-- each production has the signature of its number, with its left side and a kind for each symbol of its right side
abbrev pub AgreesWith : List Signature → GrammarView → Type 0
AgreesWith signatures g =
    (p a : ℕ) (right : List Symbol) → IsProduction g p a right → (s : Signature) × (slice_get signatures p ≡ Some s) × (s.left ≡ a) ×
    (s.children ≡ map kind_of right)

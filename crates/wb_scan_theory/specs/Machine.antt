-- The machine that shifts and reduces, whose stack is a list of trees.
use Rattle.std.specs.Prelude.{◌≡◌, ℕ, List, [], ◌∷◌, ◌++◌}
use Rattle.wb_base.specs.declared.symbol.Symbol.{Symbol}
use Rattle.wb_base.specs.Grammar.{GrammarView}
use Rattle.wb_grammar_theory.specs.Productions.{IsProduction, end_of, top_of}
use Rattle.wb_grammar_theory.specs.Trees.{Forest, nothing, leaf, node, symbols, IsDerived, Leaf, leaves, DerivationTree}
use Rattle.wb_grammar_theory.specs.Items.{IsViablePrefix}
use Rattle.wb_grammar_theory.specs.Lookaheads.{CanShift, CanReduce}
use Rattle.wb_scan_theory.specs.Tokens.{Next}
use Rattle.wb_scan_theory.specs.Readings.{Scanner, AreOnText, Gives, terminals_of}

-- the trees of both, one after another
abbrev pub joined : Forest → Forest → Forest
joined nothing f = f
joined (leaf t text rest) f = leaf t text (joined rest f)
joined (node p a children rest) f = node p a children (joined rest f)

-- the terminal that is ahead, where u is after the leaves
abbrev pub ahead : ℕ → List Leaf → ℕ
ahead u [] = u
ahead u (x ∷ xs) = x.terminal

-- from the stack the machine shifts these leaves, each at its context, and accepts with the tree
pub data Accepts (g : GrammarView) : Forest → List Leaf → Forest → Type 0 where
  accept : {stack : Forest} → CanReduce g (symbols stack) (top_of g) (end_of g) → Accepts g stack [] stack
  shift : (x : Leaf) {xs : List Leaf} {stack tree : Forest} → CanShift g (symbols stack) x.terminal → x.context ≡ symbols stack →
      Accepts g (joined stack (leaf x.terminal x.text nothing)) xs tree → Accepts g stack (x ∷ xs) tree
  reduce : (p a : ℕ) (below children : Forest) {stack tree : Forest} {xs : List Leaf} → stack ≡ joined below children →
      IsProduction g p a (symbols children) → CanReduce g (symbols stack) p (ahead (end_of g) xs) →
      Accepts g (joined below (node p a children nothing)) xs tree → Accepts g stack xs tree

-- the machine goes on to the tree from some stack of the same symbols
pub record Passes (g : GrammarView) (stack : Forest) (input : List Leaf) (tree : Forest) : Type 0 where
  pub through : Forest
  pub same : symbols through ≡ symbols stack
  pub goes_on : Accepts g through input tree

-- every tree that begins with leaves of the stack's terminals and then has u passes through a stack of these symbols
abbrev pub Follows : GrammarView → Forest → ℕ → Type 0
Follows g stack u =
    (tree : Forest) (read input : List Leaf) → DerivationTree g tree → leaves [] tree ≡ read ++ input →
    terminals_of read ≡ terminals_of (leaves [] stack) → ahead (end_of g) input ≡ u → Passes g stack input tree

-- what the machine keeps: a stack of trees whose symbols are a viable prefix and whose leaves are on the text, up to the prefix and the
-- place at which it asks what is next; and every tree that goes on so passes here
pub record Keeps (g : GrammarView) (next : Scanner) (stack : Forest) (prefix : List Symbol) (at : ℕ) : Type 0 where
  pub derived : IsDerived g stack
  pub is_prefix : IsViablePrefix g (symbols stack)
  pub on_text : AreOnText next [] 0 (leaves [] stack) prefix at
  pub follows : (s : Next) (u place : ℕ) → next prefix at s → Gives g s u place → Follows g stack u

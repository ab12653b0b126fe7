-- The states of a stack of trees, and what a reduction does to them.
use Rattle.std.specs.Prelude.{◌≡◌, ◌-◌, ◌++◌, ◌∷◌, ℕ, List, [], Some, length, take}
use Rattle.wb_base.specs.declared.symbol.Symbol.{Symbol}
use Rattle.wb_base.specs.declared.symbol.Symbol.TheVariants.{Terminal, Nonterminal}
use Rattle.wb_base.specs.Grammar.{GrammarView}
use Rattle.wb_grammar_theory.specs.Trees.{Forest, nothing, leaf, node}
use Rattle.wb_lookahead.specs.Contents.{TablesView, goto_of}
use Rattle.wb_scan_theory.specs.Parts.{IsPrefixOf}

-- the last of the numbers, or another
abbrev pub last_or : ℕ → List ℕ → ℕ
last_or s [] = s
last_or s (x ∷ xs) = last_or x xs

-- each state stands for the prefix of the symbols up to its root
abbrev pub AreStates : GrammarView → TablesView → List Symbol → List ℕ → Forest → Type 0
AreStates g tables prefix [] nothing = Unit {0}
AreStates g tables prefix [] (leaf t text rest) = ⊥
AreStates g tables prefix [] (node p a children rest) = ⊥
AreStates g tables prefix (s ∷ ss) nothing = ⊥
AreStates g tables prefix (s ∷ ss) (leaf t text rest) =
    IsPrefixOf g tables s (prefix ++ Terminal t ∷ []) × AreStates g tables (prefix ++ Terminal t ∷ []) ss rest
AreStates g tables prefix (s ∷ ss) (node p a children rest) =
    IsPrefixOf g tables s (prefix ++ Nonterminal a ∷ []) × AreStates g tables (prefix ++ Nonterminal a ∷ []) ss rest

-- the last states, so many of them, made way for the one after the nonterminal, where it leads somewhere
pub record IsMoved (tables : TablesView) (states : List ℕ) (width left : ℕ) (states' : List ℕ) : Type 0 where
  pub target : ℕ
  pub target_is : (next : ℕ) → goto_of tables (last_or 0 (take (length states - width) states)) left ≡ Some next → target ≡ next
  pub states_are : states' ≡ take (length states - width) states ++ target ∷ []

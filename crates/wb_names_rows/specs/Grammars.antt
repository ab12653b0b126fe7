-- Rows of productions that a grammar can have.
use Rattle.std.specs.Prelude.{◌≡◌, ◌<◌, ℕ, List, Some, All}
use Rattle.std.specs.List.{AllZip}
use Rattle.wb_base.specs.declared.symbol.Symbol.{Symbol}
use Rattle.wb_base.specs.Grammar.{GrammarView, IsSymbolBelow}
use Rattle.wb_syntax_resolved.specs.declared.production.Child.{Child}
use Rattle.wb_syntax_resolved.specs.declared.production.Production.{Production}
use Rattle.wb_syntax_resolved.specs.Grammar.{symbol_of, IsGrammarProduction}

-- a child is a symbol of so many terminals and nonterminals
pub record IsSymbolChild (terminals nonterminals : ℕ) (child : Child) : Type 0 where
  pub symbol : Symbol
  pub is : symbol_of child.kind ≡ Some symbol
  pub below : IsSymbolBelow terminals nonterminals symbol

-- a production is one of so many terminals and nonterminals
pub record IsGrammarLike (terminals nonterminals : ℕ) (production : Production) : Type 0 where
  pub left : production.left < nonterminals
  pub children : All (IsSymbolChild terminals nonterminals) production.children

-- a grammar of these productions
pub record IsMadeOf (terminals nonterminals start : ℕ) (productions : List Production) (g : GrammarView) : Type 0 where
  pub terminals_are : g.terminals ≡ terminals
  pub nonterminals_are : g.nonterminals ≡ nonterminals
  pub start_is : g.start ≡ start
  pub productions_are : AllZip IsGrammarProduction productions g.productions

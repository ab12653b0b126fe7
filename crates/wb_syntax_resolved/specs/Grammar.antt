-- The concrete grammar of a resolved specification, and that all is numbered by it.
use Rattle.std.specs.Prelude.{◌≡◌, ◌≢◌, ◌⊎◌, ◌<◌, ◌≤◌, ◌↔◌, ℕ, List, Option, Some, None, Contains, IfSome, map, option_map, length}
use Rattle.std.specs.Prelude.{slice_get}
use Rattle.wb_base.specs.declared.symbol.Kind.TheVariants as kind
use Rattle.wb_base.specs.declared.symbol.Symbol.{Symbol}
use Rattle.wb_base.specs.declared.symbol.Symbol.TheVariants as symbol
use Rattle.wb_base.specs.Grammar.{GrammarView}
use Rattle.wb_syntax_resolved.specs.declared.attributes.Nonterminal.{Nonterminal}
use Rattle.wb_syntax_resolved.specs.declared.attribution.AttributionParts.{AttributionParts}
use Rattle.wb_syntax_resolved.specs.declared.production.Child.{Child}
use Rattle.wb_syntax_resolved.specs.declared.production.ChildKind.{ChildKind}
use Rattle.wb_syntax_resolved.specs.declared.production.ChildKind.TheVariants as child
use Rattle.wb_syntax_resolved.specs.declared.production.Production.{Production}
use Rattle.wb_syntax_resolved.specs.declared.production.ProductionRole.TheVariants.{Concrete}
use Rattle.wb_syntax_resolved.specs.declared.resolved.ResolvedParts.{ResolvedParts}
use Rattle.wb_syntax_resolved.specs.declared.terminal.Terminal.{Terminal}
use Rattle.wb_syntax_resolved.specs.declared.terminal.TerminalKind.TheVariants.{Ignore}
use Rattle.wb_syntax_resolved.specs.Numbered.{IsGrouped}

-- the nonterminal is on the left of the production, or one of its children is a tree of it
abbrev pub IsIn : Production → ℕ → Type 0
IsIn production nonterminal =
    (production.left ≡ nonterminal) ⊎ Contains (map (λ (c : Child). c.kind) production.children) (child.Value (kind.Tree nonterminal))

-- the nonterminal is in a concrete production
pub record IsInConcrete (a : AttributionParts) (nonterminal : ℕ) : Type 0 where
  pub production : Production
  pub listed : Contains a.productions production
  pub concrete : production.role ≡ Concrete
  pub occurs : IsIn production nonterminal

-- the nonterminal is of the concrete grammar: its start, an extensible one, or one in a concrete production
abbrev pub IsOfGrammar : ResolvedParts → ℕ → Type 0
IsOfGrammar r nonterminal =
    (option_map (λ (g : GrammarView). g.start) r.grammar ≡ Some nonterminal) ⊎ Contains r.extensible nonterminal
    ⊎ IsInConcrete r.attributes nonterminal

-- the symbol that a child of a concrete production is
abbrev pub symbol_of : ChildKind → Option Symbol
symbol_of (child.Terminal number) = Some (symbol.Terminal number)
symbol_of (child.Value (kind.Tree nonterminal)) = Some (symbol.Nonterminal nonterminal)
symbol_of (child.Value other) = None

-- the grammar's production of a concrete production: its left side, and the symbols of its children
pub record IsGrammarProduction (production : Production) (plain : ℕ × List Symbol) : Type 0 where
  pub left : plain.0 ≡ production.left
  pub right : map (λ (s : Symbol). Some s) plain.1 ≡ map (λ (c : Child). symbol_of c.kind) production.children

-- the grammar has exactly the terminals that aren't layout, the nonterminals of the concrete grammar and the concrete productions, each by
-- its number
pub record IsGrammarOf (r : ResolvedParts) (g : GrammarView) : Type 0 where
  pub terminals_len : g.terminals ≤ length r.terminals
  pub terminals : (k : ℕ) (t : Terminal) → slice_get r.terminals k ≡ Some t → (k < g.terminals) ↔ (t.kind ≢ Ignore)
  pub nonterminals_len : g.nonterminals ≤ length r.attributes.nonterminals
  pub nonterminals : (k : ℕ) → (k < g.nonterminals) ↔ IsOfGrammar r k
  pub productions_len : length g.productions ≤ length r.attributes.productions
  pub productions : (p : ℕ) (production : Production) → slice_get r.attributes.productions p ≡ Some production
      → (p < length g.productions) ↔ (production.role ≡ Concrete)
  pub productions_are : (p : ℕ) (production : Production) (plain : ℕ × List Symbol) → slice_get r.attributes.productions p ≡ Some production
      → slice_get g.productions p ≡ Some plain → IsGrammarProduction production plain

-- layout comes after the other terminals, and what is abstract alone after the nonterminals of the grammar, each of these groups by owner;
-- and the grammar, where there is one, has these numbers
pub record IsNumberedAll (r : ResolvedParts) : Type 0 where
  pub terminals : IsGrouped (λ (t : Terminal). t.owner) (λ k t. t.kind ≢ Ignore) r.terminals
  pub nonterminals : IsGrouped (λ (n : Nonterminal). n.owner) (λ k n. IsOfGrammar r k) r.attributes.nonterminals
  pub grammar : IfSome r.grammar (IsGrammarOf r)

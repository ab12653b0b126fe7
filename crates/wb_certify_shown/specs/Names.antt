-- The names that reports show for numbers. A number that is none has the empty name, but in a grammar with holes the end of a text comes
-- after its terminals.
use Rattle.std.specs.Prelude.{ℕ, List, [], ◌++◌, Option, Some, None, map, take, length, slice_get}
use lib.Chars.{codes}
use Rattle.wb_base.specs.declared.symbol.Symbol.{Symbol}
use Rattle.wb_base.specs.declared.symbol.Symbol.TheVariants as s
use Rattle.wb_base.specs.Grammar.{GrammarView}
use Rattle.wb_syntax_resolved.specs.declared.attributes.Attribute.{Attribute}
use Rattle.wb_syntax_resolved.specs.declared.attributes.Nonterminal.{Nonterminal}
use Rattle.wb_syntax_resolved.specs.declared.production.Child.{Child}
use Rattle.wb_syntax_resolved.specs.declared.production.Local.{Local}
use Rattle.wb_syntax_resolved.specs.declared.production.Production.{Production}
use Rattle.wb_syntax_resolved.specs.declared.resolved.ResolvedParts.{ResolvedParts}
use Rattle.wb_syntax_resolved.specs.declared.terminal.Terminal.{Terminal}
use Rattle.wb_syntax_resolved.specs.Owners.{printed_name}
use Rattle.wb_names_theory.specs.Declares.{name_in}

-- how many terminals and productions a grammar has, where there is one
abbrev pub terminals_in : Option GrammarView → ℕ
terminals_in None = 0
terminals_in (Some g) = g.terminals

abbrev pub productions_in : Option GrammarView → ℕ
productions_in None = 0
productions_in (Some g) = length g.productions

-- a name, or the end of a text where there is none
abbrev pub or_end : Option (List ℕ) → List ℕ
or_end None = codes "end"
or_end (Some name) = name

module _ (r : ResolvedParts) where
  -- a name with the extension that it is of
  abbrev pub printed : ℕ → List ℕ → List ℕ
  printed = printed_name r.attributes.extensions

  -- the name of a terminal or layout, a nonterminal, an attribute, a production
  abbrev pub terminal_name : Terminal → List ℕ
  terminal_name t = printed t.owner t.name

  abbrev pub nonterminal_name : Nonterminal → List ℕ
  nonterminal_name n = printed n.owner n.name

  abbrev pub attribute_name : Attribute → List ℕ
  attribute_name a = printed a.owner a.name

  abbrev pub production_name : Production → List ℕ
  production_name p = printed p.owner p.name

  -- the name of a number
  abbrev pub terminal_shown : ℕ → List ℕ
  terminal_shown k = name_in terminal_name (slice_get r.terminals k)

  abbrev pub nonterminal_shown : ℕ → List ℕ
  nonterminal_shown k = name_in nonterminal_name (slice_get r.attributes.nonterminals k)

  abbrev pub attribute_shown : ℕ → List ℕ
  attribute_shown k = name_in attribute_name (slice_get r.attributes.attributes k)

  abbrev pub production_shown : ℕ → List ℕ
  production_shown k = name_in production_name (slice_get r.attributes.productions k)

  -- the names of the grammar's terminals, by number
  abbrev pub grammar_terminals : List (List ℕ)
  grammar_terminals = map terminal_name (take (terminals_in r.grammar) r.terminals)

  -- the name of the hole of a nonterminal
  abbrev pub hole_name : ℕ → List ℕ
  hole_name n = codes "hole:" ++ nonterminal_shown n

  -- the names of terminals and of productions of the grammar with holes, by number: those of the grammar, and then those of the holes
  abbrev pub terminals_with_holes : List (List ℕ)
  terminals_with_holes = grammar_terminals ++ map hole_name r.extensible

  abbrev pub productions_with_holes : List (List ℕ)
  productions_with_holes = map production_name (take (productions_in r.grammar) r.attributes.productions) ++ map hole_name r.extensible

  -- a terminal of the grammar with holes, or the end of a text
  abbrev pub lookahead_shown : ℕ → List ℕ
  lookahead_shown k = or_end (slice_get terminals_with_holes k)

  -- a production of the grammar with holes
  abbrev pub reduction_shown : ℕ → List ℕ
  reduction_shown k = name_in (λ (name : List ℕ). name) (slice_get productions_with_holes k)

  -- a symbol of the grammar with holes
  abbrev pub symbol_shown : Symbol → List ℕ
  symbol_shown (s.Terminal k) = lookahead_shown k
  symbol_shown (s.Nonterminal k) = nonterminal_shown k

  -- the label of a child, as its file writes it
  abbrev pub child_shown : Option Production → ℕ → List ℕ
  child_shown None k = []
  child_shown (Some p) k = name_in (λ (c : Child). c.label) (slice_get p.children k)

  -- the label of a local, with the extension that it is of
  abbrev pub local_shown : Option Production → ℕ → List ℕ
  local_shown None k = []
  local_shown (Some p) k = name_in (λ (l : Local). printed l.owner l.label) (slice_get p.locals k)

-- The numbered value that a file stands for, over what was there before.
use Rattle.std.specs.Prelude.{◌≡◌, ◌≢◌, ◌⊎◌, ℕ, List, IfSome, map, take, length, option_map, option_to_list}
use Rattle.std.proofs.Common.{inl, inr}
use Rattle.std.specs.List.{AllZip}
use Rattle.wb_base.specs.Grammar.{GrammarView}
use Rattle.wb_syntax_resolved.specs.declared.attributes.Attribute.{Attribute}
use Rattle.wb_syntax_resolved.specs.declared.attributes.Nonterminal.{Nonterminal}
use Rattle.wb_syntax_resolved.specs.declared.attributes.Occurrence.{Occurrence}
use Rattle.wb_syntax_resolved.specs.declared.production.Production.{Production}
use Rattle.wb_syntax_resolved.specs.declared.production.ProductionRole.TheVariants.{Concrete}
use Rattle.wb_syntax_resolved.specs.declared.resolved.ResolvedParts.{ResolvedParts}
use Rattle.wb_syntax_resolved.specs.declared.terminal.Preference.{Preference}
use Rattle.wb_syntax_resolved.specs.declared.terminal.Terminal.{Terminal}
use Rattle.wb_syntax_resolved.specs.declared.terminal.TerminalKind.TheVariants.{Ignore}
use Rattle.wb_syntax_resolved.specs.Grammar.{IsGrammarProduction}
use Rattle.wb_syntax_resolved.specs.Numbered.{signature_of}
use Rattle.wb_names_theory.specs.Declarations.{LexicalDeclaration, AttributeDeclaration, OccurrenceDeclaration, PreferenceDeclaration}
use Rattle.wb_names_theory.specs.Declarations.{ProductionDeclaration, lexicals, nonterminals, attributes, occurrences, productions}
use Rattle.wb_names_theory.specs.Declarations.{preferences}
use Rattle.wb_names_theory.specs.Declarations.{extensibles, starts}
use Rattle.wb_names_numbers_theory.specs.Files.{File, IsInGrammar}
use Rattle.wb_names_numbers_theory.specs.Moved.{Move, IsMovedNonterminal, IsMovedAttribute, IsMovedOccurrence, IsMovedTerminal}
use Rattle.wb_names_numbers_theory.specs.Moved.{IsMovedPreference}
use Rattle.wb_names_numbers_theory.specs.Moved.{IsMovedNonterminalNumber}
use Rattle.wb_names_numbers_theory.specs.Numbering.{Numbering, numbering_of, IsNumber}
use Rattle.wb_names_numbers_theory.specs.Rows.{terminal_kind, production_role, IsTerminalRow, IsNonterminalRow, IsAttributeRow}
use Rattle.wb_names_numbers_theory.specs.Rows.{IsOccurrenceRow}
use Rattle.wb_names_numbers_theory.specs.Rows.{IsPreferenceRow, IsProductionRow, IsExtendedProduction}
use Rattle.wb_names_numbers_theory.specs.Sources.{sources, IsFrom, AreGrouped}

-- a terminal that is of the grammar, there or declared: it isn't layout
abbrev pub IsScanned : Terminal ⊎ LexicalDeclaration → Type 0
IsScanned (inl t) = t.kind ≢ Ignore
IsScanned (inr d) = terminal_kind d.role ≢ Ignore

-- a nonterminal that is of the grammar, there or declared
abbrev pub IsInGrammarOf : File → Nonterminal ⊎ List ℕ → Type 0
IsInGrammarOf file (inl n) = IsInGrammar file n.name
IsInGrammarOf file (inr name) = IsInGrammar file name

-- a production that is concrete, there or declared
abbrev pub IsConcrete : Production ⊎ ProductionDeclaration → Type 0
IsConcrete (inl p) = p.role ≡ Concrete
IsConcrete (inr d) = production_role d.role ≡ Concrete

-- the start, as a list of its number, or of none
abbrev pub starts_of : ResolvedParts → List ℕ
starts_of r = option_to_list (option_map (λ (g : GrammarView). g.start) r.grammar)

-- a grammar of so many terminals and nonterminals, whose productions are the first so many
pub record IsGrammarRow (terminals nonterminals productions : ℕ) (rows : List Production) (g : GrammarView) : Type 0 where
  pub terminals_are : g.terminals ≡ terminals
  pub nonterminals_are : g.nonterminals ≡ nonterminals
  pub productions_are : AllZip IsGrammarProduction (take productions rows) g.productions

-- the base's numbers in those of this numbering
abbrev pub move_of : File → Numbering → Move
move_of file n = record { from = numbering_of file.base; to = n; owner_in = λ (owner : ℕ). owner }

-- each row of the base has its numbers moved, and each declared row has the numbers of its names
module _ (file : File) (n : Numbering) where
  abbrev pub IsTerminal : Terminal ⊎ LexicalDeclaration → Terminal → Type 0
  IsTerminal = IsFrom (IsMovedTerminal (move_of file n)) (IsTerminalRow n file.owner file.items)

  abbrev pub IsNonterminal : Nonterminal ⊎ List ℕ → Nonterminal → Type 0
  IsNonterminal = IsFrom (IsMovedNonterminal (move_of file n)) (IsNonterminalRow n file.owner file.items)

  abbrev pub IsAttribute : Attribute ⊎ AttributeDeclaration → Attribute → Type 0
  IsAttribute = IsFrom (IsMovedAttribute (move_of file n)) (IsAttributeRow n file.owner file.items)

  abbrev pub IsOccurrence : Occurrence ⊎ OccurrenceDeclaration → Occurrence → Type 0
  IsOccurrence = IsFrom (IsMovedOccurrence (move_of file n)) (IsOccurrenceRow n file.owner file.items)

  abbrev pub IsProduction : Production ⊎ ProductionDeclaration → Production → Type 0
  IsProduction = IsFrom (IsExtendedProduction n file.owner file.items (move_of file n)) (IsProductionRow n file.owner file.items)

  abbrev pub IsPreference : Preference ⊎ PreferenceDeclaration → Preference → Type 0
  IsPreference = IsFrom (IsMovedPreference (move_of file n)) (IsPreferenceRow n file.owner file.items)

  -- the number of a nonterminal
  abbrev pub IsNonterminalNumber : ℕ ⊎ List ℕ → ℕ → Type 0
  IsNonterminalNumber = IsFrom (IsMovedNonterminalNumber (move_of file n)) (IsNumber n.nonterminals file.owner)

-- in this numbering the file stands for this value over its base: what was there comes first, in its order, and then what the items
-- declare, in theirs; but what is of the grammar comes before what isn't
pub record ResolvesIn (n : Numbering) (file : File) (r : ResolvedParts) : Type 0 where
  pub host : r.host ≡ file.base.host
  pub extensions : r.attributes.extensions ≡ file.extensions
  pub terminals : AreGrouped IsScanned (IsTerminal file n) (sources file.base.terminals (lexicals file.items)) r.terminals
  pub nonterminals : AreGrouped (IsInGrammarOf file) (IsNonterminal file n)
      (sources file.base.attributes.nonterminals (nonterminals file.items)) r.attributes.nonterminals
  pub productions : AreGrouped IsConcrete (IsProduction file n) (sources file.base.attributes.productions (productions file.items))
      r.attributes.productions
  pub attributes : AllZip (IsAttribute file n) (sources file.base.attributes.attributes (attributes file.items)) r.attributes.attributes
  pub occurrences : AllZip (IsOccurrence file n) (sources file.base.attributes.occurrences (occurrences file.items))
      r.attributes.occurrences
  pub preferences : AllZip (IsPreference file n) (sources file.base.preferences (preferences file.items)) r.preferences
  pub extensible : AllZip (IsNonterminalNumber file n) (sources file.base.extensible (extensibles file.items)) r.extensible
  pub start : AllZip (IsNonterminalNumber file n) (sources (starts_of file.base) (starts file.items)) (starts_of r)
  pub grammar : IfSome r.grammar (IsGrammarRow (length terminals.leading) (length nonterminals.leading) (length productions.leading)
      r.attributes.productions)
  pub signatures : r.attributes.signatures ≡ map (signature_of file.extensions) r.attributes.productions

-- the file stands for this value over its base
abbrev pub Resolves : File → ResolvedParts → Type 0
Resolves file r = ResolvesIn (numbering_of r) file r

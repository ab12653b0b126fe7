-- What a resolved specification is.
use Rattle.std.specs.Prelude.{◌≡◌, ◌≢◌, ℕ, ◌++◌, All, IfSome, map, slice_get, Some}
use Rattle.wb_base.specs.Different.{Differ}
use Rattle.wb_base.specs.Grammar.{GrammarView}
use Rattle.wb_base.specs.Identifiers.{IsName}
use Rattle.wb_syntax_resolved.specs.declared.production.Child.{Child}
use Rattle.wb_syntax_resolved.specs.declared.production.ChildKind.TheVariants as child
use Rattle.wb_syntax_resolved.specs.declared.production.Production.{Production}
use Rattle.wb_syntax_resolved.specs.declared.resolved.ResolvedParts.{ResolvedParts}
use Rattle.wb_syntax_resolved.specs.declared.terminal.Preference.{Preference}
use Rattle.wb_syntax_resolved.specs.declared.terminal.Terminal.{Terminal}
use Rattle.wb_syntax_resolved.specs.declared.terminal.TerminalKind.TheVariants.{Marking, Ignore}
use Rattle.wb_syntax_resolved.specs.Attribution.{IsAttribution}
use Rattle.wb_syntax_resolved.specs.Owners.{Sees, IsOwner}
use Rattle.wb_syntax_resolved.specs.Visible.{SeesNonterminal}
use Rattle.wb_syntax_resolved.specs.Once.{NamesDiffer, symbol_names}
use Rattle.wb_syntax_resolved.specs.Grammar.{IsNumberedAll}

-- a terminal: its name is a name, its owner is there, and a marker is an extension's
pub record IsNamedTerminal (r : ResolvedParts) (terminal : Terminal) : Type 0 where
  pub owner : IsOwner r.attributes.extensions terminal.owner
  pub name : IsName terminal.name
  pub marking : terminal.kind ≡ Marking → terminal.owner ≢ 0

-- there is a terminal or layout of this number, and the owner sees it
pub record SeesTerminal (r : ResolvedParts) (owner number : ℕ) : Type 0 where
  pub terminal : Terminal
  pub is : slice_get r.terminals number ≡ Some terminal
  pub seen : Sees owner terminal.owner

-- a preference: some owner sees both terminals
pub record IsNamedPreference (r : ResolvedParts) (preference : Preference) : Type 0 where
  pub owner : ℕ
  pub is_owner : IsOwner r.attributes.extensions owner
  pub first : SeesTerminal r owner preference.first
  pub second : SeesTerminal r owner preference.second

-- a child that is a terminal isn't layout, and its production's owner sees it
pub record IsTerminalChild (r : ResolvedParts) (owner number : ℕ) : Type 0 where
  pub terminal : Terminal
  pub is : slice_get r.terminals number ≡ Some terminal
  pub seen : Sees owner terminal.owner
  pub plain : terminal.kind ≢ Ignore

-- the terminals among the children of a production are ones of the grammar, which its owner sees
abbrev pub HasGrammarTerminals : ResolvedParts → Production → Type 0
HasGrammarTerminals r production =
    All (λ (c : Child). (number : ℕ) → c.kind ≡ child.Terminal number → IsTerminalChild r production.owner number) production.children

-- no name of a terminal, nonterminal or production is there twice for owners of whom one sees the other, and no preference and no
-- extensible nonterminal is there twice
pub record IsOnceAll (r : ResolvedParts) : Type 0 where
  pub symbols : NamesDiffer (map (λ (t : Terminal). (t.owner, t.name)) r.terminals ++ symbol_names r.attributes)
  pub preferences : Differ r.preferences
  pub extensible : Differ r.extensible

-- the attributes are an attribution; each name beside them is declared and of the right kind, the start and what is extensible are the
-- host's, nothing is declared twice by owners of whom one sees the other, and terminals, nonterminals and the grammar are numbered in order
pub record IsResolved (r : ResolvedParts) : Type 0 where
  pub attributes : IsAttribution r.attributes
  pub host : IsName r.host
  pub terminals : All (IsNamedTerminal r) r.terminals
  pub preferences : All (IsNamedPreference r) r.preferences
  pub start : IfSome r.grammar (λ (g : GrammarView). SeesNonterminal r.attributes 0 g.start)
  pub extensible : All (SeesNonterminal r.attributes 0) r.extensible
  pub children : All (HasGrammarTerminals r) r.attributes.productions
  pub once : IsOnceAll r
  pub numbered : IsNumberedAll r

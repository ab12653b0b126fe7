-- Rows of terminals: those that are scanned as terminals of the grammar, and layout.
use Rattle.std.specs.Prelude.{◌≡◌, ℕ, Bool, true, false, not, List}
use Rattle.wb_syntax_resolved.specs.declared.terminal.Terminal.{Terminal}
use Rattle.wb_syntax_resolved.specs.declared.terminal.TerminalKind.{TerminalKind}
use Rattle.wb_syntax_resolved.specs.declared.terminal.TerminalKind.TheVariants as t
use Rattle.wb_names_theory.specs.Declarations.{LexicalDeclaration}
use Rattle.wb_names_numbers_theory.specs.Rows.{terminal_kind}
use Rattle.wb_names_rows.specs.declared.terminals.Terminals.{Terminals}
use Rattle.wb_names_rows.specs.Nodes.{AddsAll}

-- it isn't layout
abbrev pub is_scanned : TerminalKind → Bool
is_scanned t.Ignore = false
is_scanned t.Plain = true
is_scanned t.Marking = true

abbrev pub has_scanned : Terminal → Bool
has_scanned terminal = is_scanned terminal.kind

abbrev pub declares_scanned : LexicalDeclaration → Bool
declares_scanned d = is_scanned (terminal_kind d.role)

-- the row of a terminal of this owner's file
pub record IsFoundTerminal (owner : ℕ) (d : LexicalDeclaration) (row : Terminal) : Type 0 where
  pub name : row.name ≡ d.name
  pub owner_is : row.owner ≡ owner
  pub kind : row.kind ≡ terminal_kind d.role
  pub pattern : row.pattern ≡ d.pattern.regex

-- the same row
abbrev pub IsCopy : Terminal → Terminal → Type 0
IsCopy terminal row = row ≡ terminal

-- one row for each is added, to one list or the other
pub record AddsTerminals {X : Type 0} (test : X → Bool) (IsRow : X → Terminal → Type 0) (xs : List X) (old new : Terminals) : Type 0 where
  pub scanned : AddsAll test IsRow xs old.scanned.items new.scanned.items
  pub layout : AddsAll (λ (x : X). not (test x)) IsRow xs old.layout.items new.layout.items

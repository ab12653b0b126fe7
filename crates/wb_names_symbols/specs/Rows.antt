-- Rows in the order of their numbers, as they are made before all have numbers.
use Rattle.std.specs.Prelude.{◌≡◌, ◌↔◌, ◌⊎◌, ℕ, List, IsTrue, Contains, length}
use Rattle.std.specs.List.{AllZip}
use Rattle.wb_syntax_resolved.specs.declared.attributes.Nonterminal.{Nonterminal}
use Rattle.wb_syntax_resolved.specs.declared.terminal.Terminal.{Terminal}
use Rattle.wb_names_theory.specs.Declarations.{LexicalDeclaration, closeds}
use Rattle.wb_names_numbers_theory.specs.Files.{File, forward_needs_of}
use Rattle.wb_names_numbers_theory.specs.Sources.{IsFrom, AreGrouped}
use Rattle.wb_names_rows.specs.declared.scope.Scope.{Scope}
use Rattle.wb_names_rows.specs.Nodes.{IsAt}
use Rattle.wb_names_rows.specs.Terminals.{IsCopy, IsFoundTerminal}

-- grouped rows, of which so many lead
abbrev pub AreGroupedBy : ℕ → {X Y : Type 0} → (X → Type 0) → (X → Y → Type 0) → List X → List Y → Type 0
AreGroupedBy count IsLeading IsRow xs rows = (g : AreGrouped IsLeading IsRow xs rows) × (length g.leading ≡ count)

-- a terminal's row: one of the base as it was, or one that is declared
abbrev pub IsTerminalNow : File → Terminal ⊎ LexicalDeclaration → Terminal → Type 0
IsTerminalNow file = IsFrom IsCopy (IsFoundTerminal file.owner)

-- the row of a nonterminal that is declared
pub record IsFoundNonterminal (file : File) (s : Scope) (name : List ℕ) (row : Nonterminal) : Type 0 where
  pub name_is : row.name ≡ name
  pub owner_is : row.owner ≡ file.owner
  pub closed : IsTrue row.closed ↔ Contains (closeds file.items) name
  pub needs : AllZip (IsAt s.attributes) (forward_needs_of name file.items) row.forward_needs

-- a nonterminal's row: one of the base as it was, since attributes keep their numbers, or one that is declared
abbrev pub IsNonterminalNow : File → Scope → Nonterminal ⊎ List ℕ → Nonterminal → Type 0
IsNonterminalNow file s = IsFrom (λ (x row : Nonterminal). row ≡ x) (IsFoundNonterminal file s)

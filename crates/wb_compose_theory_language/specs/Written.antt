-- A host and extensions as they are written: each extension with the host alone.
use Rattle.std.specs.Prelude.{◌≡◌, ◌<◌, ◌≤◌, ◌+◌, ◌-◌, ◌⊎◌, ◌↔◌, ℕ, List, All, Contains, length, map}
use Rattle.wb_automata.specs.Automata.{IsMatch}
use Rattle.wb_base.specs.Grammar.{GrammarView}
use Rattle.wb_determinism_contexts.specs.Considered.{LexiconView}
use Rattle.wb_graph.specs.Graphs.{IsEdgeBelow}
use Rattle.wb_termset.specs.Sets.{IsMember}
use Rattle.wb_compose_theory.specs.Blocks.{lift}
use Rattle.wb_compose_theory_grammar.specs.Pieces.{Piece}
use Rattle.wb_compose_theory_grammar.specs.Unions.{added_terminals}

-- an extension: its grammar with the host's and its markers; its name; and what is scanned of the host with the extension
pub record WrittenPiece : Type 0 where
  pub piece : Piece
  pub name : List ℕ
  pub lexicon : LexiconView

-- the extensions by their grammars and markers alone
abbrev pub pieces_of : List WrittenPiece → List Piece
pieces_of written = map (λ (x : WrittenPiece). x.piece) written

-- the number is that of layout, which comes after so many terminals
abbrev pub IsLayoutRow : ℕ → LexiconView → ℕ → Type 0
IsLayoutRow terminals lexicon t = (terminals ≤ t) × (t < length lexicon.expressions)

-- how many layouts a host has: what comes after its terminals
abbrev pub host_layouts : GrammarView → LexiconView → ℕ
host_layouts host own = length own.expressions - host.terminals

-- the number is that of one of a host's layouts, of which there are so many after so many terminals
abbrev pub IsHostLayoutRow : (terminals layouts t : ℕ) → Type 0
IsHostLayoutRow terminals layouts t = (terminals ≤ t) × (t < terminals + layouts)

-- the first so many expressions are those of a grammar's terminals, the next so many those of a host's layouts, and all others those of an
-- extension's own layouts; and preferences are between these
pub record HasRows (terminals layouts : ℕ) (lexicon : LexiconView) : Type 0 where
  pub scanned : lexicon.scanned ≡ terminals
  pub no_fewer : terminals + layouts ≤ length lexicon.expressions
  pub layout : (t : ℕ) → IsMember lexicon.layout t ↔ IsHostLayoutRow terminals layouts t
  pub own_layout : (t : ℕ) → IsMember lexicon.own_layout t ↔ IsLayoutRow (terminals + layouts) lexicon t
  pub within : All (IsEdgeBelow (length lexicon.expressions)) lexicon.preferences

module _ (host : GrammarView) (own : LexiconView) (x : WrittenPiece) where
  -- how many layouts the extension has of its own: what comes after the terminals and the host's layouts
  abbrev pub own_layouts : ℕ
  own_layouts = length x.lexicon.expressions - (x.piece.grammar.terminals + host_layouts host own)

  -- the number of a host's terminal or layout in the host with the extension; what is past these is past the extension's own layouts too
  abbrev pub row_up : ℕ → ℕ
  row_up t =
      lift (x.piece.grammar.terminals + host_layouts host own) own_layouts (lift host.terminals (added_terminals host x.piece.grammar) t)

  -- the number is that of a terminal of the extension's own
  abbrev pub IsOwnTerminal : ℕ → Type 0
  IsOwnTerminal t = (host.terminals ≤ t) × (t < x.piece.grammar.terminals)

  -- the number is that of layout of the extension's own
  abbrev pub IsOwnLayoutRow : ℕ → Type 0
  IsOwnLayoutRow t = IsLayoutRow (x.piece.grammar.terminals + host_layouts host own) x.lexicon t

  -- the terminal or layout is the extension's own
  abbrev pub IsOwnRow : ℕ → Type 0
  IsOwnRow t = IsOwnTerminal t ⊎ IsOwnLayoutRow t

  -- the preference is one of the host
  pub record IsHostPreference (t u : ℕ) : Type 0 where
    pub first : ℕ
    pub second : ℕ
    pub listed : Contains own.preferences (first, second)
    pub first_is : t ≡ row_up first
    pub second_is : u ≡ row_up second

  -- with the extension the host is written as it is alone, and what is added is the extension's own: the productions by which its layout is
  -- considered are those that it adds, and each preference that it adds names a terminal or layout of its own
  pub record IsWrittenBeside : Type 0 where
    pub productions : x.lexicon.own_productions ≡ (length host.productions, length x.piece.grammar.productions)
    pub matches : (t : ℕ) (text : List ℕ) → IsMatch own.expressions t text ↔ IsMatch x.lexicon.expressions (row_up t) text
    pub preferred : (t u : ℕ) → Contains own.preferences (t, u) → Contains x.lexicon.preferences (row_up t, row_up u)
    pub preferences : (t u : ℕ) → Contains x.lexicon.preferences (t, u) → IsHostPreference t u ⊎ (IsOwnRow t ⊎ IsOwnRow u)

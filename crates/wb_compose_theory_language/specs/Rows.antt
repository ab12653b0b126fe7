-- Terminals and layout of the union by number, what they match, and which is preferred to which.
use Rattle.std.specs.Prelude.{◌≡◌, ◌+◌, ℕ, List, Some, Contains, map, slice_get}
use Rattle.wb_automata.specs.Automata.{IsMatch}
use Rattle.wb_base.specs.Grammar.{GrammarView}
use Rattle.wb_determinism_contexts.specs.Considered.{LexiconView}
use Rattle.wb_compose_theory.specs.Blocks.{spread}
use Rattle.wb_compose_theory_grammar.specs.Places.{count_before, total_of}
use Rattle.wb_compose_theory_grammar.specs.Unions.{added_terminals}
use Rattle.wb_compose_theory_grammar.specs.UnitedWorlds.{terminal_sizes, united}
use Rattle.wb_compose_theory_language.specs.Written.{WrittenPiece, host_layouts, own_layouts, pieces_of}

module _ (host : GrammarView) (extensible : List ℕ) (own : LexiconView) (written : List WrittenPiece) where
  -- how many terminals all extensions have
  abbrev pub sizes : List ℕ
  sizes = terminal_sizes host extensible (pieces_of written)

  -- how many layouts of their own all extensions have
  abbrev pub layout_sizes : List ℕ
  layout_sizes = map (own_layouts host own) written

  -- where the extensions' own layouts begin in the union: after all terminals and the host's layouts
  abbrev pub layouts_from : ℕ
  layouts_from = (united host extensible (pieces_of written)).terminals + host_layouts host own

  -- the number in the union of a terminal or layout of the host
  abbrev pub host_row : ℕ → ℕ
  host_row t = spread layouts_from 0 0 (total_of layout_sizes) (spread host.terminals 0 0 (total_of sizes) t)

  -- the number in the union of one of the host with the extension of this number: among terminals, and then among layouts
  abbrev pub piece_row : ℕ → WrittenPiece → ℕ → ℕ
  piece_row k x t =
      spread layouts_from (count_before layout_sizes k) (own_layouts host own x) (total_of layout_sizes)
      (spread host.terminals (count_before sizes k) (added_terminals host x.piece.grammar) (total_of sizes) t)

  -- how many layouts there are: those of the host, and all that extensions have of their own
  abbrev pub layout_count : ℕ
  layout_count = host_layouts host own + total_of layout_sizes

  -- the terminal or layout of the union matches the text: it is one of the host that does, or one of the host with an extension
  pub data Reads (number : ℕ) (text : List ℕ) : Type 0 where
    of_host : (t : ℕ) → number ≡ host_row t → IsMatch own.expressions t text → Reads number text
    of_extension : (k : ℕ) (x : WrittenPiece) (t : ℕ) → slice_get written k ≡ Some x → number ≡ piece_row k x t →
        IsMatch x.lexicon.expressions t text → Reads number text

  -- the one is preferred to the other in the union: by the host, or by an extension
  pub data Prefers (one other : ℕ) : Type 0 where
    by_host : (t u : ℕ) → one ≡ host_row t → other ≡ host_row u → Contains own.preferences (t, u) → Prefers one other
    by_extension : (k : ℕ) (x : WrittenPiece) (t u : ℕ) → slice_get written k ≡ Some x → one ≡ piece_row k x t → other ≡ piece_row k x u →
        Contains x.lexicon.preferences (t, u) → Prefers one other

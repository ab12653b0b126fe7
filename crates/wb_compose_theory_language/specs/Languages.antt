-- The language of the union of a host and extensions.
use Rattle.std.specs.Prelude.{◌≡◌, ◌<◌, ◌+◌, ◌↔◌, ℕ, List, Option, Some, None, Contains, ◌++◌, length, slice_get, slice_index_or}
use Rattle.std.specs.List.{range_with_len}
use Rattle.wb_automata.specs.Automata.{IsMatch}
use Rattle.wb_base.specs.Different.{Differ}
use Rattle.wb_base.specs.Grammar.{GrammarView}
use Rattle.wb_determinism_contexts.specs.Considered.{LexiconView}
use Rattle.wb_scan_theory.specs.declared.form.Form.{Form}
use Rattle.wb_scan_theory.specs.Languages.{LanguageView, forms_of}
use Rattle.wb_compose_theory_grammar.specs.Unions.{added_productions}
use Rattle.wb_compose_theory_grammar.specs.UnitedWorlds.{united}
use Rattle.wb_compose_theory_layout.specs.Extensions.{first_of}
use Rattle.wb_compose_theory_language.specs.Written.{IsHostLayoutRow, IsOwnLayoutRow, WrittenPiece, host_layouts, pieces_of}
use Rattle.wb_compose_theory_language.specs.Rows.{Prefers, Reads, host_row, layout_count, piece_row}
use Rattle.wb_compose_theory_language.specs.Forms.{IsForm, IsWithdrawn}

module _ (host : GrammarView) (extensible : List ℕ) (own : LexiconView) (written : List WrittenPiece) where
  -- the form matches the text: its prefix, and then a text of its terminal
  pub record IsTextOf (form : Form) (text : List ℕ) : Type 0 where
    pub lexeme : List ℕ
    pub reads : Reads host extensible own written form.terminal lexeme
    pub is : text ≡ form.prefix ++ lexeme

  -- the forms are those of the union, each once
  pub record AreForms (forms : List Form) : Type 0 where
    pub each : (place : ℕ) (form : Form) → slice_get forms place ≡ Some form → IsForm host extensible own written form
    pub every : (form : Form) → IsForm host extensible own written form → Contains forms form
    pub once : Differ forms

  -- the productions of an extension in the union, from the first number to before the second
  abbrev pub span_of : ℕ → WrittenPiece → ℕ × ℕ
  span_of k x =
      let first = first_of host extensible (pieces_of written) k in
      (first, first + added_productions host x.piece.grammar)

  -- of each layout of the union, the productions by which it is considered: none are given for the host's, and for an extension's own they
  -- are the extension's
  pub record AreSpans (layout : List ℕ) (spans : List (Option (ℕ × ℕ))) : Type 0 where
    pub of_host : (place t : ℕ) → IsHostLayoutRow host.terminals (host_layouts host own) t →
        slice_get layout place ≡ Some (host_row host extensible own written t) → slice_index_or spans place None ≡ None
    pub of_extension : (place k : ℕ) (x : WrittenPiece) (t : ℕ) → slice_get written k ≡ Some x → IsOwnLayoutRow host own x t →
        slice_get layout place ≡ Some (piece_row host extensible own written k x t) →
        slice_index_or spans place None ≡ Some (span_of k x)

  -- the language has the union's grammar, its forms, the layout of the host and of all extensions after all terminals, and the preferences
  -- of all; an extension's layout is considered by the extension's productions; and each expression matches the texts of its form
  pub record IsUnitedLanguage (l : LanguageView) : Type 0 where
    pub grammar : l.grammar ≡ united host extensible (pieces_of written)
    pub forms : AreForms l.forms
    pub layout : l.layout ≡ range_with_len (united host extensible (pieces_of written)).terminals (layout_count host extensible own written)
    pub spans : AreSpans l.layout l.spans
    pub expressions_len : length l.expressions ≡ length l.forms + length l.layout
    pub expressions : (place : ℕ) (form : Form) → slice_get (forms_of l) place ≡ Some form → (text : List ℕ) →
        IsMatch l.expressions place text ↔ IsTextOf form text
    pub preferences : (one other : ℕ) → Contains l.preferences (one, other) ↔ Prefers host extensible own written one other

  -- the markers without a bare form, by number, so by extension and then in the order of the extension
  pub record AreWithdrawn (withdrawn : List ℕ) : Type 0 where
    pub each : (number : ℕ) → Contains withdrawn number ↔ IsWithdrawn host extensible own written number
    pub rising : (i j m n : ℕ) → slice_get withdrawn i ≡ Some m → slice_get withdrawn j ≡ Some n → i < j → m < n

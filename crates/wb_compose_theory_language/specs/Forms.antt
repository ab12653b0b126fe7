-- The forms of the union: markers have a prefixed form, and may have a bare one too; every other terminal has a bare form alone.
use Rattle.std.specs.Prelude.{◌≡◌, ◌≢◌, ◌<◌, ℕ, List, [], ◌∷◌, ◌++◌, Some, slice_get}
use Rattle.wb_base.specs.Grammar.{GrammarView}
use Rattle.wb_determinism_contexts.specs.Considered.{LexiconView}
use Rattle.wb_scan_theory.specs.declared.form.Form.{Form}
use Rattle.wb_compose_theory_grammar.specs.Laws.{IsOwn, in_union}
use Rattle.wb_compose_theory_language.specs.Written.{IsOwnRow, WrittenPiece, pieces_of}
use Rattle.wb_compose_theory_language.specs.Apart.{IsMarkerRow, colon}
use Rattle.wb_compose_theory_language.specs.Rows.{Reads, piece_row}

-- the name of the extension and two colons
abbrev pub prefix_of : WrittenPiece → List ℕ
prefix_of x = x.name ++ colon ∷ colon ∷ []

module _ (host : GrammarView) (extensible : List ℕ) (own : LexiconView) (written : List WrittenPiece) where
  -- the terminal of the union is this marker of the extension of this number
  pub record IsMarkerOf (k : ℕ) (x : WrittenPiece) (number : ℕ) : Type 0 where
    pub listed : slice_get written k ≡ Some x
    pub terminal : ℕ
    pub marker : IsMarkerRow host extensible own x terminal
    pub is : number ≡ in_union host extensible (pieces_of written) k terminal

  -- the terminal or layout of the union is an extension's own, and the extension isn't the one of this number
  pub record IsOfOther (k number : ℕ) : Type 0 where
    pub other : ℕ
    pub extension : WrittenPiece
    pub listed : slice_get written other ≡ Some extension
    pub different : other ≢ k
    pub terminal : ℕ
    pub own_row : IsOwnRow host own extension terminal
    pub is : number ≡ piece_row host extensible own written other extension terminal

  -- both match the text
  pub record ShareText (one other : ℕ) : Type 0 where
    pub text : List ℕ
    pub one_reads : Reads host extensible own written one text
    pub other_reads : Reads host extensible own written other text

  -- a marker of an extension that shares a text with a terminal or layout of another extension
  pub record IsWithdrawn (number : ℕ) : Type 0 where
    pub k : ℕ
    pub x : WrittenPiece
    pub marker : IsMarkerOf k x number
    pub rival : ℕ
    pub of_other : IsOfOther k rival
    pub share : ShareText number rival

  -- a marker has its prefixed form, and its bare form where it isn't withdrawn; a terminal of the host, and one of an extension that is no
  -- marker, has its bare form
  pub data IsForm (form : Form) : Type 0 where
    prefixed : (k : ℕ) (x : WrittenPiece) → IsMarkerOf k x form.terminal → form.prefix ≡ prefix_of x → IsForm form
    kept : (k : ℕ) (x : WrittenPiece) → IsMarkerOf k x form.terminal → ¬ IsWithdrawn form.terminal → form.prefix ≡ [] → IsForm form
    of_host : form.terminal < host.terminals → form.prefix ≡ [] → IsForm form
    of_extension : (k : ℕ) (x : WrittenPiece) (t : ℕ) → slice_get written k ≡ Some x →
        IsOwn host extensible (pieces_of written) (x.piece) t → form.terminal ≡ in_union host extensible (pieces_of written) k t →
        form.prefix ≡ [] → IsForm form

-- The language of a grammar whose terminals are all written as they are.
use Rattle.std.specs.Prelude.{◌≡◌, ◌+◌, ℕ, List, [], All, length, map, slice_get, Some}
use Rattle.std.specs.List.{range_with_len}
use Rattle.wb_base.specs.Grammar.{GrammarView}
use Rattle.wb_graph.specs.Graphs.{IsEdgeBelow}
use Rattle.wb_scan_theory.specs.declared.form.Form.{Form}
use Rattle.wb_scan_theory.specs.Languages.{LanguageView, bare}
use Rattle.wb_regex.specs.Tree.{Tree}

-- the bare forms of so many terminals, in order
abbrev pub bare_forms : ℕ → List Form
bare_forms count = map bare (range_with_len 0 count)

-- the language of a grammar with a bare form for each terminal, and with layout that is considered at each prefix
abbrev pub language_with : GrammarView → List Tree → List ℕ → List (ℕ × ℕ) → LanguageView
language_with g expressions layout preferences = record {
  grammar = g;
  forms = bare_forms g.terminals;
  layout = layout;
  spans = [];
  expressions = expressions;
  preferences = preferences;
}

-- there is an expression for each terminal of the grammar, and then for each layout; layout is numbered on from the grammar's terminals;
-- and preferences are between these
pub record AreWrittenFor (terminals : ℕ) (expressions : List Tree) (layout : List ℕ) (preferences : List (ℕ × ℕ)) : Type 0 where
  pub count : length expressions ≡ terminals + length layout
  pub numbers : (k t : ℕ) → slice_get layout k ≡ Some t → t ≡ terminals + k
  pub within : All (IsEdgeBelow (length expressions)) preferences

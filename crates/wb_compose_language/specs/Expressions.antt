-- The expressions of the union's forms and of its layout.
use Rattle.std.specs.Prelude.{◌≡◌, ◌+◌, ◌++◌, ◌↔◌, ℕ, List, Some, length, map, slice_get}
use Rattle.std.specs.List.{range_with_len}
use Rattle.wb_automata.specs.Automata.{IsMatch}
use Rattle.wb_scan_theory.specs.declared.form.Form.{Form}
use Rattle.wb_scan_theory.specs.Languages.{bare}
use Rattle.wb_regex.specs.Tree.{Tree}
use Rattle.wb_compose_theory_grammar.specs.UnitedWorlds.{united}
use Rattle.wb_compose_theory_language.specs.Languages.{IsTextOf}
use Rattle.wb_compose_theory_language.specs.Rows.{layout_count}
use Rattle.wb_compose_theory_language.specs.Written.{pieces_of}
use Rattle.wb_compose_language.specs.declared.addition.Lent.{Lent}
use Rattle.wb_compose_language.specs.Lents.{all_in, own_in}

-- the numbers of layout in the union, after all terminals
abbrev pub layout_in : Lent → List ℕ
layout_in lent =
    range_with_len (united lent.grammar.now lent.extensible.now (pieces_of (all_in lent))).terminals
    (layout_count lent.grammar.now lent.extensible.now (own_in lent) (all_in lent))

-- each form has an expression, and after them so has each layout; and each matches the texts of its form
pub record AreExpressions (lent : Lent) (forms : List Form) (expressions : List Tree) : Type 0 where
  pub len : length expressions ≡ length forms + length (layout_in lent)
  pub each : (place : ℕ) (form : Form) → slice_get (forms ++ map bare (layout_in lent)) place ≡ Some form → (text : List ℕ) →
      IsMatch expressions place text ↔ IsTextOf lent.grammar.now lent.extensible.now (own_in lent) (all_in lent) form text

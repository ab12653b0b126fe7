-- Languages as values: a grammar, and how its terminals and layout are written.
use Rattle.std.specs.Prelude.{◌<◌, ◌≤◌, ◌+◌, ◌-◌, ℕ, List, [], ◌++◌, Option, None, length, map, slice_index_or}
use Rattle.wb_base.specs.Grammar.{GrammarView}
use Rattle.wb_regex.specs.Tree.{Tree}
use Rattle.wb_scan_theory.specs.declared.form.Form.{Form}

-- a grammar; forms of its terminals; layout terminals, and of each the productions of which a kernel must hold an item for it to be
-- considered there, from the first number to before the second, or none where it is considered at each prefix; the expression of each form
-- in order, and then of each layout terminal; and preferences, where the pair `(t, u)` prefers the terminal t to u
pub record LanguageView : Type 0 where
  pub grammar : GrammarView
  pub forms : List Form
  pub layout : List ℕ
  pub spans : List (Option (ℕ × ℕ))
  pub expressions : List Tree
  pub preferences : List (ℕ × ℕ)

-- the form of a terminal without a prefix
abbrev pub bare : ℕ → Form
bare t = record { terminal = t; prefix = [] }

-- the forms of terminals, and a bare one for each layout terminal: a form is named by its place here
abbrev pub forms_of : LanguageView → List Form
forms_of l = l.forms ++ map bare l.layout

-- the place is that of a layout terminal's form
abbrev pub IsLayout : LanguageView → ℕ → Type 0
IsLayout l place = (length l.forms ≤ place) × (place < length l.forms + length l.layout)

-- the productions by which the layout terminal of this place is considered
abbrev pub span_at : LanguageView → ℕ → Option (ℕ × ℕ)
span_at l place = slice_index_or l.spans (place - length l.forms) None

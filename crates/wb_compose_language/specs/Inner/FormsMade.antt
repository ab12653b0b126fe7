-- Forms of the union as they are made, terminal by terminal, with their expressions.
use Rattle.std.specs.Prelude.{◌≡◌, ◌<◌, ◌↔◌, ◌++◌, ◌∷◌, [], ℕ, Bool, true, false, List, Some, Contains, length, slice_get}
use Rattle.wb_base.specs.Different.{Differ}
use Rattle.wb_scan_theory.specs.declared.form.Form.{Form}
use Rattle.wb_scan_theory.specs.Languages.{bare}
use Rattle.wb_regex.specs.Matches.{Matches}
use Rattle.wb_regex.specs.Tree.{Tree}
use Rattle.wb_compose_theory_language.specs.Apart.{colon}
use Rattle.wb_compose_theory_language.specs.Forms.{IsForm, IsWithdrawn}
use Rattle.wb_compose_theory_language.specs.Languages.{IsTextOf}
use Rattle.wb_compose_language.specs.declared.addition.Lent.{Lent}
use Rattle.wb_compose_language.specs.declared.union_forms.UnitedForms.{UnitedForms}
use Rattle.wb_compose_language.specs.Lents.{all_in, own_in}
use Rattle.wb_regex.specs.Prefixed.{IsPrefixed}

module _ (lent : Lent) where
  -- a form of the union
  abbrev pub IsFormIn : Form → Type 0
  IsFormIn form = IsForm lent.grammar.now lent.extensible.now (own_in lent) (all_in lent) form

  -- a marker that is withdrawn
  abbrev pub IsWithdrawnIn : ℕ → Type 0
  IsWithdrawnIn n = IsWithdrawn lent.grammar.now lent.extensible.now (own_in lent) (all_in lent) n

  -- the expression matches the texts of the form
  abbrev pub Writes : Tree → Form → Type 0
  Writes tree form =
      (text : List ℕ) → Matches tree text ↔ IsTextOf lent.grammar.now lent.extensible.now (own_in lent) (all_in lent) form text

  -- these are different forms of the union, of terminals before the one of this number, each with its expression
  pub record AreSound (bound : ℕ) (forms : List Form) (expressions : List Tree) : Type 0 where
    pub each : (place : ℕ) (form : Form) → slice_get forms place ≡ Some form → IsFormIn form × (form.terminal < bound)
    pub once : Differ forms
    pub len : length expressions ≡ length forms
    pub written : (place : ℕ) (form : Form) (tree : Tree) → slice_get forms place ≡ Some form → slice_get expressions place ≡ Some tree →
        Writes tree form

  -- and there are no others
  pub record AreFormsBelow (bound : ℕ) (forms : List Form) (expressions : List Tree) : Type 0 where
    pub sound : AreSound bound forms expressions
    pub every : (form : Form) → IsFormIn form → form.terminal < bound → Contains forms form

  -- these are the withdrawn markers before the terminal of this number, in order
  pub record AreWithdrawnBelow (bound : ℕ) (withdrawn : List ℕ) : Type 0 where
    pub each : (n : ℕ) → Contains withdrawn n ↔ ((n < bound) × IsWithdrawnIn n)
    pub rising : (i j m n : ℕ) → slice_get withdrawn i ≡ Some m → slice_get withdrawn j ≡ Some n → i < j → m < n

  -- the forms of terminals before the one of this number are made, with their expressions, and withdrawn markers are listed
  pub record AreMadeBelow (bound : ℕ) (made : UnitedForms) : Type 0 where
    pub forms : AreFormsBelow bound made.forms.items made.expressions.items
    pub withdrawn : AreWithdrawnBelow bound made.withdrawn.items

-- a bare form was added with its expression
pub record IsBareAdded (old new : UnitedForms) (number : ℕ) (pattern : Tree) : Type 0 where
  pub forms_are : new.forms.items ≡ old.forms.items ++ bare number ∷ []
  pub expressions_are : new.expressions.items ≡ old.expressions.items ++ pattern ∷ []
  pub withdrawn_are : new.withdrawn.items ≡ old.withdrawn.items

-- a marker was listed as withdrawn
pub record IsListed (old new : UnitedForms) (number : ℕ) : Type 0 where
  pub forms_are : new.forms.items ≡ old.forms.items
  pub expressions_are : new.expressions.items ≡ old.expressions.items
  pub withdrawn_are : new.withdrawn.items ≡ old.withdrawn.items ++ number ∷ []

-- the one or the other
abbrev pub IsChosen : Bool → UnitedForms → UnitedForms → ℕ → Tree → Type 0
IsChosen true old new number pattern = IsListed old new number
IsChosen false old new number pattern = IsBareAdded old new number pattern

-- a form with the prefix, and an expression that matches its texts, were added
pub record IsPrefixedAdded (old new : List Form) (was now : List Tree) (terminal : ℕ) (prefix : List ℕ) (pattern : Tree) : Type 0 where
  pub tree : Tree
  pub is : IsPrefixed prefix pattern tree
  pub forms_are : new ≡ old ++ record { terminal = terminal; prefix = prefix } ∷ []
  pub expressions_are : now ≡ was ++ tree ∷ []

-- the name and two colons
abbrev pub IsPrefixOf : List ℕ → List ℕ → Type 0
IsPrefixOf name prefix = prefix ≡ name ++ colon ∷ colon ∷ []

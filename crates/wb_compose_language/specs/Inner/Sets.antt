-- Which forms are considered at each state, by place: those of terminals that are valid there, and layout, which comes after them.
use Rattle.std.specs.Prelude.{◌≡◌, ◌<◌, ◌≤◌, ◌+◌, ◌-◌, ◌⊎◌, ◌↔◌, ℕ, Any, Bool, List, Option, Some, None, All, length, slice_get, slice_index_or}
use Rattle.wb_grammar_theory.specs.declared.item.Item.{Item}
use Rattle.wb_items.specs.Kernels.{KernelsView, prefix_of}
use Rattle.wb_scan_theory.specs.declared.form.Form.{Form}
use Rattle.wb_scan_theory.specs.Winners.{HoldsOne}
use Rattle.wb_lookahead.specs.Contents.{TablesView, size_of, valid_of}
use Rattle.wb_termset.specs.Sets.{IsMember}

-- the form at the place is of a terminal of the set
pub record IsValidForm (valid : List Bool) (forms : List Form) (place : ℕ) : Type 0 where
  pub form : Form
  pub at : slice_get forms place ≡ Some form
  pub has : IsMember valid form.terminal

-- one of the items is of a production from the one number to before the other
abbrev pub ListsFrom : List Item → ℕ × ℕ → Type 0
ListsFrom items span = Any (λ (i : Item). (span.0 ≤ i.production) × (i.production < span.1)) items

-- one of the items is of one of these productions; where none are given, they may be what they will
abbrev pub ListsOne : List Item → Option (ℕ × ℕ) → Type 0
ListsOne items None = Unit {0}
ListsOne items (Some span) = ListsFrom items span

-- the productions of the layout at a place that comes after so many forms
abbrev pub span_after : ℕ → List (Option (ℕ × ℕ)) → ℕ → Option (ℕ × ℕ)
span_after count spans place = slice_index_or spans (place - count) None

-- the place is that of layout, before the one of this number, by whose productions there is an item
abbrev pub IsLayoutBefore : List Item → ℕ → List (Option (ℕ × ℕ)) → ℕ → ℕ → Type 0
IsLayoutBefore items count spans bound place = (count ≤ place) × (place < count + bound) × ListsOne items (span_after count spans place)

-- the form of the place is considered where these terminals are valid and the kernel has these items
abbrev pub IsFormBy : List Bool → List Item → List Form → List (Option (ℕ × ℕ)) → ℕ → Type 0
IsFormBy valid items forms spans place =
    IsValidForm valid forms place ⊎ IsLayoutBefore items (length forms) spans (length spans) place

-- the form of the place is considered at the kernel of this number
abbrev pub IsFormAt : KernelsView → ℕ → List Bool → List Form → List (Option (ℕ × ℕ)) → ℕ → Type 0
IsFormAt kernels s valid forms spans place =
    IsValidForm valid forms place ⊎
    ((length forms ≤ place) × (place < length forms + length spans) ×
    HoldsOne kernels.grammar (prefix_of kernels s) (span_after (length forms) spans place))

-- the set has room for the terminals of the forms
abbrev pub HasRoom : List Form → List Bool → Type 0
HasRoom forms valid = All (λ (f : Form). f.terminal < length valid) forms

-- so have the valid sets of all states
abbrev pub HaveRoom : List Form → TablesView → Type 0
HaveRoom forms tables = (s : ℕ) → s < size_of tables → HasRoom forms (valid_of tables s)

-- there are so many sets, and that of each state has exactly the considered forms
pub record AreFormSets (kernels : KernelsView) (tables : TablesView) (forms : List Form) (spans : List (Option (ℕ × ℕ)))
    (bound : ℕ) (sets : List (List Bool)) : Type 0 where
  pub len : length sets ≡ bound
  pub each : (s : ℕ) (set : List Bool) → slice_get sets s ≡ Some set → (place : ℕ) →
      IsMember set place ↔ IsFormAt kernels s (valid_of tables s) forms spans place

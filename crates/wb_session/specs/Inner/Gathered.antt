-- The values of the last roots of a stack.
use Rattle.std.specs.Prelude.{◌≡◌, ◌≤◌, ◌-◌, ◌⊎◌, ◌++◌, ◌∷◌, ℕ, List, [], Some, length, slice_get, reverse}
use Rattle.wb_values.specs.declared.value.Value.{Value}
use Rattle.wb_session.specs.declared.stacks.Entry.{Entry}
use Rattle.wb_session.specs.Stacks.{LeadsTo}

-- the value of the link's entry was added, and the other link is that of what is below
pub record IsRoot (entries : List Entry) (values : List Value) (link below : ℕ) (children children' : List Value) : Type 0 where
  pub entry : Entry
  pub value : Value
  pub is : slice_get entries (link - 1) ≡ Some entry
  pub has : slice_get values (link - 1) ≡ Some value
  pub below_is : below ≡ entry.below
  pub children_are : children' ≡ children ++ value ∷ []

-- states and values in two parts: the link below leads to the first of them, and the others are as many as the children, which are the
-- last values
pub record AreParted (entries : List Entry) (values : List Value) (states : List ℕ) (vs : List Value) (below : ℕ)
    (children : List Value) : Type 0 where
  pub lower : List ℕ
  pub upper : List ℕ
  pub under : List Value
  pub leads : LeadsTo entries values below lower under
  pub states_are : states ≡ lower ++ upper
  pub values_are : vs ≡ under ++ children
  pub size : length upper ≡ length children

-- the children are so many, or all, and parts of each stack to which the link leads
pub record AreGathered (entries : List Entry) (values : List Value) (link count below : ℕ) (children : List Value) : Type 0 where
  pub few : length children ≤ count
  pub enough : (length children ≡ count) ⊎ (below ≡ 0)
  pub parts : (states : List ℕ) (vs : List Value) → LeadsTo entries values link states vs →
      AreParted entries values states vs below children

-- the same while they are gathered, from the last one on
abbrev pub AreBeingGathered : List Entry → List Value → ℕ → ℕ → ℕ → List Value → Type 0
AreBeingGathered entries values link count below children = AreGathered entries values link count below (reverse children)

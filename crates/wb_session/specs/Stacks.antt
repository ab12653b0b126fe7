-- Stacks that share what is below: where a link leads, and the trees that the stack stands for.
use Rattle.std.specs.Prelude.{◌≡◌, ◌<◌, ◌≤◌, ◌++◌, ◌∷◌, ℕ, suc, List, [], All, Some, length, slice_get}
use Rattle.wb_grammar_theory.specs.Trees.{Forest}
use Rattle.wb_lookahead.specs.Contents.{size_of}
use Rattle.wb_values.specs.Tree.{Tree}
use Rattle.wb_values.specs.ValuesIn.{values_in, IsIn}
use Rattle.wb_values.specs.declared.value.Value.{Value}
use Rattle.wb_scan_theory.specs.Shown.{values_of}
use Rattle.wb_scan.specs.Views.{LanguageParts}
use Rattle.wb_parser_states.specs.Stacks.{AreStates}
use Rattle.wb_session.specs.declared.stacks.Entry.{Entry}
use Rattle.wb_session.specs.declared.stacks.Stacks.{Stacks}

-- entries, the values of their roots, and the trees of these values
pub record Roots : Type 0 where
  pub entries : List Entry
  pub values : List Value
  pub trees : List Tree

-- those of linked stacks
abbrev pub roots_of : Stacks → Roots
roots_of stacks = record { entries = stacks.entries.items; values = stacks.values; trees = stacks.store }

-- the link leads to these states and values, from the bottom up, of which the last are those of its entry
pub data LeadsTo (entries : List Entry) (values : List Value) : ℕ → List ℕ → List Value → Type 0 where
  bottom : {states : List ℕ} {vs : List Value} → states ≡ [] → vs ≡ [] → LeadsTo entries values 0 states vs
  above : (k : ℕ) (x : Entry) (v : Value) (lower : List ℕ) (under : List Value) {states : List ℕ} {vs : List Value} →
      slice_get entries k ≡ Some x → slice_get values k ≡ Some v → x.below ≤ k → LeadsTo entries values x.below lower under →
      states ≡ lower ++ x.state ∷ [] → vs ≡ under ++ v ∷ [] → LeadsTo entries values (suc k) states vs

-- the link leads to the states and the values of this stack of trees
pub record IsStack (parts : LanguageParts) (roots : Roots) (link : ℕ) (stack : Forest) : Type 0 where
  pub states : List ℕ
  pub vs : List Value
  pub leads : LeadsTo roots.entries roots.values link states vs
  pub states_are : AreStates parts.language.grammar parts.tables [] states stack
  pub values_are : values_in roots.trees vs ≡ values_of stack

-- each entry is above earlier ones
abbrev pub IsLinked : List Entry → Type 0
IsLinked entries = (k : ℕ) (x : Entry) → slice_get entries k ≡ Some x → x.below ≤ k

-- each entry has a value, states are those of the tables, and values are among the trees
pub record IsSound (parts : LanguageParts) (roots : Roots) : Type 0 where
  pub same : length roots.values ≡ length roots.entries
  pub linked : IsLinked roots.entries
  pub states : (k : ℕ) (x : Entry) → slice_get roots.entries k ≡ Some x → x.state < size_of parts.tables
  pub inside : All (IsIn (length roots.trees)) roots.values

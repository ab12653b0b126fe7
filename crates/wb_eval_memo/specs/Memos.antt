-- What a memo knows of its sites.
use Rattle.std.specs.Prelude.{◌≡◌, ◌≤◌, ◌<◌, ℕ, suc, Option, Some, length, slice_get}
use Rattle.wb_values.specs.declared.value.TreeId.{TreeId}
use Rattle.wb_values.specs.declared.value.Value.{Value}
use Rattle.wb_eval_theory.specs.Instances.{down}
use Rattle.wb_eval_memo.specs.Sites.{step_of, path_at, paths_of, IsSites}
use Rattle.wb_eval_memo.specs.Slots.{slot_value, AreSlots}
use Rattle.wb_eval_memo.specs.declared.memo.Memo.{Memo}
use Rattle.wb_eval_memo.specs.declared.sites.Origin.{Origin}
use Rattle.wb_eval_memo.specs.declared.sites.Step.{Step}

-- how many sites there are besides the root
abbrev pub count : Memo → ℕ
count m = length m.sites.origins.items

-- the path of a site
abbrev pub path_in : Memo → ℕ → Rattle.wb_eval_theory.specs.Instances.Path
path_in m site = path_at (paths_of m.sites.origins.items) site

-- the value of an attribute of a site, where it is known
abbrev pub recall : Memo → ℕ → ℕ → Option Value
recall m site attribute = slot_value m.slots site attribute

-- each site has a tree or none, and cells for values
pub record IsWhole (m : Memo) : Type 0 where
  pub sites : IsSites m.sites
  pub trees : length m.trees.items ≡ suc (count m)
  pub slots : AreSlots (suc (count m)) m.slots

-- one memo has more sites than another, and else knows the same
pub record IsGrown (old new : Memo) : Type 0 where
  pub more : count old ≤ count new
  pub paths : (i : ℕ) → i ≤ count old → path_in new i ≡ path_in old i
  pub recalls : (i x : ℕ) → recall new i x ≡ recall old i x
  pub trees : (i : ℕ) → i ≤ count old → slice_get new.trees.items i ≡ slice_get old.trees.items i
  pub origins : (k : ℕ) (o : Origin) → k < count old → slice_get new.sites.origins.items k ≡ Some o
      → slice_get old.sites.origins.items k ≡ Some o

-- the site is the one below another, and any that is new has the tree
pub record IsBelow (old new : Memo) (parent : ℕ) (step : Step) (tree : Option TreeId) (site : ℕ) : Type 0 where
  pub there : site ≤ count new
  pub path : path_in new site ≡ down (path_in old parent) (step_of step)
  pub fresh : (i : ℕ) → count old < i → i ≤ count new
      → (slice_get new.trees.items i ≡ Some tree) × (path_in new i ≡ down (path_in old parent) (step_of step))
  pub from : (k : ℕ) (o : Origin) → count old ≤ k → slice_get new.sites.origins.items k ≡ Some o → o.parent ≡ parent

-- Sites: the nodes that an evaluation has come to, by number, and how they are found.
use Rattle.std.specs.Prelude.{◌≡◌, ◌≤◌, ◌&&◌, ℕ, suc, Bool, true, false, nat_eq, if◌then◌else◌, List, [], ◌∷◌, ◌++◌, Option, Some, None}
use Rattle.std.specs.Prelude.{slice_get, slice_index_or}
use Rattle.wb_flow_theory.specs.Vertices.{child, made, local, forward}
use Rattle.wb_flow_theory.specs.Vertices as vertices
use Rattle.wb_eval_theory.specs.Instances.{Path, root, down}
use Rattle.wb_eval_rows.specs.Rows.{at}
use Rattle.wb_eval_rows.specs.Sparse.{number_at, IsForest}
use Rattle.wb_eval_memo.specs.declared.sites.Origin.{Origin}
use Rattle.wb_eval_memo.specs.declared.sites.Sites.{Sites}
use Rattle.wb_eval_memo.specs.declared.sites.Step.{Step}
use Rattle.wb_eval_memo.specs.declared.sites.Step.TheVariants as step

-- the step that a step is
abbrev pub step_of : Step → vertices.Step
step_of (step.Child k) = child k
step_of (step.Local x) = made (local x)
step_of step.Forward = made forward

-- the site one step down from another that rows have, or 0
abbrev pub link_in_rows : Sites → ℕ → Step → ℕ
link_in_rows s i (step.Child k) = number_at s.children i k
link_in_rows s i (step.Local x) = number_at s.locals i x
link_in_rows s i step.Forward = at s.forwards i 0

-- whether a step is another
abbrev pub is_step : Step → Step → Bool
is_step (step.Child k) (step.Child l) = nat_eq k l
is_step (step.Local k) (step.Local l) = nat_eq k l
is_step step.Forward step.Forward = true
is_step s t = false

-- whether this origin, which the site after another has, is one step down from that
abbrev pub is_next : Option Origin → ℕ → Step → Bool
is_next None i t = false
is_next (Some o) i t = nat_eq o.parent i && is_step o.step t

-- the site one step down from another, or 0: the site after it, or one that rows have
abbrev pub link : Sites → ℕ → Step → ℕ
link s i t = if is_next (slice_get s.origins.items i) i t then suc i else link_in_rows s i t

-- the path of a site
abbrev pub path_at : List Path → ℕ → Path
path_at paths site = slice_index_or paths site root

-- the paths of further sites after these
unfoldable pub paths_from : List Path → List Origin → List Path
paths_from paths [] = paths
paths_from paths (o ∷ origins) = paths_from (paths ++ down (path_at paths o.parent) (step_of o.step) ∷ []) origins

-- the paths of all sites
abbrev pub paths_of : List Origin → List Path
paths_of origins = paths_from (root ∷ []) origins

-- the sites of children, and of the trees of locals, can be found
abbrev pub AreFound : Sites → Type 0
AreFound s = IsForest s.children × IsForest s.locals

-- links lead to the sites whose origins they are, which come after their parents
pub record IsSites (s : Sites) : Type 0 where
  pub to : (i : ℕ) (t : Step) (k : ℕ) → link s i t ≡ suc k → slice_get s.origins.items k ≡ Some (record { parent = i; step = t })
  pub from : (k : ℕ) (o : Origin) → slice_get s.origins.items k ≡ Some o → link s o.parent o.step ≡ suc k
  pub found : AreFound s
  pub order : (k : ℕ) (o : Origin) → slice_get s.origins.items k ≡ Some o → o.parent ≤ k

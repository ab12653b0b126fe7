-- Which equation is shown of an attribute that waits: that by which the production at a site defines it, and where it is in its file.
use Rattle.std.specs.Prelude.{◌≡◌, ◌≢◌, ◌⊎◌, ◌-◌, ◌++◌, ℕ, List, Some, slice_get, Contains}
use Rattle.wb_eval.specs.declared.halt.Waiting.{Waiting}
use Rattle.wb_eval.specs.declared.machine.Key.{Key}
use Rattle.wb_eval.specs.declared.machine.Key.TheVariants as key
use Rattle.wb_eval_memo.specs.declared.sites.Origin.{Origin}
use Rattle.wb_eval_memo.specs.declared.sites.Step.{Step}
use Rattle.wb_eval_memo.specs.declared.sites.Step.TheVariants as step
use Rattle.wb_explain_instances.specs.declared.equation.Spot.{Spot}
use Rattle.wb_explain_places.specs.Place.{Shows}
use Rattle.wb_explain_places.specs.declared.source.Source.{Source}
use Rattle.wb_syntax_resolved.specs.declared.equation.Equation.{Equation}
use Rattle.wb_syntax_resolved.specs.declared.equation.Place.TheVariants as place
use Rattle.wb_syntax_resolved.specs.declared.equation.Target.{Target}
use Rattle.wb_syntax_resolved.specs.declared.equation.Target.TheVariants as target
use Rattle.wb_syntax_resolved.specs.declared.production.Forward.{Forward}
use Rattle.wb_syntax_resolved.specs.declared.production.Local.{Local}
use Rattle.wb_syntax_resolved.specs.declared.production.Production.{Production}
use Rattle.wb_values.specs.declared.value.TreeId.{TreeId}
use Rattle.wb_values.specs.Tree.{Tree, production_of}
use Rattle.wb_values.specs.ValuesIn.{tree_in}

-- the equation by which the production forwards begins there
abbrev pub IsSpotOfForward : Production → Spot → Type 0
IsSpotOfForward p s = (f : Forward) × (p.forward ≡ Some f) × (s.owner ≡ p.owner) × (s.offset ≡ f.offset)

-- that of its local of this number does
abbrev pub IsSpotOfLocal : Production → ℕ → Spot → Type 0
IsSpotOfLocal p k s = (l : Local) × (slice_get p.locals k ≡ Some l) × (s.owner ≡ l.owner) × (s.offset ≡ l.offset)

-- one that is for this does, or that by which it forwards
abbrev pub IsSpotFor : Production → Target → Spot → Type 0
IsSpotFor p t s =
    ((e : Equation) × Contains p.equations e × (e.target ≡ t) × (s.owner ≡ e.owner) × (s.offset ≡ e.offset)) ⊎ IsSpotOfForward p s

-- that which makes the tree that is reached so does
abbrev pub IsSpotOfMade : Production → Step → Spot → Type 0
IsSpotOfMade p (step.Child k) s = ⊥
IsSpotOfMade p (step.Local k) s = IsSpotOfLocal p k s
IsSpotOfMade p step.Forward s = IsSpotOfForward p s

-- what an equation is for, one step down
abbrev pub target_below : Step → ℕ → Target
target_below (step.Child k) y = target.Place (place.Child k) y
target_below (step.Local k) y = target.Place (place.Local k) y
target_below step.Forward y = target.Forward y

module _ (productions : List Production) (trees : List Tree) (w : Waiting) where
  -- the tree of the site is of this production
  abbrev pub IsProductionAt : ℕ → Production → Type 0
  IsProductionAt site p = (id : TreeId) × (slice_get w.memo.trees.items site ≡ Some (Some id))
      × (slice_get productions (production_of (tree_in trees id.0)) ≡ Some p)

  -- the site is reached so
  abbrev pub IsReachedBy : ℕ → Origin → Type 0
  IsReachedBy site o = (site ≢ 0) × (slice_get w.memo.sites.origins.items (site - 1) ≡ Some o)

  -- the equation by which the tree of the site is made begins there
  pub record IsSpotOfTree (site : ℕ) (s : Spot) : Type 0 where
    pub origin : Origin
    pub reached : IsReachedBy site origin
    pub production : Production
    pub at : IsProductionAt origin.parent production
    pub is : IsSpotOfMade production origin.step s

  -- that for an inherited attribute of the site does
  pub record IsSpotBelow (site y : ℕ) (s : Spot) : Type 0 where
    pub origin : Origin
    pub reached : IsReachedBy site origin
    pub production : Production
    pub at : IsProductionAt origin.parent production
    pub is : IsSpotFor production (target_below origin.step y) s

  -- that for a synthesized attribute does, where the tree is known
  pub record IsSpotAt (site y : ℕ) (s : Spot) : Type 0 where
    pub production : Production
    pub at : IsProductionAt site production
    pub is : IsSpotFor production (target.Top y) s

  -- the equation by which what waits is begins there; that of a tree which isn't known makes the tree
  abbrev pub IsSpotOf : Key → Spot → Type 0
  IsSpotOf (key.Synthesized site y) s = IsSpotAt site y s ⊎ IsSpotOfTree site s
  IsSpotOf (key.Inherited site y) s = IsSpotBelow site y s
  IsSpotOf (key.Tree site) s = IsSpotOfTree site s

  -- the place of the equation by which it is was shown after this text, in the file of the equation's owner
  pub record ShowsEquation (files : List Source) (k : Key) (text old new : List ℕ) : Type 0 where
    pub spot : Spot
    pub is : IsSpotOf k spot
    pub file : Source
    pub there : slice_get files spot.owner ≡ Some file
    pub shows : Shows file.file.now file.contents.now spot.offset (old ++ text) new

  -- so it was, or nothing was shown
  abbrev pub SaysEquation : List Source → Key → (text old new : List ℕ) → Type 0
  SaysEquation files k text old new = (new ≡ old) ⊎ ShowsEquation files k text old new

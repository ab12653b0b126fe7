-- How the work on an instance starts.
use Rattle.std.specs.Prelude.{◌≡◌, ◌≤◌, ◌<◌, ℕ, List, Some, length}
use Rattle.wb_flow_theory.specs.Modular.{IsProduction}
use Rattle.wb_flow_theory.specs.Vertices.{Made, local, forward, made, Vertex}
use Rattle.wb_operations.specs.Operations.{Operations}
use Rattle.wb_syntax_resolved.specs.declared.attribution.AttributionParts.{AttributionParts}
use Rattle.wb_syntax_resolved.specs.declared.production.Production.{Production}
use Rattle.wb_syntax_resolved.specs.Expression.{Expression}
use Rattle.wb_values.specs.declared.value.TreeId.{TreeId}
use Rattle.wb_values.specs.Tree.{Tree, production_of, children_of}
use Rattle.wb_values.specs.ValuesIn.{tree_in}
use Rattle.wb_eval_theory.specs.Instances.{down, synthesized_at, tree_at}
use Rattle.wb_eval_theory.specs.Rules.{rule_of}
use Rattle.wb_eval_theory.specs.Walks.{read, walk_expression, finish}
use Rattle.wb_values.specs.declared.value.Value.{Value}
use Rattle.wb_eval_rules.specs.Code.{Instruction, next, instructions, code_of}
use Rattle.wb_eval.specs.Inner.Machines.{HasTree, named, IsKey, IsMachine, Runs, Wants}
use Rattle.wb_eval_memo.specs.Memos.{count, path_in}
use Rattle.wb_eval.specs.declared.machine.Key.{Key}
use Rattle.wb_eval.specs.declared.machine.Machine.{Machine}
use Rattle.wb_eval.specs.declared.start.Start.{Start}
use Rattle.wb_eval.specs.declared.start.Start.TheVariants as start
use Rattle.wb_eval_memo.specs.declared.sites.Step.{Step}
use Rattle.wb_eval_memo.specs.declared.sites.Step.TheVariants as step

-- the site has a tree of a production
abbrev pub HasProduction : AttributionParts → List Tree → Machine → ℕ → Type 0
HasProduction a trees m site = (id : TreeId) × HasTree m.memo site id × (id.0 < length trees)
    × ((p : Production) × IsProduction a (production_of (tree_in trees id.0)) p)

-- it is of this production
abbrev pub IsProductionAt : AttributionParts → List Tree → Machine → ℕ → Production → Type 0
IsProductionAt a trees m site p = (id : TreeId) × HasTree m.memo site id × IsProduction a (production_of (tree_in trees id.0)) p

module _ (a : AttributionParts) (operations : Operations) (trees : List Tree) (under : List Value) where
  -- the instance at work is that of the key
  pub record IsAtWork (m : Machine) (k : Key) : Type 0 where
    pub machine : IsMachine a operations trees under m
    pub is_key : IsKey m.memo k
    pub this_is : machine.this ≡ named m.memo k

  -- the expression of this code is evaluated at the site
  pub record IsStarting (m : Machine) (site : ℕ) (code : List Instruction) : Type 0 where
    pub id : TreeId
    pub has : HasTree m.memo site id
    pub there : site ≤ count m.memo
    pub production : Production
    pub is : IsProduction a (production_of (tree_in trees id.0)) production
    pub vertex : Vertex
    pub expression : Expression
    pub rule : rule_of production vertex ≡ Some expression
    pub code_is : code ≡ code_of operations.signatures expression next
    pub runs : Runs a operations trees under m
        (walk_expression operations (path_in m.memo site) (children_of (tree_in trees id.0)) expression (finish operations))

  -- the value is that of the instance of the key
  pub record IsAlone (m : Machine) (k : Key) : Type 0 where
    pub is_key : IsKey m.memo k
    pub runs : Runs a operations trees under m (read (named m.memo k) (finish operations))

  -- the attribute is that of the forwarded tree
  pub record IsForwarding (m : Machine) (site x : ℕ) : Type 0 where
    pub id : TreeId
    pub has : HasTree m.memo site id
    pub there : site ≤ count m.memo
    pub runs : Runs a operations trees under m (read (tree_at (path_in m.memo site) forward)
        (λ t. read (synthesized_at (down (path_in m.memo site) (made forward)) x) (finish operations)))

module _ (a : AttributionParts) (operations : Operations) (trees : List Tree) (under : List Value) where
  -- the instance at work is worked on by this
  abbrev pub IsStart : Machine → Start → Type 0
  IsStart m (start.Expression site code) = IsStarting a operations trees under m site (instructions code.now)
  IsStart m (start.Read k) = IsAlone a operations trees under m k
  IsStart m (start.Forward site x) = IsForwarding a operations trees under m site x
  IsStart m (start.Needs k) = Wants a operations trees under m k

-- where a step is to a tree that an expression makes, so it is with that
abbrev pub made_by : Step → (Made → Type 0) → Type 0
made_by (step.Child k) so = Unit {0}
made_by (step.Local y) so = so (local y)
made_by step.Forward so = so forward

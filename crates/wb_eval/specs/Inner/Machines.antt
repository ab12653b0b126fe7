-- What an evaluation keeps from one instance to the next.
use Rattle.std.specs.List.{slice_set}
use Rattle.std.specs.Prelude.{◌≡◌, ◌≢◌, ◌⊎◌, ◌≤◌, ◌<◌, ◌+◌, ℕ, suc, List, [], ◌∷◌, ◌++◌, Option, Some, None, All, Contains, length}
use Rattle.std.specs.Prelude.{slice_get}
use Rattle.wb_flow_theory.specs.Modular.{IsProduction}
use Rattle.wb_flow_theory.specs.Occurrences.{Goes}
use Rattle.wb_flow_theory.specs.Vertices.{Made, child, made}
use Rattle.wb_base.specs.declared.symbol.Kind.{Kind}
use Rattle.wb_operations.specs.Operations.{Operations}
use Rattle.wb_syntax_resolved.specs.declared.attributes.Direction.TheVariants.{Synthesized, Inherited}
use Rattle.wb_syntax_resolved.specs.declared.attribution.AttributionParts.{AttributionParts}
use Rattle.wb_syntax_resolved.specs.declared.production.Production.{Production}
use Rattle.wb_syntax_resolved.specs.Expression.{Expression}
use Rattle.wb_values.specs.declared.value.TreeId.{TreeId}
use Rattle.wb_values.specs.declared.value.Value.{Value}
use Rattle.wb_values.specs.declared.value.Value.TheVariants as stored
use Rattle.wb_values.specs.Tree.{Tree, production_of, children_of}
use Rattle.wb_values.specs.ValuesIn.{tree_in, value_in, IsIn}
use Rattle.wb_eval_theory.specs.Answers.{IsNodeAt, HasAnswer}
use Rattle.wb_eval_theory.specs.Evaluable.{IsEvaluable, IsAsked}
use Rattle.wb_eval_theory.specs.Instances.{Path, down, Instance, synthesized_at, inherited_at, tree_at}
use Rattle.wb_eval_rules.specs.Code.{visit, Way, Instruction, does}
use Rattle.wb_eval_theory.specs.Walks.{value, Walk, read, walk_expression}
use Rattle.wb_eval.specs.Inner.Fits.{stack_of, ValuesFit, CodeFits}
use Rattle.wb_eval_memo.specs.Memos.{count, path_in, recall, IsWhole}
use Rattle.wb_eval.specs.Inner.State.{IsState, HasCome}
use Rattle.wb_eval.specs.Inner.Going.{resume}
use Rattle.wb_eval.specs.Inner.Piles.{Wait, piled, AreWaits}
use Rattle.wb_eval.specs.declared.frame.Frame.{Frame}
use Rattle.wb_eval.specs.declared.machine.Key.{Key}
use Rattle.wb_eval.specs.declared.machine.Key.TheVariants as key
use Rattle.wb_eval.specs.declared.machine.Machine.{Machine}
use Rattle.wb_eval_memo.specs.declared.memo.Memo.{Memo}
use Rattle.wb_eval_memo.specs.declared.sites.Origin.{Origin}

-- the site has this tree
abbrev pub HasTree : Memo → ℕ → TreeId → Type 0
HasTree m site id = slice_get m.trees.items site ≡ Some (Some id)

-- its tree is known
abbrev pub IsTreeKnown : Memo → ℕ → Type 0
IsTreeKnown m site = (id : TreeId) × HasTree m site id

-- the tree that is at a path, as an instance; only one that an expression makes is one
abbrev pub tree_named : Path → Instance
tree_named (down q (made k)) = tree_at q k
tree_named other = tree_at other Rattle.wb_flow_theory.specs.Vertices.forward

-- the instance of a key
abbrev pub named : Memo → Key → Instance
named m (key.Synthesized site x) = synthesized_at (path_in m site) x
named m (key.Inherited site x) = inherited_at (path_in m site) x
named m (key.Tree site) = tree_named (path_in m site)

-- the key is that of an instance of a site that is there
abbrev pub IsKey : Memo → Key → Type 0
IsKey m (key.Synthesized site x) = site ≤ count m
IsKey m (key.Inherited site x) = site ≤ count m
IsKey m (key.Tree site) = (site ≤ count m) × ((q : Path) × (k : Made) × (path_in m site ≡ down q (made k)))

-- the keys are those of the instances, the last key of the first instance
abbrev pub AreNamed : Memo → List Key → List Instance → List Instance → Type 0
AreNamed m [] base is = is ≡ base
AreNamed m (k ∷ ks) base is = IsKey m k × AreNamed m ks (named m k ∷ base) is

-- the value that is known for a key
abbrev pub tree_value : Option (Option TreeId) → Option Value
tree_value (Some (Some id)) = Some (stored.Tree id)
tree_value other = None

abbrev pub known : Memo → Key → Option Value
known m (key.Synthesized site x) = recall m site x
known m (key.Inherited site x) = recall m site x
known m (key.Tree site) = tree_value (slice_get m.trees.items site)

-- a value is known for the instance
abbrev pub IsRecalled : Memo → Instance → Type 0
IsRecalled m (synthesized_at q x) = (site : ℕ) × (v : Value) × (site ≤ count m) × (path_in m site ≡ q) × (recall m site x ≡ Some v)
IsRecalled m (inherited_at q x) = (site : ℕ) × (v : Value) × (site ≤ count m) × (path_in m site ≡ q) × (recall m site x ≡ Some v)
IsRecalled m (tree_at q k) = (site : ℕ) × (id : TreeId) × (site ≤ count m) × (path_in m site ≡ down q (made k)) × HasTree m site id

-- this attribute is asked of this root, and no instance was entered
pub record IsBlank (root : TreeId) (attribute : ℕ) (m : Machine) : Type 0 where
  pub root_is : m.root ≡ root
  pub attribute_is : m.attribute ≡ attribute
  pub whole : IsWhole m.memo
  pub origins : m.memo.sites.origins.items ≡ []
  pub its_trees : m.memo.trees.items ≡ Some root ∷ []
  pub values : (site x : ℕ) → recall m.memo site x ≡ None
  pub stack : m.stack.items ≡ []
  pub frames : m.frames.items ≡ []
  pub entered : m.entered ≡ 0

module _ (a : AttributionParts) (operations : Operations) (trees : List Tree) where
  -- the stored value is what the instance has, and the instance was entered
  pub record IsValueOf (top : Tree) (all : List Instance) (i : Instance) (v : Value) : Type 0 where
    pub answers : HasAnswer a operations top i (value (value_in trees v))
    pub inside : IsIn (length trees) v
    pub entered : Contains all i

  -- the site's tree is in the store, and is the node of its path
  pub record IsNode (top : Tree) (q : Path) (id : TreeId) : Type 0 where
    pub inside : id.0 < length trees
    pub is_node : IsNodeAt a operations top q (tree_in trees id.0)

  -- what a memo knows is so
  pub record IsMemo (top : Tree) (all : List Instance) (m : Memo) : Type 0 where
    pub whole : IsWhole m
    pub nodes : (site : ℕ) (id : TreeId) → HasTree m site id → IsNode top (path_in m site) id
    pub made_trees : (site : ℕ) (id : TreeId) (q : Path) (k : Made) → HasTree m site id → path_in m site ≡ down q (made k)
        → Contains all (tree_at q k)
    pub child_trees : (site : ℕ) (q : Path) (k : ℕ) → site ≤ count m → path_in m site ≡ down q (child k) → (id : TreeId) × HasTree m site id
    pub root_tree : (id : TreeId) × HasTree m 0 id
    pub parents : (k : ℕ) (o : Origin) → slice_get m.sites.origins.items k ≡ Some o → (id : TreeId) × HasTree m o.parent id
    pub synthesized : (site x : ℕ) (v : Value) → site ≤ count m → Goes a Synthesized x → recall m site x ≡ Some v
        → IsValueOf top all (synthesized_at (path_in m site) x) v
    pub inherited : (site x : ℕ) (v : Value) → site ≤ count m → Goes a Inherited x → recall m site x ≡ Some v
        → IsValueOf top all (inherited_at (path_in m site) x) v

  -- an expression at a site waits for an instance, which the first instruction of its code reads; its code on these values is what is left
  -- of the walk of its own instance
  pub record IsSuspended (top : Tree) (attribute : ℕ) (all : List Instance) (m : Memo) (i r : Instance) (site : ℕ)
      (code : List Instruction) (values : List Value) : Type 0 where
    pub id : TreeId
    pub has : HasTree m site id
    pub there : site ≤ count m
    pub production : Production
    pub is : IsProduction a (production_of (tree_in trees id.0)) production
    pub kinds : List Kind
    pub inside : All (IsIn (length trees)) values
    pub values_fit : ValuesFit a.signatures (stack_of trees values) kinds
    pub code_fits : CodeFits a operations production code 0 kinds
    pub come : HasCome a operations top attribute all i
        (resume operations (path_in m site) (children_of (tree_in trees id.0)) code 0 (stack_of trees values))
    pub expression : Expression
    pub way : Way
    pub rest : List Instruction
    pub code_is : code ≡ does (visit expression) way ∷ rest
    pub reads : (next : Rattle.wb_values.specs.Tree.Value → Walk)
        → walk_expression operations (path_in m site) (children_of (tree_in trees id.0)) expression next ≡ read r next

  -- each key but the last has an expression that waits or none, and it is that of the key's instance and waits for that of the next key
  pub record AreSuspended (top : Tree) (attribute : ℕ) (all : List Instance) (m : Memo) (keys : List Key)
      (waits : List (Option Wait)) : Type 0 where
    pub count : suc (length waits) ≡ length keys
    pub each : (i : ℕ) (k l : Key) (w : Wait) → slice_get keys i ≡ Some k → slice_get keys (suc i) ≡ Some l
        → slice_get waits i ≡ Some (Some w)
        → IsKey m k × IsKey m l × IsSuspended top attribute all m (named m k) (named m l) w.site w.code w.values

  -- the values below are those of all that wait
  pub record IsMachine (under : List Value) (m : Machine) : Type 0 where
    pub top : Tree
    pub root_inside : m.root.0 < length trees
    pub root_is : tree_in trees m.root.0 ≡ top
    pub evaluable : IsEvaluable a operations
    pub asked : IsAsked a top m.attribute
    pub all : List Instance
    pub this : Instance
    pub waiting : List Instance
    pub state : IsState a operations top m.attribute all this waiting
    pub counted : m.entered ≡ length all
    pub memo : IsMemo top all m.memo
    pub complete : (r : Instance) → Contains all r → Contains (this ∷ waiting) r ⊎ IsRecalled m.memo r
    pub stack : AreNamed m.memo m.stack.items [] (this ∷ waiting)
    pub waits : List (Option Wait)
    pub frames : AreWaits m.frames.items waits
    pub piled_is : under ≡ piled waits
    pub suspended : AreSuspended top m.attribute all m.memo m.stack.items waits

  -- an attribute can be evaluated, and no instance was entered
  pub record IsFresh (m : Machine) : Type 0 where
    pub evaluable : IsEvaluable a operations
    pub inside : m.root.0 < length trees
    pub asked : IsAsked a (tree_in trees m.root.0) m.attribute
    pub blank : IsBlank m.root m.attribute m

  -- the walk of the instance at work has come to this
  pub record Runs (under : List Value) (m : Machine) (w : Walk) : Type 0 where
    pub machine : IsMachine under m
    pub come : HasCome a operations machine.top m.attribute machine.all machine.this w

  -- it reads the instance of the key, which wasn't entered
  pub record Wants (under : List Value) (m : Machine) (k : Key) : Type 0 where
    pub next : Rattle.wb_values.specs.Tree.Value → Walk
    pub runs : Runs under m (read (named m.memo k) next)
    pub is_key : IsKey m.memo k
    pub fresh : ¬ Contains runs.machine.all (named m.memo k)

  -- a memo that knows what the other does, and the value of the instance at work
  pub record IsKeptIn (under : List Value) (m : Machine) (r : IsMachine under m) (new : Memo) : Type 0 where
    pub memo : IsMemo r.top r.all new
    pub recalled : (i : Instance) → IsRecalled m.memo i → IsRecalled new i
    pub this_recalled : IsRecalled new r.this
    pub paths : (i : ℕ) → path_in new i ≡ path_in m.memo i
    pub counts : count new ≡ count m.memo
    pub trees_kept : (i : ℕ) (id : TreeId) → HasTree m.memo i id
        → (other : TreeId) × HasTree new i other × (tree_in trees other.0 ≡ tree_in trees id.0)
    pub keys : (k : Key) → IsKey m.memo k → IsKey new k
    pub names : (k : Key) → named new k ≡ named m.memo k

-- a machine with another memo
abbrev pub with_memo : Machine → Memo → Machine
with_memo m memo = record { memo = memo; root = m.root; attribute = m.attribute; stack = m.stack; frames = m.frames; entered = m.entered }

-- two machines have the same instances on the stack, and ask the same
pub record IsSame (old new : Machine) : Type 0 where
  pub root : new.root ≡ old.root
  pub attribute : new.attribute ≡ old.attribute
  pub stack : new.stack ≡ old.stack
  pub entered : new.entered ≡ old.entered

-- so they do, and the same expressions wait
pub record IsSteady (old new : Machine) : Type 0 where
  pub same : IsSame old new
  pub frames : new.frames ≡ old.frames

-- the instance of a key was entered above those on the stack, and what waited for it has this frame or none
pub record HasMore (old new : Machine) (k : Key) (frame : Option Frame) : Type 0 where
  pub memo : new.memo ≡ old.memo
  pub root : new.root ≡ old.root
  pub attribute : new.attribute ≡ old.attribute
  pub stack : new.stack.items ≡ old.stack.items ++ k ∷ []
  pub entered : new.entered ≡ old.entered + 1
  pub frames : new.frames.items ≡ old.frames.items ++ frame ∷ []

-- so it was, where none waited
pub record IsFirst (old new : Machine) (k : Key) : Type 0 where
  pub memo : new.memo ≡ old.memo
  pub root : new.root ≡ old.root
  pub attribute : new.attribute ≡ old.attribute
  pub stack : new.stack.items ≡ old.stack.items ++ k ∷ []
  pub entered : new.entered ≡ old.entered + 1
  pub frames : new.frames ≡ old.frames

-- the value of an attribute at a site is kept, and nothing else has changed
pub record IsAttributeSet (old new : Memo) (site x : ℕ) (v : Value) : Type 0 where
  pub whole : IsWhole new
  pub sites : new.sites ≡ old.sites
  pub trees : new.trees ≡ old.trees
  pub set : recall new site x ≡ Some v
  pub kept : (i other : ℕ) → (i ≢ site) ⊎ (other ≢ x) → recall new i other ≡ recall old i other

-- so is the tree of a site, which the value is
pub record IsTreeSet (old new : Memo) (site : ℕ) (v : Value) : Type 0 where
  pub id : TreeId
  pub is : v ≡ stored.Tree id
  pub sites : new.sites ≡ old.sites
  pub slots : new.slots ≡ old.slots
  pub set : new.trees.items ≡ slice_set old.trees.items site (Some id)

-- the value of the instance of a key is kept
abbrev pub IsSet : Memo → Memo → Key → Value → Type 0
IsSet old new (key.Synthesized site x) v = IsAttributeSet old new site x v
IsSet old new (key.Inherited site x) v = IsAttributeSet old new site x v
IsSet old new (key.Tree site) v = IsTreeSet old new site v

-- the value is a tree
abbrev pub IsTree : Value → Type 0
IsTree v = (id : TreeId) × (v ≡ stored.Tree id)

-- it is where the key is that of a tree
abbrev pub IsFor : Key → Value → Type 0
IsFor (key.Tree site) v = IsTree v
IsFor other v = Unit {0}

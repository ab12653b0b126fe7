-- The instances that wait where an evaluation ends without a value: each reads the next one, and the evaluation ended in the last.
use Rattle.std.specs.List.{AllZip}
use Rattle.std.specs.Prelude.{◌≡◌, ◌≤◌, ◌<◌, ℕ, List, [], ◌∷◌, Some, length, slice_get}
use Rattle.wb_operations.specs.Operations.{Operations}
use Rattle.wb_values.specs.declared.value.TreeId.{TreeId}
use Rattle.wb_values.specs.Tree.{Tree}
use Rattle.wb_values.specs.ValuesIn.{tree_in}
use Rattle.wb_flow_theory.specs.Vertices.{Made, made}
use Rattle.wb_syntax_resolved.specs.declared.attribution.AttributionParts.{AttributionParts}
use Rattle.wb_eval_theory.specs.Answers.{IsNodeAt}
use Rattle.wb_eval_theory.specs.Instances.{Path, root, down, Instance, synthesized_at, inherited_at, tree_at, home}
use Rattle.wb_eval_theory.specs.Needed.{Comes, ReadsNext, NeedsMoreThan}
use Rattle.wb_eval_theory.specs.Walks.{fault, done, walk_of}
use Rattle.wb_eval_memo.specs.Memos.{count, path_in, IsWhole}
use Rattle.wb_eval_memo.specs.declared.memo.Memo.{Memo}
use Rattle.wb_eval.specs.Evaluates.{IsWithin}
use Rattle.wb_eval.specs.declared.halt.Halt.{Halt}
use Rattle.wb_eval.specs.declared.halt.Halt.TheVariants as halt
use Rattle.wb_eval.specs.declared.machine.Key.{Key}
use Rattle.wb_eval.specs.declared.machine.Key.TheVariants as key

-- the key is that of the instance, by the path of a site that is there
abbrev pub IsKeyOf : Memo → Key → Instance → Type 0
IsKeyOf m (key.Synthesized site x) i = (site ≤ count m) × (i ≡ synthesized_at (path_in m site) x)
IsKeyOf m (key.Inherited site x) i = (site ≤ count m) × (i ≡ inherited_at (path_in m site) x)
IsKeyOf m (key.Tree site) i = (site ≤ count m) × ((q : Path) × (k : Made) × (path_in m site ≡ down q (made k)) × (i ≡ tree_at q k))

module _ (a : AttributionParts) (operations : Operations) (top : Tree) where
  -- from the first instance over these to the last, each reads the next one, after reads that all have values
  pub data Chain : Instance → List Instance → Instance → Type 0 where
    alone : {i : Instance} → Chain i [] i
    reads : {i r last : Instance} {rest : List Instance} → ReadsNext a operations top i r → Chain r rest last → Chain i (r ∷ rest) last

  -- an operation of the instance's own expression fails so, and all that was read before it has values
  pub record FailsItself (i : Instance) (operation code : ℕ) : Type 0 where
    pub at : Tree
    pub is_node : IsNodeAt a operations top (home i) at
    pub comes : Comes a operations top (walk_of operations a i at) (done (fault operation code))

  module _ (attribute steps : ℕ) where
    -- the evaluation ends in the instance for this reason
    abbrev pub EndsIn : Instance → Halt → Type 0
    EndsIn last (halt.Fault operation code) = FailsItself last operation code × IsWithin a operations top attribute steps
    EndsIn last halt.MoreSteps = NeedsMoreThan a operations top (synthesized_at root attribute) steps

    -- the keys are those of a chain of reads from the instance that is asked to the one in which the evaluation ends, and each tree of the
    -- memo is the node of its site's path
    pub record IsWaiting (trees : List Tree) (memo : Memo) (keys : List Key) (why : Halt) : Type 0 where
      pub rest : List Instance
      pub last : Instance
      pub chain : Chain (synthesized_at root attribute) rest last
      pub named : AllZip (IsKeyOf memo) keys (synthesized_at root attribute ∷ rest)
      pub ends : EndsIn last why
      pub whole : IsWhole memo
      pub inside : (site : ℕ) (id : TreeId) → slice_get memo.trees.items site ≡ Some (Some id) → id.0 < length trees
      pub nodes : (site : ℕ) (id : TreeId) → slice_get memo.trees.items site ≡ Some (Some id)
          → IsNodeAt a operations top (path_in memo site) (tree_in trees id.0)

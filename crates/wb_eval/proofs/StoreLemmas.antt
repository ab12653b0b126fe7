-- An evaluation over a store that has more trees.
use Rattle.std.proofs.Common.{◌≡◌, ◌∙◌, ◌++◌, List, length, refl, sym, ap}
use Rattle.std.proofs.Common.{subst, arith}
use Rattle.std.proofs.Common.{length-append}
use Rattle.std.proofs.lemmas.List.{get_or_append_left}
use Rattle.wb_operations.specs.Operations.{Operations}
use Rattle.wb_syntax_resolved.specs.declared.attribution.AttributionParts.{AttributionParts}
use Rattle.wb_values.specs.declared.value.TreeId.{TreeId}
use Rattle.wb_values.specs.declared.value.Value.{Value}
use Rattle.wb_values.specs.declared.value.Value.TheVariants as stored
use Rattle.wb_values.specs.Tree.{Tree, node, empty, tree}
use Rattle.wb_values.specs.ValuesIn.{value_in, IsIn}
use Rattle.wb_eval_theory.specs.Answers.{IsNodeAt, HasAnswer}
use Rattle.wb_eval_theory.specs.Instances.{Path, Instance, synthesized_at, inherited_at}
use Rattle.wb_eval_theory.specs.Walks.{value, Walk}
use Rattle.wb_eval.proofs.FrameLemmas.{more_waits}
use Rattle.wb_eval.specs.Inner.Machines.{IsValueOf, IsNode}
use Rattle.wb_eval.specs.Inner.Machines.{IsMachine, Runs}
use Rattle.wb_eval_memo.specs.Memos.{path_in}
use Rattle.wb_eval.specs.declared.machine.Machine.{Machine}

module _ (a : AttributionParts) (operations : Operations) (trees : List Tree) where
  -- values are the same
  pub value_more : (more : List Tree) (v : Value) → IsIn (length trees) v → value_in (trees ++ more) v ≡ value_in trees v
  value_more more (stored.Int z) inside = refl
  value_more more (stored.Bool b) inside = refl
  value_more more (stored.Text t) inside = refl
  value_more more (stored.Tree id) inside = ap tree (get_or_append_left trees more (node 0 empty) id.0 inside)

  pub still_in : (more : List Tree) (v : Value) → IsIn (length trees) v → IsIn (length (trees ++ more)) v
  still_in more (stored.Int z) inside = tt
  still_in more (stored.Bool b) inside = tt
  still_in more (stored.Text t) inside = tt
  still_in more (stored.Tree id) inside = let l = length-append trees more in omega (arith, l, inside)

  -- trees are added to the store
  module _ (more : List Tree) where
    pub more_node : (top : Tree) (q : Path) (id : TreeId) → IsNode a operations trees top q id
        → IsNode a operations (trees ++ more) top q id
    more_node top q id n = record {
      inside = let l = length-append trees more in let i = n.inside in omega (arith, l, i);
      is_node = subst (IsNodeAt a operations top q) (sym (get_or_append_left trees more (node 0 empty) id.0 n.inside)) n.is_node;
    }

    pub more_value : (top : Tree) (all : List Instance) (i : Instance) (v : Value) → IsValueOf a operations trees top all i v
        → IsValueOf a operations (trees ++ more) top all i v
    more_value top all i v h = record {
      answers = subst (λ (z : Rattle.wb_values.specs.Tree.Value). HasAnswer a operations top i (value z))
          (sym (value_more more v h.inside)) h.answers;
      inside = still_in more v h.inside;
      entered = h.entered;
    }

    abbrev pub more_machine : (under : List Value) (m : Machine) → IsMachine a operations trees under m
        → IsMachine a operations (trees ++ more) under m
    more_machine under m r = record {
      top = r.top;
      root_inside = let l = length-append trees more in let i = r.root_inside in omega (arith, l, i);
      root_is = get_or_append_left trees more (node 0 empty) m.root.0 r.root_inside ∙ r.root_is;
      evaluable = r.evaluable;
      asked = r.asked;
      all = r.all;
      this = r.this;
      waiting = r.waiting;
      state = r.state;
      counted = r.counted;
      memo = record {
        whole = r.memo.whole;
        nodes = λ i id has. more_node r.top (path_in m.memo i) id (r.memo.nodes i id has);
        made_trees = r.memo.made_trees;
        child_trees = r.memo.child_trees;
        root_tree = r.memo.root_tree;
        parents = r.memo.parents;
        synthesized = λ i x v le goes has. more_value r.top r.all (synthesized_at (path_in m.memo i) x) v
            (r.memo.synthesized i x v le goes has);
        inherited = λ i x v le goes has. more_value r.top r.all (inherited_at (path_in m.memo i) x) v (r.memo.inherited i x v le goes has);
      };
      complete = r.complete;
      stack = r.stack;
      waits = r.waits;
      frames = r.frames;
      piled_is = r.piled_is;
      suspended = more_waits a operations trees r.top m.attribute r.all more m.memo m.stack.items r.waits r.suspended
          (λ i id has. (r.memo.nodes i id has).inside);
    }

    pub more_runs : (under : List Value) (m : Machine) (w : Walk) → Runs a operations trees under m w → Runs a operations (trees ++ more) under m w
    more_runs under m w runs = record { machine = more_machine under m runs.machine; come = runs.come }

-- How an evaluation ends, and how far it is from its end.
use Rattle.std.proofs.Common.{get_or, ◌≡◌, ◌∙◌, ◌≤◌, ◌<◌, ◌+◌, ◌*◌, ◌-◌, ℕ, List, [], ◌∷◌, Option, Some, None, length, refl, sym, ap}
use Rattle.std.proofs.Common.{subst, arith}
use Rattle.std.proofs.lemmas.List.{get_or_append_left, length-append, length-take-le}
use Rattle.std.proofs.lemmas.Option.{slice_get_within}
use Rattle.wb_operations.specs.Operations.{Operations}
use Rattle.wb_syntax_resolved.specs.declared.attribution.AttributionParts.{AttributionParts}
use Rattle.wb_values.specs.declared.value.TreeId.{TreeId}
use Rattle.wb_values.specs.declared.value.Value.{Value}
use Rattle.wb_values.specs.Tree.{Tree, node, empty}
use Rattle.wb_values.specs.ValuesIn.{tree_in, value_in, IsIn}
use Rattle.wb_eval_theory.specs.Instances.{Instance}
use Rattle.wb_eval_theory.specs.Needed.{IsNeeded, itself, NeedsMoreThan}
use Rattle.wb_eval_theory.specs.Walks.{done, value}
use Rattle.wb_eval.proofs.BackLemmas.{back}
use Rattle.wb_eval.proofs.LeaveLemmas.{named_length}
use Rattle.wb_eval.proofs.StartLemmas.{stack_some}
use Rattle.wb_eval.proofs.StepLemmas.{entered}
use Rattle.wb_eval.proofs.MachineLemmas.{ends_value, ends_faulted, too_many, not_more}
use Rattle.wb_eval.specs.declared.evaluated.Evaluated.{Evaluated}
use Rattle.wb_eval.specs.declared.evaluated.Evaluated.TheVariants as evaluated
use Rattle.wb_eval.specs.declared.machine.Key.{Key}
use Rattle.wb_eval.specs.declared.machine.Machine.{Machine}
use Rattle.wb_eval.specs.Evaluates.{IsValue, IsFault, AsksMore}
use Rattle.wb_eval.specs.Inner.Answering.{turns_left, GoesOn, IsAnswered, IsTurned, IsLeftWith}
use Rattle.wb_eval.specs.declared.frame.Frame.{Frame}
use Rattle.wb_eval.specs.declared.steps.Turn.{Turn}
use Rattle.wb_eval.specs.declared.steps.Turn.TheVariants as turn
use Rattle.wb_eval.specs.Inner.Machines.{IsMachine, IsBlank, IsSteady, HasMore, Runs, Wants}
use Rattle.wb_eval.specs.Inner.State.{IsState, start}
use Rattle.wb_eval.specs.Inner.Works.{IsExtended, Fails, IsFramed}

module _ (a : AttributionParts) (operations : Operations) (trees : List Tree) (m : Machine) where
  -- the value of the first instance
  pub answers_value : {under : List Value} (v : Value) (steps : ℕ) → Runs a operations trees under m (done (value (value_in trees v)))
      → IsIn (length trees) v
      → length m.stack.items ≡ 1 → m.entered ≤ steps → IsAnswered a operations trees m.root m.attribute steps (evaluated.Value v)
  answers_value {under} v steps runs inside one le = by_waiting r.waiting refl where
    r : IsMachine a operations trees under m
    r = runs.machine

    by_waiting : (w : List Instance) → r.waiting ≡ w → IsAnswered a operations trees m.root m.attribute steps (evaluated.Value v)
    by_waiting (j ∷ js) is = absurd (let h = named_length m.memo m.stack.items [] (r.this ∷ r.waiting) r.stack in
        let l = ap length is in omega (arith, h, one, l))
    by_waiting [] is =
        let (answer, all_needed) = ends_value a operations r.top m.attribute
        (subst (IsState a operations r.top m.attribute r.all r.this) is r.state) runs.come in
        let count = r.counted in
        let within = not_more a operations r.top m.attribute r.all steps all_needed (omega (arith, count, le)) in
        record {
          value = subst (λ (t : Tree). IsValue a operations t m.attribute steps trees (evaluated.Value v)) (sym r.root_is)
              (answer, inside, within);
          fault = record {};
          more = record {};
        }

  -- a fault is that of the first instance
  pub answers_fault : (operation code steps : ℕ) → Fails a operations trees m operation code → m.entered ≤ steps
      → IsAnswered a operations trees m.root m.attribute steps (evaluated.Fault operation code)
  answers_fault operation code steps fails le =
      let runs = fails.runs in
      let r = runs.machine in
      let (answer, all_needed) = ends_faulted a operations r.top m.attribute r.state runs.come in
      let count = r.counted in
      let within = not_more a operations r.top m.attribute r.all steps all_needed (omega (arith, count, le)) in
      record {
        value = record {};
        fault = subst (λ (t : Tree). IsFault a operations t m.attribute steps (evaluated.Fault operation code)) (sym r.root_is)
            (answer, within);
        more = record {};
      }

  -- one more is needed than there are steps
  pub answers_more : {under : List Value} (k : Key) (steps : ℕ) → Wants a operations trees under m k → steps ≤ m.entered
      → IsAnswered a operations trees m.root m.attribute steps evaluated.MoreSteps
  answers_more k steps w le =
      let r = w.runs.machine in
      let count = r.counted in
      let more = too_many a operations r.top m.attribute steps r.state w.runs.come w.fresh (omega (arith, count, le)) in
      record {
        value = record {};
        fault = record {};
        more = subst (λ (t : Tree). NeedsMoreThan a operations t (start a operations t m.attribute) steps) (sym r.root_is) more;
      }

-- another machine that asks the same
pub answered_before : (a : AttributionParts) (operations : Operations) (trees : List Tree) (old m : Machine) (steps : ℕ) (e : Evaluated)
    → m.root ≡ old.root → m.attribute ≡ old.attribute → IsAnswered a operations trees m.root m.attribute steps e
    → IsAnswered a operations trees old.root old.attribute steps e
answered_before a operations trees old m steps e root_is attribute_is h =
    subst (λ (y : ℕ). IsAnswered a operations trees old.root y steps e) attribute_is
    (subst (λ (id : TreeId). IsAnswered a operations trees id m.attribute steps e) root_is h)

pub answered_as : {a : AttributionParts} {operations : Operations} {trees : List Tree} (m : Machine) (id : TreeId) (y steps : ℕ)
    (e : Evaluated) → IsBlank id y m → IsAnswered a operations trees m.root m.attribute steps e → IsAnswered a operations trees id y steps e
answered_as {a} {operations} {trees} m id y steps e blank h =
    subst (λ (z : ℕ). IsAnswered a operations trees id z steps e) blank.attribute_is
    (subst (λ (i : TreeId). IsAnswered a operations trees i m.attribute steps e) blank.root_is h)

-- as much is left to do at a machine with the same instances
pub turns_same : (steps : ℕ) (old m : Machine) → IsSteady old m → turns_left steps m ≡ turns_left steps old
turns_same steps old m steady =
    ap (λ (n : ℕ). 2 * (steps - n) + length m.stack.items) steady.same.entered
    ∙ ap (λ s. 2 * (steps - old.entered) + length s.items) steady.same.stack

module _ (a : AttributionParts) (operations : Operations) (trees : List Tree) (m new : Machine) (steps : ℕ) where
  -- after the instance at work has its value
  pub left_turned : (before after : List Value) (v : Value) → m.entered ≤ steps
      → Runs a operations trees before m (done (value (value_in trees v))) → IsIn (length trees) v
      → (r : Turn) → IsLeftWith m new before after v r → IsTurned a operations trees m new after steps r
  left_turned before after v le runs inside (turn.Goes frame) (popped, others) =
      let some = stack_some runs.machine in
      let more : 1 < length m.stack.items = omega (arith, some, others) in
      let stack = ap length popped.stack ∙ length-take-le (length m.stack.items - 1) m.stack.items (omega arith) in
      let count_is = popped.entered in
      record {
        turn = back a operations trees m v runs inside new frame after popped more;
        root = popped.root;
        attribute = popped.attribute;
        within = omega (arith, count_is, le);
        less = let d : steps - new.entered ≡ steps - m.entered = ap (λ n. steps - n) count_is in
            let h = ap (λ n. 2 * n) d in omega (arith, h, stack, more);
      }
  left_turned before after v le runs inside (turn.Over e) (is, one) =
      subst (IsAnswered a operations trees m.root m.attribute steps) (sym is)
      (answers_value a operations trees m v steps runs inside one le)

  -- after one is entered that it reads
  pub entered_turned : (k : Key) (frame : Option Frame) (values : List Value) → IsFramed a operations trees m values k frame
      → HasMore m new k frame → m.entered < steps → GoesOn a operations trees m new values steps None
  entered_turned k frame values framed h lt =
      let whole = entered a operations trees m k new frame values framed h.memo h.root h.attribute h.stack h.entered h.frames in
      let count = length-append m.stack.items (k ∷ []) in
      let more = ap length h.stack in
      let count_is = h.entered in
      record {
        turn = whole;
        root = h.root;
        attribute = h.attribute;
        within = omega (arith, count_is, lt);
        less = omega (arith, count_is, count, more, lt);
      }

  -- where no more are entered
  pub framed_more : (k : Key) (frame : Option Frame) (values : List Value) → IsFramed a operations trees m values k frame
      → steps ≤ m.entered → IsAnswered a operations trees m.root m.attribute steps evaluated.MoreSteps
  framed_more k None values wants le = answers_more a operations trees m k steps wants le
  framed_more k (Some f) values parks le = answers_more a operations trees m k steps parks.wants le

-- the tree of the root in a store with more
pub root_extended : (first second : List Tree) (id : ℕ) → IsExtended first second → id < length first → tree_in second id ≡ tree_in first id
root_extended first second id (more, is) lt =
    ap (λ (l : List Tree). tree_in l id) is ∙ get_or_append_left first more (node 0 empty) id lt

-- what it asks of the first store
pub answered_at : (a b : AttributionParts) → a ≡ b → (operations : Operations) (first trees : List Tree) (id : TreeId) (y steps : ℕ)
    (e : Evaluated) → IsExtended first trees → id.0 < length first → IsAnswered a operations trees id y steps e
    → IsValue b operations (tree_in first id.0) y steps trees e × IsFault b operations (tree_in first id.0) y steps e
    × AsksMore b operations (tree_in first id.0) y steps e
answered_at a b same operations first trees id y steps e extended lt h = (
  at_first (λ (c : AttributionParts) (t : Tree). IsValue c operations t y steps trees e) h.value,
  at_first (λ (c : AttributionParts) (t : Tree). IsFault c operations t y steps e) h.fault,
  at_first (λ (c : AttributionParts) (t : Tree). AsksMore c operations t y steps e) h.more,
) where
  at_first : (P : AttributionParts → Tree → Type 0) → P a (tree_in trees id.0) → P b (tree_in first id.0)
  at_first P p =
      subst (λ (c : AttributionParts). P c (tree_in first id.0)) same (subst (P a) (root_extended first trees id.0 extended lt) p)

-- one instance is needed at least, the one that is asked
pub needs_first : (a : AttributionParts) (operations : Operations) (top : Tree) (y : ℕ)
    → NeedsMoreThan a operations top (start a operations top y) 0
needs_first a operations top y = record {
  members = start a operations top y ∷ [];
  count = omega arith;
  different = λ x i j at there. let p = slice_get_within (start a operations top y ∷ []) i x at in
      let r = slice_get_within (start a operations top y ∷ []) j x there in omega (arith, p, r);
  needed = λ k d lt. let k_is : k ≡ 0 = omega (arith, lt) in
      subst (λ (n : ℕ). IsNeeded a operations top (start a operations top y) (get_or (start a operations top y ∷ []) n d))
      (sym k_is) itself;
}

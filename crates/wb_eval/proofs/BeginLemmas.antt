-- What an evaluation begins with.
use Rattle.std.proofs.Common.{◌≡◌, ◌∙◌, ◌≤◌, ◌<◌, ◌+◌, ◌++◌, inl, ℕ, zero, suc, List, [], ◌∷◌, Some, None, length, refl, sym, ap, subst}
use Rattle.std.proofs.Common.{slice_get, arith}
use Rattle.std.proofs.lemmas.Option.{slice_get_within}
use Rattle.wb_flow_theory.specs.Vertices.{child, made}
use Rattle.wb_operations.specs.Operations.{Operations}
use Rattle.wb_syntax_resolved.specs.declared.attribution.AttributionParts.{AttributionParts}
use Rattle.wb_values.specs.declared.value.TreeId.{TreeId}
use Rattle.wb_values.specs.Tree.{Tree}
use Rattle.wb_values.specs.ValuesIn.{tree_in}
use Rattle.wb_eval_theory.specs.Answers.{at_root}
use Rattle.wb_eval_theory.specs.Evaluable.{IsEvaluable, IsAsked}
use Rattle.wb_eval_theory.specs.Instances.{Path, root, down, synthesized_at}
use Rattle.wb_eval.proofs.MachineLemmas.{begins}
use Rattle.wb_eval_memo.proofs.SitesLemmas.{root_path}
use Rattle.wb_eval.specs.Inner.Answering.{IsAhead}
use Rattle.wb_eval.specs.Inner.Machines.{HasTree, AreNamed, IsNode, IsMachine, IsBlank, IsFresh, IsFirst}
use Rattle.wb_eval_memo.specs.Memos.{count, path_in, recall, IsWhole}
use Rattle.wb_eval.specs.Inner.Piles.{Wait, AreWaits}
use Rattle.wb_lemmas.proofs.Places.{nothing_at}
use Rattle.wb_eval.specs.Inner.State.{start}
use Rattle.wb_eval.specs.declared.machine.Key.TheVariants as key
use Rattle.wb_eval.specs.declared.machine.Machine.{Machine}
use Rattle.wb_eval_memo.specs.declared.memo.Memo.{Memo}

module _ (a : AttributionParts) (operations : Operations) (trees : List Tree) (m : Machine) (evaluable : IsEvaluable a operations)
    (inside : m.root.0 < length trees) (asked : IsAsked a (tree_in trees m.root.0) m.attribute) (whole : IsWhole m.memo)
    (origins : m.memo.sites.origins.items ≡ []) (its_trees : m.memo.trees.items ≡ Some m.root ∷ []) (values : (i x : ℕ)
    → recall m.memo i x ≡ None)
    (stack : m.stack.items ≡ key.Synthesized 0 m.attribute ∷ []) (frames : m.frames.items ≡ [])
    (entered : m.entered ≡ 1) where
  no_sites : count m.memo ≡ 0
  no_sites = ap length origins

  root_here : path_in m.memo 0 ≡ root
  root_here = root_path m.memo.sites.origins.items

  only_root : (i : ℕ) (id : TreeId) → HasTree m.memo i id → (i ≡ 0) × (id ≡ m.root)
  only_root zero id has = (refl, let h = sym (ap (λ ts. slice_get ts 0) its_trees) ∙ has in cc h)
  only_root (suc i) id has = absurd (let h = sym (ap (λ ts. slice_get ts (suc i)) its_trees) ∙ has in cc h)

  no_value : (i x : ℕ) (w : _) → recall m.memo i x ≡ Some w → ⊥
  no_value i x w has = let h = sym (values i x) ∙ has in cc h

  below_root : (i : ℕ) (q : Path) (b : _) → i ≤ count m.memo → path_in m.memo i ≡ down q b → ⊥
  below_root zero q b le is = let h = sym root_here ∙ is in cc h
  below_root (suc i) q b le is = omega (arith, le, no_sites)

  no_wait : (i : ℕ) (f : Wait) → slice_get [] i ≡ Some (Some f) → ⊥
  no_wait i f has = nothing_at (Some f) i has

  pub begun : IsMachine a operations trees [] m
  begun = record {
    top = tree_in trees m.root.0;
    root_inside = inside;
    root_is = refl;
    evaluable = evaluable;
    asked = asked;
    all = start a operations (tree_in trees m.root.0) m.attribute ∷ [];
    this = start a operations (tree_in trees m.root.0) m.attribute;
    waiting = [];
    state = begins a operations (tree_in trees m.root.0) m.attribute evaluable asked;
    counted = entered;
    memo = record {
      whole = whole;
      nodes = λ i id has.
          let (e, f) = only_root i id has in
          subst (λ (z : ℕ). IsNode a operations trees (tree_in trees m.root.0) (path_in m.memo z) id) (sym e)
          (subst (λ (q : Path). IsNode a operations trees (tree_in trees m.root.0) q id) (sym root_here)
          (subst (λ (z : TreeId). IsNode a operations trees (tree_in trees m.root.0) root z) (sym f)
          (record { inside = inside; is_node = at_root })));
      made_trees = λ i id q k has path.
          let (e, f) = only_root i id has in
          absurd (below_root 0 q (made k) (omega arith) (ap (path_in m.memo) (sym e) ∙ path));
      child_trees = λ i q k le path. absurd (below_root i q (child k) le path);
      root_tree = (m.root, ap (λ ts. slice_get ts 0) its_trees);
      parents = λ k o is. absurd (let h = slice_get_within m.memo.sites.origins.items k o is in let l = no_sites in omega (arith, h, l));
      synthesized = λ i x w le goes has. absurd (no_value i x w has);
      inherited = λ i x w le goes has. absurd (no_value i x w has);
    };
    complete = λ r has. inl has;
    stack = subst (λ ks. AreNamed m.memo ks [] (start a operations (tree_in trees m.root.0) m.attribute ∷ [])) (sym stack)
        (omega arith, ap (λ (q : Path). synthesized_at q m.attribute ∷ []) (sym root_here));
    waits = [];
    frames = subst (λ fs. AreWaits fs []) (sym frames) tt;
    piled_is = refl;
    suspended = record {
      count = sym (ap length stack);
      each = λ i k l f at next has. absurd (no_wait i f has);
    };
  }

-- an attribute that can be evaluated, at a machine on which no instance was entered
pub fresh : {a : AttributionParts} {operations : Operations} {trees : List Tree} (m : Machine) (id : TreeId) (y : ℕ) → IsBlank id y m
    → IsEvaluable a operations → id.0 < length trees → IsAsked a (tree_in trees id.0) y → IsFresh a operations trees m
fresh {a} {operations} {trees} m id y blank evaluable inside asked = record {
  evaluable = evaluable;
  inside = subst (λ (i : TreeId). i.0 < length trees) (sym blank.root_is) inside;
  asked = subst (IsAsked a (tree_in trees m.root.0)) (sym blank.attribute_is)
      (subst (λ (i : TreeId). IsAsked a (tree_in trees i.0) y) (sym blank.root_is) asked);
  blank = subst (λ (z : ℕ). IsBlank m.root z m) (sym blank.attribute_is) (subst (λ (i : TreeId). IsBlank i y m) (sym blank.root_is) blank);
}

-- it was entered
pub begun_ahead : {a : AttributionParts} {operations : Operations} {trees : List Tree} (old m : Machine) → IsFresh a operations trees old
    → IsFirst old m (key.Synthesized 0 old.attribute) → IsAhead a operations trees old m
begun_ahead {a} {operations} {trees} old m f more =
    let b = f.blank in
    let stack : m.stack.items ≡ key.Synthesized 0 m.attribute ∷ [] =
    more.stack ∙ ap (λ ks. ks ++ key.Synthesized 0 old.attribute ∷ []) b.stack
    ∙ ap (λ (y : ℕ). key.Synthesized 0 y ∷ []) (sym more.attribute) in
    record {
      whole = begun a operations trees m f.evaluable (subst (λ (i : TreeId). i.0 < length trees) (sym more.root) f.inside)
          (subst (IsAsked a (tree_in trees m.root.0)) (sym more.attribute)
          (subst (λ (i : TreeId). IsAsked a (tree_in trees i.0) old.attribute) (sym more.root) f.asked))
          (subst IsWhole (sym more.memo) b.whole) (ap (λ (z : Memo). z.sites.origins.items) more.memo ∙ b.origins)
          (ap (λ (z : Memo). z.trees.items) more.memo ∙ b.its_trees ∙ ap (λ (i : TreeId). Some i ∷ []) (sym more.root))
          (λ i x. ap (λ (z : Memo). recall z i x) more.memo ∙ b.values i x) stack (ap (λ fs. fs.items) more.frames ∙ b.frames)
          (more.entered ∙ ap (λ n. n + 1) b.entered);
      root = more.root;
      attribute = more.attribute;
      entered = more.entered;
      stack = ap length stack ∙ sym (ap (λ ks. suc (length ks)) b.stack);
    }

-- it is the first
pub first_within : {a : AttributionParts} {operations : Operations} {trees : List Tree} (old m : Machine) (steps : ℕ)
    → IsFresh a operations trees old → IsAhead a operations trees old m → 0 < steps → m.entered ≤ steps
first_within old m steps f ahead some = let one = ahead.entered in let none = f.blank.entered in omega (arith, one, none, some)

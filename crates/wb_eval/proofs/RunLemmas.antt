-- What an evaluation keeps as sites and trees are added, and what its memo says of what is read.
use Rattle.std.proofs.Common.{◌≡◌, ◌∙◌, ◌≤◌, ◌<◌, inl, inr, ℕ, List, [], ◌∷◌, Option, Some, None, length, refl, sym, ap}
use Rattle.std.proofs.Common.{subst, arith}
use Rattle.std.proofs.Common.{slice_get, Contains}
use Rattle.std.proofs.lemmas.Bool.{cases_lt}
use Rattle.std.proofs.lemmas.Option.{slice_get_within, same_Some}
use Rattle.wb_lemmas.proofs.Members.{contains_first}
use Rattle.wb_flow_theory.specs.Occurrences.{Goes}
use Rattle.wb_flow_theory.specs.Vertices.{Made, child, made}
use Rattle.wb_operations.specs.Operations.{Operations}
use Rattle.wb_syntax_resolved.specs.declared.attributes.Direction.TheVariants.{Synthesized, Inherited}
use Rattle.wb_syntax_resolved.specs.declared.attribution.AttributionParts.{AttributionParts}
use Rattle.wb_values.specs.declared.value.TreeId.{TreeId}
use Rattle.wb_values.specs.declared.value.Value.{Value}
use Rattle.wb_values.specs.declared.value.Value.TheVariants as stored
use Rattle.wb_values.specs.Tree.{Tree, node, empty, tree}
use Rattle.wb_values.specs.Tree as t
use Rattle.wb_values.specs.ValuesIn.{tree_in, value_in, IsIn}
use Rattle.wb_eval_theory.proofs.LawLemmas.{setting_of}
use Rattle.wb_eval_theory.proofs.DefinedLemmas.{needed_there}
use Rattle.wb_eval_theory.proofs.ReadLemmas.{IsThere}
use Rattle.wb_eval_theory.proofs.Settings.{Setting}
use Rattle.wb_eval_theory.specs.Answers.{IsNodeAt, at_made, HasAnswer}
use Rattle.wb_eval_theory.specs.Instances.{Path, root, down, Instance, synthesized_at, inherited_at, tree_at}
use Rattle.wb_eval_theory.specs.Needed.{next}
use Rattle.wb_eval_theory.specs.Walks.{value, Walk, read}
use Rattle.wb_eval.proofs.FrameLemmas.{waits_moved}
use Rattle.wb_eval.proofs.MachineLemmas.{never_waiting, goes_on, reads_here}
use Rattle.wb_eval_memo.proofs.MemoLemmas.{nothing_past}
use Rattle.wb_eval_memo.proofs.SitesLemmas.{one_site}
use Rattle.wb_eval.specs.Inner.Machines.{HasTree, tree_named, named, IsKey, AreNamed, tree_value, known, IsRecalled, IsValueOf, IsNode}
use Rattle.wb_eval.specs.Inner.Machines.{IsMemo, Runs, with_memo}
use Rattle.wb_eval_memo.specs.Memos.{count, path_in, recall, IsWhole, IsGrown, IsBelow}
use Rattle.wb_eval_memo.specs.Sites.{step_of}
use Rattle.wb_eval.specs.declared.machine.Key.{Key}
use Rattle.wb_eval.specs.declared.machine.Key.TheVariants as key
use Rattle.wb_eval.specs.declared.machine.Machine.{Machine}
use Rattle.wb_eval_memo.specs.declared.memo.Memo.{Memo}
use Rattle.wb_eval_memo.specs.declared.sites.Step.{Step}

-- nothing is known of a site that isn't there
none_past : (m : Memo) (i x : ℕ) → IsWhole m → count m < i → recall m i x ≡ None
none_past = nothing_past

module _ (a : AttributionParts) (operations : Operations) (trees : List Tree) where
  abbrev pub Runs_ : List Value → Machine → Walk → Type 0
  Runs_ = Runs a operations trees

  -- the tree that a new site is given is the child's, and one that an expression makes has none yet
  pub record IsGiven (top : Tree) (q : Path) (step : Step) (its_tree : Option TreeId) : Type 0 where
    pub child_node : (id : TreeId) → its_tree ≡ Some id → (k : ℕ) × (step_of step ≡ child k)
        × IsNode a operations trees top (down q (child k)) id
    pub child_has : (k : ℕ) → step_of step ≡ child k → (id : TreeId) × (its_tree ≡ Some id)

  module _ (old new : Memo) (parent site : ℕ) (step : Step) (its_tree : Option TreeId) (top : Tree) (all : List Instance)
      (is : IsMemo a operations trees top all old) (whole : IsWhole new) (grown : IsGrown old new)
      (below : IsBelow old new parent step its_tree site)
      (there : parent ≤ count old) (parent_has : (id : TreeId) × HasTree old parent id)
      (given : count old < count new → IsGiven top (path_in old parent) step its_tree) where
    within : (i : ℕ) (id : TreeId) → HasTree new i id → i ≤ count new
    within i id has = let lt = slice_get_within new.trees.items i (Some id) has in let t = whole.trees in omega (arith, lt, t)

    -- of an old site, or of a new one
    by_site : (P : ℕ → Type 0) (i : ℕ) → i ≤ count new → (i ≤ count old → P i)
        → (count old < i → (slice_get new.trees.items i ≡ Some its_tree) → (path_in new i ≡ down (path_in old parent) (step_of step)) → P i)
        → P i
    by_site P i le before after = elim (cases_lt (count old) i) [
      | inl lt ↦ let (t, p) = below.fresh i lt le in after lt t p
      | inr ge ↦ before (omega (arith, ge))
    ]

    old_tree : (i : ℕ) (id : TreeId) → i ≤ count old → HasTree new i id → HasTree old i id
    old_tree i id le has = sym (grown.trees i le) ∙ has

    new_tree : (i : ℕ) (id : TreeId) → i ≤ count old → HasTree old i id → HasTree new i id
    new_tree i id le has = grown.trees i le ∙ has

    in_old : (i : ℕ) (id : TreeId) → HasTree old i id → i ≤ count old
    in_old i id has = let lt = slice_get_within old.trees.items i (Some id) has in let t = is.whole.trees in omega (arith, lt, t)

    grown_value : (i x : ℕ) (v : Value) (instance : Path → Instance) → i ≤ count new → recall new i x ≡ Some v
        → (i ≤ count old → recall old i x ≡ Some v → IsValueOf a operations trees top all (instance (path_in old i)) v)
        → IsValueOf a operations trees top all (instance (path_in new i)) v
    grown_value i x v instance le has old_one = by_site (λ i. recall old i x ≡ Some v → (i ≤ count old → recall old i x ≡ Some v
        → IsValueOf a operations trees top all (instance (path_in old i)) v)
        → IsValueOf a operations trees top all (instance (path_in new i)) v) i le
        (λ before got f. subst (λ (q : Path). IsValueOf a operations trees top all (instance q) v) (sym (grown.paths i before))
        (f before got))
        (λ after t p got f. absurd (let n = none_past old i x is.whole after in let h = sym n ∙ got in cc h))
        (sym (grown.recalls i x) ∙ has) old_one

    pub grown_memo : IsMemo a operations trees top all new
    grown_memo = record {
      whole = whole;
      nodes = λ i id has. by_site (λ i. HasTree new i id → IsNode a operations trees top (path_in new i) id) i (within i id has)
          (λ le h. subst (λ (q : Path). IsNode a operations trees top q id) (sym (grown.paths i le)) (is.nodes i id (old_tree i id le h)))
          (λ lt t p h.
          let same : its_tree ≡ Some id = same_Some its_tree (Some id) (sym t ∙ h) in
          let (k, step_is, is_node) = (given (let w = within i id has in omega (arith, lt, w))).child_node id same in
          subst (λ (q : Path). IsNode a operations trees top q id)
          (ap (down (path_in old parent)) (sym step_is) ∙ sym p) is_node) has;
      made_trees = λ i id q k has path. by_site (λ i. HasTree new i id → path_in new i ≡ down q (made k) → Contains all (tree_at q k)) i
          (within i id has)
          (λ le h e. is.made_trees i id q k (old_tree i id le h) (sym (grown.paths i le) ∙ e))
          (λ lt t p h e.
          let same : its_tree ≡ Some id = same_Some its_tree (Some id) (sym t ∙ h) in
          let (c, step_is, is_node) = (given (let w = within i id has in omega (arith, lt, w))).child_node id same in
          let g : down (path_in old parent) (child c) ≡ down q (made k) = ap (down (path_in old parent)) (sym step_is) ∙ sym p ∙ e in
          absurd (cc g)) has path;
      child_trees = λ i q k le path. by_site (λ i. path_in new i ≡ down q (child k) → (id : TreeId) × HasTree new i id) i le
          (λ before e. let (id, has) = is.child_trees i q k before (sym (grown.paths i before) ∙ e) in (id, new_tree i id before has))
          (λ lt t p e.
          let g : down (path_in old parent) (step_of step) ≡ down q (child k) = sym p ∙ e in
          let step_is : step_of step ≡ child k = cc g in
          let (id, has) = (given (omega (arith, lt, le))).child_has k step_is in (id, t ∙ ap Some has)) path;
      root_tree = let (id, has) = is.root_tree in (id, new_tree 0 id (omega arith) has);
      parents = λ k o at. elim (cases_lt k (count old)) [
        | inl lt ↦ let (id, has) = is.parents k o (grown.origins k o lt at) in (id, new_tree o.parent id (in_old o.parent id has) has)
        | inr ge ↦
            let (id, has) = parent_has in
            let e = below.from k o (omega (arith, ge)) at in
            (id, subst (λ (z : ℕ). HasTree new z id) (sym e) (new_tree parent id there has))
      ];
      synthesized = λ i x v le goes has. grown_value i x v (λ q. synthesized_at q x) le has
          (λ before got. is.synthesized i x v before goes got);
      inherited = λ i x v le goes has. grown_value i x v (λ q. inherited_at q x) le has (λ before got. is.inherited i x v before goes got);
    }

    pub grown_recalled : (r : Instance) → IsRecalled old r → IsRecalled new r
    grown_recalled (synthesized_at q x) (i, v, le, path, has) =
        (i, v, let m = grown.more in omega (arith, le, m), grown.paths i le ∙ path, grown.recalls i x ∙ has)
    grown_recalled (inherited_at q x) (i, v, le, path, has) =
        (i, v, let m = grown.more in omega (arith, le, m), grown.paths i le ∙ path, grown.recalls i x ∙ has)
    grown_recalled (tree_at q k) (i, id, le, path, has) =
        (i, id, let m = grown.more in omega (arith, le, m), grown.paths i le ∙ path, new_tree i id le has)

    pub grown_named : (k : Key) → IsKey old k → named new k ≡ named old k
    grown_named (key.Synthesized i x) le = ap (λ (q : Path). synthesized_at q x) (grown.paths i le)
    grown_named (key.Inherited i x) le = ap (λ (q : Path). inherited_at q x) (grown.paths i le)
    grown_named (key.Tree i) (le, rest) = ap tree_named (grown.paths i le)

    pub grown_key : (k : Key) → IsKey old k → IsKey new k
    grown_key (key.Synthesized i x) le = let m = grown.more in omega (arith, le, m)
    grown_key (key.Inherited i x) le = let m = grown.more in omega (arith, le, m)
    grown_key (key.Tree i) (le, (q, k, path)) = (let m = grown.more in omega (arith, le, m), (q, k, grown.paths i le ∙ path))

    pub grown_stack : (ks : List Key) (base is : List Instance) → AreNamed old ks base is → AreNamed new ks base is
    grown_stack [] base is h = h
    grown_stack (k ∷ ks) base is (key_is, rest) = (
      grown_key k key_is,
      subst (λ (i : Instance). AreNamed new ks (i ∷ base) is) (sym (grown_named k key_is))
          (grown_stack ks (named old k ∷ base) is rest),
    )

  -- a machine whose memo has grown
  pub grown_runs : {under : List Value} (m : Machine) (w : Walk) (new : Memo) (parent site : ℕ) (step : Step) (its_tree : Option TreeId)
      (runs : Runs_ under m w)
      → IsWhole new → IsGrown m.memo new → IsBelow m.memo new parent step its_tree site → parent ≤ count m.memo
      → (id : TreeId) × HasTree m.memo parent id
      → (count m.memo < count new → IsGiven runs.machine.top (path_in m.memo parent) step its_tree)
      → Runs_ under (with_memo m new) w
  grown_runs m w new parent site step its_tree runs whole grown below there has given =
      let r = runs.machine in
      record {
        machine = record {
          top = r.top;
          root_inside = r.root_inside;
          root_is = r.root_is;
          evaluable = r.evaluable;
          asked = r.asked;
          all = r.all;
          this = r.this;
          waiting = r.waiting;
          state = r.state;
          counted = r.counted;
          memo = grown_memo m.memo new parent site step its_tree r.top r.all r.memo whole grown below there has given;
          complete = λ i contains. elim (r.complete i contains) [
            | inl on_stack ↦ inl on_stack
            | inr recalled ↦ inr (grown_recalled m.memo new parent site step its_tree r.top r.all r.memo whole grown below there has given i
                recalled)
          ];
          stack = grown_stack m.memo new parent site step its_tree r.top r.all r.memo whole grown below there has given m.stack.items [] _
              r.stack;
          waits = r.waits;
          frames = r.frames;
          piled_is = r.piled_is;
          suspended = waits_moved a operations trees r.top m.attribute r.all m.memo new m.stack.items r.waits r.suspended grown.more
              grown.paths
              (λ i id le had. (id, grown.trees i le ∙ had, refl))
              (grown_key m.memo new parent site step its_tree r.top r.all r.memo whole grown below there has given)
              (grown_named m.memo new parent site step its_tree r.top r.all r.memo whole grown below there has given);
        };
        come = runs.come;
      }

  -- what is read is needed, so it is an attribute that goes its way
  pub reads_there : {under : List Value} (m : Machine) (i : Instance) (rest : t.Value → Walk) (runs : Runs_ under m (read i rest))
      → IsThere (setting_of a operations runs.machine.top runs.machine.asked.nonterminal runs.machine.evaluable runs.machine.asked.fits) i
  reads_there m i rest runs =
      let r = runs.machine in
      let s = setting_of a operations r.top r.asked.nonterminal r.evaluable r.asked.fits in
      let needed = r.state.needed r.this (r.state.has_this r.this (contains_first r.this r.waiting)) in
      needed_there s m.attribute r.asked (next needed (reads_here a operations r.top m.attribute runs.come))

  pub goes_synthesized : (s : Setting) (q : Path) (x : ℕ) → IsThere s (synthesized_at q x) → Goes s.attribution Synthesized x
  goes_synthesized s root x there = there.vertex.goes
  goes_synthesized s (down q b) x there = let (n, below, occurs) = there.vertex in occurs.goes

  pub goes_inherited : (s : Setting) (q : Path) (x : ℕ) → IsThere s (inherited_at q x) → Goes s.attribution Inherited x
  goes_inherited s root x there = there.vertex.goes
  goes_inherited s (down q b) x there = let (n, below, occurs) = there.vertex in occurs.goes

  -- the tree of a made site is the answer of its instance
  made_answer : (top : Tree) (q : Path) (k : Made) (t : Tree) → IsNodeAt a operations top (down q (made k)) t
      → HasAnswer a operations top (tree_at q k) (value (tree t))
  made_answer top q k t (at_made has) = has

  tree_id : (o : Option (Option TreeId)) (v : Value) → tree_value o ≡ Some v → (id : TreeId) × (o ≡ Some (Some id)) × (v ≡ stored.Tree id)
  tree_id None v is = absurd (cc is)
  tree_id (Some None) v is = absurd (cc is)
  tree_id (Some (Some id)) v is = (id, refl, cc is)

  pub value_known : {under : List Value} (m : Machine) (k : Key) (v : Value) (rest : t.Value → Walk)
      (runs : Runs_ under m (read (named m.memo k) rest)) → IsKey m.memo k
      → known m.memo k ≡ Some v → IsValueOf a operations trees runs.machine.top runs.machine.all (named m.memo k) v
  value_known m (key.Synthesized i x) v rest runs le is =
      let there = reads_there m (named m.memo (key.Synthesized i x)) rest runs in
      runs.machine.memo.synthesized i x v le (goes_synthesized _ (path_in m.memo i) x there) is
  value_known m (key.Inherited i x) v rest runs le is =
      let there = reads_there m (named m.memo (key.Inherited i x)) rest runs in
      runs.machine.memo.inherited i x v le (goes_inherited _ (path_in m.memo i) x there) is
  value_known m (key.Tree i) v rest runs (le, (q, k, path)) is =
      let r = runs.machine in
      let (id, has, v_is) = tree_id (slice_get m.memo.trees.items i) v is in
      let n = r.memo.nodes i id has in
      let at = subst (λ (z : Path). IsNodeAt a operations r.top z (tree_in trees id.0)) path n.is_node in
      subst (λ (z : Value). IsValueOf a operations trees r.top r.all (tree_named (path_in m.memo i)) z) (sym v_is)
      (subst (λ (z : Path). IsValueOf a operations trees r.top r.all (tree_named z) (stored.Tree id)) (sym path)
      (record {
        answers = made_answer r.top q k (tree_in trees id.0) at;
        inside = n.inside;
        entered = r.memo.made_trees i id q k has path;
      }))

  -- a value that is known is read
  pub runs_on : {under : List Value} (m : Machine) (k : Key) (v : Value) (rest : t.Value → Walk)
      → Runs_ under m (read (named m.memo k) rest) → IsKey m.memo k
      → known m.memo k ≡ Some v → Runs_ under m (rest (value_in trees v)) × IsIn (length trees) v
  runs_on m k v rest runs is_key is =
      let has = value_known m k v rest runs is_key is in (
        record { machine = runs.machine; come = goes_on a operations runs.machine.top m.attribute runs.come has.entered has.answers },
        has.inside,
      )

  not_recalled : (m : Memo) (k : Key) → IsWhole m → IsKey m k → known m k ≡ None → ¬ IsRecalled m (named m k)
  not_recalled m (key.Synthesized i x) whole le none (j, v, le_j, path, has) =
      let same = one_site m.sites whole.sites (path_in m i) i j le le_j refl path in
      let h = sym none ∙ subst (λ (z : ℕ). recall m z x ≡ Some v) (sym same) has in cc h
  not_recalled m (key.Inherited i x) whole le none (j, v, le_j, path, has) =
      let same = one_site m.sites whole.sites (path_in m i) i j le le_j refl path in
      let h = sym none ∙ subst (λ (z : ℕ). recall m z x ≡ Some v) (sym same) has in cc h
  not_recalled m (key.Tree i) whole (le, (q, k, path)) none recalled =
      by_tree (subst (λ (z : Path). IsRecalled m (tree_named z)) path recalled) where
        by_tree : IsRecalled m (tree_at q k) → ⊥
        by_tree (j, id, le_j, path_j, has) =
            let same = one_site m.sites whole.sites (down q (made k)) i j le le_j path path_j in
            let here = subst (λ (z : ℕ). HasTree m z id) (sym same) has in
            let h : tree_value (slice_get m.trees.items i) ≡ Some (stored.Tree id) = ap tree_value here in
            let g = sym none ∙ h in cc g

  -- what isn't known wasn't entered
  pub not_entered : {under : List Value} (m : Machine) (k : Key) (rest : t.Value → Walk) (runs : Runs_ under m (read (named m.memo k) rest))
      → IsKey m.memo k
      → known m.memo k ≡ None → ¬ Contains runs.machine.all (named m.memo k)
  not_entered m k rest runs is_key none has =
      let r = runs.machine in
      elim (r.complete (named m.memo k) has) [
        | inl waits ↦ never_waiting a operations r.top m.attribute r.evaluable r.asked r.state runs.come waits
        | inr recalled ↦ not_recalled m.memo k r.memo.whole is_key none recalled
      ]

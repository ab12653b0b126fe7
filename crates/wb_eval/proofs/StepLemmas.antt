-- What an evaluation keeps as it enters an instance and leaves it.
use Rattle.std.proofs.Common.{◌≡◌, ◌≢◌, ◌∙◌, ◌⊎◌, ◌<◌, ◌+◌, ◌-◌, ◌++◌, inl, inr, ℕ, suc, List, [], ◌∷◌, Option, Some, None, length}
use Rattle.std.proofs.Common.{refl, sym, ap, subst, arith, slice_get, Contains, take}
use Rattle.std.proofs.lemmas.Bool.{cases_eq}
use Rattle.std.proofs.lemmas.Option.{same_Some}
use Rattle.std.proofs.lemmas.List.{length-append}
use Rattle.wb_lemmas.proofs.Places.{at_within}
use Rattle.wb_lemmas.proofs.Members.{contains_first, contains_later, push_contains, contains_push}
use Rattle.wb_flow_theory.specs.Occurrences.{Goes}
use Rattle.wb_operations.specs.Operations.{Operations}
use Rattle.wb_syntax_resolved.specs.declared.attributes.Direction.TheVariants.{Synthesized, Inherited}
use Rattle.wb_syntax_resolved.specs.declared.attribution.AttributionParts.{AttributionParts}
use Rattle.wb_values.specs.declared.value.TreeId.{TreeId}
use Rattle.wb_values.specs.declared.value.Value.{Value}
use Rattle.wb_values.specs.Tree.{Tree}
use Rattle.wb_values.specs.ValuesIn.{tree_in, value_in, IsIn}
use Rattle.wb_eval_theory.proofs.DefinedLemmas.{needed_there}
use Rattle.wb_eval_theory.proofs.LawLemmas.{setting_of}
use Rattle.wb_eval_theory.proofs.ReadLemmas.{IsThere}
use Rattle.wb_eval_theory.specs.Evaluable.{IsAsked}
use Rattle.wb_eval_theory.specs.Instances.{Path, Instance, synthesized_at, inherited_at, tree_at}
use Rattle.wb_eval_theory.specs.Walks.{value, done}
use Rattle.wb_eval.proofs.FrameLemmas.{waits_entered, frames_more, piled_more, piled_none}
use Rattle.wb_eval.proofs.MachineLemmas.{enters, answers_here}
use Rattle.wb_eval.proofs.RunLemmas.{goes_synthesized, goes_inherited}
use Rattle.wb_eval.specs.Inner.Machines.{HasTree, tree_named, named, IsKey, AreNamed, IsRecalled, IsValueOf, IsNode, IsMemo, IsMachine}
use Rattle.wb_eval.specs.Inner.Machines.{Runs, Wants, AreSuspended, IsSuspended}
use Rattle.wb_eval_memo.specs.Memos.{count, path_in, recall, IsWhole}
use Rattle.wb_eval_memo.specs.Sites.{path_at, paths_of}
use Rattle.wb_eval.specs.Inner.Piles.{Wait, wait, piled, code_left, IsWaitOf, AreWaits}
use Rattle.wb_eval.specs.Inner.Works.{IsFramed}
use Rattle.wb_eval.specs.declared.frame.Frame.{Frame}
use Rattle.wb_eval.specs.Inner.State.{IsState}
use Rattle.wb_eval.specs.declared.machine.Key.{Key}
use Rattle.wb_eval.specs.declared.machine.Key.TheVariants as key
use Rattle.wb_eval.specs.declared.machine.Machine.{Machine}
use Rattle.wb_eval_memo.specs.declared.memo.Memo.{Memo}

-- keys that are pushed and popped
named_more : (m : Memo) (ks : List Key) (k : Key) (base is : List Instance) → AreNamed m ks base is → IsKey m k
    → AreNamed m (ks ++ k ∷ []) base (named m k ∷ is)
named_more m [] k base is same is_key = (is_key, ap (λ (l : List Instance). named m k ∷ l) same)
named_more m (j ∷ ks) k base is (is_j, rest) is_key = (is_j, named_more m ks k (named m j ∷ base) is rest is_key)

pub named_less : (m : Memo) (ks : List Key) (k : Key) (base is : List Instance) → AreNamed m (ks ++ k ∷ []) base is
    → IsKey m k × ((rest : List Instance) × (is ≡ named m k ∷ rest) × AreNamed m ks base rest)
named_less m [] k base is (is_key, same) = (is_key, (base, same, refl))
named_less m (j ∷ ks) k base is (is_j, rest) =
    let (is_key, (others, same, below)) = named_less m ks k (named m j ∷ base) is rest in (is_key, (others, same, (is_j, below)))

-- the last key is that of the instance at work
pub last_key : {X : Type 0} (xs : List X) (x : X) → slice_get xs (length xs - 1) ≡ Some x → take (length xs - 1) xs ++ x ∷ [] ≡ xs
last_key [] x at = absurd (cc at)
last_key (y ∷ []) x at = ap (λ z. z ∷ []) (sym (same_Some y x at))
last_key (y ∷ z ∷ xs) x at =
    let e : length (y ∷ z ∷ xs) - 1 ≡ suc (length (z ∷ xs) - 1) = omega arith in
    let at' : slice_get (z ∷ xs) (length (z ∷ xs) - 1) ≡ Some x = sym (ap (slice_get (y ∷ z ∷ xs)) e) ∙ at in
    ap (λ (n : ℕ). take n (y ∷ z ∷ xs) ++ x ∷ []) e ∙ ap (λ l. y ∷ l) (last_key (z ∷ xs) x at')

-- the last key is that of the instance at work
pub key_here : (a : AttributionParts) (operations : Operations) (trees : List Tree) {under : List Value} (m : Machine)
    (r : IsMachine a operations trees under m)
    (k : Key)
    → slice_get m.stack.items (length m.stack.items - 1) ≡ Some k → IsKey m.memo k × (r.this ≡ named m.memo k)
key_here a operations trees m r k at =
    let whole = last_key m.stack.items k at in
    let named_all = subst (λ (ks : List Key). AreNamed m.memo ks [] (r.this ∷ r.waiting)) (sym whole) r.stack in
    let (is_key, (rest, same, below)) = named_less m.memo (take (length m.stack.items - 1) m.stack.items) k []
    (r.this ∷ r.waiting) named_all in
    (is_key, cc same)

module _ (a : AttributionParts) (operations : Operations) (trees : List Tree) where
  -- another list of entered instances
  module _ (top : Tree) (all : List Instance) (r : Instance) where
    more_value : (i : Instance) (v : Value) → IsValueOf a operations trees top all i v
        → IsValueOf a operations trees top (all ++ r ∷ []) i v
    more_value i v h = record { answers = h.answers; inside = h.inside; entered = push_contains all r i h.entered }

    more_memo : (m : Memo) → IsMemo a operations trees top all m → IsMemo a operations trees top (all ++ r ∷ []) m
    more_memo m h = record {
      whole = h.whole;
      nodes = h.nodes;
      made_trees = λ i id q k has path. push_contains all r (tree_at q k) (h.made_trees i id q k has path);
      child_trees = h.child_trees;
      root_tree = h.root_tree;
      parents = h.parents;
      synthesized = λ i x v le goes has. more_value (synthesized_at (path_in m i) x) v (h.synthesized i x v le goes has);
      inherited = λ i x v le goes has. more_value (inherited_at (path_in m i) x) v (h.inherited i x v le goes has);
    }

  -- the instance at work reads one that wasn't entered, for which it waits by this frame
  entered_by : {under : List Value} (m : Machine) (k : Key) (new : Machine) (w : Wants a operations trees under m k) (frame : Option Frame)
      (its : Option Wait) (values : List Value) → IsWaitOf frame its → values ≡ piled (w.runs.machine.waits ++ its ∷ [])
      → ((v : Wait) → its ≡ Some v → IsSuspended a operations trees w.runs.machine.top m.attribute w.runs.machine.all m.memo
      w.runs.machine.this (named m.memo k) v.site v.code v.values)
      → new.memo ≡ m.memo → new.root ≡ m.root
      → new.attribute ≡ m.attribute → new.stack.items ≡ m.stack.items ++ k ∷ [] → new.entered ≡ m.entered + 1
      → new.frames.items ≡ m.frames.items ++ frame ∷ [] → IsMachine a operations trees values new
  entered_by m k new w frame its values of_frame values_are suspended memo root_is attribute stack count_is frames_are =
      let r = w.runs.machine in
      let i = named m.memo k in
      let e = enters a operations r.top m.attribute r.state w.runs.come w.fresh in
      record {
        top = r.top;
        root_inside = subst (λ (id : TreeId). id.0 < length trees) (sym root_is) r.root_inside;
        root_is = subst (λ (id : TreeId). tree_in trees id.0 ≡ r.top) (sym root_is) r.root_is;
        evaluable = r.evaluable;
        asked = subst (IsAsked a r.top) (sym attribute) r.asked;
        all = r.all ++ i ∷ [];
        this = i;
        waiting = r.this ∷ r.waiting;
        state = subst (λ (y : ℕ). IsState a operations r.top y (r.all ++ i ∷ []) i (r.this ∷ r.waiting)) (sym attribute) e;
        counted = let l = length-append r.all (i ∷ []) in let c = r.counted in omega (arith, count_is, l, c);
        memo = subst (IsMemo a operations trees r.top (r.all ++ i ∷ [])) (sym memo) (more_memo r.top r.all i m.memo r.memo);
        complete = λ z has. subst (λ (mm : Memo). Contains (i ∷ r.this ∷ r.waiting) z ⊎ IsRecalled mm z) (sym memo)
            (elim (contains_push r.all i z has) [
              | inl old ↦ elim (r.complete z old) [
                | inl on_stack ↦ inl (contains_later i z (r.this ∷ r.waiting) on_stack)
                | inr recalled ↦ inr recalled
              ]
              | inr same ↦ inl (subst (Contains (i ∷ r.this ∷ r.waiting)) same (contains_first i (r.this ∷ r.waiting)))
            ]);
        stack = subst (λ (ks : List Key). AreNamed new.memo ks [] (i ∷ r.this ∷ r.waiting)) (sym stack)
            (subst (λ (mm : Memo). AreNamed mm (m.stack.items ++ k ∷ []) [] (i ∷ r.this ∷ r.waiting)) (sym memo)
            (named_more m.memo m.stack.items k [] (r.this ∷ r.waiting) r.stack w.is_key));
        waits = r.waits ++ its ∷ [];
        frames = subst (λ l. AreWaits l (r.waits ++ its ∷ [])) (sym frames_are)
            (frames_more m.frames.items frame r.waits its r.frames of_frame);
        piled_is = values_are;
        suspended = subst (λ (ks : List Key). AreSuspended a operations trees r.top new.attribute (r.all ++ i ∷ []) new.memo ks
            (r.waits ++ its ∷ [])) (sym stack)
            (subst (λ (y : ℕ). AreSuspended a operations trees r.top y (r.all ++ i ∷ []) new.memo (m.stack.items ++ k ∷ [])
            (r.waits ++ its ∷ [])) (sym attribute)
            (subst (λ (mm : Memo). AreSuspended a operations trees r.top m.attribute (r.all ++ i ∷ []) mm (m.stack.items ++ k ∷ [])
            (r.waits ++ its ∷ [])) (sym memo) suspended_more));
      } where
        suspended_more : AreSuspended a operations trees w.runs.machine.top m.attribute (w.runs.machine.all ++ named m.memo k ∷ []) m.memo
            (m.stack.items ++ k ∷ []) (w.runs.machine.waits ++ its ∷ [])
        suspended_more =
            let r = w.runs.machine in
            let c = r.suspended.count in
            let (j, at) = at_within m.stack.items (length r.waits) (omega (arith, c)) in
            let last : length r.waits ≡ length m.stack.items - 1 = omega (arith, c) in
            let (is_key, this_is) = key_here a operations trees m r j (sym (ap (slice_get m.stack.items) last) ∙ at) in
            waits_entered a operations trees r.top m.attribute r.all m.memo m.stack.items j r.waits k (named m.memo k) its r.suspended at
            (λ v same. (
              is_key,
              w.is_key,
              subst (λ (z : Instance). IsSuspended a operations trees r.top m.attribute r.all m.memo z
                  (named m.memo k) v.site v.code v.values) this_is (suspended v same),
            ))

  pub entered : (m : Machine) (k : Key) (new : Machine) (frame : Option Frame) (values : List Value)
      → IsFramed a operations trees m values k frame → new.memo ≡ m.memo → new.root ≡ m.root
      → new.attribute ≡ m.attribute → new.stack.items ≡ m.stack.items ++ k ∷ [] → new.entered ≡ m.entered + 1
      → new.frames.items ≡ m.frames.items ++ frame ∷ [] → IsMachine a operations trees values new
  entered m k new None values w memo root_is attribute stack count_is frames_are =
      entered_by m k new w None None values tt (w.runs.machine.piled_is ∙ sym (piled_none w.runs.machine.waits))
      (λ v same. absurd (cc same)) memo root_is attribute stack count_is frames_are
  entered m k new (Some f) values p memo root_is attribute stack count_is frames_are =
      let its = wait f.site (code_left f) p.own in
      let r = p.wants.runs.machine in
      entered_by m k new p.wants (Some f) (Some its) values (refl, refl)
      (p.values_are ∙ ap (λ l. l ++ p.own) r.piled_is ∙ sym (piled_more r.waits its))
      (λ v same. subst (λ (z : Wait). IsSuspended a operations trees r.top m.attribute r.all m.memo r.this (named m.memo k) z.site z.code
      z.values) (same_Some its v same) p.waits) memo root_is attribute stack count_is frames_are

  -- the instance at work is needed
  this_there : {under : List Value} (m : Machine) (r : IsMachine a operations trees under m)
      → IsThere (setting_of a operations r.top r.asked.nonterminal r.evaluable r.asked.fits) r.this
  this_there m r =
      needed_there (setting_of a operations r.top r.asked.nonterminal r.evaluable r.asked.fits) m.attribute r.asked
      (r.state.needed r.this (r.state.has_this r.this (contains_first r.this r.waiting)))

  one_way : (x : ℕ) → Goes a Synthesized x → Goes a Inherited x → ⊥
  one_way x first second = let h = sym first ∙ second in cc h

  -- the value of the instance at work is kept
  module _ {under : List Value} (m : Machine) (v : Value) (runs : Runs a operations trees under m (done (value (value_in trees v))))
      (inside : IsIn (length trees) v) where
    abbrev r : IsMachine a operations trees under m
    r = runs.machine

    pub this_value : IsValueOf a operations trees r.top r.all r.this v
    this_value = record {
      answers = answers_here a operations r.top m.attribute runs.come;
      inside = inside;
      entered = r.state.has_this r.this (contains_first r.this r.waiting);
    }

    -- a memo that knows the value of an attribute, which this is
    module _ (new : Memo) (site x : ℕ) (whole : IsWhole new) (sites : new.sites ≡ m.memo.sites) (its_trees : new.trees ≡ m.memo.trees)
        (set : recall new site x ≡ Some v)
        (kept : (i other : ℕ) → (i ≢ site) ⊎ (other ≢ x) → recall new i other ≡ recall m.memo i other) where
      pub paths : (i : ℕ) → path_in new i ≡ path_in m.memo i
      paths i = ap (λ s. path_at (paths_of s.origins.items) i) sites

      pub counts : count new ≡ count m.memo
      counts = ap (λ s. length s.origins.items) sites

      tree_old : (i : ℕ) (id : TreeId) → HasTree new i id → HasTree m.memo i id
      tree_old i id has = subst (λ ts. slice_get ts.items i ≡ Some (Some id)) its_trees has

      pub tree_new : (i : ℕ) (id : TreeId) → HasTree m.memo i id → HasTree new i id
      tree_new i id has = subst (λ ts. slice_get ts.items i ≡ Some (Some id)) (sym its_trees) has

      cell : (i y : ℕ) → ((i ≡ site) × (y ≡ x)) ⊎ (recall new i y ≡ recall m.memo i y)
      cell i y = elim (cases_eq i site) [
        | inl e ↦ elim (cases_eq y x) [ inl f ↦ inl (e, f) | inr d ↦ inr (kept i y (inr d)) ]
        | inr d ↦ inr (kept i y (inl d))
      ]

      memo_with : ((w : Value) → Goes a Synthesized x → recall new site x ≡ Some w
          → IsValueOf a operations trees r.top r.all (synthesized_at (path_in m.memo site) x) w)
          → ((w : Value) → Goes a Inherited x → recall new site x ≡ Some w
          → IsValueOf a operations trees r.top r.all (inherited_at (path_in m.memo site) x) w)
          → IsMemo a operations trees r.top r.all new
      memo_with synthesized_one inherited_one = record {
        whole = whole;
        nodes = λ i id has. subst (λ (q : Path). IsNode a operations trees r.top q id) (sym (paths i))
            (r.memo.nodes i id (tree_old i id has));
        made_trees = λ i id q k has path. r.memo.made_trees i id q k (tree_old i id has) (sym (paths i) ∙ path);
        child_trees = λ i q k le path.
            let (id, has) = r.memo.child_trees i q k (omega (arith, le, counts)) (sym (paths i) ∙ path) in (id, tree_new i id has);
        root_tree = let (id, has) = r.memo.root_tree in (id, tree_new 0 id has);
        parents = λ k o at. let (id, has) = r.memo.parents k o (subst (λ s. slice_get s.origins.items k ≡ Some o) sites at) in
            (id, tree_new o.parent id has);
        synthesized = λ i y w le goes has. subst (λ (q : Path). IsValueOf a operations trees r.top r.all (synthesized_at q y) w)
            (sym (paths i))
            (elim (cell i y) [
              | inl (e, f) ↦
                  let has' : recall new site x ≡ Some w = sym (ap (λ (z : ℕ). recall new z y) e ∙ ap (recall new site) f) ∙ has in
                  subst (λ (z : ℕ). IsValueOf a operations trees r.top r.all (synthesized_at (path_in m.memo z) y) w) (sym e)
                  (subst (λ (z : ℕ). IsValueOf a operations trees r.top r.all (synthesized_at (path_in m.memo site) z) w) (sym f)
                  (synthesized_one w (subst (Goes a Synthesized) f goes) has'))
              | inr same ↦ r.memo.synthesized i y w (omega (arith, le, counts)) goes (sym same ∙ has)
            ]);
        inherited = λ i y w le goes has. subst (λ (q : Path). IsValueOf a operations trees r.top r.all (inherited_at q y) w) (sym (paths i))
            (elim (cell i y) [
              | inl (e, f) ↦
                  let has' : recall new site x ≡ Some w = sym (ap (λ (z : ℕ). recall new z y) e ∙ ap (recall new site) f) ∙ has in
                  subst (λ (z : ℕ). IsValueOf a operations trees r.top r.all (inherited_at (path_in m.memo z) y) w) (sym e)
                  (subst (λ (z : ℕ). IsValueOf a operations trees r.top r.all (inherited_at (path_in m.memo site) z) w) (sym f)
                  (inherited_one w (subst (Goes a Inherited) f goes) has'))
              | inr same ↦ r.memo.inherited i y w (omega (arith, le, counts)) goes (sym same ∙ has)
            ]);
      }

      pub memo_synthesized : r.this ≡ synthesized_at (path_in m.memo site) x → IsMemo a operations trees r.top r.all new
      memo_synthesized this_is =
          let goes = goes_synthesized a operations trees _ (path_in m.memo site) x (subst (IsThere _) this_is (this_there m r)) in
          memo_with
          (λ w g has. let same : v ≡ w = same_Some v w (sym set ∙ has) in
          subst (IsValueOf a operations trees r.top r.all (synthesized_at (path_in m.memo site) x)) same
          (subst (λ (i : Instance). IsValueOf a operations trees r.top r.all i v) this_is this_value))
          (λ w g has. absurd (one_way x goes g))

      pub memo_inherited : r.this ≡ inherited_at (path_in m.memo site) x → IsMemo a operations trees r.top r.all new
      memo_inherited this_is =
          let goes = goes_inherited a operations trees _ (path_in m.memo site) x (subst (IsThere _) this_is (this_there m r)) in
          memo_with
          (λ w g has. absurd (one_way x g goes))
          (λ w g has. let same : v ≡ w = same_Some v w (sym set ∙ has) in
          subst (IsValueOf a operations trees r.top r.all (inherited_at (path_in m.memo site) x)) same
          (subst (λ (i : Instance). IsValueOf a operations trees r.top r.all i v) this_is this_value))

      pub still_recalled : (i : Instance) → IsRecalled m.memo i → IsRecalled new i
      still_recalled (synthesized_at q y) (j, w, le, path, has) = elim (cell j y) [
        | inl (e, f) ↦ (j, v, omega (arith, le, counts), paths j ∙ path, ap (λ (z : ℕ). recall new z y) e ∙ ap (recall new site) f ∙ set)
        | inr same ↦ (j, w, omega (arith, le, counts), paths j ∙ path, same ∙ has)
      ]
      still_recalled (inherited_at q y) (j, w, le, path, has) = elim (cell j y) [
        | inl (e, f) ↦ (j, v, omega (arith, le, counts), paths j ∙ path, ap (λ (z : ℕ). recall new z y) e ∙ ap (recall new site) f ∙ set)
        | inr same ↦ (j, w, omega (arith, le, counts), paths j ∙ path, same ∙ has)
      ]
      still_recalled (tree_at q k) (j, id, le, path, has) = (j, id, omega (arith, le, counts), paths j ∙ path, tree_new j id has)

      pub same_key : (k : Key) → IsKey m.memo k → IsKey new k
      same_key (key.Synthesized i y) le = omega (arith, le, counts)
      same_key (key.Inherited i y) le = omega (arith, le, counts)
      same_key (key.Tree i) (le, (q, k, path)) = (omega (arith, le, counts), (q, k, paths i ∙ path))

      pub same_named : (k : Key) → named new k ≡ named m.memo k
      same_named (key.Synthesized i y) = ap (λ (q : Path). synthesized_at q y) (paths i)
      same_named (key.Inherited i y) = ap (λ (q : Path). inherited_at q y) (paths i)
      same_named (key.Tree i) = ap tree_named (paths i)

-- An instance is left with its value: the memo knows it, and the one that waited is at work.
use Rattle.std.proofs.Common.{◌≡◌, ◌≢◌, ◌∙◌, ◌⊎◌, ◌≤◌, ◌<◌, ◌+◌, ◌-◌, ◌++◌, inl, inr, ℕ, suc, List, [], ◌∷◌, Option, Some, length}
use Rattle.std.proofs.Common.{refl, sym, ap, subst, arith, slice_get, Contains, take}
use Rattle.std.specs.List.{slice_set}
use Rattle.std.proofs.lemmas.Bool.{cases_eq}
use Rattle.std.proofs.lemmas.List.{length-set}
use Rattle.wb_lemmas.proofs.Members.{contains_cases}
use Rattle.wb_flow_theory.specs.Vertices.{Made, made}
use Rattle.wb_base.specs.declared.symbol.Kind.TheVariants as kd
use Rattle.wb_operations.specs.Operations.{Operations}
use Rattle.wb_syntax_resolved.specs.declared.attribution.AttributionParts.{AttributionParts}
use Rattle.wb_values.specs.declared.value.TreeId.{TreeId}
use Rattle.wb_values.specs.declared.value.Value.{Value}
use Rattle.wb_values.specs.declared.value.Value.TheVariants as stored
use Rattle.wb_values.specs.Fits.{FitsValue}
use Rattle.wb_values.specs.Tree.{Tree}
use Rattle.wb_values.specs.ValuesIn.{tree_in, value_in, IsIn}
use Rattle.wb_eval_theory.proofs.KindLemmas.{kinded}
use Rattle.wb_eval_theory.proofs.LawLemmas.{setting_of}
use Rattle.wb_eval_theory.proofs.AnswerLemmas.{one_node}
use Rattle.wb_eval_theory.specs.Answers.{IsNodeAt, at_made, HasAnswer}
use Rattle.wb_eval_theory.specs.Evaluable.{IsAsked}
use Rattle.wb_eval_theory.specs.Instances.{Path, down, Instance, synthesized_at, inherited_at, tree_at}
use Rattle.wb_eval_theory.specs.Walks.{Walk, value, done}
use Rattle.wb_eval.proofs.FrameLemmas.{set_here, set_there, waits_moved, waits_left}
use Rattle.wb_eval.proofs.MachineLemmas.{leaves}
use Rattle.wb_eval.proofs.StepLemmas.{key_here, last_key, named_less, this_value, memo_synthesized, memo_inherited, still_recalled}
use Rattle.wb_eval.proofs.StepLemmas.{same_key}
use Rattle.wb_eval.proofs.StepLemmas.{same_named, paths, counts, tree_new}
use Rattle.wb_eval.specs.Inner.Machines.{HasTree, tree_named, named, IsKey, AreNamed, IsRecalled, IsValueOf, IsNode, IsMachine, IsTree}
use Rattle.wb_eval.specs.Inner.Machines.{IsKeptIn, AreSuspended}
use Rattle.wb_eval.specs.Inner.Machines.{Runs}
use Rattle.wb_eval_memo.specs.Memos.{count, path_in, recall, IsWhole}
use Rattle.wb_eval_memo.specs.Sites.{path_at, paths_of, IsSites}
use Rattle.wb_eval_memo.specs.Slots.{slot_value, AreSlots}
use Rattle.wb_eval.specs.Inner.Piles.{Wait, piled, AreWaits}
use Rattle.wb_eval.specs.Inner.State.{IsState, HasCome}
use Rattle.wb_eval.specs.declared.machine.Key.{Key}
use Rattle.wb_eval.specs.declared.machine.Key.TheVariants as key
use Rattle.wb_eval.specs.declared.machine.Machine.{Machine}
use Rattle.wb_eval_memo.specs.declared.memo.Memo.{Memo}
use Rattle.wb_eval_memo.specs.declared.slots.Slots.{Slots}

-- as many instances as keys
pub named_length : (m : Memo) (ks : List Key) (base is : List Instance) → AreNamed m ks base is → length is ≡ length ks + length base
named_length m [] base is same = let h = ap length same in omega (arith, h)
named_length m (k ∷ ks) base is (is_key, rest) = let h = named_length m ks (named m k ∷ base) is rest in omega (arith, h)

module _ (a : AttributionParts) (operations : Operations) (trees : List Tree) {under : List Value} (m : Machine) (v : Value)
    (runs : Runs a operations trees under m (done (value (value_in trees v)))) (inside : IsIn (length trees) v) where
  abbrev pub r : IsMachine a operations trees under m
  r = runs.machine

  abbrev IsKept : Memo → Type 0
  IsKept new = IsKeptIn a operations trees under m r new

  names_same : (new : Memo) → IsKept new → (ks : List Key) (base is : List Instance) → AreNamed m.memo ks base is → AreNamed new ks base is
  names_same new kept [] base is h = h
  names_same new kept (k ∷ ks) base is (is_key, rest) = (
    kept.keys k is_key,
    subst (λ (i : Instance). AreNamed new ks (i ∷ base) is) (sym (kept.names k))
        (names_same new kept ks (named m.memo k ∷ base) is rest),
  )

  -- the instance of the last of these keys is at work, and its walk has come to where it had
  abbrev pub IsBackAt : Machine → List Value → List Key → Type 0
  IsBackAt new values front = IsMachine a operations trees values new
      × ((c : Key) (w : Walk) → slice_get front (length front - 1) ≡ Some c
      → HasCome a operations r.top m.attribute r.all (named m.memo c) w → Runs a operations trees values new w)

  pub left : (new : Machine) (front : List Key) (k : Key) (waits : List (Option Wait)) (wait : Option Wait) (values : List Value)
      → m.stack.items ≡ front ++ k ∷ [] → 0 < length front → IsKept new.memo
      → new.root ≡ m.root → new.attribute ≡ m.attribute → new.entered ≡ m.entered → new.stack.items ≡ front
      → r.waits ≡ waits ++ wait ∷ [] → AreWaits new.frames.items waits → values ≡ piled waits → IsBackAt new values front
  left new front k waits wait values stack_is some kept root_is attribute count_is new_stack waits_are are values_are =
      let named_all = subst (λ (ks : List Key). AreNamed m.memo ks [] (r.this ∷ r.waiting)) stack_is r.stack in
      let (is_key, (rest, same, below)) = named_less m.memo front k [] (r.this ∷ r.waiting) named_all in
      let waiting_is : r.waiting ≡ rest = cc same in
      by_waiting r.waiting refl (subst (AreNamed m.memo front []) (sym waiting_is) below) where
        by_waiting : (w : List Instance) → r.waiting ≡ w → AreNamed m.memo front [] w → IsBackAt new values front
        by_waiting [] is below = absurd (let h = named_length m.memo front [] [] below in omega (arith, h, some))
        by_waiting (j ∷ js) is below =
            let machine : IsMachine a operations trees values new = record {
              top = r.top;
              root_inside = subst (λ (id : TreeId). id.0 < length trees) (sym root_is) r.root_inside;
              root_is = subst (λ (id : TreeId). tree_in trees id.0 ≡ r.top) (sym root_is) r.root_is;
              evaluable = r.evaluable;
              asked = subst (IsAsked a r.top) (sym attribute) r.asked;
              all = r.all;
              this = j;
              waiting = js;
              state = subst (λ (y : ℕ). IsState a operations r.top y r.all j js) (sym attribute)
                  (leaves a operations r.top m.attribute (subst (IsState a operations r.top m.attribute r.all r.this) is r.state)
                  runs.come);
              counted = count_is ∙ r.counted;
              memo = kept.memo;
              complete = λ z has. elim (r.complete z has) [
                | inl on_stack ↦ elim
                    (contains_cases r.this z (j ∷ js) (subst (λ (w : List Instance). Contains (r.this ∷ w) z) is on_stack)) [
                      | inl same ↦ inr (subst (IsRecalled new.memo) same kept.this_recalled)
                      | inr later ↦ inl later
                    ]
                | inr recalled ↦ inr (kept.recalled z recalled)
              ];
              stack = subst (λ (ks : List Key). AreNamed new.memo ks [] (j ∷ js)) (sym new_stack)
                  (names_same new.memo kept front [] (j ∷ js) below);
              waits = waits;
              frames = are;
              piled_is = values_are;
              suspended = subst (λ (ks : List Key). AreSuspended a operations trees r.top new.attribute r.all new.memo ks waits)
                  (sym new_stack)
                  (subst (λ (y : ℕ). AreSuspended a operations trees r.top y r.all new.memo front waits) (sym attribute)
                  (waits_moved a operations trees r.top m.attribute r.all m.memo new.memo front waits
                  (waits_left a operations trees r.top m.attribute r.all m.memo front k waits wait
                  (subst (AreSuspended a operations trees r.top m.attribute r.all m.memo (front ++ k ∷ [])) waits_are
                  (subst (λ (ks : List Key). AreSuspended a operations trees r.top m.attribute r.all m.memo ks r.waits) stack_is
                  r.suspended)))
                  (let c = kept.counts in omega (arith, c)) (λ n le. kept.paths n) (λ n id le has. kept.trees_kept n id has) kept.keys
                  (λ c is. kept.names c)));
            } in (
              machine,
              λ c w at come. record {
                machine = machine;
                come = subst (λ (y : ℕ). HasCome a operations r.top y r.all j w) (sym attribute)
                    (subst (λ (z : Instance). HasCome a operations r.top m.attribute r.all z w)
                    (let whole = last_key front c at in
                    let (is_c, (others, same_c, below_c)) = named_less m.memo (take (length front - 1) front) c [] (j ∷ js)
                    (subst (λ (ks : List Key). AreNamed m.memo ks [] (j ∷ js)) (sym whole) below) in
                    let j_is : j ≡ named m.memo c = cc same_c in sym j_is) come);
              },
            )

  -- an attribute's value
  module _ (new : Memo) (site x : ℕ) (whole : IsWhole new) (sites : new.sites ≡ m.memo.sites) (its_trees : new.trees ≡ m.memo.trees)
      (set : recall new site x ≡ Some v)
      (kept : (i other : ℕ) → (i ≢ site) ⊎ (other ≢ x) → recall new i other ≡ recall m.memo i other) (le : site ≤ count m.memo) where
    there : site ≤ count new
    there = let c = counts a operations trees m v runs inside new site x whole sites its_trees set kept in omega (arith, le, c)

    pub kept_synthesized : r.this ≡ synthesized_at (path_in m.memo site) x → IsKept new
    kept_synthesized this_is = record {
      memo = memo_synthesized a operations trees m v runs inside new site x whole sites its_trees set kept this_is;
      recalled = still_recalled a operations trees m v runs inside new site x whole sites its_trees set kept;
      this_recalled = subst (IsRecalled new) (sym this_is)
          (site, v, there, paths a operations trees m v runs inside new site x whole sites its_trees set kept site, set);
      paths = paths a operations trees m v runs inside new site x whole sites its_trees set kept;
      counts = counts a operations trees m v runs inside new site x whole sites its_trees set kept;
      trees_kept = λ i id has. (id, tree_new a operations trees m v runs inside new site x whole sites its_trees set kept i id has, refl);
      keys = same_key a operations trees m v runs inside new site x whole sites its_trees set kept;
      names = same_named a operations trees m v runs inside new site x whole sites its_trees set kept;
    }

    pub kept_inherited : r.this ≡ inherited_at (path_in m.memo site) x → IsKept new
    kept_inherited this_is = record {
      memo = memo_inherited a operations trees m v runs inside new site x whole sites its_trees set kept this_is;
      recalled = still_recalled a operations trees m v runs inside new site x whole sites its_trees set kept;
      this_recalled = subst (IsRecalled new) (sym this_is)
          (site, v, there, paths a operations trees m v runs inside new site x whole sites its_trees set kept site, set);
      paths = paths a operations trees m v runs inside new site x whole sites its_trees set kept;
      counts = counts a operations trees m v runs inside new site x whole sites its_trees set kept;
      trees_kept = λ i id has. (id, tree_new a operations trees m v runs inside new site x whole sites its_trees set kept i id has, refl);
      keys = same_key a operations trees m v runs inside new site x whole sites its_trees set kept;
      names = same_named a operations trees m v runs inside new site x whole sites its_trees set kept;
    }

  -- a value of a tree's kind is a tree
  tree_only : (n : ℕ) (w : Value) → FitsValue a.signatures (value_in trees w) (kd.Tree n) → IsTree w
  tree_only n (stored.Int z) fit = absurd (cc fit)
  tree_only n (stored.Bool z) fit = absurd (cc fit)
  tree_only n (stored.Text z) fit = absurd (cc fit)
  tree_only n (stored.Tree id) fit = (id, refl)

  pub is_tree : (q : Path) (k : Made) → r.this ≡ tree_at q k → IsTree v
  is_tree q k this_is =
      let s = setting_of a operations r.top r.asked.nonterminal r.evaluable r.asked.fits in
      let has = subst (λ (i : Instance). HasAnswer a operations r.top i (value (value_in trees v))) this_is
      (this_value a operations trees m v runs inside).answers in
      let made_one = kinded s has in
      tree_only made_one.nonterminal v made_one.fits

  -- the tree of a local or forward
  module _ (new : Memo) (site : ℕ) (id : TreeId) (q : Path) (k : Made) (sites : new.sites ≡ m.memo.sites) (slots : new.slots ≡ m.memo.slots)
      (set : new.trees.items ≡ slice_set m.memo.trees.items site (Some id)) (le : site ≤ count m.memo)
      (path : path_in m.memo site ≡ down q (made k)) (this_is : r.this ≡ tree_at q k) (v_is : v ≡ stored.Tree id) where
    same_path : (i : ℕ) → path_in new i ≡ path_in m.memo i
    same_path i = ap (λ s. path_at (paths_of s.origins.items) i) sites

    same_count : count new ≡ count m.memo
    same_count = ap (λ s. length s.origins.items) sites

    same_recall : (i y : ℕ) → recall new i y ≡ recall m.memo i y
    same_recall i y = ap (λ (s : Slots). slot_value s i y) slots

    within : site < length m.memo.trees.items
    within = let t = r.memo.whole.trees in omega (arith, le, t)

    tree_here : HasTree new site id
    tree_here = ap (λ ts. slice_get ts site) set ∙ set_here m.memo.trees.items site (Some id) within

    tree_cases : (i : ℕ) (other : TreeId) → HasTree new i other → ((i ≡ site) × (other ≡ id)) ⊎ HasTree m.memo i other
    tree_cases i other has = elim (cases_eq i site) [
      | inl e ↦ inl (e, let h = sym (subst (λ (z : ℕ). HasTree new z other) e has) ∙ tree_here in cc h)
      | inr d ↦ inr (sym (set_there m.memo.trees.items site i (Some id) d) ∙ sym (ap (λ ts. slice_get ts i) set) ∙ has)
    ]

    tree_still : (i : ℕ) (other : TreeId) → HasTree m.memo i other → (new_one : TreeId) × HasTree new i new_one
    tree_still i other has = elim (cases_eq i site) [
      | inl e ↦ (id, subst (λ (z : ℕ). HasTree new z id) (sym e) tree_here)
      | inr d ↦ (other, ap (λ ts. slice_get ts i) set ∙ set_there m.memo.trees.items site i (Some id) d ∙ has)
    ]

    abbrev it : IsValueOf a operations trees r.top r.all r.this v
    it = this_value a operations trees m v runs inside

    here_node : IsNode a operations trees r.top (down q (made k)) id
    here_node =
        let has = subst (λ (w : Value). HasAnswer a operations r.top (tree_at q k) (value (value_in trees w))) v_is
        (subst (λ (i : Instance). HasAnswer a operations r.top i (value (value_in trees v))) this_is it.answers) in
        record { inside = subst (IsIn (length trees)) v_is inside; is_node = at_made has }

    pub kept_tree : IsKept new
    kept_tree = record {
      memo = record {
        whole = record {
          sites = subst IsSites (sym sites) r.memo.whole.sites;
          trees = ap length set ∙ length-set m.memo.trees.items site (Some id) ∙ r.memo.whole.trees ∙ ap suc (sym same_count);
          slots = subst (AreSlots (suc (count new))) (sym slots)
              (subst (λ (n : ℕ). AreSlots (suc n) m.memo.slots) (sym same_count) r.memo.whole.slots);
        };
        nodes = λ i other has. subst (λ (p : Path). IsNode a operations trees r.top p other) (sym (same_path i))
            (elim (tree_cases i other has) [
              | inl (e, f) ↦ subst (λ (z : ℕ). IsNode a operations trees r.top (path_in m.memo z) other) (sym e)
                  (subst (λ (p : Path). IsNode a operations trees r.top p other) (sym path)
                  (subst (IsNode a operations trees r.top (down q (made k))) (sym f) here_node))
              | inr old ↦ r.memo.nodes i other old
            ]);
        made_trees = λ i other p c has is. elim (tree_cases i other has) [
          | inl (e, f) ↦
              let h : down q (made k) ≡ down p (made c) = sym path ∙ ap (path_in m.memo) (sym e) ∙ sym (same_path i) ∙ is in
              let q_is : q ≡ p = cc h in
              let k_is : k ≡ c = cc h in
              subst (λ (z : Path). Contains r.all (tree_at z c)) q_is (subst (λ (z : Made). Contains r.all (tree_at q z)) k_is
              (subst (Contains r.all) this_is it.entered))
          | inr old ↦ r.memo.made_trees i other p c old (sym (same_path i) ∙ is)
        ];
        child_trees = λ i p c le_i is. let (other, has) = r.memo.child_trees i p c (omega (arith, le_i, same_count))
            (sym (same_path i) ∙ is) in
            tree_still i other has;
        root_tree = let (other, has) = r.memo.root_tree in tree_still 0 other has;
        parents = λ n o is. let (other, has) = r.memo.parents n o (subst (λ s. slice_get s.origins.items n ≡ Some o) sites is) in
            tree_still o.parent other has;
        synthesized = λ i y w le_i goes has. subst (λ (p : Path). IsValueOf a operations trees r.top r.all (synthesized_at p y) w)
            (sym (same_path i))
            (r.memo.synthesized i y w (omega (arith, le_i, same_count)) goes (sym (same_recall i y) ∙ has));
        inherited = λ i y w le_i goes has. subst (λ (p : Path). IsValueOf a operations trees r.top r.all (inherited_at p y) w)
            (sym (same_path i))
            (r.memo.inherited i y w (omega (arith, le_i, same_count)) goes (sym (same_recall i y) ∙ has));
      };
      recalled = tree_recalled;
      this_recalled = subst (IsRecalled new) (sym this_is) (site, id, omega (arith, le, same_count), same_path site ∙ path, tree_here);
      paths = same_path;
      counts = same_count;
      trees_kept = λ i other has. elim (cases_eq i site) [
        | inl e ↦ (
          id,
          subst (λ (z : ℕ). HasTree new z id) (sym e) tree_here,
          one_node a operations r.top here_node.is_node
              (subst (λ (p : Path). IsNodeAt a operations r.top p (tree_in trees other.0)) (ap (path_in m.memo) e ∙ path)
              (r.memo.nodes i other has).is_node),
        )
        | inr d ↦ (other, ap (λ ts. slice_get ts i) set ∙ set_there m.memo.trees.items site i (Some id) d ∙ has, refl)
      ];
      keys = tree_keys;
      names = tree_names;
    } where
      tree_recalled : (i : Instance) → IsRecalled m.memo i → IsRecalled new i
      tree_recalled (synthesized_at p y) (j, w, le_j, is, has) =
          (j, w, omega (arith, le_j, same_count), same_path j ∙ is, same_recall j y ∙ has)
      tree_recalled (inherited_at p y) (j, w, le_j, is, has) =
          (j, w, omega (arith, le_j, same_count), same_path j ∙ is, same_recall j y ∙ has)
      tree_recalled (tree_at p c) (j, other, le_j, is, has) =
          let (new_one, there) = tree_still j other has in (j, new_one, omega (arith, le_j, same_count), same_path j ∙ is, there)

      tree_keys : (c : Key) → IsKey m.memo c → IsKey new c
      tree_keys (key.Synthesized i y) le_i = omega (arith, le_i, same_count)
      tree_keys (key.Inherited i y) le_i = omega (arith, le_i, same_count)
      tree_keys (key.Tree i) (le_i, (p, c, is)) = (omega (arith, le_i, same_count), (p, c, same_path i ∙ is))

      tree_names : (c : Key) → named new c ≡ named m.memo c
      tree_names (key.Synthesized i y) = ap (λ (p : Path). synthesized_at p y) (same_path i)
      tree_names (key.Inherited i y) = ap (λ (p : Path). inherited_at p y) (same_path i)
      tree_names (key.Tree i) = ap tree_named (same_path i)

pub tree_key : (a : AttributionParts) (operations : Operations) (trees : List Tree) {under : List Value} (m : Machine)
    (r : IsMachine a operations trees under m)
    (site : ℕ)
    → slice_get m.stack.items (length m.stack.items - 1) ≡ Some (key.Tree site)
    → (site ≤ count m.memo) × ((q : Path) × (k : Made) × (path_in m.memo site ≡ down q (made k)) × (r.this ≡ tree_at q k))
tree_key a operations trees m r site at =
    let ((le, (q, k, path)), this_is) = key_here a operations trees m r (key.Tree site) at in
    (le, (q, k, path, this_is ∙ ap tree_named path))

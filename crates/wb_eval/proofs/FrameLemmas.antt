-- Expressions that wait, as the memo, the store and the instances that were entered grow, and as one more waits or no longer does.
use Rattle.std.proofs.Common.{◌≡◌, ◌≢◌, ◌∙◌, ◌≤◌, ◌<◌, ◌++◌, inl, inr, ℕ, zero, suc, List, [], ◌∷◌, Option, Some, None, All, length, refl}
use Rattle.std.proofs.Common.{sym}
use Rattle.std.proofs.Common.{ap, subst, arith, slice_get, length-append, append-nil, append_assoc}
use Rattle.std.specs.List.{slice_set}
use Rattle.std.proofs.lemmas.List.{get_or_append_left}
use Rattle.std.proofs.lemmas.List.Elements.{All-head, All-tail}
use Rattle.std.proofs.lemmas.Option.{slice_get_within, same_Some}
use Rattle.wb_lemmas.proofs.Elements.{all_weaker}
use Rattle.wb_lemmas.proofs.Places.{at_push, append_keeps, append_before, push_last}
use Rattle.wb_flow_theory.specs.Modular.{IsProduction}
use Rattle.wb_operations.specs.Operations.{Operations}
use Rattle.wb_syntax_resolved.specs.declared.attribution.AttributionParts.{AttributionParts}
use Rattle.wb_values.specs.declared.value.TreeId.{TreeId}
use Rattle.wb_values.specs.declared.value.Value.{Value}
use Rattle.wb_values.specs.declared.value.Value.TheVariants as stored
use Rattle.wb_values.specs.Tree.{Tree, node, empty, more, production_of, children_of}
use Rattle.wb_values.specs.Tree as t
use Rattle.wb_values.specs.ValuesIn.{tree_in, value_in, values_in, IsIn}
use Rattle.wb_eval_theory.specs.Instances.{Path, Instance}
use Rattle.wb_eval.proofs.MachineLemmas.{come_more}
use Rattle.wb_eval_rules.specs.Code.{Instruction}
use Rattle.wb_eval_theory.specs.Walks.{Walk, read, walk_expression}
use Rattle.wb_eval.specs.Inner.Fits.{stack_of, ValuesFit}
use Rattle.wb_eval.specs.Inner.Machines.{HasTree, named, IsKey, IsSuspended, AreSuspended}
use Rattle.wb_eval_memo.specs.Memos.{count, path_in}
use Rattle.wb_eval.specs.Inner.Piles.{Wait, piled, AreWaits, IsWaitOf}
use Rattle.wb_eval.specs.declared.frame.Frame.{Frame}
use Rattle.wb_eval.specs.Inner.State.{HasCome}
use Rattle.wb_eval.specs.Inner.Going.{pushed, resume}
use Rattle.wb_eval.specs.declared.machine.Key.{Key}
use Rattle.wb_eval_memo.specs.declared.memo.Memo.{Memo}

-- an element that is set
pub set_here : {X : Type 0} (xs : List X) (i : ℕ) (x : X) → i < length xs → slice_get (slice_set xs i x) i ≡ Some x
set_here [] i x lt = absurd (omega arith)
set_here (y ∷ xs) zero x lt = refl
set_here (y ∷ xs) (suc i) x lt = set_here xs i x (omega (arith, lt))

pub set_there : {X : Type 0} (xs : List X) (i j : ℕ) (x : X) → j ≢ i → slice_get (slice_set xs i x) j ≡ slice_get xs j
set_there [] i j x d = refl
set_there (y ∷ xs) zero zero x d = absurd (d refl)
set_there (y ∷ xs) zero (suc j) x d = refl
set_there (y ∷ xs) (suc i) zero x d = refl
set_there (y ∷ xs) (suc i) (suc j) x d = set_there xs i j x (λ e. d (ap suc e))

-- values among more trees
pub values_more : (trees others : List Tree) (xs : List Value) → All (IsIn (length trees)) xs
    → values_in (trees ++ others) xs ≡ values_in trees xs
values_more trees others [] inside = refl
values_more trees others (x ∷ xs) inside =
    ap (λ (v : t.Value). more v (values_in (trees ++ others) xs)) (value_more_ trees others x (All-head (IsIn (length trees)) x xs inside))
    ∙ ap (more (value_in trees x)) (values_more trees others xs (All-tail (IsIn (length trees)) x xs inside))
  where
    value_more_ : (trees others : List Tree) (v : Value) → IsIn (length trees) v → value_in (trees ++ others) v ≡ value_in trees v
    value_more_ trees others (stored.Int z) h = refl
    value_more_ trees others (stored.Bool z) h = refl
    value_more_ trees others (stored.Text z) h = refl
    value_more_ trees others (stored.Tree id) h = ap t.tree (get_or_append_left trees others (node 0 empty) id.0 h)

still_inside : (trees others : List Tree) (v : Value) → IsIn (length trees) v → IsIn (length (trees ++ others)) v
still_inside trees others (stored.Int z) inside = tt
still_inside trees others (stored.Bool b) inside = tt
still_inside trees others (stored.Text s) inside = tt
still_inside trees others (stored.Tree id) inside = let l = length-append trees others in omega (arith, l, inside)

module _ (a : AttributionParts) (operations : Operations) (trees : List Tree) (top : Tree) (attribute : ℕ) (all : List Instance) where
  abbrev pub Waits : Memo → List Key → List (Option Wait) → Type 0
  Waits = AreSuspended a operations trees top attribute all

  abbrev pub Suspended : Memo → Instance → Instance → ℕ → List Instruction → List Value → Type 0
  Suspended = IsSuspended a operations trees top attribute all

  -- at another memo, where the site has its path and an equal tree
  pub moved : (old new : Memo) (i j r s : Instance) (site : ℕ) (code : List Instruction) (values : List Value)
      → (w : Suspended old i r site code values) → i ≡ j → r ≡ s → path_in new site ≡ path_in old site
      → (other : TreeId) × HasTree new site other × (tree_in trees other.0 ≡ tree_in trees w.id.0) → count old ≤ count new
      → Suspended new j s site code values
  moved old new i j r s site code values w same same_read path (id, has, tree_is) grown =
      let le = w.there in
      let stack = stack_of trees values in
      let one = subst (λ (z : Tree). HasCome a operations top attribute all i
      (resume operations (path_in old site) (children_of z) code 0 stack))
      (sym tree_is) w.come in
      let two = subst (λ (p : Path). HasCome a operations top attribute all i
      (resume operations p (children_of (tree_in trees id.0)) code 0 stack))
      (sym path) one in
      let reads_one = subst (λ (z : Tree). (next : t.Value → Walk)
      → walk_expression operations (path_in old site) (children_of z) w.expression next ≡ read r next) (sym tree_is) w.reads in
      let reads_two = subst (λ (p : Path). (next : t.Value → Walk)
      → walk_expression operations p (children_of (tree_in trees id.0)) w.expression next ≡ read r next) (sym path) reads_one in
      record {
        id = id;
        has = has;
        there = omega (arith, le, grown);
        production = w.production;
        is = subst (λ (z : Tree). IsProduction a (production_of z) w.production) (sym tree_is) w.is;
        kinds = w.kinds;
        inside = w.inside;
        values_fit = w.values_fit;
        code_fits = w.code_fits;
        come = subst (λ (z : Instance). HasCome a operations top attribute all z
            (resume operations (path_in new site) (children_of (tree_in trees id.0)) code 0 stack)) same two;
        expression = w.expression;
        way = w.way;
        rest = w.rest;
        code_is = w.code_is;
        reads = subst (λ (z : Instance). (next : t.Value → Walk)
            → walk_expression operations (path_in new site) (children_of (tree_in trees id.0)) w.expression next ≡ read z next)
            same_read reads_two;
      }

  pub waits_moved : (old new : Memo) (keys : List Key) (waits : List (Option Wait)) → Waits old keys waits → count old ≤ count new
      → ((i : ℕ) → i ≤ count old → path_in new i ≡ path_in old i)
      → ((i : ℕ) (id : TreeId) → i ≤ count old → HasTree old i id
      → (other : TreeId) × HasTree new i other × (tree_in trees other.0 ≡ tree_in trees id.0))
      → ((k : Key) → IsKey old k → IsKey new k) → ((k : Key) → IsKey old k → named new k ≡ named old k) → Waits new keys waits
  waits_moved old new keys waits were grown paths trees_kept keys_kept names = record {
    count = were.count;
    each = λ i k l f at next has.
        let (is_key, is_next, w) = were.each i k l f at next has in (
          keys_kept k is_key,
          keys_kept l is_next,
          moved old new (named old k) (named new k) (named old l) (named new l) f.site f.code f.values w (sym (names k is_key))
              (sym (names l is_next)) (paths f.site w.there) (trees_kept f.site w.id w.there w.has) grown,
        );
  }

  -- an instance is entered
  pub entered_one : (m : Memo) (i r x : Instance) (site : ℕ) (code : List Instruction) (values : List Value)
      → Suspended m i r site code values
      → IsSuspended a operations trees top attribute (all ++ x ∷ []) m i r site code values
  entered_one m i r x site code values w = record {
    id = w.id;
    has = w.has;
    there = w.there;
    production = w.production;
    is = w.is;
    kinds = w.kinds;
    inside = w.inside;
    values_fit = w.values_fit;
    code_fits = w.code_fits;
    come = come_more a operations top attribute x w.come;
    expression = w.expression;
    way = w.way;
    rest = w.rest;
    code_is = w.code_is;
    reads = w.reads;
  }

  -- for which the last that was waits, by a wait or none
  pub waits_entered : (m : Memo) (keys : List Key) (j : Key) (waits : List (Option Wait)) (k : Key) (x : Instance) (wait : Option Wait)
      → Waits m keys waits → slice_get keys (length waits) ≡ Some j
      → ((w : Wait) → wait ≡ Some w → IsKey m j × IsKey m k × Suspended m (named m j) (named m k) w.site w.code w.values)
      → AreSuspended a operations trees top attribute (all ++ x ∷ []) m (keys ++ k ∷ []) (waits ++ wait ∷ [])
  waits_entered m keys j waits k x wait were last its = record {
    count = let l = length-append keys (k ∷ []) in let n = length-append waits (wait ∷ []) in let c = were.count in omega (arith, l, n, c);
    each = λ i u v f at next has. elim (at_push waits wait (Some f) i has) [
      | inr (here, same) ↦
          let c = were.count in
          let at_j = append_keeps keys (k ∷ []) i j (ap (slice_get keys) here ∙ last) in
          let u_is : j ≡ u = same_Some j u (sym at_j ∙ at) in
          let next_is : suc i ≡ length keys = omega (arith, here, c) in
          let at_k : slice_get (keys ++ k ∷ []) (suc i) ≡ Some k = ap (slice_get (keys ++ k ∷ [])) next_is ∙ push_last keys k in
          let v_is : k ≡ v = same_Some k v (sym at_k ∙ next) in
          let (is_j, is_k, w) = its f same in
          subst (λ z. IsKey m u × IsKey m z
          × IsSuspended a operations trees top attribute (all ++ x ∷ []) m (named m u) (named m z) f.site f.code f.values)
          v_is (subst (λ z. IsKey m z × IsKey m k
          × IsSuspended a operations trees top attribute (all ++ x ∷ []) m (named m z) (named m k) f.site f.code
          f.values) u_is (is_j, is_k, entered_one m (named m j) (named m k) x f.site f.code f.values w))
      | inl before ↦
          let c = were.count in
          let lt = slice_get_within waits i (Some f) before in
          let at' = sym (append_before keys (k ∷ []) i (omega (arith, lt, c))) ∙ at in
          let next' = sym (append_before keys (k ∷ []) (suc i) (omega (arith, lt, c))) ∙ next in
          let (is_u, is_v, w) = were.each i u v f at' next' before in
          (is_u, is_v, entered_one m (named m u) (named m v) x f.site f.code f.values w)
    ];
  }

  -- an instance is left
  pub waits_left : (m : Memo) (front : List Key) (k : Key) (waits : List (Option Wait)) (wait : Option Wait)
      → Waits m (front ++ k ∷ []) (waits ++ wait ∷ []) → Waits m front waits
  waits_left m front k waits wait were = record {
    count = let n = length-append front (k ∷ []) in let l = length-append waits (wait ∷ []) in let c = were.count in omega (arith, n, l, c);
    each = λ i u v f at next has.
        were.each i u v f (append_keeps front (k ∷ []) i u at) (append_keeps front (k ∷ []) (suc i) v next)
        (append_keeps waits (wait ∷ []) i (Some f) has);
  }

  -- trees are added to the store
  module _ (others : List Tree) where
    more_suspended : (m : Memo) (i r : Instance) (site : ℕ) (code : List Instruction) (values : List Value)
        → (w : Suspended m i r site code values) → w.id.0 < length trees
        → IsSuspended a operations (trees ++ others) top attribute all m i r site code values
    more_suspended m i r site code values w within =
        let tree_is : tree_in (trees ++ others) w.id.0 ≡ tree_in trees w.id.0 =
        get_or_append_left trees others (node 0 empty) w.id.0 within in
        let stack_is : stack_of (trees ++ others) values ≡ stack_of trees values =
        ap (λ us. pushed us []) (values_more trees others values w.inside) in
        record {
          id = w.id;
          has = w.has;
          there = w.there;
          production = w.production;
          is = subst (λ (z : Tree). IsProduction a (production_of z) w.production) (sym tree_is) w.is;
          kinds = w.kinds;
          inside = all_weaker (IsIn (length trees)) (IsIn (length (trees ++ others))) values (λ v. still_inside trees others v) w.inside;
          values_fit = subst (λ l. ValuesFit a.signatures l w.kinds) (sym stack_is) w.values_fit;
          code_fits = w.code_fits;
          come = subst (λ l. HasCome a operations top attribute all i
              (resume operations (path_in m site) (children_of (tree_in (trees ++ others) w.id.0)) code 0 l))
              (sym stack_is) (subst (λ (z : Tree). HasCome a operations top attribute all i
              (resume operations (path_in m site) (children_of z) code 0 (stack_of trees values))) (sym tree_is) w.come);
          expression = w.expression;
          way = w.way;
          rest = w.rest;
          code_is = w.code_is;
          reads = subst (λ (z : Tree). (next : t.Value → Walk)
              → walk_expression operations (path_in m site) (children_of z) w.expression next ≡ read r next) (sym tree_is) w.reads;
        }

    pub more_waits : (m : Memo) (keys : List Key) (waits : List (Option Wait)) → Waits m keys waits
        → ((i : ℕ) (id : TreeId) → HasTree m i id → id.0 < length trees)
        → AreSuspended a operations (trees ++ others) top attribute all m keys waits
    more_waits m keys waits were within = record {
      count = were.count;
      each = λ i k l f at next has.
          let (is_key, is_next, w) = were.each i k l f at next has in (
            is_key,
            is_next,
            more_suspended m (named m k) (named m l) f.site f.code f.values w (within f.site w.id w.has),
          );
    }

-- the values of one more that waits
pub piled_more : (waits : List (Option Wait)) (w : Wait) → piled (waits ++ Some w ∷ []) ≡ piled waits ++ w.values
piled_more [] w = append-nil w.values
piled_more (None ∷ waits) w = piled_more waits w
piled_more (Some v ∷ waits) w = ap (λ l. v.values ++ l) (piled_more waits w) ∙ sym (append_assoc v.values (piled waits) w.values)

pub piled_none : (waits : List (Option Wait)) → piled (waits ++ None ∷ []) ≡ piled waits
piled_none [] = refl
piled_none (None ∷ waits) = piled_none waits
piled_none (Some v ∷ waits) = ap (λ l. v.values ++ l) (piled_none waits)

-- a frame more
pub frames_more : (frames : List (Option Frame)) (f : Option Frame) (waits : List (Option Wait)) (w : Option Wait) → AreWaits frames waits
    → IsWaitOf f w → AreWaits (frames ++ f ∷ []) (waits ++ w ∷ [])
frames_more [] f [] w are is = (is, tt)
frames_more [] f (v ∷ waits) w are is = absurd are
frames_more (g ∷ frames) f [] w are is = absurd are
frames_more (g ∷ frames) f (v ∷ waits) w (first, others) is = (first, frames_more frames f waits w others is)

-- the last frame, and what waits by it
pub frames_less : (frames : List (Option Frame)) (f : Option Frame) (all : List (Option Wait)) → AreWaits (frames ++ f ∷ []) all
    → (waits : List (Option Wait)) × (w : Option Wait) × (all ≡ waits ++ w ∷ []) × AreWaits frames waits × IsWaitOf f w
frames_less [] f [] are = absurd are
frames_less [] f (w ∷ []) (is, none) = ([], w, refl, tt, is)
frames_less [] f (w ∷ v ∷ all) (is, none) = absurd none
frames_less (g ∷ frames) f [] are = absurd are
frames_less (g ∷ frames) f (v ∷ all) (first, others) =
    let (waits, w, is, are, last) = frames_less frames f all others in (v ∷ waits, w, ap (λ l. v ∷ l) is, (first, are), last)

-- as many frames as wait
pub frames_length : (frames : List (Option Frame)) (waits : List (Option Wait)) → AreWaits frames waits → length frames ≡ length waits
frames_length [] [] are = refl
frames_length [] (w ∷ waits) are = absurd are
frames_length (f ∷ frames) [] are = absurd are
frames_length (f ∷ frames) (w ∷ waits) (first, others) = ap suc (frames_length frames waits others)

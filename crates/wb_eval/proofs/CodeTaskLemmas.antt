-- An instruction on values: a tree that is built of the last, a call on them, a value that stays; and where code goes on after it.
use Rattle.std.proofs.Common.{◌≡◌, ◌∙◌, ◌≤◌, ◌<◌, ◌-◌, ◌++◌, ℕ, suc, List, [], ◌∷◌, Some, All}
use Rattle.std.proofs.Common.{length}
use Rattle.std.proofs.Common.{refl, sym, ap, subst, arith, slice_get, take, drop}
use Rattle.std.proofs.lemmas.List.{get_or_append_left, length-append}
use Rattle.std.proofs.lemmas.Option.{same_Some, slice_get_within}
use Rattle.wb_lemmas.proofs.Elements.{all_at, all_weaker}
use Rattle.wb_lemmas.proofs.Places.{push_last, default_at}
use Rattle.wb_flow_theory.specs.Modular.{IsProduction}
use Rattle.wb_base.specs.declared.symbol.Kind.{Kind}
use Rattle.wb_base.specs.declared.symbol.Kind.TheVariants as kd
use Rattle.wb_operations.specs.Given.{Given, FitKinds, GivesKind, plains_of, plain_of}
use Rattle.wb_operations.specs.Given as given
use Rattle.wb_operations.specs.Operations.{OperationSignature, Operations, IsPlainSignature}
use Rattle.wb_syntax_resolved.specs.declared.attribution.AttributionParts.{AttributionParts}
use Rattle.wb_values.specs.declared.value.TreeId.{TreeId}
use Rattle.wb_values.specs.declared.value.Value.{Value}
use Rattle.wb_values.specs.declared.value.Value.TheVariants as stored
use Rattle.wb_values.specs.Fits.{FitsValue, FitAll}
use Rattle.wb_values.specs.Signature.{Signature}
use Rattle.wb_values.specs.Tree.{Plain, Tree, node, plain, Values, empty, production_of, children_of}
use Rattle.wb_values.specs.Tree as t
use Rattle.wb_values.specs.ValuesIn.{tree_in, values_in, IsIn}
use Rattle.wb_eval_rules.specs.Code.{build, call, Way, Instruction, does}
use Rattle.wb_eval_theory.proofs.LawLemmas.{setting_of}
use Rattle.wb_eval_theory.proofs.SoundLemmas.{plains_kinds, gives_kind}
use Rattle.wb_eval_theory.specs.Instances.{Path}
use Rattle.wb_eval_theory.specs.Walks.{done, fault, plains, with_given}
use Rattle.wb_eval.proofs.PopLemmas.{values_size, IsPopped, pop, last_front, last_args}
use Rattle.wb_eval.proofs.CodeWalkLemmas.{popped_all, below_all, size_of}
use Rattle.wb_eval.proofs.FrameLemmas.{values_more}
use Rattle.wb_eval.proofs.PlainLemmas.{plains_stored, kinds_fit, plain_is, plain_inside}
use Rattle.wb_eval.proofs.StoreLemmas.{more_runs, still_in}
use Rattle.wb_eval.specs.Inner.Fits.{stack_of, ValuesFit, WayFits, CodeFits}
use Rattle.wb_eval.specs.Inner.Going.{popped, below, go, pushed, resume}
use Rattle.wb_eval.specs.Inner.Machines.{Runs}
use Rattle.wb_eval.specs.Inner.Works.{IsEvaluating, IsGoing}
use Rattle.wb_eval.specs.declared.machine.Machine.{Machine}
use Rattle.wb_eval_memo.specs.Memos.{path_in}

module _ (a : AttributionParts) (operations : Operations) (trees : List Tree) (m : Machine) (site : ℕ) (way : Way)
    (code : List Instruction) (values : List Value) where
  abbrev q : Path
  q = path_in m.memo site

  -- a tree is built
  record IsBuilding (p n : ℕ) (ev : IsEvaluating a operations trees m site (does (build p n) way ∷ code) values) : Type 0 where
    s : Signature
    base : List Kind
    at : slice_get a.signatures p ≡ Some s
    it : IsPopped a operations trees ev.own n s.children base
    fit : WayFits (CodeFits a operations ev.production code) way (kd.Tree s.left) base
    runs : Runs a operations trees ev.under m (go (resume operations q (children_of (tree_in trees ev.id.0)) code) way
        (t.tree (node p (values_in trees it.args))) (stack_of trees it.front))

  building : (p n : ℕ) (ev : IsEvaluating a operations trees m site (does (build p n) way ∷ code) values) → IsBuilding p n ev
  unfolding resume
  building p n ev =
      let (s, base, at, len, kinds_are, fit) = ev.code_fits in
      let vs = children_of (tree_in trees ev.id.0) in
      let it = pop a operations trees ev.own n s.children base ev.kinds ev.inside ev.values_fit kinds_are len in
      let sz : size_of (values_in trees it.args) ≡ n = values_size trees it.args ∙ it.count in
      let us : popped n (stack_of trees ev.own) empty ≡ values_in trees it.args =
      ap (λ (l : List t.Value). popped n l empty) it.stack_is ∙ popped_all (values_in trees it.args) n (stack_of trees it.front) sz in
      let bs : below n (stack_of trees ev.own) ≡ stack_of trees it.front =
      ap (below n) it.stack_is ∙ below_all (values_in trees it.args) n (stack_of trees it.front) sz in
      record {
        s = s;
        base = base;
        at = at;
        it = it;
        fit = fit;
        runs = subst (λ (l : List t.Value). Runs a operations trees ev.under m (go (resume operations q vs code) way
            (t.tree (node p (values_in trees it.args))) l)) bs
            (subst (λ (ws : Values). Runs a operations trees ev.under m (go (resume operations q vs code) way
            (t.tree (node p ws)) (below n (stack_of trees ev.own)))) us ev.runs);
      }

  pub build_ready : (p n : ℕ) → IsEvaluating a operations trees m site (does (build p n) way ∷ code) values
      → (n ≤ length values) × All (IsIn (length trees)) (drop (length values - n) values)
  build_ready p n ev =
      let it = (building p n ev).it in
      let (args, enough) = last_args values ev.under ev.own it.front it.args n ev.values_are it.whole it.count in
      (enough, subst (All (IsIn (length trees))) (sym args) it.args_inside)

  pub built : (p n : ℕ) (id : TreeId) → IsEvaluating a operations trees m site (does (build p n) way ∷ code) values
      → id.0 ≡ length trees
      → IsGoing a operations (trees ++ node p (values_in trees (drop (length values - n) values)) ∷ []) m site way code
      (take (length values - n) values ++ stored.Tree id ∷ [])
  built p n id ev id_is =
      let b = building p n ev in
      let it = b.it in
      let (args_are, enough) = last_args values ev.under ev.own it.front it.args n ev.values_are it.whole it.count in
      let front_are = last_front values ev.under ev.own it.front it.args n ev.values_are it.whole it.count in
      let made = node p (values_in trees (drop (length values - n) values)) in
      let made_is : node p (values_in trees it.args) ≡ made = ap (λ (xs : List Value). node p (values_in trees xs)) (sym args_are) in
      let trees' = trees ++ made ∷ [] in
      let site_inside = (ev.runs.machine.memo.nodes site ev.id ev.has).inside in
      let site_is : tree_in trees' ev.id.0 ≡ tree_in trees ev.id.0 =
      get_or_append_left trees (made ∷ []) (node 0 empty) ev.id.0 site_inside in
      let new_is : tree_in trees' id.0 ≡ made =
      ap (tree_in trees') id_is ∙ default_at trees' (length trees) (node 0 empty) made (push_last trees made) in
      let front_is : stack_of trees' it.front ≡ stack_of trees it.front =
      ap (λ (us : Values). pushed us []) (values_more trees (made ∷ []) it.front it.front_inside) in
      let fits : FitsValue a.signatures (t.tree made) (kd.Tree b.s.left) = (
        b.s.left,
        refl,
        (
          b.s,
          b.at,
          refl,
          subst (λ (xs : List Value). FitAll a.signatures (values_in trees xs) b.s.children) (sym args_are)
              it.args_fit,
        ),
      ) in
      let runs = more_runs a operations trees (made ∷ []) ev.under m _ (subst (λ (z : Tree). Runs a operations trees ev.under m
      (go (resume operations q (children_of (tree_in trees ev.id.0)) code) way (t.tree z) (stack_of trees it.front))) made_is b.runs) in
      let len : length trees' ≡ suc (length trees) = let l = length-append trees (made ∷ []) in omega (arith, l) in
      record {
        id = ev.id;
        has = ev.has;
        there = ev.there;
        production = ev.production;
        is = subst (λ (z : Tree). IsProduction a (production_of z) ev.production) (sym site_is) ev.is;
        under = ev.under;
        own = it.front;
        on_top = stored.Tree id;
        values_are = ap (λ (l : List Value). l ++ stored.Tree id ∷ []) front_are;
        kind = kd.Tree b.s.left;
        kinds = b.base;
        inside = all_weaker (IsIn (length trees)) (IsIn (length trees')) it.front
            (λ v. still_in a operations trees (made ∷ []) v) it.front_inside;
        top_inside = omega (arith, len, id_is);
        values_fit = subst (λ (l : List t.Value). ValuesFit a.signatures l b.base) (sym front_is) it.front_fit;
        top_fits = subst (λ (z : Tree). FitsValue a.signatures (t.tree z) (kd.Tree b.s.left)) (sym new_is) fits;
        way_fits = b.fit;
        runs = subst (λ (z : Tree). Runs a operations trees' ev.under m
            (go (resume operations q (children_of (tree_in trees' ev.id.0)) code) way (t.tree z) (stack_of trees' it.front))) (sym new_is)
            (subst (λ (l : List t.Value). Runs a operations trees' ev.under m
            (go (resume operations q (children_of (tree_in trees' ev.id.0)) code) way (t.tree made) l)) (sym front_is)
            (subst (λ (z : Tree). Runs a operations trees' ev.under m
            (go (resume operations q (children_of z) code) way (t.tree made) (stack_of trees it.front)))
            (sym site_is) runs));
      }

  -- a call
  record IsCalling (number n : ℕ) (ev : IsEvaluating a operations trees m site (does (call number n) way ∷ code) values) : Type 0 where
    o : OperationSignature
    base : List Kind
    at : slice_get operations.signatures number ≡ Some o
    it : IsPopped a operations trees ev.own n o.takes base
    fit : WayFits (CodeFits a operations ev.production code) way o.gives base
    runs : Runs a operations trees ev.under m (with_given number (operations.meaning number (plains_of it.args))
        (λ v. go (resume operations q (children_of (tree_in trees ev.id.0)) code) way v (stack_of trees it.front)))

  calling : (number n : ℕ) (ev : IsEvaluating a operations trees m site (does (call number n) way ∷ code) values) → IsCalling number n ev
  unfolding resume
  calling number n ev =
      let (o, base, at, len, kinds_are, fit) = ev.code_fits in
      let vs = children_of (tree_in trees ev.id.0) in
      let it = pop a operations trees ev.own n o.takes base ev.kinds ev.inside ev.values_fit kinds_are len in
      let sz : size_of (values_in trees it.args) ≡ n = values_size trees it.args ∙ it.count in
      let us : popped n (stack_of trees ev.own) empty ≡ values_in trees it.args =
      ap (λ (l : List t.Value). popped n l empty) it.stack_is ∙ popped_all (values_in trees it.args) n (stack_of trees it.front) sz in
      let bs : below n (stack_of trees ev.own) ≡ stack_of trees it.front =
      ap (below n) it.stack_is ∙ below_all (values_in trees it.args) n (stack_of trees it.front) sz in
      let r2 = subst (λ (ws : Values). Runs a operations trees ev.under m (with_given number (operations.meaning number (plains ws))
      (λ v. go (resume operations q vs code) way v (below n (stack_of trees ev.own))))) us ev.runs in
      let r3 = subst (λ (l : List t.Value). Runs a operations trees ev.under m (with_given number
      (operations.meaning number (plains (values_in trees it.args)))
      (λ v. go (resume operations q vs code) way v l))) bs r2 in
      record {
        o = o;
        base = base;
        at = at;
        it = it;
        fit = fit;
        runs = subst (λ (l : List Plain). Runs a operations trees ev.under m (with_given number (operations.meaning number l)
            (λ v. go (resume operations q vs code) way v (stack_of trees it.front)))) (plains_stored trees it.args) r3;
      }

  pub call_ready : (number n : ℕ) → IsEvaluating a operations trees m site (does (call number n) way ∷ code) values
      → (n ≤ length values) × (number < length operations.signatures)
      × ((s : OperationSignature) → slice_get operations.signatures number ≡ Some s → FitKinds s.takes (drop (length values - n) values))
  call_ready number n ev =
      let b = calling number n ev in
      let it = b.it in
      let (args, enough) = last_args values ev.under ev.own it.front it.args n ev.values_are it.whole it.count in
      let plain_one = all_at IsPlainSignature operations.signatures number b.o ev.runs.machine.evaluable.with_operations.plain b.at in
      let fit = kinds_fit a.signatures trees it.args b.o.takes it.args_fit plain_one.takes_plain in (
        enough,
        slice_get_within operations.signatures number b.o b.at,
        λ s at. subst (λ (o : OperationSignature). FitKinds o.takes (drop (length values - n) values)) (same_Some b.o s (sym b.at ∙ at))
            (subst (FitKinds b.o.takes) (sym args) fit),
      )

  pub called : (number n : ℕ) (w : Value) (c : Plain) → IsEvaluating a operations trees m site (does (call number n) way ∷ code) values
      → operations.meaning number (plains_of (drop (length values - n) values)) ≡ given.gives c → plain_of w ≡ Some c
      → IsGoing a operations trees m site way code (take (length values - n) values ++ w ∷ [])
  called number n w c ev means is =
      let b = calling number n ev in
      let it = b.it in
      let (args, enough) = last_args values ev.under ev.own it.front it.args n ev.values_are it.whole it.count in
      let front_are = last_front values ev.under ev.own it.front it.args n ev.values_are it.whole it.count in
      let means' : operations.meaning number (plains_of it.args) ≡ given.gives c =
      ap (λ (xs : List Value). operations.meaning number (plains_of xs)) (sym args) ∙ means in
      let w_is = plain_is trees w c is in
      let plain_one = all_at IsPlainSignature operations.signatures number b.o ev.runs.machine.evaluable.with_operations.plain b.at in
      let s = setting_of a operations ev.runs.machine.top ev.runs.machine.asked.nonterminal ev.runs.machine.evaluable
      ev.runs.machine.asked.fits in
      let are = plains_kinds s (values_in trees it.args) b.o.takes it.args_fit plain_one.takes_plain in
      let kept = ev.runs.machine.evaluable.with_operations.kinds number b.o b.at (plains (values_in trees it.args)) are in
      let gave = subst (GivesKind b.o.gives) (ap (operations.meaning number) (plains_stored trees it.args) ∙ means') kept in
      let fits : FitsValue a.signatures (plain c) b.o.gives = gives_kind b.o.gives c gave in
      let runs = subst (λ (g : Given). Runs a operations trees ev.under m (with_given number g
      (λ v. go (resume operations q (children_of (tree_in trees ev.id.0)) code) way v (stack_of trees it.front)))) means' b.runs in
      record {
        id = ev.id;
        has = ev.has;
        there = ev.there;
        production = ev.production;
        is = ev.is;
        under = ev.under;
        own = it.front;
        on_top = w;
        values_are = ap (λ (l : List Value). l ++ w ∷ []) front_are;
        kind = b.o.gives;
        kinds = b.base;
        inside = it.front_inside;
        top_inside = plain_inside trees w c is;
        values_fit = it.front_fit;
        top_fits = subst (λ (v : t.Value). FitsValue a.signatures v b.o.gives) (sym w_is) fits;
        way_fits = b.fit;
        runs = subst (λ (v : t.Value). Runs a operations trees ev.under m
            (go (resume operations q (children_of (tree_in trees ev.id.0)) code) way v (stack_of trees it.front))) (sym w_is) runs;
      }

  pub call_failed : (number n code_of_fault : ℕ) (ev : IsEvaluating a operations trees m site (does (call number n) way ∷ code) values)
      → operations.meaning number (plains_of (drop (length values - n) values)) ≡ given.fails code_of_fault
      → Runs a operations trees ev.under m (done (fault number code_of_fault))
  call_failed number n code_of_fault ev means =
      let b = calling number n ev in
      let it = b.it in
      let (args, enough) = last_args values ev.under ev.own it.front it.args n ev.values_are it.whole it.count in
      let means' : operations.meaning number (plains_of it.args) ≡ given.fails code_of_fault =
      ap (λ (xs : List Value). operations.meaning number (plains_of xs)) (sym args) ∙ means in
      subst (λ (g : Given). Runs a operations trees ev.under m (with_given number g
      (λ v. go (resume operations q (children_of (tree_in trees ev.id.0)) code) way v (stack_of trees it.front)))) means' b.runs

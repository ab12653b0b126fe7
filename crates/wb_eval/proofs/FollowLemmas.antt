-- A value that stays, where code goes on with a value, and the end of code.
use Rattle.std.proofs.Common.{◌≡◌, ◌∙◌, ◌<◌, ◌-◌, ◌++◌, ℕ, Bool, true, false, List, [], ◌∷◌, Some, All}
use Rattle.std.proofs.Common.{length}
use Rattle.std.proofs.Common.{refl, sym, ap, subst, arith, slice_get, take, drop, append_assoc}
use Rattle.std.proofs.lemmas.List.{length-append, take_at}
use Rattle.std.proofs.lemmas.List.Elements.{All-push}
use Rattle.std.proofs.lemmas.Option.{same_Some}
use Rattle.wb_lemmas.proofs.Elements.{all_left, all_right}
use Rattle.wb_lemmas.proofs.Places.{push_last}
use Rattle.wb_base.specs.declared.symbol.Kind.{Kind}
use Rattle.wb_base.specs.declared.symbol.Kind.TheVariants as kd
use Rattle.wb_operations.specs.Operations.{Operations}
use Rattle.wb_syntax_resolved.specs.declared.attribution.AttributionParts.{AttributionParts}
use Rattle.wb_values.specs.declared.value.Value.{Value}
use Rattle.wb_values.specs.declared.value.Value.TheVariants as stored
use Rattle.wb_values.specs.Fits.{FitsValue}
use Rattle.wb_values.specs.Signature.{Signature}
use Rattle.wb_values.specs.Tree.{Plain, bool, Tree, node, plain, Values, empty, more, production_of, children_of}
use Rattle.wb_values.specs.Tree as t
use Rattle.wb_values.specs.ValuesIn.{tree_in, value_in, IsIn}
use Rattle.wb_eval_rules.specs.Code.{stay, Way, next, skip, unless, Instruction, does}
use Rattle.wb_eval_theory.specs.Instances.{Path}
use Rattle.wb_eval_theory.specs.Walks.{done, value, branch}
use Rattle.wb_eval.proofs.CodeFitLemmas.{fits_drop}
use Rattle.wb_eval.proofs.CodeWalkLemmas.{resume_drop}
use Rattle.wb_eval.proofs.PopLemmas.{stack_length}
use Rattle.wb_eval.proofs.StackLemmas.{stack_push, fit_length}
use Rattle.wb_eval.specs.Inner.Fits.{stack_of, ValuesFit, CodeFits}
use Rattle.wb_eval.specs.Inner.Going.{on_top, go, resume}
use Rattle.wb_eval.specs.Inner.Machines.{Runs}
use Rattle.wb_eval.specs.Inner.Works.{IsEvaluating, IsGoing}
use Rattle.wb_eval.specs.declared.machine.Machine.{Machine}
use Rattle.wb_eval_memo.specs.Memos.{path_in}

-- the only kinds, and the only values
module _ (signatures : List Signature) (trees : List Tree) where
  last_split : (own : List Value) → ¬ (own ≡ []) → (front : List Value) × (w : Value) × (own ≡ front ++ w ∷ [])
  last_split [] some = absurd (some refl)
  last_split (v ∷ []) some = ([], v, refl)
  last_split (v ∷ u ∷ own) some =
      let (front, w, is) = last_split (u ∷ own) (λ e. cc e) in (v ∷ front, w, ap (λ (l : List Value). v ∷ l) is)

  -- the last of some values of kinds
  pub top_of : (own : List Value) (is : Kind) (base : List Kind) → ValuesFit signatures (stack_of trees own) (is ∷ base)
      → (front : List Value) × (w : Value) × (own ≡ front ++ w ∷ []) × FitsValue signatures (value_in trees w) is
      × ValuesFit signatures (stack_of trees front) base
  top_of own is base fit =
      let (front, w, own_is) = last_split own (λ none. let h = subst (λ l. ValuesFit signatures (stack_of trees l) (is ∷ base)) none fit in
      cc h) in
      let (k, others, same, fits, front_fit) = subst (λ (l : List t.Value). ValuesFit signatures l (is ∷ base)) (stack_push trees front w)
      (subst (λ l. ValuesFit signatures (stack_of trees l) (is ∷ base)) own_is fit) in
      let k_is : k ≡ is = cc same in
      let base_is : others ≡ base = cc same in (
        front,
        w,
        own_is,
        subst (FitsValue signatures (value_in trees w)) k_is fits,
        subst (ValuesFit signatures (stack_of trees front)) base_is front_fit,
      )

  pub none_fit : (own : List Value) → ValuesFit signatures (stack_of trees own) [] → own ≡ []
  none_fit [] fit = refl
  none_fit (v ∷ own) fit =
      let l = fit_length signatures (stack_of trees (v ∷ own)) [] fit in
      let k = stack_length trees (v ∷ own) in absurd (omega (arith, l, k))

  pub truth_of : (w : Value) (k : Kind) → FitsValue signatures (value_in trees w) k → k ≡ kd.Bool → (b : Bool) × (w ≡ stored.Bool b)
  truth_of (stored.Int z) k fit is = absurd (cc (fit, is))
  truth_of (stored.Bool b) k fit is = (b, refl)
  truth_of (stored.Text z) k fit is = absurd (cc (fit, is))
  truth_of (stored.Tree id) k fit is = let e = fit.1 in absurd (cc (e, is))

module _ (a : AttributionParts) (operations : Operations) (trees : List Tree) (m : Machine) (site : ℕ) where
  abbrev q : Path
  q = path_in m.memo site

  -- a value that stays
  pub stayed : (way : Way) (code : List Instruction) (values : List Value)
      → IsEvaluating a operations trees m site (does stay way ∷ code) values → IsGoing a operations trees m site way code values
  unfolding resume
  stayed way code values ev =
      let (is, base, kinds_are, fit) = ev.code_fits in
      let vs = children_of (tree_in trees ev.id.0) in
      let (front, w, own_is, fits, front_fit) = top_of a.signatures trees ev.own is base
      (subst (ValuesFit a.signatures (stack_of trees ev.own)) kinds_are ev.values_fit) in
      let inside = subst (All (IsIn (length trees))) own_is ev.inside in
      let stack : stack_of trees ev.own ≡ value_in trees w ∷ stack_of trees front =
      ap (stack_of trees) own_is ∙ stack_push trees front w in
      record {
        id = ev.id;
        has = ev.has;
        there = ev.there;
        production = ev.production;
        is = ev.is;
        under = ev.under;
        own = front;
        on_top = w;
        values_are = ev.values_are ∙ ap (λ l. ev.under ++ l) own_is ∙ sym (append_assoc ev.under front (w ∷ []));
        kind = is;
        kinds = base;
        inside = all_left (IsIn (length trees)) front (w ∷ []) inside;
        top_inside = all_right (IsIn (length trees)) front (w ∷ []) inside 0 w (omega arith);
        values_fit = front_fit;
        top_fits = fits;
        way_fits = fit;
        runs = subst (λ (l : List t.Value). Runs a operations trees ev.under m (on_top l (go (resume operations q vs code) way))) stack
            ev.runs;
      }

  -- on with the value kept
  kept_on : (way : Way) (code : List Instruction) (values : List Value) (n : ℕ) (g : IsGoing a operations trees m site way code values)
      → CodeFits a operations g.production code n (g.kind ∷ g.kinds)
      → Runs a operations trees g.under m (resume operations q (children_of (tree_in trees g.id.0)) code n
      (value_in trees g.on_top ∷ stack_of trees g.own))
      → IsEvaluating a operations trees m site (drop n code) values
  kept_on way code values n g fit runs =
      let vs = children_of (tree_in trees g.id.0) in
      let stack = stack_push trees g.own g.on_top in
      record {
        id = g.id;
        has = g.has;
        there = g.there;
        production = g.production;
        is = g.is;
        under = g.under;
        own = g.own ++ g.on_top ∷ [];
        values_are = g.values_are ∙ append_assoc g.under g.own (g.on_top ∷ []);
        kinds = g.kind ∷ g.kinds;
        inside = All-push (IsIn (length trees)) g.own g.on_top g.inside g.top_inside;
        values_fit = subst (λ (l : List t.Value). ValuesFit a.signatures l (g.kind ∷ g.kinds)) (sym stack)
            (g.kind, g.kinds, refl, g.top_fits, g.values_fit);
        code_fits = fits_drop a operations g.production code n (g.kind ∷ g.kinds) fit;
        runs = subst (λ (l : List t.Value). Runs a operations trees g.under m (resume operations q vs (drop n code) 0 l)) (sym stack)
            (subst (Runs a operations trees g.under m) (resume_drop operations q vs code n (value_in trees g.on_top ∷ stack_of trees g.own))
            runs);
      }

  -- on without it
  taken_on : (way : Way) (code : List Instruction) (values : List Value) (n : ℕ) (g : IsGoing a operations trees m site way code values)
      → CodeFits a operations g.production code n g.kinds
      → Runs a operations trees g.under m (resume operations q (children_of (tree_in trees g.id.0)) code n (stack_of trees g.own))
      → IsEvaluating a operations trees m site (drop n code) (take (length values - 1) values)
  taken_on way code values n g fit runs =
      let vs = children_of (tree_in trees g.id.0) in
      let l = ap length g.values_are in
      let k = length-append (g.under ++ g.own) (g.on_top ∷ []) in
      record {
        id = g.id;
        has = g.has;
        there = g.there;
        production = g.production;
        is = g.is;
        under = g.under;
        own = g.own;
        values_are = ap (take (length values - 1)) g.values_are
            ∙ take_at (g.under ++ g.own) (g.on_top ∷ []) (length values - 1) (omega (arith, l, k));
        kinds = g.kinds;
        inside = g.inside;
        values_fit = g.values_fit;
        code_fits = fits_drop a operations g.production code n g.kinds fit;
        runs = subst (Runs a operations trees g.under m) (resume_drop operations q vs code n (stack_of trees g.own)) runs;
      }

  -- at the next instruction, or after some that are left out
  pub next_on : (code : List Instruction) (values : List Value) → IsGoing a operations trees m site next code values
      → IsEvaluating a operations trees m site code values
  next_on code values g = kept_on next code values 0 g g.way_fits g.runs

  pub skip_on : (n : ℕ) (code : List Instruction) (values : List Value) → IsGoing a operations trees m site (skip n) code values
      → IsEvaluating a operations trees m site (drop n code) values
  skip_on n code values g = kept_on (skip n) code values n g g.way_fits g.runs

  -- as the value says
  pub truth_there : (n : ℕ) (code : List Instruction) (values : List Value) → IsGoing a operations trees m site (unless n) code values
      → (0 < length values) × ((b : Bool) × (slice_get values (length values - 1) ≡ Some (stored.Bool b)))
  truth_there n code values g =
      let (is, holds, fails) = g.way_fits in
      let (b, w_is) = truth_of a.signatures trees g.on_top g.kind g.top_fits is in
      let l = ap length g.values_are in
      let k = length-append (g.under ++ g.own) (g.on_top ∷ []) in
      let at : length values - 1 ≡ length (g.under ++ g.own) = omega (arith, l, k) in (
        omega (arith, l, k),
        (
          b,
          ap (slice_get values) at ∙ ap (λ vs. slice_get vs (length (g.under ++ g.own))) g.values_are
              ∙ push_last (g.under ++ g.own) g.on_top ∙ ap Some w_is,
        ),
      )

  its_truth : (n : ℕ) (code : List Instruction) (values : List Value) (g : IsGoing a operations trees m site (unless n) code values)
      (b : Bool) → slice_get values (length values - 1) ≡ Some (stored.Bool b) → g.on_top ≡ stored.Bool b
  its_truth n code values g b is =
      let l = ap length g.values_are in
      let k = length-append (g.under ++ g.own) (g.on_top ∷ []) in
      let at : length values - 1 ≡ length (g.under ++ g.own) = omega (arith, l, k) in
      same_Some g.on_top (stored.Bool b) (sym (ap (slice_get values) at ∙ ap (λ vs. slice_get vs (length (g.under ++ g.own))) g.values_are
      ∙ push_last (g.under ++ g.own) g.on_top) ∙ is)

  pub holds_on : (n : ℕ) (code : List Instruction) (values : List Value) → IsGoing a operations trees m site (unless n) code values
      → slice_get values (length values - 1) ≡ Some (stored.Bool true)
      → IsEvaluating a operations trees m site code (take (length values - 1) values)
  holds_on n code values g is =
      let vs = children_of (tree_in trees g.id.0) in
      let stack = stack_of trees g.own in
      taken_on (unless n) code values 0 g g.way_fits.1
      (subst (λ (v : Value). Runs a operations trees g.under m (branch (value_in trees v) (resume operations q vs code 0 stack)
      (resume operations q vs code n stack))) (its_truth n code values g true is) g.runs)

  pub fails_on : (n : ℕ) (code : List Instruction) (values : List Value) → IsGoing a operations trees m site (unless n) code values
      → slice_get values (length values - 1) ≡ Some (stored.Bool false)
      → IsEvaluating a operations trees m site (drop n code) (take (length values - 1) values)
  fails_on n code values g is =
      let vs = children_of (tree_in trees g.id.0) in
      let stack = stack_of trees g.own in
      taken_on (unless n) code values n g g.way_fits.2
      (subst (λ (v : Value). Runs a operations trees g.under m (branch (value_in trees v) (resume operations q vs code 0 stack)
      (resume operations q vs code n stack))) (its_truth n code values g false is) g.runs)

  -- at the end of code there is one value
  pub at_end : (values : List Value) → IsEvaluating a operations trees m site [] values → 0 < length values
  at_end values ev =
      let (is, kinds_are) = ev.code_fits in
      let l = fit_length a.signatures (stack_of trees ev.own) ev.kinds ev.values_fit in
      let k = stack_length trees ev.own in
      let c = ap length kinds_are in
      let v = ap length ev.values_are in
      let j = length-append ev.under ev.own in
      omega (arith, l, k, c, v, j)

  pub ends : (front : List Value) (w : Value) → IsEvaluating a operations trees m site [] (front ++ w ∷ [])
      → Runs a operations trees front m (done (value (value_in trees w))) × IsIn (length trees) w
  unfolding resume
  ends front w ev =
      let (is, kinds_are) = ev.code_fits in
      let (below_it, v, own_is, fits, rest_fit) = top_of a.signatures trees ev.own is []
      (subst (ValuesFit a.signatures (stack_of trees ev.own)) kinds_are ev.values_fit) in
      let none = none_fit a.signatures trees below_it rest_fit in
      let own_one : ev.own ≡ v ∷ [] = own_is ∙ ap (λ l. l ++ v ∷ []) none in
      let all : front ++ w ∷ [] ≡ ev.under ++ v ∷ [] = ev.values_are ∙ ap (λ l. ev.under ++ l) own_one in
      let (front_is, w_is) = one_end front ev.under w v all in
      let inside = subst (All (IsIn (length trees))) own_one ev.inside in
      let runs = subst (λ l. Runs a operations trees ev.under m (on_top (stack_of trees l) (λ u rest. done (value u)))) own_one ev.runs in (
        subst (λ l. Runs a operations trees l m (done (value (value_in trees w)))) (sym front_is)
            (subst (λ (z : Value). Runs a operations trees ev.under m (done (value (value_in trees z)))) (sym w_is) runs),
        subst (IsIn (length trees)) (sym w_is) (all_right (IsIn (length trees)) [] (v ∷ []) inside 0 v (omega arith)),
      )
    where
      one_end : (xs ys : List Value) (x y : Value) → xs ++ x ∷ [] ≡ ys ++ y ∷ [] → (xs ≡ ys) × (x ≡ y)
      one_end [] [] x y same = (refl, cc same)
      one_end [] (z ∷ []) x y same = absurd (cc same)
      one_end [] (z ∷ u ∷ ys) x y same = absurd (cc same)
      one_end (z ∷ []) [] x y same = absurd (cc same)
      one_end (z ∷ u ∷ xs) [] x y same = absurd (cc same)
      one_end (z ∷ xs) (u ∷ ys) x y same =
          let first : z ≡ u = cc same in
          let later : xs ++ x ∷ [] ≡ ys ++ y ∷ [] = cc same in
          let (xs_are, x_is) = one_end xs ys x y later in
          (ap (λ l. z ∷ l) xs_are ∙ ap (λ v. v ∷ ys) first, x_is)

  -- the value of code that is at its end is the last one
  pub ends_on_top : (values : List Value) → IsEvaluating a operations trees m site [] values
      → (under : List Value) × (v : Value) × (values ≡ under ++ v ∷ []) × Runs a operations trees under m (done (value (value_in trees v)))
      × IsIn (length trees) v
  ends_on_top values ev =
      let some = at_end values ev in
      let (front, w, is) = last_split a.signatures trees values (λ none. let l = ap length none in omega (arith, some, l)) in
      let (runs, inside) = ends front w (subst (λ (vs : List Value). IsEvaluating a operations trees m site [] vs) is ev) in
      (front, w, is, runs, inside)

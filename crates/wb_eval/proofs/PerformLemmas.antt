-- An instruction that was done, and code that goes on or stops.
use Rattle.std.proofs.Common.{◌≡◌, ◌∙◌, ◌≤◌, ◌<◌, ◌+◌, ◌-◌, ◌^◌, ◌++◌, ◌∷◌, [], ℕ, zero, suc, inl, inr, List, Option}
use Rattle.std.proofs.Common.{Some, None, length}
use Rattle.std.proofs.Common.{take, drop, slice_get, get_or, All, refl, sym, ap, subst, arith}
use Rattle.std.proofs.lemmas.List.{length-map}
use Rattle.wb_operations.specs.Given.{FitKinds, plains_of}
use Rattle.wb_operations.specs.Operations.{OperationSignature, Operations}
use Rattle.wb_syntax_resolved.specs.declared.attribution.AttributionParts.{AttributionParts}
use Rattle.wb_values.specs.declared.value.Value.{Value}
use Rattle.wb_values.specs.declared.value.Value.TheVariants as stored
use Rattle.wb_values.specs.Tree.{Tree}
use Rattle.wb_values.specs.ValuesIn.{IsIn, last}
use Rattle.wb_eval_theory.specs.Walks.{done, fault}
use Rattle.wb_eval_rules.specs.Code.{Way, Instruction, does, job_of, way_of, instruction_of, instructions}
use Rattle.wb_eval_rules.specs.declared.code.After.{After}
use Rattle.wb_eval_rules.specs.declared.code.After.TheVariants as after
use Rattle.wb_eval_rules.specs.declared.code.Op.{Op}
use Rattle.wb_eval_rules.specs.declared.code.Task.{Task}
use Rattle.wb_eval_rules.specs.declared.code.Task.TheVariants as task
use Rattle.wb_eval.proofs.CodeTaskLemmas.{build_ready, built, call_ready, called, call_failed}
use Rattle.wb_eval.proofs.FollowLemmas.{stayed, next_on, skip_on, holds_on, fails_on, truth_there}
use Rattle.wb_eval.proofs.PlainLemmas.{given_value, given_fault}
use Rattle.wb_eval.proofs.SteadyLemmas.{same_machine}
use Rattle.wb_eval.specs.Inner.Works.{IsEvaluating, IsGoing, HasDone, HasVisited, IsAfter, IsBuilt, IsCalled, IsFollowed, IsBehind}
use Rattle.wb_eval.specs.Inner.Machines.{Runs}
use Rattle.wb_eval.specs.Inner.Works.{HasTruthFor, IsStopped, IsRan, Parks, GoesOnAt}
use Rattle.wb_eval.specs.declared.frame.Frame.{Frame}
use Rattle.wb_eval.specs.declared.context.Expression.{Expression}
use Rattle.wb_eval.specs.declared.machine.Key.{Key}
use Rattle.wb_eval.specs.declared.machine.Machine.{Machine}
use Rattle.wb_eval.specs.declared.ran.Ran.{Ran}
use Rattle.wb_eval.specs.declared.ran.Stop.{Stop}
use Rattle.wb_eval.specs.declared.ran.Stop.TheVariants as stop

module _ {a : AttributionParts} {operations : Operations} {trees : List Tree} {m : Machine} {site : ℕ} {way : Way}
    {code : List Instruction} (old : List Value) (t : Task)
    (ev : IsEvaluating a operations trees m site (does (job_of t) way ∷ code) old) where
  as_form : (u : Task) → t ≡ u → IsEvaluating a operations trees m site (does (job_of u) way ∷ code) old
  as_form u is = subst (λ (z : Task). IsEvaluating a operations trees m site (does (job_of z) way ∷ code) old) is ev

  pub build_here : (p n : ℕ) → t ≡ task.Build p n → (n ≤ length old) × All (IsIn (length trees)) (last n old)
  build_here p n is = build_ready a operations trees m site way code old p n (as_form (task.Build p n) is)

  pub build_done : (p n : ℕ) → t ≡ task.Build p n → (trees' : List Tree) (new : List Value) → IsBuilt trees trees' old new p n
      → HasDone a operations trees' m m site (does (job_of t) way) way code new None
  build_done p n is trees' new b =
      let it = built a operations trees m site way code old p n b.id (as_form (task.Build p n) is) b.id_is in (
        same_machine m,
        subst (λ (vs : List Value). IsGoing a operations trees' m site way code vs) (sym b.values)
            (subst (λ (ts : List Tree). IsGoing a operations ts m site way code (take (length old - n) old ++ stored.Tree b.id ∷ []))
            (sym b.trees_are) it),
      )

  pub call_here : (i n : ℕ) → t ≡ task.Call i n → (n ≤ length old) × (i < length operations.signatures)
      × ((s : OperationSignature) → slice_get operations.signatures i ≡ Some s → FitKinds s.takes (last n old))
  call_here i n is = call_ready a operations trees m site way code old i n (as_form (task.Call i n) is)

  pub call_done : (i n : ℕ) → t ≡ task.Call i n → (new : List Value) (r : Option Stop)
      → IsCalled (operations.meaning i (plains_of (last n old))) old new i n r
      → HasDone a operations trees m m site (does (job_of t) way) way code new r
  call_done i n is new None (w, gave, values) =
      let (p, means, plain_one) = given_value _ w gave in (
        same_machine m,
        subst (λ (vs : List Value). IsGoing a operations trees m site way code vs) (sym values)
            (called a operations trees m site way code old i n w p (as_form (task.Call i n) is) means plain_one),
      )
  call_done i n is new (Some (stop.Fault operation code_of_fault)) (same, gave) =
      let ev' = as_form (task.Call i n) is in
      let runs = call_failed a operations trees m site way code old i n code_of_fault ev' (given_fault _ code_of_fault gave) in (
        same_machine m,
        record {
          under = ev'.under;
          runs = subst (λ (z : ℕ). Runs a operations trees ev'.under m (done (fault z code_of_fault)))
              (sym same) runs;
        },
      )
  call_done i n is new (Some (stop.Needs key)) never = absurd never

  pub stay_done : t ≡ task.Stay → HasDone a operations trees m m site (does (job_of t) way) way code old None
  stay_done is = (same_machine m, stayed a operations trees m site way code old (as_form task.Stay is))

-- a visit that is done, or for which code stops
pub visit_none : {a : AttributionParts} {operations : Operations} {trees : List Tree} (m new : Machine) (site : ℕ) (i : Instruction)
    (way : Way)
    (code : List Instruction) (values : List Value) (r : Option Key) → r ≡ None
    → HasVisited a operations trees m new site i way code values r → HasDone a operations trees m new site i way code values None
visit_none {a} {operations} {trees} m new site i way code values r is it =
    subst (HasVisited a operations trees m new site i way code values) is it

pub visit_some : {a : AttributionParts} {operations : Operations} {trees : List Tree} (m new : Machine) (site : ℕ) (i : Instruction)
    (way : Way)
    (code : List Instruction) (values : List Value) (r : Option Key) (k : Key) → r ≡ Some k
    → HasVisited a operations trees m new site i way code values r
    → HasDone a operations trees m new site i way code values (Some (stop.Needs k))
visit_some {a} {operations} {trees} m new site i way code values r k is it =
    subst (HasVisited a operations trees m new site i way code values) is it

-- the instruction at a place, and the code behind it
pub code_at : (ops : List Op) (at : ℕ) (op : Op) → at < length ops → op ≡ get_or ops at op
    → drop at (instructions ops) ≡ instruction_of op ∷ drop (at + 1) (instructions ops)
code_at [] at op within is = absurd (omega (arith, within))
code_at (o ∷ ops) zero op within is = ap (λ (z : Op). instruction_of z ∷ instructions ops) (sym is)
code_at (o ∷ ops) (suc at) op within is =
    let e : suc at + 1 ≡ suc (at + 1) = omega arith in
    code_at ops at op (omega (arith, within)) is
    ∙ ap (λ (n : ℕ). instruction_of op ∷ drop n (instructions (o ∷ ops))) (sym e)

pub drop_past : {X : Type 0} (xs : List X) (n : ℕ) → length xs ≤ n → drop n xs ≡ []
drop_past [] zero past = refl
drop_past [] (suc n) past = refl
drop_past (x ∷ xs) zero past = absurd (omega (arith, past))
drop_past (x ∷ xs) (suc n) past = drop_past xs n (omega (arith, past))

abbrev nothing : (X : Type 0) → List X
nothing X = []

drop_nil : {X : Type 0} (n : ℕ) → drop n (nothing X) ≡ []
drop_nil zero = refl
drop_nil (suc n) = refl

drop_twice : {X : Type 0} (xs : List X) (n k : ℕ) → drop k (drop n xs) ≡ drop (n + k) xs
drop_twice [] n k = ap (drop k) (drop_nil n) ∙ drop_nil k ∙ sym (drop_nil (n + k))
drop_twice (x ∷ xs) zero k = let e : 0 + k ≡ k = omega arith in ap (λ (j : ℕ). drop j (x ∷ xs)) (sym e)
drop_twice (x ∷ xs) (suc n) k =
    let e : suc n + k ≡ suc (n + k) = omega arith in drop_twice xs n k ∙ ap (λ (j : ℕ). drop j (x ∷ xs)) (sym e)

-- the code at a place so far behind another
behind : (ops : List Op) (at n result : ℕ) → IsBehind at n result → length ops < 2 ^ 64
    → drop n (drop (at + 1) (instructions ops)) ≡ drop result (instructions ops)
behind ops at n result (inl is) short = drop_twice (instructions ops) (at + 1) n ∙ ap (λ (j : ℕ). drop j (instructions ops)) (sym is)
behind ops at n result (inr (first, second)) short =
    let l = length-map ops instruction_of in
    drop_twice (instructions ops) (at + 1) n
    ∙ drop_past (instructions ops) (at + 1 + n) (omega (arith, l, second, short))
    ∙ sym (drop_past (instructions ops) result (omega (arith, l, first, short)))

module _ (a : AttributionParts) (operations : Operations) (trees : List Tree) (m : Machine) (site : ℕ) where
  -- a value that says how code goes on is there
  pub truth_for : (w : After) (code : List Instruction) (values : List Value) → IsGoing a operations trees m site (way_of w) code values
      → HasTruthFor w values
  truth_for after.Next code values g = tt
  truth_for (after.Skip n) code values g = tt
  truth_for (after.Unless n) code values g = truth_there a operations trees m site n code values g

  -- code goes on
  pub followed : (ops : List Op) (w : After) (old new : List Value) (at result : ℕ) → length ops < 2 ^ 64 → IsFollowed w old new at result
      → IsGoing a operations trees m site (way_of w) (drop (at + 1) (instructions ops)) old
      → IsEvaluating a operations trees m site (drop result (instructions ops)) new
  followed ops after.Next old new at result short (same, is) g =
      subst (λ (n : ℕ). IsEvaluating a operations trees m site (drop n (instructions ops)) new) (sym is)
      (subst (λ (vs : List Value). IsEvaluating a operations trees m site (drop (at + 1) (instructions ops)) vs) (sym same)
      (next_on a operations trees m site (drop (at + 1) (instructions ops)) old g))
  followed ops (after.Skip n) old new at result short (same, is) g =
      subst (λ (l : List Instruction). IsEvaluating a operations trees m site l new) (behind ops at n result is short)
      (subst (λ (vs : List Value). IsEvaluating a operations trees m site (drop n (drop (at + 1) (instructions ops))) vs) (sym same)
      (skip_on a operations trees m site n (drop (at + 1) (instructions ops)) old g))
  followed ops (after.Unless n) old new at result short (taken, inl (truth, is)) g =
      subst (λ (n : ℕ). IsEvaluating a operations trees m site (drop n (instructions ops)) new) (sym is)
      (subst (λ (vs : List Value). IsEvaluating a operations trees m site (drop (at + 1) (instructions ops)) vs) (sym taken)
      (holds_on a operations trees m site n (drop (at + 1) (instructions ops)) old g truth))
  followed ops (after.Unless n) old new at result short (taken, inr (truth, is)) g =
      subst (λ (l : List Instruction). IsEvaluating a operations trees m site l new) (behind ops at n result is short)
      (subst (λ (vs : List Value). IsEvaluating a operations trees m site (drop n (drop (at + 1) (instructions ops))) vs) (sym taken)
      (fails_on a operations trees m site n (drop (at + 1) (instructions ops)) old g truth))

  -- code stops
  pub stopped : (x : Expression) (at : ℕ) (i : Instruction) (way : Way) (rest : List Instruction) (values : List Value) (s : Stop) (r : Ran)
      → x.site ≡ site → drop at (instructions x.code.now) ≡ i ∷ rest → IsAfter a operations trees m site i way rest values (Some s)
      → IsStopped x at s r → IsRan a operations trees m values r
  stopped x at i way rest values (stop.Fault operation number) r here left fails is =
      subst (IsRan a operations trees m values) (sym is) fails
  stopped x at i way rest values (stop.Needs k) r here left parks is =
      subst (IsRan a operations trees m values) (sym is)
      (subst (λ (n : ℕ). Parks a operations trees m n (drop at (instructions x.code.now)) values k) (sym here)
      (subst (λ (l : List Instruction). Parks a operations trees m site l values k) (sym left) parks))

-- less is left of the code
pub less_left : (w : After) (old new : List Value) (at result n : ℕ) → IsFollowed w old new at result → at < n → n < 2 ^ 64
    → n - result < n - at
less_left after.Next old new at result n (same, is) lt short = omega (arith, is, lt)
less_left (after.Skip k) old new at result n (same, inl is) lt short = omega (arith, is, lt)
less_left (after.Skip k) old new at result n (same, inr (first, second)) lt short = omega (arith, first, lt, short)
less_left (after.Unless k) old new at result n (taken, inl (truth, is)) lt short = omega (arith, is, lt)
less_left (after.Unless k) old new at result n (taken, inr (truth, inl is)) lt short = omega (arith, is, lt)
less_left (after.Unless k) old new at result n (taken, inr (truth, inr (first, second))) lt short = omega (arith, first, lt, short)

-- a frame's code goes on behind its read
pub going_here : {a : AttributionParts} {operations : Operations} {trees : List Tree} {m : Machine} (f : Frame) (values : List Value)
    (op : Op)
    → GoesOnAt a operations trees m values f → op ≡ get_or f.code.now f.at op
    → IsGoing a operations trees m f.site (way_of op.after) (drop (f.at + 1) (instructions f.code.now)) values
going_here {a} {operations} {trees} {m} f values op g is =
    let here = sym g.left ∙ code_at f.code.now f.at op g.at_within is in
    let way_is : g.way ≡ way_of op.after = cc here in
    let rest_is : g.rest ≡ drop (f.at + 1) (instructions f.code.now) = cc here in
    subst (λ (w : Way). IsGoing a operations trees m f.site w (drop (f.at + 1) (instructions f.code.now)) values) way_is
    (subst (λ (l : List Instruction). IsGoing a operations trees m f.site g.way l values) rest_is g.going)

-- all of the code
pub drop_none : {X : Type 0} (xs : List X) → drop 0 xs ≡ xs
drop_none [] = refl
drop_none (x ∷ xs) = refl

-- past the end of code nothing is left
pub code_past : (ops : List Op) (at : ℕ) → length ops ≤ at → drop at (instructions ops) ≡ []
code_past ops at past = let l = length-map ops instruction_of in drop_past (instructions ops) at (omega (arith, l, past))

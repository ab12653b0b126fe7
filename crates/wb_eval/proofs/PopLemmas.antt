-- The last values of a stack, as an instruction takes them away.
use Rattle.std.proofs.Common.{◌≡◌, ◌∙◌, ◌≤◌, ◌+◌, ◌-◌, ◌++◌, ℕ, zero, suc, List, [], ◌∷◌, All}
use Rattle.std.proofs.Common.{length}
use Rattle.std.proofs.Common.{refl, sym, ap, subst, arith, take, drop, append_assoc}
use Rattle.std.proofs.lemmas.List.{length-drop, length-append, take_at, drop_at}
use Rattle.wb_lemmas.proofs.Elements.{all_left, all_right}
use Rattle.wb_base.specs.declared.symbol.Kind.{Kind}
use Rattle.wb_operations.specs.Operations.{Operations}
use Rattle.wb_syntax_resolved.specs.declared.attribution.AttributionParts.{AttributionParts}
use Rattle.wb_values.specs.declared.value.Value.{Value}
use Rattle.wb_values.specs.Fits.{FitAll}
use Rattle.wb_values.specs.Tree.{Tree, Values, empty, more}
use Rattle.wb_values.specs.Tree as t
use Rattle.wb_values.specs.ValuesIn.{values_in, IsIn}
use Rattle.wb_eval.proofs.CodeWalkLemmas.{size_of}
use Rattle.wb_eval.proofs.StackLemmas.{stack_append, fit_length, kinds_length, fit_popped}
use Rattle.wb_eval.specs.Inner.Fits.{stack_of, more_kinds, ValuesFit}
use Rattle.wb_eval.specs.Inner.Going.{pushed}

-- sizes of stacks
pub values_size : (trees : List Tree) (xs : List Value) → size_of (values_in trees xs) ≡ length xs
values_size trees [] = refl
values_size trees (x ∷ xs) = ap suc (values_size trees xs)

pushed_length : (us : Values) (base : List t.Value) → length (pushed us base) ≡ size_of us + length base
pushed_length empty base = omega arith
pushed_length (more u us) base = let h = pushed_length us (u ∷ base) in omega (arith, h)

pub stack_length : (trees : List Tree) (xs : List Value) → length (stack_of trees xs) ≡ length xs
stack_length trees xs = let h = pushed_length (values_in trees xs) [] in let g = values_size trees xs in omega (arith, h, g)

split : {X : Type 0} (k : ℕ) (xs : List X) → take k xs ++ drop k xs ≡ xs
split zero [] = refl
split (suc k) [] = refl
split zero (x ∷ xs) = refl
split (suc k) (x ∷ xs) = ap (λ l. x ∷ l) (split k xs)

module _ (a : AttributionParts) (operations : Operations) (trees : List Tree) where
  -- what is on top and what is below, where kinds of a list are on top
  pub record IsPopped (values : List Value) (n : ℕ) (ks base : List Kind) : Type 0 where
    pub front : List Value
    pub args : List Value
    pub whole : front ++ args ≡ values
    pub count : length args ≡ n
    pub front_inside : All (IsIn (length trees)) front
    pub args_inside : All (IsIn (length trees)) args
    pub args_fit : FitAll a.signatures (values_in trees args) ks
    pub front_fit : ValuesFit a.signatures (stack_of trees front) base
    pub stack_is : stack_of trees values ≡ pushed (values_in trees args) (stack_of trees front)

  pub pop : (values : List Value) (n : ℕ) (ks base kinds : List Kind) → All (IsIn (length trees)) values
      → ValuesFit a.signatures (stack_of trees values) kinds → kinds ≡ more_kinds ks base → length ks ≡ n → IsPopped values n ks base
  pop values n ks base kinds inside fit kinds_are len =
      let k = length values - n in
      let whole = split k values in
      let lens = fit_length a.signatures (stack_of trees values) kinds fit in
      let kl = kinds_length a.signatures ks base in
      let sl = stack_length trees values in
      let ka = ap length kinds_are in
      let enough : n ≤ length values = omega (arith, lens, kl, sl, ka, len) in
      let dl : length (drop k values) ≡ length values - k = length-drop k values in
      let count : length (drop k values) ≡ n = omega (arith, dl, enough) in
      let ins = subst (All (IsIn (length trees))) (sym whole) inside in
      let stack : stack_of trees values ≡ pushed (values_in trees (drop k values)) (stack_of trees (take k values)) =
      ap (stack_of trees) (sym whole) ∙ stack_append trees (take k values) (drop k values) [] in
      let fit' = subst (ValuesFit a.signatures (pushed (values_in trees (drop k values)) (stack_of trees (take k values)))) kinds_are
      (subst (λ (l : List t.Value). ValuesFit a.signatures l kinds) stack fit) in
      let vsz = values_size trees (drop k values) in
      let (args_fit, front_fit) = fit_popped a.signatures ks base (values_in trees (drop k values)) (stack_of trees (take k values)) fit'
      (omega (arith, vsz, count, len)) in
      record {
        front = take k values;
        args = drop k values;
        whole = whole;
        count = count;
        front_inside = all_left (IsIn (length trees)) (take k values) (drop k values) ins;
        args_inside = all_right (IsIn (length trees)) (take k values) (drop k values) ins;
        args_fit = args_fit;
        front_fit = front_fit;
        stack_is = stack;
      }

-- the last values of all are those of the instance at work
pub last_front : (values under own front args : List Value) (n : ℕ) → values ≡ under ++ own → front ++ args ≡ own → length args ≡ n
    → take (length values - n) values ≡ under ++ front
last_front values under own front args n are whole count =
    let all : values ≡ (under ++ front) ++ args = are ∙ ap (λ l. under ++ l) (sym whole) ∙ sym (append_assoc under front args) in
    let l = length-append (under ++ front) args in
    let k = ap length all in
    ap (take (length values - n)) all ∙ take_at (under ++ front) args (length values - n) (omega (arith, l, k, count))

pub last_args : (values under own front args : List Value) (n : ℕ) → values ≡ under ++ own → front ++ args ≡ own → length args ≡ n
    → (drop (length values - n) values ≡ args) × (n ≤ length values)
last_args values under own front args n are whole count =
    let all : values ≡ (under ++ front) ++ args = are ∙ ap (λ l. under ++ l) (sym whole) ∙ sym (append_assoc under front args) in
    let l = length-append (under ++ front) args in
    let k = ap length all in (
      ap (drop (length values - n)) all ∙ drop_at (under ++ front) args (length values - n) (omega (arith, l, k, count)),
      omega (arith, l, k, count),
    )

-- Stacks of values: what is pushed, and kinds of what is popped.
use Rattle.std.proofs.Common.{◌≡◌, ◌∙◌, ◌+◌, ◌++◌, suc, List, [], ◌∷◌, length, refl, sym, ap, subst, arith}
use Rattle.wb_base.specs.declared.symbol.Kind.{Kind}
use Rattle.wb_values.specs.declared.value.Value.{Value}
use Rattle.wb_values.specs.Fits.{FitsValue, FitAll}
use Rattle.wb_values.specs.Signature.{Signature}
use Rattle.wb_values.specs.Tree.{Tree, Values, empty, more}
use Rattle.wb_values.specs.Tree as t
use Rattle.wb_values.specs.ValuesIn.{value_in, values_in}
use Rattle.wb_eval.proofs.CodeWalkLemmas.{size_of}
use Rattle.wb_eval.specs.Inner.Fits.{stack_of, more_kinds, ValuesFit}
use Rattle.wb_eval.specs.Inner.Going.{pushed}

-- a value on top
pub stack_push : (trees : List Tree) (values : List Value) (v : Value)
    → stack_of trees (values ++ v ∷ []) ≡ value_in trees v ∷ stack_of trees values
stack_push trees values v = by_stack values [] where
  by_stack : (values : List Value) (base : List t.Value)
      → pushed (values_in trees (values ++ v ∷ [])) base ≡ value_in trees v ∷ pushed (values_in trees values) base
  by_stack [] base = refl
  by_stack (w ∷ values) base = by_stack values (value_in trees w ∷ base)

pub stack_append : (trees : List Tree) (values others : List Value) (base : List t.Value)
    → pushed (values_in trees (values ++ others)) base ≡ pushed (values_in trees others) (pushed (values_in trees values) base)
stack_append trees [] others base = refl
stack_append trees (w ∷ values) others base = stack_append trees values others (value_in trees w ∷ base)

module _ (signatures : List Signature) where
  -- as many values as kinds
  pub fit_length : (vs : List t.Value) (kinds : List Kind) → ValuesFit signatures vs kinds → length vs ≡ length kinds
  fit_length [] kinds fit = ap length (sym fit)
  fit_length (v ∷ vs) kinds (k, rest, same, fits, others) = ap suc (fit_length vs rest others) ∙ ap length (sym same)

  pub kinds_length : (ks base : List Kind) → length (more_kinds ks base) ≡ length ks + length base
  kinds_length [] base = omega arith
  kinds_length (k ∷ ks) base = let h = kinds_length ks (k ∷ base) in omega (arith, h)

  -- the values on top are of the kinds that were pushed last, and those below of the others
  pub fit_popped : (ks base : List Kind) (us : Values) (stack : List t.Value) → ValuesFit signatures (pushed us stack) (more_kinds ks base)
      → size_of us ≡ length ks → FitAll signatures us ks × ValuesFit signatures stack base
  fit_popped [] base empty stack fit same = (refl, fit)
  fit_popped [] base (more u us) stack fit same = absurd (omega (arith, same))
  fit_popped (k ∷ ks) base empty stack fit same = absurd (omega (arith, same))
  fit_popped (k ∷ ks) base (more u us) stack fit same =
      let (all, (first, rest, is, fits, others)) = fit_popped ks (k ∷ base) us (u ∷ stack) fit (omega (arith, same)) in
      let k_is : k ≡ first = cc is in
      let base_is : base ≡ rest = cc is in (
        (k, ks, refl, subst (FitsValue signatures u) (sym k_is) fits, all),
        subst (ValuesFit signatures stack) (sym base_is) others,
      )

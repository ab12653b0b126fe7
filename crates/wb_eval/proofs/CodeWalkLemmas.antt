-- What code of an expression is: the walk of the expression.
use Rattle.std.proofs.Common.{◌≡◌, ◌∙◌, ◌+◌, ◌++◌, ℕ, zero, suc, List, [], ◌∷◌, Some, length, refl, sym, ap, arith}
use Rattle.std.proofs.Common.{drop}
use Rattle.std.proofs.lemmas.List.{append_assoc}
use mathlib.Core.Path.{fun_ext}
use Rattle.wb_base.specs.Different.{Differ}
use Rattle.wb_base.specs.declared.symbol.Kind.{Kind}
use Rattle.wb_base.specs.declared.symbol.Kind.TheVariants as kd
use Rattle.wb_syntax_expressions.specs.Expression as x
use Rattle.wb_syntax_expressions.specs.Expression.{size}
use Rattle.wb_operations.specs.Operations.{OperationSignature, Operations, names_of}
use Rattle.wb_syntax_resolved.specs.declared.attribution.AttributionParts.{AttributionParts}
use Rattle.wb_syntax_resolved.specs.declared.production.Production.{Production}
use Rattle.wb_syntax_resolved.specs.Expression.{Expression, Expressions}
use Rattle.wb_types.specs.Kinds.{HasKind, HaveKinds}
use Rattle.wb_types.specs.Kinds as k
use Rattle.wb_values.specs.Tree.{node, Value, tree, Values, empty, more}
use Rattle.wb_eval_rules.proofs.CodeLemmas.{length_code}
use Rattle.wb_eval_rules.specs.Code.{build, call, stay, Way, next, skip, unless, Instruction, does, count, number_in, or_zero}
use Rattle.wb_eval_rules.specs.Code.{before_last, codes_of, code_of}
use Rattle.wb_eval_theory.specs.Instances.{Path}
use Rattle.wb_eval_theory.specs.Walks.{Walk, branch, with_call, number_of, walk_expression, walk_expressions}
use Rattle.wb_eval_rules.proofs.NumberLemmas.{number_is}
use Rattle.wb_eval.specs.Inner.Going.{popped, below, go, pushed, resume}

abbrev pub size_of : Values → ℕ
size_of empty = zero
size_of (more v us) = suc (size_of us)

abbrev joined : Values → Values → Values
joined empty us = us
joined (more v ws) us = more v (joined ws us)

joined_none : (us : Values) → joined us empty ≡ us
joined_none empty = refl
joined_none (more v us) = ap (more v) (joined_none us)

popped_pushed : (us : Values) (n : ℕ) (values : List Value) (after : Values)
    → popped (size_of us + n) (pushed us values) after ≡ popped n values (joined us after)
popped_pushed empty n values after = let e : 0 + n ≡ n = omega arith in ap (λ (m : ℕ). popped m values after) e
popped_pushed (more u us) n values after =
    let e : suc (size_of us) + n ≡ size_of us + suc n = omega arith in
    ap (λ (m : ℕ). popped m (pushed us (u ∷ values)) after) e ∙ popped_pushed us (suc n) (u ∷ values) after

below_pushed : (us : Values) (n : ℕ) (values : List Value) → below (size_of us + n) (pushed us values) ≡ below n values
below_pushed empty n values = let e : 0 + n ≡ n = omega arith in ap (λ (m : ℕ). below m values) e
below_pushed (more u us) n values =
    let e : suc (size_of us) + n ≡ size_of us + suc n = omega arith in
    ap (λ (m : ℕ). below m (pushed us (u ∷ values))) e ∙ below_pushed us (suc n) (u ∷ values)

-- so many values that were pushed are popped
pub popped_all : (us : Values) (n : ℕ) (values : List Value) → size_of us ≡ n → popped n (pushed us values) empty ≡ us
popped_all us n values l =
    let e : n ≡ size_of us + 0 = omega (arith, l) in
    ap (λ (m : ℕ). popped m (pushed us values) empty) e ∙ popped_pushed us 0 values empty ∙ joined_none us

pub below_all : (us : Values) (n : ℕ) (values : List Value) → size_of us ≡ n → below n (pushed us values) ≡ values
below_all us n values l =
    let e : n ≡ size_of us + 0 = omega (arith, l) in
    ap (λ (m : ℕ). below m (pushed us values)) e ∙ below_pushed us 0 values

-- the code of a choice, and what is behind it
pub code_apart : (signatures : List OperationSignature) (c h f : Expression) (way : Way) (code : List Instruction)
    → code_of signatures (x.If c h f) way ++ code
    ≡ code_of signatures c (unless (size h)) ++
    (code_of signatures h (skip (size f)) ++ (code_of signatures f next ++ does stay way ∷ code))
unfolding before_last
code_apart signatures c h f way code =
    let first = code_of signatures c (unless (size h)) in
    let second = code_of signatures h (skip (size f)) in
    let third = code_of signatures f next in
    append_assoc (first ++ second ++ third) (does stay way ∷ []) code
    ∙ append_assoc (first ++ second) third (does stay way ∷ code)
    ∙ append_assoc first second (third ++ does stay way ∷ code)

module _ (operations : Operations) (q : Path) (vs : Values) where
  abbrev At : List Instruction → ℕ → List Value → Walk
  At = resume operations q vs

  -- code that is left out
  resume_behind : (xs ys : List Instruction) (values : List Value) (n : ℕ) → n ≡ length xs → At (xs ++ ys) n values ≡ At ys 0 values
  unfolding resume
  resume_behind [] ys values zero is = refl
  resume_behind [] ys values (suc n) is = absurd (cc is)
  resume_behind (i ∷ xs) ys values zero is = absurd (cc is)
  resume_behind (i ∷ xs) ys values (suc n) is = resume_behind xs ys values n (omega (arith, is))

  pub resume_drop : (code : List Instruction) (n : ℕ) (values : List Value) → At code n values ≡ At (drop n code) 0 values
  unfolding resume
  resume_drop [] zero values = refl
  resume_drop [] (suc n) values = refl
  resume_drop (i ∷ code) zero values = refl
  resume_drop (i ∷ code) (suc n) values = resume_drop code n values

  -- two ways to go on that agree on as many values as there are expressions
  same_rest : (es : Expressions) (f h : Values → Walk) → ((us : Values) → size_of us ≡ count es → f us ≡ h us)
      → walk_expressions operations q vs es f ≡ walk_expressions operations q vs es h
  unfolding walk_expressions
  same_rest x.none f h s = s empty refl
  same_rest (x.more e es) f h s = ap (walk_expression operations q vs e)
      (fun_ext (λ v. same_rest es _ _ (λ us l. s (more v us) (ap suc l))))

  abbrev On : List Instruction → Way → List Value → Value → Walk
  On code way values v = go (At code) way v values

  module _ (a : AttributionParts) (production : Production) (differ : Differ (names_of operations.signatures)) where
    abbrev Code : Expression → Way → List Instruction
    Code e way = code_of operations.signatures e way

    abbrev Has : Expression → Kind → Type 0
    Has = HasKind a operations.signatures production

    built_walk : (p n : ℕ) (us : Values) (way : Way) (code : List Instruction) (values : List Value) → size_of us ≡ n
        → At (does (build p n) way ∷ code) 0 (pushed us values) ≡ On code way values (tree (node p us))
    unfolding resume
    built_walk p n us way code values l =
        ap (λ ws. go (At code) way (tree (node p ws)) (below n (pushed us values))) (popped_all us n values l)
        ∙ ap (go (At code) way (tree (node p us))) (below_all us n values l)

    called_walk : (name : List ℕ) (i : ℕ) → number_of operations.signatures name ≡ Some i → (n : ℕ) (us : Values) (way : Way)
        (code : List Instruction) (values : List Value) → size_of us ≡ n
        → At (does (call (number_in operations.signatures name) n) way ∷ code) 0 (pushed us values)
        ≡ with_call operations (number_of operations.signatures name) us (On code way values)
    unfolding resume
    called_walk name i found n us way code values l =
        ap (λ ws. with_call operations (Some (number_in operations.signatures name)) ws
        (λ v. go (At code) way v (below n (pushed us values))))
        (popped_all us n values l)
        ∙ ap (λ rest. with_call operations (Some (number_in operations.signatures name)) us (λ v. go (At code) way v rest))
        (below_all us n values l)
        ∙ ap (λ o. with_call operations o us (On code way values)) (ap Some (ap or_zero found) ∙ sym found)

    mutual
      unfolding resume walk_expression walk_expressions before_last codes_of

      -- the code of an expression is its walk
      pub code_walk : (e : Expression) (is : Kind) → Has e is → (way : Way) (code : List Instruction) (values : List Value)
          → At (Code e way ++ code) 0 values ≡ walk_expression operations q vs e (On code way values)
      code_walk (x.Int z) is has way code values = refl
      code_walk (x.Text s) is has way code values = refl
      code_walk (x.Truth b) is has way code values = refl
      code_walk (x.Label l) is has way code values = refl
      code_walk (x.Read l y) is has way code values = refl
      code_walk (x.Lexeme l) is has way code values = refl
      code_walk (x.Top y) is has way code values = refl
      code_walk (x.Forward y) is has way code values = refl
      code_walk (x.Build p es) is (k.build s at have same) way code values =
          ap (λ l. At l 0 values) (append_assoc (codes_of operations.signatures es) (does (build p (count es)) way ∷ []) code)
          ∙ codes_walk es s.children have (does (build p (count es)) way ∷ code) values
          ∙ same_rest es _ _ (λ us l. built_walk p (count es) us way code values l)
      code_walk (x.Call name es) is (k.call i o at named have same) way code values =
          ap (λ l. At l 0 values) (append_assoc (codes_of operations.signatures es)
          (does (call (number_in operations.signatures name) (count es)) way ∷ []) code)
          ∙ codes_walk es o.takes have (does (call (number_in operations.signatures name) (count es)) way ∷ code) values
          ∙ same_rest es _ _ (λ us l. called_walk name i (number_is operations.signatures name i o differ at named) (count es) us way code
          values l)
      code_walk (x.If c h f) is (k.if_then has_c has_h has_f) way code values =
          ap (λ l. At l 0 values) (code_apart operations.signatures c h f way code)
          ∙ code_walk c kd.Bool has_c (unless (size h)) (Code h (skip (size f)) ++ (Code f next ++ does stay way ∷ code)) values
          ∙ ap (walk_expression operations q vs c) (fun_ext (λ v.
          ap (λ w. branch v w (At (Code h (skip (size f)) ++ (Code f next ++ does stay way ∷ code)) (size h) values))
          (code_walk h is has_h (skip (size f)) (Code f next ++ does stay way ∷ code) values
          ∙ ap (walk_expression operations q vs h) (fun_ext (λ u.
          resume_behind (Code f next) (does stay way ∷ code) (u ∷ values) (size f) (sym (length_code operations.signatures f next)))))
          ∙ ap (branch v (walk_expression operations q vs h (On code way values)))
          (resume_behind (Code h (skip (size f))) (Code f next ++ does stay way ∷ code) values (size h)
          (sym (length_code operations.signatures h (skip (size f))))
          ∙ code_walk f is has_f next (does stay way ∷ code) values)))

      pub codes_walk : (es : Expressions) (ks : List Kind) → HaveKinds a operations.signatures production es ks
          → (code : List Instruction) (values : List Value)
          → At (codes_of operations.signatures es ++ code) 0 values
          ≡ walk_expressions operations q vs es (λ us. At code 0 (pushed us values))
      codes_walk x.none ks have code values = refl
      codes_walk (x.more e es) ks (k.next {k = first} {ks = rest} has have) code values =
          ap (λ l. At l 0 values) (append_assoc (Code e next) (codes_of operations.signatures es) code)
          ∙ code_walk e first has next (codes_of operations.signatures es ++ code) values
          ∙ ap (walk_expression operations q vs e) (fun_ext (λ v. codes_walk es rest have code (v ∷ values)))

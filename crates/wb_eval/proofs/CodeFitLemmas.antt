-- What code of a typed expression fits.
use Rattle.std.proofs.Common.{◌≡◌, ◌∙◌, ◌++◌, ℕ, zero, suc, List, [], ◌∷◌, inl, inr, length, refl, sym, ap, subst, arith}
use Rattle.std.proofs.Common.{slice_get, drop}
use Rattle.std.proofs.lemmas.List.{append_assoc}
use Rattle.wb_base.specs.Different.{Differ}
use Rattle.wb_base.specs.declared.symbol.Kind.{Kind}
use Rattle.wb_base.specs.declared.symbol.Kind.TheVariants as kd
use Rattle.wb_syntax_expressions.specs.Expression as x
use Rattle.wb_syntax_expressions.specs.Expression.{size}
use Rattle.wb_operations.specs.Operations.{OperationSignature, Operations, names_of}
use Rattle.wb_syntax_resolved.specs.declared.attribution.AttributionParts.{AttributionParts}
use Rattle.wb_syntax_resolved.specs.declared.production.Production.{Production}
use Rattle.wb_syntax_resolved.specs.Expression.{Expression, Expressions, Node}
use Rattle.wb_syntax_resolved.specs.Named.{IsNamedNode}
use Rattle.wb_types.specs.Kinds.{HasKind, HaveKinds}
use Rattle.wb_types.specs.Kinds as k
use Rattle.wb_eval_rules.proofs.CodeLemmas.{length_code}
use Rattle.wb_eval_rules.specs.Code.{build, call, stay, Way, next, skip, unless, Instruction, does, count, number_in, or_zero}
use Rattle.wb_eval_rules.specs.Code.{before_last, codes_of, code_of}
use Rattle.wb_eval_theory.proofs.ExpressionLemmas.{IsIn as IsPart, IsInOne}
use Rattle.wb_eval.proofs.CodeWalkLemmas.{code_apart}
use Rattle.wb_eval_rules.proofs.NumberLemmas.{number_is}
use Rattle.wb_eval.specs.Inner.Fits.{more_kinds, WayFits, CodeFits}

-- as many kinds as expressions
pub have_length : {a : AttributionParts} {signatures : List OperationSignature} {production : Production} (ks : List Kind)
    (es : Expressions)
    → HaveKinds a signatures production es ks → length ks ≡ count es
have_length ks x.none k.nothing = refl
have_length ks (x.more e es) (k.next {ks = rest} first later) = ap suc (have_length rest es later)

module _ (a : AttributionParts) (operations : Operations) (production : Production) where
  abbrev Fit : List Instruction → ℕ → List Kind → Type 0
  Fit = CodeFits a operations production

  fits_behind : (xs ys : List Instruction) (kinds : List Kind) (n : ℕ) → n ≡ length xs → Fit ys 0 kinds → Fit (xs ++ ys) n kinds
  fits_behind [] ys kinds zero is fit = fit
  fits_behind [] ys kinds (suc n) is fit = absurd (cc is)
  fits_behind (i ∷ xs) ys kinds zero is fit = absurd (cc is)
  fits_behind (i ∷ xs) ys kinds (suc n) is fit = fits_behind xs ys kinds n (omega (arith, is)) fit

  pub fits_drop : (code : List Instruction) (n : ℕ) (kinds : List Kind) → Fit code n kinds → Fit (drop n code) 0 kinds
  fits_drop [] zero kinds fit = fit
  fits_drop [] (suc n) kinds fit = fit
  fits_drop (i ∷ code) zero kinds fit = fit
  fits_drop (i ∷ code) (suc n) kinds fit = fits_drop code n kinds fit

module _ (a : AttributionParts) (operations : Operations) (production : Production)
    (differ : Differ (names_of operations.signatures)) where
  abbrev FitHere : List Instruction → ℕ → List Kind → Type 0
  FitHere = CodeFits a operations production

  abbrev Named : (Node → Type 0) → Type 0
  Named In = (part : Node) → In part → (owner : ℕ) × IsNamedNode a production owner part

  abbrev FitsOn : List Instruction → Way → Kind → List Kind → Type 0
  FitsOn code way is kinds = WayFits (FitHere code) way is kinds

  mutual
    unfolding before_last codes_of

    pub code_fits : (e : Expression) (is : Kind) → HasKind a operations.signatures production e is → Named (IsPart e) → (way : Way)
        (code : List Instruction) (kinds : List Kind) → FitsOn code way is kinds
        → FitHere (code_of operations.signatures e way ++ code) 0 kinds
    code_fits (x.Int z) is has names way code kinds fit = (is, record { has_kind = has; named = names }, fit)
    code_fits (x.Text s) is has names way code kinds fit = (is, record { has_kind = has; named = names }, fit)
    code_fits (x.Truth b) is has names way code kinds fit = (is, record { has_kind = has; named = names }, fit)
    code_fits (x.Label l) is has names way code kinds fit = (is, record { has_kind = has; named = names }, fit)
    code_fits (x.Read l y) is has names way code kinds fit = (is, record { has_kind = has; named = names }, fit)
    code_fits (x.Lexeme l) is has names way code kinds fit = (is, record { has_kind = has; named = names }, fit)
    code_fits (x.Top y) is has names way code kinds fit = (is, record { has_kind = has; named = names }, fit)
    code_fits (x.Forward y) is has names way code kinds fit = (is, record { has_kind = has; named = names }, fit)
    code_fits (x.Build p es) is (k.build s at have same) names way code kinds fit =
        subst (λ l. FitHere l 0 kinds) (sym (append_assoc (codes_of operations.signatures es) (does (build p (count es)) way ∷ []) code))
        (codes_fit es s.children have names (does (build p (count es)) way ∷ code) kinds
        (s, kinds, at, have_length s.children es have, refl, subst (λ (z : Kind). FitsOn code way z kinds) same fit))
    code_fits (x.Call name es) is (k.call i o at named have same) names way code kinds fit =
        let number : number_in operations.signatures name ≡ i = ap or_zero (number_is operations.signatures name i o differ at named) in
        subst (λ l. FitHere l 0 kinds) (sym (append_assoc (codes_of operations.signatures es)
        (does (call (number_in operations.signatures name) (count es)) way ∷ []) code))
        (codes_fit es o.takes have names (does (call (number_in operations.signatures name) (count es)) way ∷ code) kinds (
          o,
          kinds,
          ap (slice_get operations.signatures) number ∙ at,
          have_length o.takes es have,
          refl,
          subst (λ (z : Kind). FitsOn code way z kinds) same fit,
        ))
    code_fits (x.If c h f) is (k.if_then has_c has_h has_f) names way code kinds fit =
        let last = does stay way ∷ code in
        let behind_f : FitHere last 0 (is ∷ kinds) = (is, kinds, refl, fit) in
        let third = code_fits f is has_f (λ part i. names part (inr (inr i))) next last kinds behind_f in
        let behind_h : FitHere (code_of operations.signatures f next ++ last) (size f) (is ∷ kinds) =
        fits_behind a operations production (code_of operations.signatures f next) last (is ∷ kinds) (size f)
        (sym (length_code operations.signatures f next)) behind_f in
        let second = code_fits h is has_h (λ part i. names part (inr (inl i))) (skip (size f))
        (code_of operations.signatures f next ++ last)
        kinds behind_h in
        let behind_c = fits_behind a operations production (code_of operations.signatures h (skip (size f)))
        (code_of operations.signatures f next ++ last) kinds
        (size h) (sym (length_code operations.signatures h (skip (size f)))) third in
        subst (λ l. FitHere l 0 kinds) (sym (code_apart operations.signatures c h f way code))
        (code_fits c kd.Bool has_c (λ part i. names part (inl i)) (unless (size h))
        (code_of operations.signatures h (skip (size f)) ++ (code_of operations.signatures f next ++ last)) kinds
        (refl, second, behind_c))

    pub codes_fit : (es : Expressions) (ks : List Kind) → HaveKinds a operations.signatures production es ks → Named (IsInOne es)
        → (code : List Instruction) (kinds : List Kind) → FitHere code 0 (more_kinds ks kinds)
        → FitHere (codes_of operations.signatures es ++ code) 0 kinds
    codes_fit x.none ks k.nothing names code kinds fit = fit
    codes_fit (x.more e es) ks (k.next {k = first} {ks = rest} has have) names code kinds fit =
        subst (λ l. FitHere l 0 kinds) (sym (append_assoc (code_of operations.signatures e next) (codes_of operations.signatures es) code))
        (code_fits e first has (λ part i. names part (inl i)) next (codes_of operations.signatures es ++ code) kinds
        (codes_fit es rest have (λ part i. names part (inr i)) code (first ∷ kinds) fit))

-- Equations by what they are for, one equation after another.
use Rattle.std.proofs.Common.{◌≡◌, ◌≢◌, ◌∙◌, ◌⊎◌, ◌<◌, ◌≤◌, ◌-◌, ◌++◌, ◌∷◌, [], inl, inr, ℕ, zero, suc, List, Some, length, slice_get, refl}
use Rattle.std.proofs.Common.{sym, ap}
use Rattle.std.proofs.Common.{subst, arith}
use Rattle.std.proofs.lemmas.Bool.{cases_eq}
use Rattle.std.proofs.lemmas.List.{length-append}
use Rattle.std.proofs.lemmas.Option.{slice_get_within}
use Rattle.wb_lemmas.proofs.Members.{contains_at, place_of}
use Rattle.wb_lemmas.proofs.Places.{at_once, at_push, nothing_at}
use Rattle.wb_flow_theory.specs.Rules.{IsRule, HasRule, target_vertex}
use Rattle.wb_flow_theory.specs.Rules as rules
use Rattle.wb_syntax_resolved.specs.declared.equation.Equation.{Equation}
use Rattle.wb_syntax_resolved.specs.declared.equation.Place.{Place}
use Rattle.wb_syntax_resolved.specs.declared.equation.Place.TheVariants as place
use Rattle.wb_syntax_resolved.specs.declared.equation.Target.{Target}
use Rattle.wb_syntax_resolved.specs.declared.equation.Target.TheVariants as target
use Rattle.wb_syntax_resolved.specs.declared.production.Production.{Production}
use Rattle.wb_eval_rules.proofs.TargetLemmas.{no_equation}
use Rattle.wb_eval_rules.specs.Indexes.{number_for, IsIndexOf, AreIndexes}
use Rattle.wb_eval_rules.specs.declared.equations.Equations.{Equations}

-- two targets are one or not
cases_place : (p q : Place) → (p ≡ q) ⊎ (p ≢ q)
cases_place (place.Child k) (place.Child l) = elim (cases_eq k l) [ inl e ↦ inl (ap place.Child e) | inr d ↦ inr (λ e. d (cc e)) ]
cases_place (place.Local k) (place.Local l) = elim (cases_eq k l) [ inl e ↦ inl (ap place.Local e) | inr d ↦ inr (λ e. d (cc e)) ]
cases_place (place.Child k) (place.Local l) = inr (λ e. cc e)
cases_place (place.Local k) (place.Child l) = inr (λ e. cc e)

cases_target : (s t : Target) → (s ≡ t) ⊎ (s ≢ t)
cases_target (target.Top y) (target.Top z) = elim (cases_eq y z) [ inl e ↦ inl (ap target.Top e) | inr d ↦ inr (λ e. d (cc e)) ]
cases_target (target.Forward y) (target.Forward z) = elim (cases_eq y z) [ inl e ↦ inl (ap target.Forward e) | inr d ↦ inr (λ e. d (cc e)) ]
cases_target (target.Place p y) (target.Place q z) = elim (cases_place p q) [
  | inl e ↦ elim (cases_eq y z) [
    | inl f ↦ inl (ap (λ (r : Place). target.Place r y) e ∙ ap (target.Place q) f)
    | inr d ↦ inr (λ h. d (cc h))
  ]
  | inr d ↦ inr (λ h. d (cc h))
]
cases_target (target.Top y) (target.Forward z) = inr (λ e. cc e)
cases_target (target.Top y) (target.Place q z) = inr (λ e. cc e)
cases_target (target.Forward y) (target.Top z) = inr (λ e. cc e)
cases_target (target.Forward y) (target.Place q z) = inr (λ e. cc e)
cases_target (target.Place p y) (target.Top z) = inr (λ e. cc e)
cases_target (target.Place p y) (target.Forward z) = inr (λ e. cc e)

pub nothing_indexed : (equations : List Equation) (index : Equations) → ((t : Target) → number_for index t ≡ 0) → IsIndexOf equations 0 index
nothing_indexed equations index none = record {
  to = λ t j is. absurd (let h = none t in cc (h, is));
  from = λ j e lt at. absurd (omega (arith, lt));
}

pub one_more : (equations : List Equation) (i : ℕ) (e : Equation) (old new : Equations) → IsIndexOf equations i old → slice_get equations i ≡ Some e
    → number_for new e.target ≡ suc i → ((other : Target) → other ≢ e.target → number_for new other ≡ number_for old other)
    → IsIndexOf equations (suc i) new
one_more equations i e old new was at set kept = record { to = to_one; from = from_one } where
  to_one : (t : Target) (j : ℕ) → number_for new t ≡ suc j → (j < suc i) × ((f : Equation) × (slice_get equations j ≡ Some f) × (f.target ≡ t))
  to_one t j is = elim (cases_target t e.target) [
    | inl same ↦
        let number : suc j ≡ suc i = sym is ∙ ap (number_for new) same ∙ set in
        let j_is : j ≡ i = cc number in
        (omega (arith, j_is), (e, ap (slice_get equations) j_is ∙ at, sym same))
    | inr other ↦ let (lt, f) = was.to t j (sym (kept t other) ∙ is) in (omega (arith, lt), f)
  ]

  from_one : (j : ℕ) (f : Equation) → j < suc i → slice_get equations j ≡ Some f → number_for new f.target ≢ 0
  from_one j f lt there none = elim (cases_target f.target e.target) [
    | inl same ↦ (let h = sym set ∙ sym (ap (number_for new) same) ∙ none in cc h)
    | inr other ↦ elim (cases_eq j i) [
      | inl j_is ↦ other (ap (λ (z : Equation). z.target) (at_once equations i f e (sym (ap (slice_get equations) j_is) ∙ there) at))
      | inr differs ↦ was.from j f (omega (arith, lt, differs)) there (sym (kept f.target other) ∙ none)
    ]
  ]

-- a production more
pub nothing_each : AreIndexes [] []
nothing_each = record { count = refl; each = λ n p row at there. absurd (nothing_at p n at) }

pub one_each : (ps : List Production) (p : Production) (rows : List Equations) (row : Equations) → AreIndexes ps rows
    → IsIndexOf p.equations (length p.equations) row → AreIndexes (ps ++ p ∷ []) (rows ++ row ∷ [])
one_each ps p rows row was is = record {
  count = let l = length-append rows (row ∷ []) in let k = length-append ps (p ∷ []) in let c = was.count in omega (arith, l, k, c);
  each = λ n q other at there. elim (at_push ps p q n at) [
    | inl old ↦ elim (at_push rows row other n there) [
      | inl older ↦ was.each n q other old older
      | inr (here, same) ↦ absurd (let lt = slice_get_within ps n q old in let c = was.count in omega (arith, lt, here, c))
    ]
    | inr (last, same_p) ↦ elim (at_push rows row other n there) [
      | inl older ↦ absurd (let lt = slice_get_within rows n other older in let c = was.count in omega (arith, lt, last, c))
      | inr (here, same) ↦ subst (λ (z : Production). IsIndexOf z.equations (length z.equations) other) same_p
          (subst (IsIndexOf p.equations (length p.equations)) same is)
    ]
  ];
}

-- the equation of a number, and none
pub indexed : (p : Production) (index : Equations) (t : Target) (n : ℕ) (e : Equation) → IsIndexOf p.equations (length p.equations) index
    → number_for index t ≡ n → n ≢ 0 → slice_get p.equations (n - 1) ≡ Some e → IsRule p (target_vertex t) e.nodes
indexed p index t zero e is number some at = absurd (some refl)
indexed p index t (suc j) e is number some at =
    let (lt, (f, there, for_it)) = is.to t j number in
    let here : slice_get p.equations j ≡ Some e = subst (λ (i : ℕ). slice_get p.equations i ≡ Some e) (omega arith) at in
    let same = at_once p.equations j f e there here in
    rules.by_equation e (contains_at p.equations e j here) (ap target_vertex (sym for_it ∙ ap (λ (z : Equation). z.target) same)) refl

pub indexed_within : (p : Production) (index : Equations) (t : Target) (n : ℕ) → IsIndexOf p.equations (length p.equations) index
    → n ≡ number_for index t → n ≢ 0 → n - 1 < length p.equations
indexed_within p index t zero is number some = absurd (some refl)
indexed_within p index t (suc j) is number some = let (lt, f) = is.to t j (sym number) in omega (arith, lt)

pub not_indexed : (p : Production) (index : Equations) (t : Target) → IsIndexOf p.equations (length p.equations) index
    → number_for index t ≡ 0 → ¬ HasRule p (target_vertex t)
not_indexed p index t is none = no_equation p t (λ e has same.
    let (j, at) = place_of p.equations e has in
    is.from j e (slice_get_within p.equations j e at) at (ap (number_for index) same ∙ none))

-- past the last equation, all are indexed
pub all_indexed : (equations : List Equation) (i : ℕ) (index : Equations) → length equations ≤ i → IsIndexOf equations i index
    → IsIndexOf equations (length equations) index
all_indexed equations i index past is = record {
  to = λ t j number. let (lt, (e, at, same)) = is.to t j number in (slice_get_within equations j e at, (e, at, same));
  from = λ j e lt at. is.from j e (omega (arith, lt, past)) at;
}

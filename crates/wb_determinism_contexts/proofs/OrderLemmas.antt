-- Whether a preference orders two terminals is decided.
use Rattle.std.proofs.Common.{◌∙◌, ℕ, List, [], ◌∷◌, ap, subst, inl, inr}
use Rattle.std.specs.Prelude.{◌⊎◌, Contains}
use Rattle.std.proofs.lemmas.Bool.{cases_eq}
use Rattle.wb_lemmas.proofs.Members.{contains_cases, contains_first, contains_later, nothing_in}
use Rattle.wb_lexical.specs.Clash.{AreOrdered}

-- a preference is there or not
decide_contains : (xs : List (ℕ × ℕ)) (t u : ℕ) → Contains xs (t, u) ⊎ ¬ Contains xs (t, u)
decide_contains [] t u = inr (nothing_in (t, u))
decide_contains ((a, b) ∷ xs) t u = elim (decide_contains xs t u) [
  | inl has ↦ inl (contains_later (a, b) (t, u) xs has)
  | inr not_later ↦ elim (cases_eq a t) [
    | inl one ↦ elim (cases_eq b u) [
      | inl two ↦ inl (subst (λ (p : ℕ × ℕ). Contains ((a, b) ∷ xs) p) (ap (λ (k : ℕ). (k, b)) one ∙ ap (λ (k : ℕ). (t, k)) two)
          (contains_first (a, b) xs))
      | inr differ ↦ inr (λ has. elim (contains_cases (a, b) (t, u) xs has) [
        | inl same ↦ differ (ap (λ (p : ℕ × ℕ). p.1) same)
        | inr later ↦ not_later later
      ])
    ]
    | inr differ ↦ inr (λ has. elim (contains_cases (a, b) (t, u) xs has) [
      | inl same ↦ differ (ap (λ (p : ℕ × ℕ). p.0) same)
      | inr later ↦ not_later later
    ])
  ]
]

-- what can't be unordered is ordered
pub ordered_stable : (preferences : List (ℕ × ℕ)) (t u : ℕ) → ¬ ¬ AreOrdered preferences t u → AreOrdered preferences t u
ordered_stable preferences t u twice = elim (decide_contains preferences t u) [
  | inl has ↦ inl has
  | inr first ↦ elim (decide_contains preferences u t) [
    | inl has ↦ inr has
    | inr second ↦ absurd (twice (λ is. elim is [ inl a ↦ first a | inr b ↦ second b ]))
  ]
]

-- Links between the numbers of items, as they are added.
use Rattle.std.proofs.Common.{◌≡◌, ℕ, ◌+◌, ◌<◌, ◌≤◌, ◌⊎◌, List, [], ◌∷◌, ◌++◌, length, get_or, Some, refl, sym, ◌∙◌, ap, subst, inl, inr, arith}
use Rattle.std.specs.Prelude.{Contains, slice_get, ◌↔◌}
use Rattle.std.proofs.lemmas.Bool.{cases_eq}
use Rattle.wb_lemmas.proofs.Places.{default_at}
use Rattle.wb_lemmas.proofs.Members.{contains_push, nothing_in, push_contains, push_contains_last}
use Rattle.wb_graph.specs.Graphs.{Edge, IsEdge}
use Rattle.wb_grammar_theory.specs.declared.item.Item.{Item}
use Rattle.wb_items.specs.Kernels.{KernelsView, count_of}
use Rattle.wb_digraph.specs.Inner.Links.{AddsLinks, HandsOn, HandsOnAt, HandsOpened, HandsOver, IsLink}

module _ (kernels : KernelsView) (Number : ℕ → Item → ℕ → Type 0) where
  -- no link is to be added
  pub adds_none : (Of : ℕ → ℕ → Type 0) (edges : List Edge) → ((v u : ℕ) → Of v u → ⊥) → AddsLinks kernels Number Of edges edges
  adds_none Of edges never = record { sound = λ v u e. inl e; keeps = λ v u e. e; lists = λ v u of. absurd (never v u of) }

  -- one is
  pub adds_one : (Of : ℕ → ℕ → Type 0) (v u : ℕ) (edges new : List Edge) → new ≡ edges ++ (v, u) ∷ [] → IsLink kernels Number v u →
      ((v' u' : ℕ) → Of v' u' → (v' ≡ v) × (u' ≡ u)) → AddsLinks kernels Number Of edges new
  adds_one Of v u edges new is link once = subst (AddsLinks kernels Number Of edges) (sym is) (record {
    sound = λ v' u' e. elim (contains_push edges (v, u) (v', u') e) [
      | inl old ↦ inl old
      | inr same ↦ inr (subst (λ (z : Edge). IsLink kernels Number z.0 z.1) same link)
    ];
    keeps = λ v' u' e. push_contains edges (v, u) (v', u') e;
    lists = λ v' u' of.
        let (one, two) = once v' u' of in
        subst (λ (z : Edge). Contains (edges ++ (v, u) ∷ []) z) (λ j. (sym one j, sym two j)) (push_contains_last edges (v, u));
  })

  -- one after another
  pub adds_then : {P Q R : ℕ → ℕ → Type 0} {old mid new : List Edge} → AddsLinks kernels Number P old mid →
      AddsLinks kernels Number Q mid new → ((v u : ℕ) → R v u → P v u ⊎ Q v u) → AddsLinks kernels Number R old new
  adds_then {P} {Q} {R} {old} {mid} {new} one two both = record {
    sound = λ v u e. elim (two.sound v u e) [ inl before ↦ one.sound v u before | inr link ↦ inr link ];
    keeps = λ v u e. two.keeps v u (one.keeps v u e);
    lists = λ v u of. elim (both v u of) [ inl p ↦ two.keeps v u (one.lists v u p) | inr q ↦ two.lists v u q ];
  }

  -- the same of fewer
  pub adds_fewer : {P R : ℕ → ℕ → Type 0} {old new : List Edge} → AddsLinks kernels Number P old new →
      ((v u : ℕ) → R v u → P v u) → AddsLinks kernels Number R old new
  adds_fewer adds each = record { sound = adds.sound; keeps = adds.keeps; lists = λ v u of. adds.lists v u (each v u of) }

  -- all of them, from none
  pub links_exact : (edges : List Edge) → AddsLinks kernels Number (IsLink kernels Number) [] edges →
      (v u : ℕ) → IsEdge edges v u ↔ IsLink kernels Number v u
  links_exact edges adds v u = (
    λ e. elim (adds.sound v u e) [ inl none ↦ absurd (nothing_in (v, u) none) | inr link ↦ link ],
    adds.lists v u,
  )

-- a number of those up to one more
pub below_cases : (P : ℕ → Type 0) (n s : ℕ) → s < n + 1 → P s → ((k : ℕ) × (k < n) × P k) ⊎ P n
below_cases P n s lt p = elim (cases_eq s n) [
  | inl same ↦ inr (subst P same p)
  | inr ne ↦ inl (s, omega (arith, lt, ne), p)
]

-- an item at one of the places up to one more
pub place_cases : (items : List Item) (P : Item → Type 0) (n j : ℕ) (item d : Item) → n < length items → j < n + 1 →
    slice_get items j ≡ Some item → P item → ((k : ℕ) × (other : Item) × (k < n) × (slice_get items k ≡ Some other) × P other) ⊎
    P (get_or items n d)
place_cases items P n j item d within lt at p = elim (cases_eq j n) [
  | inl same ↦ inr (subst P (sym (default_at items n d item (subst (λ z. slice_get items z ≡ Some item) same at))) p)
  | inr ne ↦ inl (j, item, omega (arith, lt, ne), at, p)
]

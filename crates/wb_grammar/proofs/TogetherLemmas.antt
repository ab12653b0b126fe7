-- Edges whose ends are in one strongly connected component.
use Rattle.std.proofs.Common.{◌≡◌, ℕ, ◌+◌, ◌<◌, ◌≤◌, zero, suc, List, [], ◌∷◌, length, refl, sym, ◌∙◌, ap, subst, inl, inr, arith, Some}
use Rattle.std.proofs.Common.{None, Option, Vec, Global}
use Rattle.std.specs.Prelude.{Contains, MatchOption, slice_get, slice_index_or}
use Rattle.std.proofs.lemmas.Bool.{cases_lt}
use Rattle.std.proofs.lemmas.Option.{slice_get-get_or, same_Some}
use Rattle.std.proofs.lemmas.List.Elements.{Contains-get_or}
use Rattle.wb_graph.specs.Graphs.{Edge, IsEdge, IsReached, Walk, stay, step}
use Rattle.wb_graph.specs.Components.{ComponentsView, AreComponents}
use Rattle.wb_grammar.specs.Inner.Together.{edge_at, IsTogether}
use Rattle.wb_grammar.specs.Inner.Paths.{IsPathTo}

pub at_within : (edges : List Edge) (i : ℕ) → i < length edges → IsEdge edges (edge_at edges i).0 (edge_at edges i).1
at_within edges i lt = Contains-get_or edges i (0, 0) lt

same_edge : (edges : List Edge) (i : ℕ) (x y : Edge) → slice_get edges i ≡ Some x → slice_get edges i ≡ Some y → x ≡ y
same_edge edges i x y a b = cc

-- an edge is at a place
pub edge_place : (edges : List Edge) (u v : ℕ) → IsEdge edges u v → (i : ℕ) × (i < length edges) × (edge_at edges i ≡ (u, v))
edge_place edges u v (i, lt, is) =
    let x : Edge = (u, v) in
    (i, lt, same_edge edges i (edge_at edges i) x (slice_get-get_or edges i (0, 0) lt) (slice_get-get_or edges i (u, v) lt ∙ ap Some is))

-- none of the edges before a place has its ends together
abbrev pub NoneBefore : ComponentsView → List Edge → ℕ → Type 0
NoneBefore components edges limit = (k : ℕ) → k < limit → ¬ IsTogether components (edge_at edges k)

pub none_more : (components : ComponentsView) (edges : List Edge) (i m n : ℕ) → slice_get components.numbers (edge_at edges i).0 ≡ Some m →
    slice_get components.numbers (edge_at edges i).1 ≡ Some n →
    (m ≡ n → ⊥) → NoneBefore components edges i → NoneBefore components edges (i + 1)
none_more components edges i m n above below differ before k lt = elim (cases_lt k i) [
  | inl old ↦ before k old
  | inr new ↦
      let same : i ≡ k = omega arith in
      subst (λ j. ¬ IsTogether components (edge_at edges j)) same
      (λ (number, one, other). differ (same_Some m number (sym above ∙ one) ∙ sym (same_Some n number (sym below ∙ other))))
]

pub none_all : (components : ComponentsView) (edges : List Edge) (limit : ℕ) → length edges ≤ limit → NoneBefore components edges limit →
    (e : Edge) → Contains edges e → ¬ IsTogether components e
none_all components edges limit le before e h =
    let (i, lt, is) = edge_place edges e.0 e.1 h in
    subst (λ (x : Edge). ¬ IsTogether components x) is (before i (omega arith))

-- an edge of a graph whose ends are in one component is one from whose end walks lead back
pub together_back : (count : ℕ) (edges : List Edge) (components : ComponentsView) → AreComponents count edges components → (e : Edge) →
    IsTogether components e → IsReached edges (e.1 ∷ []) e.0
together_back count edges components are e (n, one, other) =
    record { start = e.1; is_start = (0, omega arith, refl); walk = ((are.exact e.0 e.1 n n one other).0 refl).1 }

pub back_together : (count : ℕ) (edges : List Edge) (components : ComponentsView) → AreComponents count edges components → (a b : ℕ) →
    a < count → b < count → IsEdge edges a b →
    IsReached edges (b ∷ []) a → IsTogether components (a, b)
back_together count edges components are a b a_lt b_lt edge back =
    let m = slice_index_or components.numbers a 0 in
    let n = slice_index_or components.numbers b 0 in
    let one : slice_get components.numbers a ≡ Some m = slice_get-get_or components.numbers a 0 (omega (arith, are.len)) in
    let other : slice_get components.numbers b ≡ Some n = slice_get-get_or components.numbers b 0 (omega (arith, are.len)) in
    let from : back.start ≡ b = start_is back.start b back.is_start in
    let there : Walk edges a b = step a b (stay a refl) edge in
    let same : m ≡ n = (are.exact a b m n one other).1 (there, subst (λ z. Walk edges z a) from back.walk) in
    (m, one, other ∙ ap Some (sym same))
  where
    start_is : (x y : ℕ) → Contains (y ∷ []) x → x ≡ y
    start_is x y (zero, lt, is) = sym is
    start_is x y (suc k, lt, is) = absurd (omega arith)

-- a path back from a corner is found
pub found_back : (P : Type 0) (corners hidden : List Edge) (e : Edge) → Contains hidden e → IsReached corners (e.1 ∷ []) e.0 →
    (found : Option (Vec ℕ Global)) →
    MatchOption found (¬ IsReached corners (e.1 ∷ []) e.0) (λ path. IsPathTo corners e.1 path.items e.0) →
    MatchOption found P (λ cycle. (a b : ℕ) × Contains hidden (a, b) × IsPathTo corners b cycle.items a)
found_back P corners hidden e within back None h = absurd (h back)
found_back P corners hidden e within back (Some path) h = (e.0, e.1, within, h)

-- what is found by components is a corner from whose end walks lead back
pub within_found : (count : ℕ) (corners hidden : List Edge) (components : ComponentsView) → AreComponents count corners components →
    ((a b : ℕ) → Contains hidden (a, b) → (a < count) × (b < count) × Contains corners (a, b)) → (found : Option Edge) →
    MatchOption found ((e : Edge) → Contains hidden e → ¬ IsTogether components e) (λ e. Contains hidden e × IsTogether components e) →
    MatchOption found ((a b : ℕ) → Contains hidden (a, b) →
    ¬ IsReached corners (b ∷ []) a) (λ e. Contains hidden e × IsReached corners (e.1 ∷ []) e.0)
within_found count corners hidden components are within None none =
    λ a b h back. let (a_lt, b_lt, edge) = within a b h in none (a, b) h
    (back_together count corners components are a b a_lt b_lt edge back)
within_found count corners hidden components are within (Some e) (h, together) = (h, together_back count corners components are e together)

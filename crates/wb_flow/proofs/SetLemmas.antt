-- Different vertices, kept by a table of hashes.
use Rattle.std.proofs.Common.{◌≡◌, ◌++◌, ◌∷◌, [], ◌⊎◌, inl, inr, ℕ, List, Bool, true, false, Some, length, get_or, refl, sym, ap, subst}
use Rattle.std.proofs.Common.{◌∙◌, Contains, slice_get, rules}
use Rattle.std.proofs.Common.{if◌then◌else◌}
use Rattle.std.specs.List.{list_any, position}
use Rattle.std.specs.Prelude.{◌↔◌, IfSome, IfNone, Option, None, is_some}
use Rattle.std.proofs.lemmas.List.Quantifiers.{position-Some}
use Rattle.std.proofs.lemmas.Option.{slice_get-get_or}
use Rattle.std.proofs.lemmas.Map.Views.{Contains-from_any}
use Rattle.std.proofs.lemmas.List.Folds.{list_any_at}
use Rattle.wb_base.specs.Different.{Differ}
use Rattle.wb_lemmas.proofs.Members.{contains_at}
use Rattle.wb_lemmas.proofs.Places.{at_push}
use Rattle.wb_flow.specs.declared.vertex.Vertex.{Vertex}
use Rattle.wb_flow.specs.contracts.vertex.VertexPartialEq as derived
use Rattle.wb_flow.specs.Adding.{Adds}
use Rattle.wb_flow.proofs.AddingLemmas.{adds_one}

-- the derived equality
abbrev pub equal : Vertex → Vertex → Bool
equal = derived.TheImpl.eq-value.it

pub equal_same : (u v : Vertex) → equal u v ≡ true → u ≡ v
equal_same u v is = search rules

pub same_equal : (u v : Vertex) → u ≡ v → equal u v ≡ true
same_equal u v is = search rules

-- a list whose elements differ and one more that it doesn't contain
different_push : {X : Type 0} (xs : List X) (x : X) → Differ xs → ¬ Contains xs x → Differ (xs ++ x ∷ [])
different_push {X} xs x different new y i j first second = cases (at_push xs x y i first) (at_push xs x y j second) where
  cases : (slice_get xs i ≡ Some y) ⊎ ((i ≡ length xs) × (x ≡ y)) → (slice_get xs j ≡ Some y) ⊎ ((j ≡ length xs) × (x ≡ y)) → i ≡ j
  cases (inl a) (inl b) = different y i j a b
  cases (inl a) (inr b) = absurd (new (subst (λ z. Contains xs z) (sym b.1) (contains_at xs y i a)))
  cases (inr a) (inl b) = absurd (new (subst (λ z. Contains xs z) (sym a.1) (contains_at xs y j b)))
  cases (inr a) (inr b) = a.0 ∙ sym b.0

-- a vertex that is found is there
found : (vertices : List Vertex) (v : Vertex) → list_any (equal v) vertices ≡ true → Contains vertices v
found vertices v any = Contains-from_any equal_same v vertices any

-- a vertex that is there is found
there_found : (vertices : List Vertex) (v : Vertex) → Contains vertices v → list_any (equal v) vertices ≡ true
there_found vertices v has =
    list_any_at (equal v) vertices has.0 v has.1 (same_equal v (get_or vertices has.0 v) (sym has.2))

-- what an insertion leaves
pub record Inserted (old new : List Vertex) (v : Vertex) : Type 0 where
  pub adds : Adds old new (λ x. x ≡ v)
  pub differ : Differ new

pub inserted : (old new : List Vertex) (v : Vertex) → Differ old → new ≡ (if list_any (equal v) old then old else old ++ v ∷ [])
    → Inserted old new v
inserted old new v differ is = cases (list_any (equal v) old) refl is where
  cases : (any : Bool) → list_any (equal v) old ≡ any → new ≡ (if any then old else old ++ v ∷ []) → Inserted old new v
  cases true any same = record {
    adds = subst (λ zs. Adds old zs (λ x. x ≡ v)) (sym same) (λ x. (
      (λ has. inl has),
      (λ either. elim either [ inl has ↦ has | inr e ↦ subst (Contains old) (sym e) (found old v any) ]),
    ));
    differ = subst Differ (sym same) differ;
  }
  cases false any same = record {
    adds = adds_one old new v same;
    differ = subst Differ (sym same) (different_push old v differ (λ has. let bad = sym any ∙ there_found old v has in cc));
  }

-- a place that is found is that of the vertex
pub position_at : (vertices : List Vertex) (v : Vertex) (i : ℕ) → position (equal v) vertices ≡ Some i → slice_get vertices i ≡ Some v
position_at vertices v i is =
    let s = position-Some (equal v) vertices i v is in
    slice_get-get_or vertices i v s.0 ∙ ap Some (sym (equal_same v (get_or vertices i v) s.1))

-- what is answered is the place of the vertex
pub find_some : (vertices : List Vertex) (v : Vertex) (answer : Option ℕ) → answer ≡ position (equal v) vertices
    → IfSome answer (λ n. slice_get vertices n ≡ Some v)
find_some vertices v None is = tt
find_some vertices v (Some n) is = position_at vertices v n (sym is)

-- where there is none, the vertex isn't there
pub find_none : (vertices : List Vertex) (v : Vertex) (answer : Option ℕ) → is_some answer ≡ list_any (equal v) vertices
    → IfNone answer (¬ Contains vertices v)
find_none vertices v None is = λ has. let bad : false ≡ true = is ∙ there_found vertices v has in cc
find_none vertices v (Some n) is = tt

-- so it tells whether it is
pub find_decides : (vertices : List Vertex) (v : Vertex) (answer : Option ℕ) → IfSome answer (λ n. slice_get vertices n ≡ Some v)
    → IfNone answer (¬ Contains vertices v) → (is_some answer ≡ true) ↔ Contains vertices v
find_decides vertices v None at lacks = ((λ bad. absurd (cc)), (λ has. absurd (lacks has)))
find_decides vertices v (Some n) at lacks = ((λ same. contains_at vertices v n at), (λ has. refl))

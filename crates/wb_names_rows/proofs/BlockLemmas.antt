-- What items make, one after the other.
use Rattle.std.proofs.Common.{◌≡◌, ◌<◌, ◌+◌, ◌++◌, ◌∷◌, [], ℕ, Bool, List, Some, map, length, take, get_or, slice_get, ap, sym, subst, ◌∙◌}
use Rattle.std.proofs.Common.{append_assoc}
use Rattle.std.specs.Prelude.{filter, flat_map}
use Rattle.std.specs.List.{AllZip}
use Rattle.std.proofs.lemmas.List.{take_more, append-nil, map-append}
use Rattle.std.proofs.lemmas.Option.{slice_get-get_or}
use Rattle.std.proofs.lemmas.List.Elements.{filter-append}
use Rattle.wb_syntax.specs.declared.expression.Equation as written
use Rattle.wb_syntax.specs.declared.item.Item.{Item}
use Rattle.wb_syntax.specs.declared.pattern.Pattern.{Pattern}
use Rattle.wb_syntax.specs.Equations.{equations_of}
use Rattle.wb_names_numbers_theory.specs.Written.{makes_attribute, makes_local, makes_forward, local_equations}
use Rattle.wb_names_numbers_theory.proofs.OneProduction.{local_label}
use Rattle.wb_names_rows.specs.declared.body.Body.{Body}
use Rattle.wb_names_rows.specs.declared.scope.Scope.{Scope}
use Rattle.wb_names_rows.specs.declared.scope.ProductionLabels.{ProductionLabels}
use Rattle.wb_names_rows.specs.Blocks.{equations_in, equations_at, AddsBody}
use Rattle.wb_names_rows.specs.Nodes.{IsFoundEquation, IsFoundLocal, IsFoundForward, AddsAll}
use Rattle.wb_names_rows.proofs.AddsLemmas.{adds_nothing}
use Rattle.wb_names_rows.proofs.ZipLemmas.{zip_append}

-- lists of lists, with one more
flat_map_push : {X Y : Type 0} (f : X → List Y) (xs : List X) (x : X) → flat_map f (xs ++ x ∷ []) ≡ flat_map f xs ++ f x
flat_map_push f [] x = append-nil (f x)
flat_map_push f (y ∷ xs) x = ap (λ z. f y ++ z) (flat_map_push f xs x) ∙ sym (append_assoc (f y) (flat_map f xs) (f x))

-- the equations at one more place
pub equations_more : (items : List (Item Pattern)) (places : List ℕ) (i : ℕ) (item : Item Pattern) → i < length places
    → get_or places i 0 < length items → item ≡ get_or items (get_or places i 0) item
    → equations_at items (take (i + 1) places) ≡ equations_at items (take i places) ++ equations_of item.form
equations_more items places i item within inside is =
    let at : slice_get items (get_or places i 0) ≡ Some item = slice_get-get_or items (get_or places i 0) item inside ∙ ap Some (sym is) in
    ap (equations_at items) (take_more places i 0 within)
    ∙ (flat_map_push (λ (z : ℕ). equations_in (slice_get items z)) (take i places) (get_or places i 0)
    ∙ ap (λ z. equations_at items (take i places) ++ equations_in z) at)

-- what two lists add, one after the other
pub adds_append : {A B : Type 0} (test : A → Bool) (R : A → B → Type 0) (xs us : List A) (old mid new : List B) → AddsAll test R xs old mid
    → AddsAll test R us mid new → AddsAll test R (xs ++ us) old new
adds_append test R xs us old mid new (own, is, all) (more, added, zipped) = (
  own ++ more,
  added ∙ (ap (λ z. z ++ more) is ∙ append_assoc old own more),
  subst (λ z. AllZip R z (own ++ more)) (sym (filter-append test xs us)) (zip_append R (filter test xs) (filter test us) own more all
      zipped),
)

pub body_append : (s : Scope) (labels : ProductionLabels) (xs us : List written.Equation) (old mid new : Body)
    → AddsBody s labels xs old mid
    → AddsBody s labels us mid new → AddsBody s labels (xs ++ us) old new
body_append s labels xs us old mid new a b = record {
  locals = adds_append (λ (q : written.Equation). makes_local q.target) (IsFoundLocal s labels) xs us old.locals.items mid.locals.items
      new.locals.items a.locals b.locals;
  forwards = adds_append (λ (q : written.Equation). makes_forward q.target) (IsFoundForward s labels) xs us old.forwards.items
      mid.forwards.items new.forwards.items a.forwards b.forwards;
  equations = adds_append (λ (q : written.Equation). makes_attribute q.target) (IsFoundEquation s labels) xs us old.equations.items
      mid.equations.items new.equations.items a.equations b.equations;
}

pub body_nothing : (s : Scope) (labels : ProductionLabels) (old : Body) → AddsBody s labels [] old old
body_nothing s labels old = record {
  locals = adds_nothing (λ (q : written.Equation). makes_local q.target) (IsFoundLocal s labels) old.locals.items;
  forwards = adds_nothing (λ (q : written.Equation). makes_forward q.target) (IsFoundForward s labels) old.forwards.items;
  equations = adds_nothing (λ (q : written.Equation). makes_attribute q.target) (IsFoundEquation s labels) old.equations.items;
}

-- labels of locals that two lists make
pub labels_append : (xs us : List written.Equation) (front mid new : List (List ℕ))
    → mid ≡ front ++ map (λ (q : written.Equation). local_label q.target) (local_equations xs)
    → new ≡ mid ++ map (λ (q : written.Equation). local_label q.target) (local_equations us)
    → new ≡ front ++ map (λ (q : written.Equation). local_label q.target) (local_equations (xs ++ us))
labels_append xs us front mid new a b =
    let f : written.Equation → List ℕ = λ q. local_label q.target in
    b ∙ (ap (λ z. z ++ map f (local_equations us)) a ∙ (append_assoc front (map f (local_equations xs)) (map f (local_equations us))
    ∙ ap (λ z. front ++ z) (sym (ap (map f) (filter-append (λ (q : written.Equation). makes_local q.target) xs us)
    ∙ map-append f (local_equations xs) (local_equations us)))))

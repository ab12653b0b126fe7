-- What is found in a scope has the number of its name.
use Rattle.std.proofs.Common.{◌≡◌, ◌<◌, ◌+◌, ◌++◌, ℕ, List, Option, Some, None, map, length, slice_get, ap, sym, refl}
use Rattle.std.proofs.Common.{◌∙◌, arith}
use Rattle.std.specs.Prelude.{option_map}
use Rattle.std.proofs.lemmas.Option.{slice_get-map}
use Rattle.wb_lemmas.proofs.Members.{contains_at}
use Rattle.wb_lemmas.proofs.Places.{append_before, append_after}
use Rattle.wb_syntax_resolved.specs.declared.equation.Place.{Place}
use Rattle.wb_syntax_resolved.specs.declared.equation.Place.TheVariants as place
use Rattle.wb_syntax_resolved.specs.Once.{Entry}
use Rattle.wb_names_numbers_theory.specs.Numbering.{Labels, IsNumber, IsPlace}
use Rattle.wb_names_rows.specs.declared.scope.ProductionLabels.{ProductionLabels}
use Rattle.wb_names_rows.specs.Scope.{AreNames, AreLabels, IsLabelOf}

-- the entry of a name that is at a place
named_entry : (o : Option Entry) (name : List ℕ) → option_map (λ (e : Entry). e.1) o ≡ Some name → (e : Entry) × (o ≡ Some e) × (e.1 ≡ name)
named_entry None name e = absurd (cc e)
named_entry (Some x) name e = let same : x.1 ≡ name = cc in (x, refl, same)

-- a name at a place has this number
pub is_number : (names : List (List ℕ)) (entries : List Entry) (owner : ℕ) → AreNames names entries owner → (name : List ℕ) (k : ℕ)
    → slice_get names k ≡ Some name → IsNumber entries owner name k
is_number names entries owner are name k at =
    let x = named_entry (slice_get entries k) name
    (sym (slice_get-map (λ (e : Entry). e.1) entries k) ∙ (ap (λ z. slice_get z k) (sym are.are) ∙ at)) in
    record {
      other = x.0.0;
      is = x.1 ∙ ap (λ (z : List ℕ). Some (x.0.0, z)) x.2;
      seen = are.seen x.0 (contains_at entries x.0 k x.1);
    }

-- a label at a place has this place
pub is_place : (labels : ProductionLabels) (of : Labels) (owner : ℕ) → AreLabels labels of owner → (label : List ℕ) (at : Place)
    → IsLabelOf labels label at → IsPlace of owner label at
is_place labels of owner are label (place.Child k) e =
    let within : k < length of.children = omega (arith, e.0, are.count) in
    sym (append_before of.children (map (λ (e : Entry). e.1) of.locals) k within) ∙ (ap (λ z. slice_get z k) (sym are.names) ∙ e.1)
is_place labels of owner are label (place.Local k) e =
    let there : slice_get (of.children ++ map (λ (e : Entry). e.1) of.locals) (length of.children + k) ≡ Some label =
    ap (λ z. slice_get z (length of.children + k)) (sym are.names) ∙ (ap (λ z. slice_get labels.names (z + k)) (sym are.count) ∙ e) in
    is_number (map (λ (e : Entry). e.1) of.locals) of.locals owner (record { are = refl; seen = are.seen }) label k
    (sym (append_after of.children (map (λ (e : Entry). e.1) of.locals) k) ∙ there)

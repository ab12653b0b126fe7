-- Operations by their names.
use Rattle.std.proofs.Common.{◌≡◌, ◌∙◌, ◌<◌, ℕ, zero, suc, Bool, List, [], ◌∷◌, Option, Some, None, length, refl, sym, ap, slice_get, get_or, inl, inr, arith}
use Rattle.std.specs.List.{position_or_len}
use Rattle.std.specs.Prelude.{position, IsSomeAnd}
use Rattle.std.proofs.lemmas.Bool.{cases_lt}
use Rattle.std.proofs.lemmas.Grind.{common_steps}
use Rattle.std.proofs.lemmas.List.Sums.{passes_at_first}
use Rattle.std.proofs.lemmas.Slice.Eq.{bytes_eq-Decides}
use Rattle.std.specs.Str.{bytes_eq}
use Rattle.std.proofs.lemmas.Option.{slice_get-map, slice_get-get_or}
use Rattle.std.specs.Prelude.{option_map}
use Rattle.wb_eval_theory.proofs.SoundLemmas.{found_number}
use Rattle.wb_operations.specs.Operations.{OperationSignature, names_of, HasOperation, IsOperation}
use Rattle.wb_eval_rules.specs.Code.{number_in, or_zero}
use Rattle.wb_lemmas.proofs.Members.{contains_at}
use Rattle.wb_eval_theory.specs.Walks.{number_of}
use Rattle.wb_base.specs.Different.{Differ}

pub name_at : (signatures : List OperationSignature) (i : ℕ) (o : OperationSignature) → slice_get signatures i ≡ Some o
    → slice_get (names_of signatures) i ≡ Some o.name
name_at signatures i o there =
    slice_get-map (λ (z : OperationSignature). z.name) signatures i ∙ ap (option_map (λ (z : OperationSignature). z.name)) there

-- the number of an operation is found by its name
pub number_is : (signatures : List OperationSignature) (name : List ℕ) (i : ℕ) (o : OperationSignature) → Differ (names_of signatures)
    → slice_get signatures i ≡ Some o → o.name ≡ name → number_of signatures name ≡ Some i
number_is signatures name i o differ there named_so =
    let (k, f, found, there_k, named_k) = found_number signatures name i o there named_so in
    let same : i ≡ k = differ name i k (name_at signatures i o there ∙ ap Some named_so)
    (name_at signatures k f there_k ∙ ap Some named_k) in
    found ∙ ap Some (sym same)

-- the number of an operation that was found
pub number_found : (signatures : List OperationSignature) (name : List ℕ) (i : ℕ) → Differ (names_of signatures)
    → IsOperation signatures name i → i ≡ number_in signatures name
number_found signatures name i differ is = by_signature (slice_get signatures i) refl is where
  by_signature : (o : Option OperationSignature) → slice_get signatures i ≡ o
      → IsSomeAnd o (λ (s : OperationSignature). s.name ≡ name) → i ≡ number_in signatures name
  by_signature None at none = absurd none
  by_signature (Some s) at named_so = sym (ap or_zero (number_is signatures name i s differ at named_so))

-- none has the name
pub number_none : (signatures : List OperationSignature) (name : List ℕ) → ¬ HasOperation signatures name → 0 ≡ number_in signatures name
number_none [] name none = refl
number_none (first ∷ others) name none =
    let signatures = first ∷ others in
    let p : OperationSignature → Bool = λ z. bytes_eq z.name name in
    elim (cases_lt (position_or_len p signatures) (length signatures)) [
      | inl inside ↦
          let holds = passes_at_first p signatures first inside in
          let j = position_or_len p signatures in
          let s = get_or signatures j first in
          let named_so : s.name ≡ name = (bytes_eq-Decides s.name name).0 holds in
          let there : slice_get signatures j ≡ Some s = slice_get-get_or signatures j first inside in
          absurd (none (contains_at (names_of signatures) name j (name_at signatures j s there ∙ ap Some named_so)))
      | inr outside ↦
          let is : position p signatures ≡ None = grind (arith, common_steps) in
          sym (ap or_zero is)
    ]

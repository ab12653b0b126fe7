-- A picture that is there.
use Rattle.std.proofs.Common.{◌≡◌, ◌≢◌, inl, inr, ◌∙◌, ℕ, List, [], Result, Ok, Err, IfOk, OnOk, subst}
use Rattle.wb_values.specs.Signature.{Signature}
use Rattle.wb_explain_language.specs.TextLanguages.{TextLanguageParts}
use Rattle.wb_scan.specs.Views.{LanguageParts}
use Rattle.wb_explain_language.specs.Languages.{IsLanguageIn}
use Rattle.wb_explain_trees.specs.Lines.{SaysTree}
use Rattle.wb_explain_trees.specs.Pictures.{SaysPicture}
use Rattle.wb_operations.specs.Operations.{OperationSignature}
use Rattle.wb_explain_drawing.specs.Pictures.{AddsPicture, HasPicture}
use Rattle.wb_explain_shown.specs.ShownIn.{ShowsPicture, ShowsTree}

-- what holds of each value holds where it went well
pub always : {X E : Type 0} (r : Result X E) (P : X → Type 0) → ((x : X) → P x) → IfOk r P
always (Ok x) P f = f x
always (Err e) P f = tt

-- where something comes, it is a picture
pub drawn_there : (operations : List OperationSignature) (files : List (List ℕ)) (text old new : List ℕ) → old ≡ [] → new ≢ []
    → ShowsPicture operations files text old new → AddsPicture [] new
drawn_there operations files text old new none some (inl same) = absurd (some (same ∙ none))
drawn_there operations files text old new none some (inr (l, is, inl same)) = absurd (some (same ∙ none))
drawn_there operations files text old new none some (inr (l, is, inr (places, draws))) =
    (draws.drawn.inside, subst (λ before. HasPicture draws.drawn.inside before new) none draws.drawn.picture)

-- what is shown in a language of these files
pub tree_in : {X E : Type 0} (r : Result X E) (operations : List OperationSignature) (files : List (List ℕ)) (text old new : List ℕ)
    (l : TextLanguageParts) (language : LanguageParts) (signatures : List Signature) (names : List (List ℕ)) → IsLanguageIn operations files l
    → language ≡ l.language → signatures ≡ l.signatures → names ≡ l.terminals
    → OnOk r (SaysTree language.language signatures names text old new) → OnOk r (ShowsTree operations files text old new)
tree_in (Ok x) operations files text old new l language signatures names found same signed named says = inr (
  l,
  found,
  subst (λ (n : List (List ℕ)). SaysTree l.language.language l.signatures n text old new) named
      (subst (λ (z : List Signature). SaysTree l.language.language z names text old new) signed
      (subst (λ (x : LanguageParts). SaysTree x.language signatures names text old new) same says)),
)
tree_in (Err e) operations files text old new l language signatures names found same signed named says = tt

-- what is shown in a language of these files
pub picture_in : {X E : Type 0} (r : Result X E) (operations : List OperationSignature) (files : List (List ℕ)) (text old new : List ℕ)
    (l : TextLanguageParts) (language : LanguageParts) (signatures : List Signature) (names : List (List ℕ)) → IsLanguageIn operations files l
    → language ≡ l.language → signatures ≡ l.signatures → names ≡ l.terminals
    → OnOk r (SaysPicture language.language signatures names text old new) → OnOk r (ShowsPicture operations files text old new)
picture_in (Ok x) operations files text old new l language signatures names found same signed named says = inr (
  l,
  found,
  subst (λ (n : List (List ℕ)). SaysPicture l.language.language l.signatures n text old new) named
      (subst (λ (z : List Signature). SaysPicture l.language.language z names text old new) signed
      (subst (λ (x : LanguageParts). SaysPicture x.language signatures names text old new) same says)),
)
picture_in (Err e) operations files text old new l language signatures names found same signed named says = tt

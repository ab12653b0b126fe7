-- What is read at a place is the only thing of its name.
use Rattle.std.proofs.Common.{◌≡◌, ℕ, List, Option, Some, Bool, true, false, true≢false, slice_get, Contains, sym, ap, ◌∙◌, subst}
use Rattle.std.specs.Prelude.{◌↔◌, IsTrue}
use Rattle.wb_lemmas.proofs.Members.{contains_at, place_of}
use Rattle.wb_lemmas.proofs.Places.{at_once}
use Rattle.wb_names_theory.specs.declared.declaration.Declaration.{Declaration}
use Rattle.wb_names_theory.specs.declared.declaration.Sort.{Sort}
use Rattle.wb_names_theory.specs.Duplicate.{AreSame, Counts}
use Rattle.wb_names_theory.specs.Meaning.{IsSymbol}
use Rattle.wb_names_rules.specs.Index.{CountOnce}
use Rattle.wb_names_rules.specs.Inner.Reads.{IsOnly, IsSortOf}

-- what is tested doesn't hold where the test fails
pub fails_when : {P : Type 0} (b : Bool) → b ≡ false → (IsTrue b ↔ P) → ¬ P
fails_when true e test p = absurd (true≢false e)
fails_when false e test p = absurd (true≢false (sym (test.1 p)))

-- of declarations of the same thing that differ in one part, that part of the one that is there is the only one
pub only_one : {X : Type 0} (declared : List Declaration) (make : X → Declaration) → CountOnce declared
    → ((x y : X) → AreSame (make x) (make y)) → ((x y : X) → make x ≡ make y → x ≡ y) → (place : ℕ) (is : X) (found : Option X)
    → slice_get declared place ≡ Some (make is) → Counts declared (make is) → found ≡ Some is → IsOnly (λ (x : X). Contains declared (make x)) found
only_one {X} declared make once same apart place is found there counts e =
    subst (IsOnly (λ (x : X). Contains declared (make x))) (sym e) (λ x. (
      λ has. let (at, at_x) = place_of declared (make x) has in
          let one : place ≡ at = once place at (make is) (make x) there at_x counts (same is x) in
          apart x is (at_once declared at (make x) (make is) at_x (subst (λ (z : ℕ). slice_get declared z ≡ Some (make is)) one there)),
      λ e. contains_at declared (make x) place (there ∙ ap (λ (z : X). Some (make z)) (sym e)),
    ))

-- a test of what a name is declared as is one of the name
pub sort_test : (declared : List Declaration) (name : List ℕ) (found is wanted : Sort) (b : Bool) → IsSortOf declared name (Some is)
    → (IsTrue b ↔ (is ≡ wanted)) → IsTrue b ↔ IsSymbol declared name wanted
sort_test declared name found is wanted b only test =
    (λ h. (only wanted).1 (sym (test.0 h)), λ has. test.1 (sym ((only wanted).0 has)))

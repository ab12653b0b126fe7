-- One terminal after the other is added to those that could come.
use Rattle.std.proofs.Common.{◌≡◌, ◌<◌, ◌≤◌, ◌+◌, ◌↔◌, ℕ, List, [], ◌∷◌, ◌++◌, sym, subst, ◌∙◌, inl, inr, arith}
use Rattle.std.specs.Prelude.{All, Bool, Contains, IsTrue, true, false}
use Rattle.std.proofs.lemmas.Bool.{cases_order}
use Rattle.std.proofs.lemmas.List.Elements.{All-nil, All-push, Contains-push, Contains-push_cases}
use Rattle.wb_lemmas.proofs.Elements.{all_contained, all_from_contained}
use Rattle.wb_lemmas.proofs.Members.{push_contains}
use Rattle.wb_grammar_theory.specs.Trees.{Forest, leaves}
use Rattle.wb_scan_theory.specs.declared.stop_kind.StopKind.{StopKind}
use Rattle.wb_scan_theory.specs.Readings.{Begins, terminals_of}
use Rattle.wb_scan.specs.Views.{LanguageParts}
use Rattle.wb_parser_expected.specs.Expected.{AreExpected}
use Rattle.wb_parser_expected.specs.Inner.Trials.{HasTables, Stands}
use Rattle.wb_parser_expected.specs.Inner.Walks.{AreThoseBelow, HasStopped}
use Rattle.wb_parser_expected.proofs.StopLemmas.{same_read}
use Rattle.wb_parser_expected.proofs.WalkLemmas.{stands_at}

-- all below a number are below a greater one
pub below_more : (n m : ℕ) (xs : List ℕ) → n ≤ m → All (λ t. t < n) xs → All (λ t. t < m) xs
below_more n m xs le all = all_from_contained (λ t. t < m) xs (λ t has. (let lt : t < n = all_contained (λ t. t < n) xs t all has in omega arith))

-- whether a terminal could come after the leaves of each stack of these states
abbrev pub IsDecided : LanguageParts → List ℕ → ℕ → Bool → Type 0
IsDecided parts states t could =
    (stack : Forest) → Stands parts.language.grammar parts.tables states stack t →
    IsTrue could ↔ Begins parts.language.grammar (terminals_of (leaves [] stack) ++ t ∷ [])

module _ (parts : LanguageParts) (states : List ℕ) where
  -- below the first terminal there is none
  pub none_below : (found : List ℕ) → found ≡ [] → AreThoseBelow parts states 0 found
  none_below found is = record {
    within = subst (All (λ t. t < 0)) (sym is) (All-nil (λ t. t < 0));
    each = λ stack stands t lt. absurd (omega arith);
  }

  -- one that could come is added
  pub one_more : (found pushed : List ℕ) (t : ℕ) (could : Bool) → pushed ≡ found ++ t ∷ [] → IsDecided parts states t could →
      could ≡ true → AreThoseBelow parts states t found → AreThoseBelow parts states (t + 1) pushed
  one_more found pushed t could is decided comes old =
      subst (AreThoseBelow parts states (t + 1)) (sym is) (record {
        within = All-push (λ u. u < t + 1) found t (below_more t (t + 1) found (omega arith) old.within) (omega arith);
        each = each;
      })
    where
      each : (stack : Forest) → ((u : ℕ) → Stands parts.language.grammar parts.tables states stack u) → (u : ℕ) → u < t + 1 →
          Contains (found ++ t ∷ []) u ↔ Begins parts.language.grammar (terminals_of (leaves [] stack) ++ u ∷ [])
      each stack stands u lt = elim (cases_order u t) [
        | inl same ↦ subst (λ z. Contains (found ++ t ∷ []) z ↔ Begins parts.language.grammar (terminals_of (leaves [] stack) ++ z ∷ []))
            (sym same) (λ has. (decided stack (stands t)).0 comes, λ b. Contains-push found t)
        | inr (inl less) ↦ (
          λ has. elim (Contains-push_cases found t u has) [
            | inl before ↦ (old.each stack stands u less).0 before
            | inr same ↦ absurd (omega (arith, same, less))
          ],
          λ b. push_contains found t u ((old.each stack stands u less).1 b),
        )
        | inr (inr more) ↦ absurd (omega (arith, more, lt))
      ]

  -- one that couldn't come is left out
  pub one_fewer : (found : List ℕ) (t : ℕ) (could : Bool) → IsDecided parts states t could → could ≡ false →
      AreThoseBelow parts states t found → AreThoseBelow parts states (t + 1) found
  one_fewer found t could decided never old = record {
    within = below_more t (t + 1) found (omega arith) old.within;
    each = each;
  }
    where
      each : (stack : Forest) → ((u : ℕ) → Stands parts.language.grammar parts.tables states stack u) → (u : ℕ) → u < t + 1 →
          Contains found u ↔ Begins parts.language.grammar (terminals_of (leaves [] stack) ++ u ∷ [])
      each stack stands u lt = elim (cases_order u t) [
        | inl same ↦ subst (λ z. Contains found z ↔ Begins parts.language.grammar (terminals_of (leaves [] stack) ++ z ∷ []))
            (sym same) (
              λ has. absurd (let less : t < t = all_contained (λ u. u < t) found t old.within has in omega arith),
              λ b. absurd (let yes_is : could ≡ true = (decided stack (stands t)).1 b in cc),
            )
        | inr (inl less) ↦ old.each stack stands u less
        | inr (inr more) ↦ absurd (omega (arith, more, lt))
      ]

  -- where the text stops, these are the terminals that could come there
  pub are_expected : HasTables parts → (text : List ℕ) (place : ℕ) (kind : StopKind) (terminals : List ℕ) →
      HasStopped parts text states place kind → AreThoseBelow parts states (parts.language.grammar.terminals + 1) terminals →
      AreExpected parts.language text place kind terminals
  are_expected has text place kind terminals s these =
      let n = parts.language.grammar.terminals in
      record {
        stops = s.stop;
        within = all_from_contained (λ t. t ≤ n) terminals (λ t has.
            (let lt : t < n + 1 = all_contained (λ t. t < n + 1) terminals t these.within has in omega arith));
        each = λ stop t le. subst (λ z. Contains terminals t ↔ Begins parts.language.grammar (terminals_of z ++ t ∷ []))
            (sym (same_read parts.language has.language text place place kind kind stop s.stop ∙ s.leaves_are))
            (these.each s.read.stack (stands_at parts text s.read) t (omega arith));
      }

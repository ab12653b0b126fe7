-- What is composed of a host and extensions is a language of their union.
use Rattle.std.proofs.Common.{◌≡◌, ◌∷◌, [], ℕ, List, map, refl}
use Rattle.std.specs.List.{AllZip}
use Rattle.wb_compose.specs.Kept.{ExtensionView}
use Rattle.wb_compose.specs.Hosts.{CertifiedView}
use Rattle.wb_compose.specs.Composed.{IsComposed, IsExtended}
use Rattle.wb_compose.specs.Joined.{Extended}
use Rattle.wb_scan_theory.specs.Facts.{IsLanguage}
use Rattle.wb_scan_theory.specs.Languages.{LanguageView}
use Rattle.wb_compose_texts.specs.declared.text_answer.TextAnswer.{TextAnswer}
use Rattle.wb_compose_texts.specs.Answers.{IsAnswerIn, IsUnitedTextAnswer}
use Rattle.wb_compose_texts.specs.Names.{name_at, terminals_of}
use Rattle.wb_compose_texts.specs.Signatures.{signatures_of}
use Rattle.wb_compose_texts.specs.Unions.{Union, all_resolved}
use Rattle.wb_compose_texts.specs.Withdrawn.{AreWithdrawnNames}
use Rattle.wb_compose_texts.proofs.NameLemmas.{resolved_in}

pub resolved_are : (es : List ExtensionView) (xs : List Extended) → AllZip IsExtended es xs → resolved_in xs ≡ all_resolved es
resolved_are [] [] all = refl
resolved_are [] (x ∷ xs) all = absurd all
resolved_are (e ∷ es) [] all = absurd all
resolved_are (e ∷ es) (x ∷ xs) all = λ j. all.0.resolved_is j ∷ resolved_are es xs all.1 j

module _ (host : CertifiedView) (es : List ExtensionView) (l : LanguageView) (withdrawn : List ℕ)
    (composed : IsComposed host es l withdrawn) where
  abbrev pub union_is : Union host.resolved host.operations (all_resolved es)
  union_is = record {
    grammar = composed.grammar;
    extended = composed.extended;
    extensions_are = resolved_are es composed.extended composed.each;
    certified = composed.certified;
  }

  -- an answer in it is one of the host with the extensions
  pub answered : IsLanguage l → (text : List ℕ) (answer : TextAnswer) →
      IsAnswerIn (terminals_of host.resolved (all_resolved es)) (signatures_of host.resolved (all_resolved es)) l text answer →
      IsUnitedTextAnswer host.resolved host.operations (all_resolved es) text answer
  answered ok text answer is = record {
    whole = union_is;
    language = l;
    is_language = record { of_union = composed.language; language = ok };
    is = is;
  }

  -- and the names of what is withdrawn there are names of what is withdrawn
  pub withdrawn_named : (names : List (List ℕ)) → names ≡ map (name_at (terminals_of host.resolved (all_resolved es))) withdrawn →
      AreWithdrawnNames host.resolved host.operations (all_resolved es) names
  withdrawn_named names is = record {
    whole = union_is;
    numbers = withdrawn;
    withdrawn = composed.withdrawn_are;
    is = is;
  }

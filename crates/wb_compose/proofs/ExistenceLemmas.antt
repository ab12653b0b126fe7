-- A certified host with certified extensions of different names has a language, in which every text has an answer.
use Rattle.std.proofs.Common.{ℕ, List, map}
use Rattle.wb_base.specs.Different.{Differ}
use Rattle.wb_base.specs.Grammar.{GrammarView}
use Rattle.wb_compose_theory_language.proofs.LanguageExists.{law}
use Rattle.wb_compose_theory_language.proofs.TextsExist.{text_answer}
use Rattle.wb_certify.specs.Lexicons.{lexicon_of}
use Rattle.wb_operations.specs.Operations.{OperationSignature}
use Rattle.wb_scan_theory.specs.Languages.{LanguageView}
use Rattle.wb_syntax_resolved.specs.declared.resolved.ResolvedParts.{ResolvedParts}
use Rattle.wb_compose.specs.Existence.{AnswersText, IsLanguageFor}
use Rattle.wb_compose.specs.Joined.{AreCertifiedApart, Extended}
use Rattle.wb_compose.specs.Written.{name_in, written_in}
use Rattle.wb_compose.proofs.SpelledLemmas.{all_spelled}
use Rattle.wb_compose.proofs.WrittenApart.{all_apart, all_certified}
use Rattle.wb_lemmas.proofs.NotNot.{follows}

module _ (host : ResolvedParts) (h : GrammarView) (operations : List OperationSignature) (extensions : List Extended)
    (apart : AreCertifiedApart host h operations extensions) (names : Differ (map (λ (e : Extended). name_in e.resolved) extensions)) where
  pub some_language : ¬ ¬ ((l : LanguageView) × IsLanguageFor host h extensions l)
  some_language =
      follows (law h host.extensible (lexicon_of host h) (written_in h extensions) (all_certified host h operations extensions apart)
      (all_apart host h operations extensions apart names) (all_spelled host h operations extensions apart))
      (λ (l, of_union, is). (l, record { of_union = of_union; language = is }))

  pub some_answer : (text : List ℕ) → ¬ ¬ ((l : LanguageView) × AnswersText host h extensions text l)
  some_answer text =
      follows (text_answer h host.extensible (lexicon_of host h) (written_in h extensions)
      (all_certified host h operations extensions apart) (all_apart host h operations extensions apart names) (all_spelled host h operations extensions apart) text)
      (λ (l, of_union, is, answer). (l, record { is_language = record { of_union = of_union; language = is }; answer = answer }))

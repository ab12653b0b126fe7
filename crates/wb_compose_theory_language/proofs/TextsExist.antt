-- In the language of a union every text has an answer.
use Rattle.std.proofs.Common.{ℕ, List}
use Rattle.wb_base.specs.Grammar.{GrammarView}
use Rattle.wb_determinism_contexts.specs.Considered.{LexiconView}
use Rattle.wb_scan_theory.specs.Facts.{IsLanguage}
use Rattle.wb_scan_theory.specs.Languages.{LanguageView}
use Rattle.wb_scan_theory.specs.Texts.{HasAnswer}
use Rattle.wb_compose_theory_grammar.specs.Certificates.{AreCertified}
use Rattle.wb_compose_theory_language.specs.Written.{WrittenPiece, pieces_of}
use Rattle.wb_compose_theory_language.specs.Apart.{AreWrittenApart}
use Rattle.wb_compose_theory_language.specs.Languages.{IsUnitedLanguage}
use Rattle.wb_scan_theory.proofs.AnswersExist.{answer_exists}
use Rattle.wb_lemmas.proofs.NotNot.{follows, bind}
use Rattle.wb_compose_theory_language.specs.Spelled.{AreSpelled}
use Rattle.wb_compose_theory_language.proofs.LanguageExists.{law}

pub text_answer : (host : GrammarView) (extensible : List ℕ) (own : LexiconView) (written : List WrittenPiece)
    → AreCertified host extensible (pieces_of written) → AreWrittenApart host extensible own written → AreSpelled own written → (text : List ℕ)
    → ¬ ¬ ((l : LanguageView) × IsUnitedLanguage host extensible own written l × IsLanguage l × HasAnswer l text)
text_answer host extensible own written certified apart spelled text =
    bind (law host extensible own written certified apart spelled) (λ (l, united_one, is).
    follows (answer_exists l is text) (λ answer. (l, united_one, is, answer)))

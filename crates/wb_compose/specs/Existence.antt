-- What a certified host with certified extensions has: a language on which texts are parsed, and in it an answer to each text.
use Rattle.std.specs.Prelude.{ℕ, List}
use Rattle.wb_base.specs.Grammar.{GrammarView}
use Rattle.wb_certify.specs.Lexicons.{lexicon_of}
use Rattle.wb_scan_theory.specs.Facts.{IsLanguage}
use Rattle.wb_scan_theory.specs.Languages.{LanguageView}
use Rattle.wb_scan_theory.specs.Texts.{HasAnswer}
use Rattle.wb_syntax_resolved.specs.declared.resolved.ResolvedParts.{ResolvedParts}
use Rattle.wb_compose_theory_language.specs.Languages.{IsUnitedLanguage}
use Rattle.wb_compose.specs.Joined.{Extended}
use Rattle.wb_compose.specs.Written.{written_in}

module _ (host : ResolvedParts) (host_grammar : GrammarView) (extensions : List Extended) where
  -- the language is that of the host with the extensions, and texts are parsed in it
  pub record IsLanguageFor (l : LanguageView) : Type 0 where
    pub of_union : IsUnitedLanguage host_grammar host.extensible (lexicon_of host host_grammar) (written_in host_grammar extensions) l
    pub language : IsLanguage l

  -- besides, the text has a tree or a stop in it
  pub record AnswersText (text : List ℕ) (l : LanguageView) : Type 0 where
    pub is_language : IsLanguageFor l
    pub answer : HasAnswer l text

-- What a text is in the language of a host by itself.
use Rattle.std.specs.Prelude.{◌↔◌, ℕ, List}
use Rattle.wb_base.specs.Grammar.{GrammarView}
use Rattle.wb_compose.specs.HostLanguage.{host_language}
use Rattle.wb_grammar_theory.specs.Trees.{Forest}
use Rattle.wb_scan_theory.specs.declared.stop_kind.StopKind.{StopKind}
use Rattle.wb_scan_theory.specs.Facts.{IsLanguage}
use Rattle.wb_scan_theory.specs.Languages.{LanguageView}
use Rattle.wb_scan_theory.specs.Texts.{ParsesTo, StopsAt}
use Rattle.wb_syntax_resolved.specs.declared.resolved.ResolvedParts.{ResolvedParts}
use Rattle.wb_certify_shown.specs.Names.{grammar_terminals}
use Rattle.wb_compose_texts.specs.Answers.{IsAnswerIn}
use Rattle.wb_compose_texts.specs.declared.text_answer.TextAnswer.{TextAnswer}

-- a text has the same trees in both languages, and the same stops
pub record HaveSameTexts (l m : LanguageView) : Type 0 where
  pub trees : (text : List ℕ) (tree : Forest) → ParsesTo l text tree ↔ ParsesTo m text tree
  pub stops : (text : List ℕ) (place : ℕ) (kind : StopKind) → StopsAt l text place kind ↔ StopsAt m text place kind

-- texts are parsed in the language of the host with this grammar, and there, with the names and signatures of the host, the answer is that
-- of the text
pub record IsHostTextAnswer (r : ResolvedParts) (g : GrammarView) (text : List ℕ) (answer : TextAnswer) : Type 0 where
  pub language : IsLanguage (host_language r g)
  pub is : IsAnswerIn (grammar_terminals r) r.attributes.signatures (host_language r g) text answer

-- The tree and the stop of a text in a language.
use Rattle.std.specs.Prelude.{ℕ, List}
use Rattle.wb_grammar_theory.specs.Trees.{Forest}
use Rattle.wb_scan_theory.specs.declared.stop_kind.StopKind.{StopKind}
use Rattle.wb_scan_theory.specs.Languages.{LanguageView}
use Rattle.wb_scan_theory.specs.Tokens.{NextToken}
use Rattle.wb_scan_theory.specs.Readings.{IsTreeOn, IsStopOn, HasAnswerOn}

-- the tree is one of the text: a derivation tree whose leaves are, one after another, the next tokens of the text, and then its end
abbrev pub ParsesTo : LanguageView → List ℕ → Forest → Type 0
ParsesTo l text tree = IsTreeOn l.grammar (NextToken l text) tree

-- the text stops at the place, for the reason
abbrev pub StopsAt : LanguageView → List ℕ → ℕ → StopKind → Type 0
StopsAt l text place kind = IsStopOn l.grammar (NextToken l text) place kind

-- the text has an answer: a tree or a stop
abbrev pub HasAnswer : LanguageView → List ℕ → Type 0
HasAnswer l text = HasAnswerOn l.grammar (NextToken l text)

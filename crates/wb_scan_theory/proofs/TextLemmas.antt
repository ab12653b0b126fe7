-- Each text has one answer: a tree or a stop.
use Rattle.std.proofs.Common.{◌≡◌, ℕ, List, length, arith}
use Rattle.wb_grammar_theory.specs.Trees.{Forest}
use Rattle.wb_lookahead.specs.Contents.{TablesView}
use Rattle.wb_scan_theory.specs.declared.stop_kind.StopKind.{StopKind}
use Rattle.wb_scan_theory.specs.Languages.{LanguageView}
use Rattle.wb_scan_theory.specs.Tokens.{NextToken}
use Rattle.wb_scan_theory.specs.Texts.{ParsesTo, StopsAt, HasAnswer}
use Rattle.wb_scan_theory.specs.Facts.{IsLanguage}
use Rattle.wb_scan_theory.specs.Parts.{AreTablesOf}
use Rattle.wb_scan_theory.specs.Inner.Runs.{IsOne}
use Rattle.wb_scan_theory.proofs.FactLemmas.{parsable, decision, widest}
use Rattle.wb_scan_theory.proofs.PartLemmas.{considers}
use Rattle.wb_scan_theory.proofs.TokenLemmas.{one_next, some_next, advances}
use Rattle.wb_scan_theory.proofs.UniqueLemmas as unique
use Rattle.wb_scan_theory.proofs.AnswerLemmas.{answer}

pub is_one : (l : LanguageView) → IsLanguage l → (text : List ℕ) → IsOne (NextToken l text)
is_one l ok text prefix at s s' n m = one_next ok.written ok.winners prefix text n m

pub one_tree : (l : LanguageView) → IsLanguage l → (text : List ℕ) (tree other : Forest) → ParsesTo l text tree → ParsesTo l text other →
    tree ≡ other
one_tree l ok text tree other a b =
    unique.one_tree l.grammar ok.deterministic.no_conflict (NextToken l text) (is_one l ok text) tree other a b

pub one_stop : (l : LanguageView) → IsLanguage l → (text : List ℕ) (place other : ℕ) (kind also : StopKind) → StopsAt l text place kind →
    StopsAt l text other also → (place ≡ other) × (kind ≡ also)
one_stop l ok text place other kind also a b =
    unique.one_stop l.grammar ok.deterministic.no_conflict (NextToken l text) (is_one l ok text) place other kind also a b

pub not_both : (l : LanguageView) → IsLanguage l → (text : List ℕ) (tree : Forest) (place : ℕ) (kind : StopKind) → ParsesTo l text tree →
    StopsAt l text place kind → ⊥
not_both l ok text tree place kind a b =
    unique.not_both l.grammar ok.deterministic.no_conflict (NextToken l text) (is_one l ok text) tree place kind a b

pub some_answer : (l : LanguageView) (tables : TablesView) → IsLanguage l → AreTablesOf l.grammar tables → (text : List ℕ) →
    HasAnswer l text
some_answer l tables ok tables_of text =
    answer l.grammar l.grammar.nonterminals (widest l.grammar.productions) (parsable l.grammar ok.deterministic)
    (λ prefix t viable le. decision tables_of prefix t viable le) (NextToken l text) (is_one l ok text) (length text)
    (λ prefix at viable within. some_next ok.written ok.winners prefix text viable (considers ok.written tables_of prefix viable)
    (length text) at
    within (omega arith))
    (advances ok.written text)

-- Texts have answers, without tables at hand.
use Rattle.std.proofs.Common.{◌≤◌, ℕ, List, length, arith}
use Rattle.wb_base.specs.declared.symbol.Symbol.{Symbol}
use Rattle.wb_grammar_theory.specs.Items.{IsViablePrefix}
use Rattle.wb_scan_theory.specs.Facts.{IsLanguage, IsWritten, IsDeterministic, AreDecided, HasOneWinner}
use Rattle.wb_scan_theory.specs.Languages.{LanguageView}
use Rattle.wb_scan_theory.specs.Texts.{HasAnswer}
use Rattle.wb_scan_theory.specs.Tokens.{Next, NextToken}
use Rattle.wb_scan_theory.proofs.HasOneLemmas.{has_one}
use Rattle.wb_scan_theory.proofs.TextLemmas.{some_answer}
use Rattle.wb_scan_theory.proofs.PartLemmas.{considers}
use Rattle.wb_scan_theory.proofs.TokenLemmas.{some_next}
use Rattle.wb_lemmas.proofs.NotNot.{follows}
use Rattle.wb_scan_theory.proofs.TablesExist.{tables_exist}

pub answer_exists : (l : LanguageView) → IsLanguage l → (text : List ℕ) → ¬ ¬ HasAnswer l text
answer_exists l ok text =
    let d = ok.deterministic in
    follows (tables_exist l.grammar d.in_range d.reduced d.no_conflict) (λ (tables, are). some_answer l tables ok are text)

pub next_exists : (l : LanguageView) → IsLanguage l → (text : List ℕ) (prefix : List Symbol) → IsViablePrefix l.grammar prefix → (at : ℕ)
    → at ≤ length text → ¬ ¬ ((next : Next) × NextToken l text prefix at next)
next_exists l ok text prefix viable at within =
    let d = ok.deterministic in
    follows (tables_exist l.grammar d.in_range d.reduced d.no_conflict) (λ (tables, are).
    some_next ok.written ok.winners prefix text viable (considers ok.written are prefix viable) (length text) at within (omega arith))

pub winner_exists : (l : LanguageView) → IsDeterministic l.grammar → IsWritten l → AreDecided l → ¬ ¬ HasOneWinner l
winner_exists l d written are_decided =
    follows (tables_exist l.grammar d.in_range d.reduced d.no_conflict) (λ (tables, are). has_one l tables written are are_decided)

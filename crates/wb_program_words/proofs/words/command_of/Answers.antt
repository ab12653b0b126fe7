use Rattle.std.proofs.Common.{rules, ◌≡◌, ◌≢◌, ◌-◌, arith, length, take, drop}
use Rattle.wb_program_words.specs.Asked.{Asked, asked_by, texts}
use Rattle.wb_program_words.specs.Rows.{row_of}
use Rattle.wb_program_words.specs.Words.{Asks, Says}
use Rattle.wb_program_words.specs.declared.rows.Verb.{Verb}
use Rattle.wb_program_words.proofs.AskLemmas.{asks_by, more_texts, never_asks, no_verb_asks, on_nothing, on_some}
use Rattle.wb_program_words.proofs.SplitLemmas.{on_none}
use Rattle.wb_program_words.proofs.words.command_of.Goals as goal

pub returns-in_err-verb-clause-none : goal.returns-in_err-verb-clause-none
returns-in_err-verb-clause-none c =
    let words = texts c.args.words.now in
    let rest = take (length c.args.words.now - 1) (drop 1 c.args.words.now) in
    let other : (verb : Verb) → c.as_str.result.now ≢ (row_of verb).verb = search rules in
    let line = more_texts c.args.words.now c.verb-item.result c.as_str.result.now (omega arith) c.verb-item.is c.as_str.ensures.value in
    on_none c.from_residual.result ((asked : Asked) → ¬ Asks words asked) (no_verb_asks words c.as_str.result.now (texts rest) line other)

pub returns-clause-some : goal.returns-clause-some
returns-clause-some c =
    let words = texts c.args.words.now in
    let rest = take (length c.args.words.now - 1) (drop 1 c.args.words.now) in
    let verb = c.in_ok-verb.verb in
    let begins : c.as_str.result.now ≡ (row_of verb).verb = search rules in
    let line = more_texts c.args.words.now c.verb-item.result c.as_str.result.now (omega arith) c.verb-item.is c.as_str.ensures.value in
    on_some c.command_after.result (λ command. Says verb (texts rest) (asked_by command)) (λ command. Asks words (asked_by command))
    (λ command says. asks_by words c.as_str.result.now (texts rest) line verb begins (asked_by command) says) c.command_after.ensures.some

pub returns-clause-none : goal.returns-clause-none
returns-clause-none c =
    let words = texts c.args.words.now in
    let rest = take (length c.args.words.now - 1) (drop 1 c.args.words.now) in
    let verb = c.in_ok-verb.verb in
    let begins : c.as_str.result.now ≡ (row_of verb).verb = search rules in
    let line = more_texts c.args.words.now c.verb-item.result c.as_str.result.now (omega arith) c.verb-item.is c.as_str.ensures.value in
    on_nothing c.command_after.result ((asked : Asked) → ¬ Says verb (texts rest) asked) ((asked : Asked) → ¬ Asks words asked)
    (λ never. never_asks words c.as_str.result.now (texts rest) line verb begins never) c.command_after.ensures.none

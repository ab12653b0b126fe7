use Rattle.std.proofs.Common.{rules, ◌≡◌, ◌<◌, ◌∙◌, ap, subst}
use Rattle.wb_lookahead.specs.Contents.{TablesView, size_of}
use Rattle.wb_parser_expected.specs.Inner.Trials.{HasTables}
use Rattle.wb_parser_expected.proofs.WordLemmas.{none_longer, none_there, one_scanned}
use Rattle.wb_parser_expected.proofs.word.word_at.Goals as goal

pub states-preserved : goal.states-preserved
states-preserved c =
    let parts = c.args.language.now in
    let has : HasTables parts = record { language = c.tables.ensures.language; tables_of = c.tables.ensures.of_grammar } in
    let count_is : c.count-count.result ≡ size_of parts.tables =
    c.count-count.ensures ∙ ap (λ (z : TablesView). size_of z) c.tables.ensures.tables in
    let lt : c.states.state < size_of parts.tables = subst (λ z. c.states.state < z) count_is c.states-test.true in
    one_scanned parts has c.args.text.now c.args.from c.states.state lt c.scan.result c.scan.ensures.next c.word_of.result c.states.longest
    c.longer-longest.result c.word_of.ensures c.longer-longest.ensures c.states.invariant

pub returns-clause-longest : goal.returns-clause-longest
returns-clause-longest c =
    let parts = c.args.language.now in
    let has : HasTables parts = record { language = c.tables.ensures.language; tables_of = c.tables.ensures.of_grammar } in
    let count_is : c.count-count.result ≡ size_of parts.tables =
    c.count-count.ensures ∙ ap (λ (z : TablesView). size_of z) c.tables.ensures.tables in
    let end_is : c.states.state ≡ c.count-count.result = search rules in
    none_longer parts has c.args.text.now c.args.from c.states.state c.states.longest (end_is ∙ count_is) c.states.invariant

pub returns-clause-none : goal.returns-clause-none
returns-clause-none c =
    let parts = c.args.language.now in
    let has : HasTables parts = record { language = c.tables.ensures.language; tables_of = c.tables.ensures.of_grammar } in
    let count_is : c.count-count.result ≡ size_of parts.tables =
    c.count-count.ensures ∙ ap (λ (z : TablesView). size_of z) c.tables.ensures.tables in
    let end_is : c.states.state ≡ c.count-count.result = search rules in
    λ none terminal at end w. none_there parts has c.args.text.now c.args.from c.states.state c.states.longest (end_is ∙ count_is)
    c.states.invariant none terminal at end w

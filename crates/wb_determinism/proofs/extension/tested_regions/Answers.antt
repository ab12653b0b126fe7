use Rattle.std.proofs.Common.{◌≤◌, ◌∙◌, ℕ, ap, subst, sym}
use Rattle.wb_base.specs.Grammar.{GrammarView}
use Rattle.wb_determinism.specs.Extensions.{IsPartOf, extended_grammar, numbers_of}
use Rattle.wb_determinism.specs.Inner.Numbers.{AreInTurn}
use Rattle.wb_determinism.proofs.NumberLemmas.{numbers_in_turn}
use Rattle.wb_determinism.proofs.extension.tested_regions.Goals as goal

pub numbers_by-numbers-requires-clause-terminals : goal.numbers_by-numbers-requires-clause-terminals
numbers_by-numbers-requires-clause-terminals c =
    subst (λ (n : ℕ). n ≤ c.args.extended.now.host.now.grammar.terminals) (sym c.len.ensures) c.requires.host.part.terminals

pub regions_of-requires : goal.regions_of-requires
regions_of-requires c =
    let x = c.args.extended.now in
    let host = x.host.now.grammar in
    subst AreInTurn (sym c.numbers_by-numbers.ensures)
    (numbers_in_turn host x.both.now.grammar c.len.result
    (subst (λ (k : GrammarView). IsPartOf host k c.len.result) (sym c.requires.both.grammar)
    (subst (IsPartOf host (extended_grammar x.parts.now x.grammar.now host)) (sym c.len.ensures) c.requires.host.part)))

pub test_rules-requires-clause-numbers : goal.test_rules-requires-clause-numbers
test_rules-requires-clause-numbers c =
    let x = c.args.extended.now in
    let host = x.host.now.grammar in
    c.numbers_by-numbers.ensures ∙ ap (λ (k : GrammarView). numbers_of host k c.len.result) c.requires.both.grammar
    ∙ ap (numbers_of host (extended_grammar x.parts.now x.grammar.now host)) c.len.ensures

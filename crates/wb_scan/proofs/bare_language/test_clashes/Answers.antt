use Rattle.std.proofs.Common.{◌∙◌, subst, sym, refl, List}
use Rattle.wb_base.specs.declared.symbol.Symbol.{Symbol}
use Rattle.wb_grammar_theory.specs.Lookaheads.{HasNoConflict}
use Rattle.wb_scan.specs.Inner.Written.{language_of_written}
use Rattle.wb_scan.specs.Refusals.{IsFormClash}
use Rattle.wb_scan.proofs.ClashLemmas.{clash_of_forms, no_clash_of_forms}
use Rattle.wb_scan.proofs.LanguageLemmas.{tables_of_parts, written_with}
use Rattle.wb_scan.proofs.bare_language.test_clashes.Goals as goal

pub returns-in-None-clause-is_written : goal.returns-in-None-clause-is_written
returns-in-None-clause-is_written c =
    let written = c.args.written.now in
    written_with c.args.grammar.now written.regexes.now written.layout.now written.preferences.now c.requires.written
    (rw c.requires.terminals at c.terminals-expressions.ensures.not_empty)

pub returns-in-None-clause-ok : goal.returns-in-None-clause-ok
returns-in-None-clause-ok c =
    let g = c.args.grammar.now in
    let written = c.args.written.now in
    no_clash_of_forms (language_of_written g written) c.args.parts.now.tables c.args.automaton.now.sets
    (tables_of_parts g c.args.parts.now c.requires.parts) c.requires.sets
    (rw c.requires.terminals at (c.in_ok-clash.ensures.none.0 (rw c.in-None.is refl)))

pub returns-in_ok-prefix-in-Some-clause-refused : goal.returns-in_ok-prefix-in-Some-clause-refused
returns-in_ok-prefix-in-Some-clause-refused c =
    let g = c.args.grammar.now in
    let written = c.args.written.now in
    let parts = c.args.parts.now in
    let l = language_of_written g written in
    let clash = c.in-Some.clash in
    let shown = clash_of_forms l parts.kernels parts.tables c.args.automaton.now.sets clash.set clash.left clash.right clash.text
    c.requires.parts.kernels c.requires.parts.tables c.requires.parts.grammar c.requires.sets (rw c.requires.terminals at (rw c.in-Some.is at c.in_ok-clash.ensures.clash)) in (
      c.requires.acyclic,
      subst HasNoConflict c.requires.parts.grammar c.requires.parts.tables.no_conflict,
      subst (λ (prefix : List Symbol). IsFormClash l prefix clash.left clash.right clash.text)
          (sym (c.from_vec-prefix.ensures ∙ c.in_ok-prefix-in-Some.ensures)) shown.1,
      rw c.in-Some.is at c.in_ok-clash.ensures.in_order,
    )

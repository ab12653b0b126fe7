use Rattle.std.proofs.Common.{subst}
use Rattle.wb_grammar_theory.specs.Lookaheads.{HasNoConflict}
use Rattle.wb_scan.specs.Inner.Written.{language_of_written}
use Rattle.wb_scan.specs.Refusals.{IsFree}
use Rattle.wb_scan.proofs.LanguageLemmas.{language_parts}
use Rattle.wb_scan.proofs.bare_language.made_of.Goals as goal

module _ (c : goal.After-drop-parts-3) where
  -- nothing is against the language
  free : IsFree (language_of_written c.args.grammar.now c.args.written.now)
  free = record {
    acyclic = c.in_ok-test_preferences.ensures.ok;
    no_conflict = subst HasNoConflict c.in_ok-parts.ensures.ok.grammar c.in_ok-parts.ensures.ok.tables.no_conflict;
    no_clash = c.in_ok-built.ensures.clear;
  }

pub returns-clause-free : goal.returns-clause-free
returns-clause-free c = free c

pub returns-clause-parts : goal.returns-clause-parts
returns-clause-parts c in_range =
    let written = c.args.written.now in
    language_parts c.args.grammar.now c.args.facts.now c.in_ok-parts.parts written.regexes.now written.layout.now written.preferences.now
    c.in_ok-built.built.automaton in_range c.requires.facts c.in_ok-parts.ensures.ok c.requires.written c.in_ok-built.ensures.is_written (free c)
    c.in_ok-built.ensures.terminals c.in_ok-built.ensures.sets

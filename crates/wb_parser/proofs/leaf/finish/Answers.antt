use Rattle.std.proofs.Common.{subst, sym, refl, ◌∙◌, ap, ◌≡◌}
use Rattle.wb_grammar_theory.specs.Productions.{end_of}
use Rattle.wb_scan_theory.specs.Tokens.{over}
use Rattle.wb_parser.specs.Inner.Steps.{IsOutcome}
use Rattle.wb_parser.proofs.LeafLemmas.{over_whole, over_stops}
use Rattle.wb_parser.proofs.leaf.finish.Goals as goal

pub returns-in-Accepts-clause-parsed : goal.returns-in-Accepts-clause-parsed
returns-in-Accepts-clause-parsed c text prefix at n is =
    let is_end : end_of c.args.language.now.language.grammar ≡ c.terminals-end.result =
    sym (c.terminals-end.ensures ∙ ap (λ g. g.terminals) c.grammar.ensures.grammar) in
    over_whole c.args.language.now c.requires.sound.language text c.reduce_all.new.stack.states.items c.reduce_all.new.stack.states.items
    c.reduce_all.new.stack.values c.reduce_all.new.stack.values c.reduce_all.new.store prefix at c.args.place c.terminals-end.result
    c.parsed_of.result c.in_ok-reduce_all.ensures.sound.values_in_store refl c.parsed_of.ensures n
    (subst (IsOutcome c.args.language.now text c.terminals-end.result c.reduce_all.new.stack.states.items
    c.reduce_all.new.stack.values c.reduce_all.new.store prefix at c.args.place) c.in-Accepts.is
    (c.in_ok-reduce_all.ensures.outcome text prefix at c.args.place (over c.args.place) n (is_end, refl) is))

pub returns-in_default : goal.returns-in_default
returns-in_default c = record {
  parsed = λ text prefix at n is.
      (let is_end : end_of c.args.language.now.language.grammar ≡ c.terminals-end.result =
      sym (c.terminals-end.ensures ∙ ap (λ g. g.terminals) c.grammar.ensures.grammar) in
      over_stops c.args.language.now c.requires.sound.language text c.reduce_all.new.stack.states.items c.reduce_all.new.stack.values
      c.reduce_all.new.store prefix at c.args.place c.terminals-end.result c.in_ok-reduce_all.field-0 (sym is_end) c.in_default.not-Accepts
      (c.in_ok-reduce_all.ensures.outcome text prefix at c.args.place (over c.args.place) n (is_end, refl) is));
  extends = c.in_ok-reduce_all.ensures.extends;
  reductions = c.in_ok-reduce_all.ensures.reductions;
}

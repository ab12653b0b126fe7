use Rattle.std.proofs.Common.{◌≡◌, ◌∙◌, ap, refl, subst, sym}
use Rattle.wb_grammar_theory.specs.Productions.{end_of}
use Rattle.wb_scan_theory.specs.declared.stop_kind.StopKind.TheVariants.{Unexpected}
use Rattle.wb_scan_theory.specs.Tokens.{over}
use Rattle.wb_session.specs.Stacks.{roots_of}
use Rattle.wb_session.specs.Inner.Steps.{IsSettled}
use Rattle.wb_session.proofs.LeafLemmas.{over_leaves, over_stops, over_whole}
use Rattle.wb_session.proofs.PlaceLemmas.{places_stop}
use Rattle.wb_session.proofs.leaf.finish.Goals as goal

pub returns-in-Accepts-clause-parsed : goal.returns-in-Accepts-clause-parsed
returns-in-Accepts-clause-parsed c text e at stack is reads scan =
    over_whole c.args.language.now c.grammar.ensures.language text (roots_of c.args.stacks.now) (roots_of c.reduce_all.new.stacks)
    c.args.link c.in_ok-settled.settled.link e e at c.args.place c.terminals-end.result stack c.whole.result is reads scan
    (subst (IsSettled c.args.language.now c.terminals-end.result (roots_of c.args.stacks.now) c.args.link (roots_of c.reduce_all.new.stacks)
    c.in_ok-settled.settled.link) c.in-Accepts.is c.in_ok-settled.ensures.settled)
    c.in_ok-settled.ensures.grows.sound c.whole.ensures

pub returns-in-Accepts-clause-placed : goal.returns-in-Accepts-clause-placed
returns-in-Accepts-clause-placed c text e at stack places is reads laid scan =
    over_leaves c.args.language.now c.grammar.ensures.language text (roots_of c.args.stacks.now) (roots_of c.reduce_all.new.stacks)
    c.args.link c.in_ok-settled.settled.link e e at c.args.place c.terminals-end.result stack places is reads laid scan
    (subst (IsSettled c.args.language.now c.terminals-end.result (roots_of c.args.stacks.now) c.args.link (roots_of c.reduce_all.new.stacks)
    c.in_ok-settled.settled.link) c.in-Accepts.is c.in_ok-settled.ensures.settled)

pub returns-in_default : goal.returns-in_default
returns-in_default c = record {
  parsed = λ text e at stack is reads scan.
      (let is_end : c.terminals-end.result ≡ end_of c.args.language.now.language.grammar =
      c.terminals-end.ensures ∙ ap (λ g. g.terminals) c.grammar.ensures.grammar in
      over_stops c.args.language.now c.grammar.ensures.language text (roots_of c.args.stacks.now) (roots_of c.reduce_all.new.stacks)
      c.args.link c.in_ok-settled.settled.link e e at c.args.place c.terminals-end.result c.in_ok-settled.settled.outcome stack
      is reads scan c.in_ok-settled.ensures.settled is_end c.in_default.not-Accepts);
  placed = λ text e at stack places is reads laid scan.
      (let is_end : c.terminals-end.result ≡ end_of c.args.language.now.language.grammar =
      c.terminals-end.ensures ∙ ap (λ g. g.terminals) c.grammar.ensures.grammar in
      places_stop c.args.language.now.language c.grammar.ensures.language text e e at stack places laid c.args.place
      (Unexpected c.terminals-end.result) (over c.args.place) scan
      (over_stops c.args.language.now c.grammar.ensures.language text (roots_of c.args.stacks.now) (roots_of c.reduce_all.new.stacks)
      c.args.link c.in_ok-settled.settled.link e e at c.args.place c.terminals-end.result c.in_ok-settled.settled.outcome stack
      is reads scan c.in_ok-settled.ensures.settled is_end c.in_default.not-Accepts)
      (sym is_end, refl));
  grows = c.in_ok-settled.ensures.grows;
}

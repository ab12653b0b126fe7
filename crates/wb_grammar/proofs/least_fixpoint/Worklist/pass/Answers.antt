use Rattle.std.proofs.Common.{List, ℕ, refl, sym, subst}
use Rattle.std.specs.Prelude.{slice_set}
use Rattle.std.proofs.lemmas.Result.{on_ok_weaker}
use Rattle.wb_grammar_theory.proofs.ProductionLemmas.{production_read, production_within}
use Rattle.wb_grammar.specs.Inner.Worklists.{State, state_of, Passes}
use Rattle.wb_grammar.proofs.WorklistLemmas.{passes_added, passes_nonterminal, passes_no_nonterminal, rule_read}
use Rattle.wb_grammar.proofs.least_fixpoint.Worklist.pass.Goals as goal

pub returns-in_default : goal.returns-in_default
returns-in_default c =
    let g = c.args.grammar.now in
    let s : State = state_of c.args.self.now in
    let p = c.args.production in
    let old = c.requires.passed in
    let lt = production_within g p old.left old.right old.rule in
    let rule = production_read g p c.left.result c.right-right.result.now lt c.left.ensures.left c.right-right.ensures.right in
    on_ok_weaker c.add.result
    (λ is. subst (Passes g c.args.terminals p s) (sym is)
    (passes_added g c.args.terminals s p c.left.result c.right-right.result.now _ c.requires.worklist c.left.ensures.in_range rule
    c.in_default.ensures refl))
    c.add.ensures

pub returns-in_ok-push : goal.returns-in_ok-push
returns-in_ok-push c =
    let g = c.args.grammar.now in
    let s : State = state_of c.args.self.now in
    let p = c.args.production in
    let b = c.in-Nonterminal.nonterminal in
    let old = c.requires.passed in
    let rule = rule_read g p old.left old.right c.right-right.result.now old.rule c.right-right.ensures.right in
    let step = passes_nonterminal g c.args.terminals s p old.left c.in-Some.place b c.right-right.result.now _ c.index_mut.result.now
    c.requires.worklist rule c.right-right.ensures.in_range c.in-Some.ensures c.in-Nonterminal.is in
    subst (λ (list : List (ℕ × ℕ)). Passes g c.args.terminals p s (record s { stopped = slice_set s.stopped b list }))
    (sym c.in_ok-push.ensures)
    (rw c.index_mut.ensures.value step)

pub returns-in_default-right : goal.returns-in_default-right
returns-in_default-right c =
    let g = c.args.grammar.now in
    let s : State = state_of c.args.self.now in
    let old = c.requires.passed in
    let rule = rule_read g c.args.production old.left old.right c.right-right.result.now old.rule c.right-right.ensures.right in
    passes_no_nonterminal g c.args.terminals s c.args.production old.left c.in-Some.place c.right-right.result.now _ c.requires.worklist
    rule c.in-Some.ensures c.in_default-right.not-Nonterminal

use Rattle.std.proofs.Common.{◌∙◌, ap, subst, sym}
use Rattle.std.proofs.lemmas.Result.{on_ok_weaker}
use Rattle.wb_generate.specs.Inner.Runs.{taken}
use Rattle.wb_generate.specs.Inner.States.{IsFit, State, before, state_of}
use Rattle.wb_generate.proofs.make.Making.take.Goals as goal

pub returns-in-Terminal : goal.returns-in-Terminal
returns-in-Terminal c =
    let g = c.args.grammar.now in
    let counts = c.args.choices.now.counts.items in
    let s : State = state_of c.args.self.now in
    on_ok_weaker c.push.result
    (λ made. (λ j. record s { made = made j }) ∙ sym (ap (λ x. taken g counts x s) c.in-Terminal.is))
    c.push.ensures.ok

pub replace-requires-clause-fit : goal.replace-requires-clause-fit
replace-requires-clause-fit c =
    subst (λ x. IsFit c.args.grammar.now c.args.choices.now.counts.items 100000 (before x (state_of c.args.self.now))) c.in-Nonterminal.is
    c.requires.fit

pub returns-in-Nonterminal : goal.returns-in-Nonterminal
returns-in-Nonterminal c =
    let g = c.args.grammar.now in
    let counts = c.args.choices.now.counts.items in
    let s : State = state_of c.args.self.now in
    on_ok_weaker c.replace.result
    (λ made. made ∙ sym (ap (λ x. taken g counts x s) c.in-Nonterminal.is))
    c.replace.ensures

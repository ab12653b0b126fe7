use Rattle.std.proofs.Common.{◌≡◌, ◌+◌, ◌∙◌, [], ◌∷◌, refl, arith}
use Rattle.std.specs.Prelude.{slice_index}
use Rattle.wb_base.specs.declared.symbol.Symbol.TheVariants.{Nonterminal}
use Rattle.wb_generate.specs.Inner.Runs.{bound, next, start_of}
use Rattle.wb_generate.specs.Inner.States.{state_of}
use Rattle.wb_generate.proofs.BoundLemmas.{way_start}
use Rattle.wb_generate.proofs.RunLemmas.{fit_first, next_is, way_on, way_over, way_shorter}
use Rattle.wb_generate.proofs.make.make.Goals as goal

pub steps-init : goal.steps-init
steps-init c =
    let same : state_of c.in_ok-making.making ≡ start_of c.args.grammar.now c.args.spare c.args.number =
    c.in_ok-making.ensures ∙ (λ j. record {
      form = Nonterminal (c.start.ensures.start j) ∷ [];
      spare = c.args.spare;
      number = c.args.number;
      made = [];
    }) in
    way_start c.args.grammar.now 100001 100000 c.args.choices.now.counts.items c.requires.choices.least (omega arith)
    c.requires.choices.grammar c.requires.grammar c.args.spare c.args.number c.requires.few (state_of c.in_ok-making.making) same

pub take-requires-clause-fit : goal.take-requires-clause-fit
take-requires-clause-fit c =
    fit_first c.args.grammar.now 100001 c.args.choices.now.counts.items 100000 c.requires.choices.least (omega arith)
    c.requires.choices.grammar (state_of c.steps.making) c.in-Some.symbol c.pop.new.self c.in-Some.ensures c.steps.invariant.goes.fit

pub steps-preserved : goal.steps-preserved
steps-preserved c =
    let g = c.args.grammar.now in
    let counts = c.args.choices.now.counts.items in
    let is : state_of c.take.new.self ≡ next g counts (state_of c.steps.making) =
    next_is g 100001 counts 100000 c.requires.choices.least (omega arith) c.requires.choices.grammar (state_of c.steps.making)
    (state_of c.take.new.self) c.in-Some.symbol c.pop.new.self c.in-Some.ensures c.in_ok-take.ensures in
    way_on g 100001 counts 100000 c.requires.choices.least (omega arith) c.requires.choices.grammar
    (bound g (c.args.spare + (slice_index counts g.start + 0))) (start_of g c.args.spare c.args.number) (state_of c.steps.making)
    (state_of c.take.new.self) is c.steps.invariant

pub steps-smaller : goal.steps-smaller
steps-smaller c =
    let g = c.args.grammar.now in
    let counts = c.args.choices.now.counts.items in
    let is : state_of c.take.new.self ≡ next g counts (state_of c.steps.making) =
    next_is g 100001 counts 100000 c.requires.choices.least (omega arith) c.requires.choices.grammar (state_of c.steps.making)
    (state_of c.take.new.self) c.in-Some.symbol c.pop.new.self c.in-Some.ensures c.in_ok-take.ensures in
    way_shorter g 100001 counts 100000 c.requires.choices.least (omega arith) c.requires.choices.grammar
    (bound g (c.args.spare + (slice_index counts g.start + 0))) (start_of g c.args.spare c.args.number) (state_of c.steps.making)
    (state_of c.take.new.self) c.in-Some.symbol c.pop.new.self c.in-Some.ensures is c.steps.invariant

pub returns : goal.returns
returns c =
    let g = c.args.grammar.now in
    let counts = c.args.choices.now.counts.items in
    way_over g 100001 counts 100000 c.requires.choices.least (omega arith) c.requires.choices.grammar
    (bound g (c.args.spare + (slice_index counts g.start + 0))) (start_of g c.args.spare c.args.number) (state_of c.steps.making)
    c.in_default.ensures.0 c.steps.invariant refl

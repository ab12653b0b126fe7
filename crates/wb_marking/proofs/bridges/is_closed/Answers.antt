use Rattle.std.proofs.Common.{◌∙◌, sym}
use Rattle.wb_marking.proofs.PlaceLemmas as p
use Rattle.wb_marking.proofs.bridges.is_closed.Goals as goal

pub returns-clause-closed : goal.returns-clause-closed
returns-clause-closed c some =
    let g = c.args.scope.now.grammar.now in
    p.is_closed c.args.scope.now.parts.now g c.args.number g.nonterminals c.left.result c.args.extensible.now c.requires.extensible
    c.left.ensures.left (λ has. let bad = c.if-contains.ensures.1 has in cc) c.beginning.result (sym c.is_some.ensures ∙ some)
    c.beginning.ensures.some

pub returns-clause-open : goal.returns-clause-open
returns-clause-open c none =
    let g = c.args.scope.now.grammar.now in
    p.unmarked_open c.args.scope.now.parts.now g c.args.number g.nonterminals c.left.result c.args.extensible.now c.requires.extensible
    c.left.ensures.left c.beginning.result (sym c.is_some.ensures ∙ none) c.beginning.ensures.none

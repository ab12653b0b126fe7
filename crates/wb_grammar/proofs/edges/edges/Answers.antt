use Rattle.std.proofs.Common.{◌≡◌, rules, ◌<◌, length, ◌+◌, ◌++◌, arith, sym, subst}
use Rattle.wb_grammar_theory.proofs.ProductionLemmas.{production_read}
use Rattle.wb_grammar.specs.Inner.Edges.{edges_of}
use Rattle.wb_grammar.proofs.EdgeLemmas.{EdgesBefore, edges_more, edges_exact, edges_below}
use Rattle.wb_grammar.proofs.edges.edges.Goals as goal

pub productions-preserved : goal.productions-preserved
productions-preserved c =
    let g = c.args.grammar.now in
    let within : c.productions.production < length g.productions = omega arith in
    let rule = production_read g c.productions.production c.left.result c.right.result.now within c.left.ensures.left
    c.right.ensures.right in
    let is : c.add_edges.new.edges.items ≡ c.productions.edges.items ++ edges_of c.left.result c.occurring-symbols.result.now =
    search rules in
    subst (λ es. EdgesBefore c.args.occurrence g c.args.nullable.now es (c.productions.production + 1)) (sym is)
    (edges_more c.args.occurrence g c.args.nullable.now c.productions.edges.items c.productions.production c.left.result c.right.result.now
    c.occurring-symbols.result.now rule c.occurring-symbols.ensures c.productions.invariant)

pub returns-clause-exact : goal.returns-clause-exact
returns-clause-exact c =
    edges_exact c.args.occurrence c.args.grammar.now c.args.nullable.now c.productions.edges.items c.productions.production
    (omega arith) c.productions.invariant

pub returns-clause-below : goal.returns-clause-below
returns-clause-below c =
    edges_below c.args.occurrence c.args.grammar.now c.args.nullable.now c.productions.edges.items
    c.productions-production-end.ensures.in_range
    (edges_exact c.args.occurrence c.args.grammar.now c.args.nullable.now c.productions.edges.items c.productions.production
    (omega arith) c.productions.invariant)

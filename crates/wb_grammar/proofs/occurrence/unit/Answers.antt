use Rattle.std.proofs.Common.{◌+◌, ◌-◌, false, arith, subst, sym}
use Rattle.std.specs.Prelude.{All}
use Rattle.wb_grammar.specs.Inner.LeastSets.{Holds}
use Rattle.wb_grammar.proofs.OccurrenceLemmas.{unit_whole, unit_one, unit_none, rest_of}
use Rattle.wb_grammar.proofs.occurrence.unit.Goals as goal

pub returns-then-empty-symbols : goal.returns-then-empty-symbols
returns-then-empty-symbols c = unit_whole c.args.nullable.now c.args.symbols.now c.args.empty c.requires.leading (omega arith)

pub returns-then-are_nullable : goal.returns-then-are_nullable
returns-then-are_nullable c =
    unit_one c.args.nullable.now c.args.symbols.now c.args.empty (c.args.empty + 1 - c.args.empty) c.requires.leading (omega arith)
    (omega arith)
    (subst (All (Holds false c.args.nullable.now)) (rest_of c.args.symbols.now c.args.empty)
    (c.are_nullable.ensures.0 c.if-are_nullable.true))

pub returns-else-are_nullable : goal.returns-else-are_nullable
returns-else-are_nullable c =
    unit_none c.args.nullable.now c.args.symbols.now c.args.empty c.requires.leading (omega arith)
    (λ all. let held = c.are_nullable.ensures.1
    (subst (All (Holds false c.args.nullable.now)) (sym (rest_of c.args.symbols.now c.args.empty)) all) in cc
    (held, c.if-are_nullable.false))

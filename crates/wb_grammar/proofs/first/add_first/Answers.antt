use Rattle.std.proofs.Common.{◌<◌, length, arith, subst, sym}
use Rattle.wb_grammar_theory.proofs.ProductionLemmas.{production_read}
use Rattle.wb_grammar.specs.Inner.Firsts.{AreFirsts}
use Rattle.wb_grammar.proofs.FirstLemmas.{sound_add}
use Rattle.wb_grammar.proofs.first.add_first.Goals as goal

pub returns-clause-sound : goal.returns-clause-sound
returns-clause-sound c =
    let g = c.args.grammar.now in
    let rule = production_read g c.args.production c.left.result c.right.result.now c.requires.production c.left.ensures.left
    c.right.ensures.right in
    let (new, union, is) = c.add.ensures.after in
    let lt : c.left.result < length c.args.sets.now = omega (arith, c.left.ensures.in_range, c.requires.shape.len) in
    let e = sound_add g c.args.nullable.now new c.in_ok-begin.begin c.args.sets.now c.args.production c.left.result c.right.result.now
    c.requires.nullable c.requires.sound rule lt (λ t. (c.in_ok-begin.ensures.exact t).0) union in
    subst (AreFirsts g) (sym is) e

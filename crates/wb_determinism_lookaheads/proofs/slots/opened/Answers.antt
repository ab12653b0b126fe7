use Rattle.std.proofs.Common.{refl}
use Rattle.wb_determinism_lookaheads.proofs.PassedLemmas.{first_rule}
use Rattle.wb_determinism_lookaheads.proofs.slots.opened.Goals as goal

pub returns-in-Some : goal.returns-in-Some
returns-in-Some c =
    let of = first_rule c.args.context.now.beside.now.grammar.now c.args.context.now.rules.now c.requires c.args.nonterminal
    c.in-Some.production c.in-Some.ensures in
    (c.in-Some.production, refl, of)

use Rattle.std.proofs.Common.{◌≡◌, ◌<◌, length, Some, sym, ◌∙◌, ap, arith}
use Rattle.std.specs.Prelude.{slice_get}
use Rattle.std.proofs.lemmas.Option.{slice_get-get_or}
use Rattle.wb_lookahead.proofs.PropagateLemmas.{none_listed}
use Rattle.wb_lookahead.proofs.OpenedLemmas.{first_listed}
use Rattle.wb_lookahead.proofs.propagate.production_of.Goals as goal

pub returns-then-numbers-gt0 : goal.returns-then-numbers-gt0
returns-then-numbers-gt0 c =
    let b = c.args.nonterminal in
    let rows = c.args.context.now.productions.now in
    let lt : b < length rows = (let e = c.requires.context.are_productions.len in let f = c.requires.nonterminal in omega (arith, e, f)) in
    let at : slice_get rows b ≡ Some c.as_slice-numbers.result.now =
    slice_get-get_or rows b c.index-context-nonterminal.result lt ∙ ap Some (sym c.as_slice-numbers.ensures) in
    first_listed c.args.context.now.grammar.now b _ c.as_slice-numbers.result.now
    (c.requires.context.are_productions.each b c.as_slice-numbers.result.now at)
    (slice_get-get_or c.as_slice-numbers.result.now 0 0 c.if-numbers-gt0.true)

pub returns-else-numbers-gt0 : goal.returns-else-numbers-gt0
returns-else-numbers-gt0 c =
    let b = c.args.nonterminal in
    let rows = c.args.context.now.productions.now in
    let lt : b < length rows = (let e = c.requires.context.are_productions.len in let f = c.requires.nonterminal in omega (arith, e, f)) in
    let at : slice_get rows b ≡ Some c.as_slice-numbers.result.now =
    slice_get-get_or rows b c.index-context-nonterminal.result lt ∙ ap Some (sym c.as_slice-numbers.ensures) in
    none_listed c.args.context.now.grammar.now b c.as_slice-numbers.result.now
    (c.requires.context.are_productions.each b c.as_slice-numbers.result.now at) c.if-numbers-gt0.false

use Rattle.std.proofs.Common.{◌∙◌, length, refl, sym, arith}
use Rattle.std.proofs.lemmas.Bool.{true≢false}
use Rattle.wb_lemmas.proofs.Places.{at_within}
use Rattle.wb_determinism_kernels.proofs.RunLemmas.{run_ends, run_all}
use Rattle.wb_determinism_kernels.proofs.kernel_of_symbol.run_end.Goals as goal

pub returns-then-not-is_symbol : goal.returns-then-not-is_symbol
returns-then-not-is_symbol c =
    let (b, at) = at_within c.args.list.now c.places.at c.places-test.true in
    run_ends c.args.list.now c.args.symbol c.args.place c.requires.rising c.requires.symbol c.requires.place c.places.at b
    c.symbol_at.result (omega arith) at (c.symbol_at.ensures b at)
    (λ same. true≢false (sym (c.is_symbol.ensures.1 same) ∙ c.if-not-is_symbol.true)) c.places.invariant

pub returns : goal.returns
returns c = run_all c.args.list.now c.args.symbol c.args.place c.requires.rising c.requires.symbol c.requires.place
    (length c.args.list.now) refl (λ j a le lt at. c.places.invariant j a le (omega arith) at)

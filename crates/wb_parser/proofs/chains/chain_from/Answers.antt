use Rattle.std.proofs.Common.{◌∙◌, ap, arith, sym}
use Rattle.std.specs.Prelude.{Some}
use Rattle.std.proofs.lemmas.Option.{slice_get-get_or}
use Rattle.wb_parser.proofs.chains.chain_from.Goals as goal

pub returns-then-is_same-clause-start : goal.returns-then-is_same-clause-start
returns-then-is_same-clause-start c = c.is_same.ensures c.if-is_same.true

pub returns-then-is_same-clause-chain : goal.returns-then-is_same-clause-chain
returns-then-is_same-clause-chain c =
    c.requires.reductions.chains c.place_of-place.result c.index-kept.result.now
    (slice_get-get_or c.args.reductions.now.chains.items c.place_of-place.result c.index-kept.result.now
    (omega (arith, c.if-place-len.true, c.len.ensures)) ∙ ap Some (sym c.index-kept.ensures))

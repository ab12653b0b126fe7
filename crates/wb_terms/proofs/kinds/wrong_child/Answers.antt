use Rattle.std.proofs.Common.{◌<◌, length, arith, sym, refl}
use Rattle.std.proofs.lemmas.Slice.Zip.{AllZip-long}
use Rattle.wb_terms.specs.Inner.Built.{IsStored}
use Rattle.wb_terms.proofs.KindLemmas.{child_tested, kinds_tested, kinds_untested}
use Rattle.wb_terms.proofs.kinds.wrong_child.Goals as goal

pub returns : goal.returns
returns c = λ arguments zipped placed.
    kinds_tested c.args.signatures.now arguments c.args.kinds.now (length c.args.values.now) c.loop-index.index c.loop-index.least
    (sym (AllZip-long (IsStored c.args.signatures.now c.args.store.now) arguments c.args.values.now zipped))
    (omega (arith, c.loop-index-test.false, c.loop-index.auto.index-end, c.min-index-end.ensures))
    (c.loop-index.invariant arguments zipped placed)

pub loop-index-init : goal.loop-index-init
loop-index-init c = λ arguments zipped placed. kinds_untested c.args.signatures.now arguments c.args.kinds.now

pub loop-index-preserved : goal.loop-index-preserved
loop-index-preserved c = λ arguments zipped placed.
    let within : c.loop-index.index < length c.args.values.now = omega (arith, c.loop-index-test.true, c.min-index-end.ensures) in
    let asked : c.loop-index.index < length c.args.kinds.now = omega (arith, c.loop-index-test.true, c.min-index-end.ensures) in
    child_tested c.args.signatures.now c.args.store.now arguments c.args.values.now c.args.places.now c.args.kinds.now c.loop-index.index
    c.index-values-index.result _ _ c.is_of_kind-fits.result c.loop-index.least c.smallest_with-least.result
    zipped placed within asked c.index-values-index.is refl c.is_of_kind-fits.ensures c.smallest_with-least.ensures
    (c.loop-index.invariant arguments zipped placed)

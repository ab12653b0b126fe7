use Rattle.std.proofs.Common.{length, arith, sym, ◌∙◌, subst}
use Rattle.std.proofs.lemmas.Slice.Zip.{AllZip-long}
use Rattle.wb_terms.specs.Inner.Least.{FindsLeast}
use Rattle.wb_terms.specs.TreeOf.{IsWrong}
use Rattle.wb_terms.specs.Inner.Built.{IsStored, FitsIfKnown}
use Rattle.wb_terms.proofs.KindLemmas.{node_tested, signature_at, equal, unequal}
use Rattle.wb_terms.proofs.kinds.wrong_in.Goals as goal

pub returns : goal.returns
returns c = λ name arguments number zipped placed.
    let s =
    signature_at c.args.signatures.now c.args.production c.children-kinds.result.now
    (omega (arith, c.if-production-len.false, c.len.ensures)) c.children-kinds.ensures in
    let long = AllZip-long (IsStored c.args.signatures.now c.args.store.now) arguments c.args.values.now zipped in
    subst (λ o. FindsLeast (λ place. IsWrong c.args.signatures.now place name c.args.at arguments)
    (FitsIfKnown c.args.signatures.now name c.args.at arguments) o) (sym c.smallest_with.ensures)
    (node_tested c.args.signatures.now name c.args.production c.args.at arguments c.children-kinds.result.now _ s.0
    c.wrong_child-least.result number s.1 s.2
    (λ same. sym long ∙ equal (length c.args.values.now) (length c.children-kinds.result.now) same)
    (λ differ e. unequal (length c.args.values.now) (length c.children-kinds.result.now) differ (long ∙ e))
    (c.wrong_child-least.ensures arguments zipped placed))

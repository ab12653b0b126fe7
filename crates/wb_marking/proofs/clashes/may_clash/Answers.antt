use Rattle.std.proofs.Common.{◌∙◌, sym}
use Rattle.std.proofs.lemmas.Bool.{true≢false}
use Rattle.wb_marking.proofs.ClashLemmas as p
use Rattle.wb_marking.proofs.clashes.may_clash.Goals as goal

pub returns-then-not-are_compared : goal.returns-then-not-are_compared
returns-then-not-are_compared c =
    p.not_compared c.args.compared.now.scanned.now.parts.now c.args.compared.now.marker c.args.other
    (λ are. true≢false (sym (c.are_compared.ensures.1 are) ∙ c.if-not-are_compared.true))

pub returns-then-contains : goal.returns-then-contains
returns-then-contains c =
    p.none_ordered c.args.compared.now.scanned.now.parts.now c.args.compared.now.marker c.args.other
    ((c.requires.compared.ordered.each c.args.other).0 (c.contains.ensures.0 c.if-contains.true))

pub returns : goal.returns
returns c =
    p.may_clash c.args.compared.now c.requires.compared c.args.other (c.are_compared.ensures.0 c.if-not-are_compared.false)
    (λ has. true≢false (sym (c.contains.ensures.1 has) ∙ c.if-contains.false)) c.differs.result c.differs.ensures

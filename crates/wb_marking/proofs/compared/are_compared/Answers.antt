use Rattle.std.proofs.Common.{◌∙◌, sym}
use Rattle.std.proofs.lemmas.Bool.{true≢false}
use Rattle.wb_marking.proofs.ScopeLemmas.{compared_as}
use Rattle.wb_marking.proofs.compared.are_compared.Goals as goal

pub returns-then-is_before : goal.returns-then-is_before
returns-then-is_before c =
    compared_as c.args.parts.now c.args.marker c.args.other c.requires.marker c.requires.other c.as_slice-terminals.result.now
    c.as_slice-terminals.ensures c.index-terminals-marker.result c.index-terminals-other.result c.index-terminals-marker.is
    c.index-terminals-other.is (c.is_before.ensures.0 c.if-is_before.true) c.is_rival.result c.is_rival.ensures

pub returns-else-is_before : goal.returns-else-is_before
returns-else-is_before c = (
  λ yes. absurd (true≢false (sym yes ∙ c.if-is_before.false)),
  λ are. c.is_before.ensures.1 (are.rivals.different, are.in_order),
)

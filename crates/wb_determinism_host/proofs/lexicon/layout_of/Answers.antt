use Rattle.std.proofs.Common.{arith, ap, length, ◌∙◌}
use Rattle.wb_determinism_host.specs.Lexicons.{is_layout_of}
use Rattle.wb_determinism_host.proofs.FlagLemmas.{filled_next, filled_all, filled_len}
use Rattle.wb_determinism_host.proofs.lexicon.layout_of.Goals as goal

pub returns : goal.returns
returns c =
    c.terminals.invariant ∙ filled_all (is_layout_of c.args.whose) c.args.terminals.now c.terminals.number
    (omega (arith, c.terminals-test.false))

pub put_layout-requires : goal.put_layout-requires
put_layout-requires c =
    let len = ap (λ z. length z) c.terminals.invariant
    ∙ filled_len (is_layout_of c.args.whose) c.args.terminals.now c.terminals.number in
    omega (arith, len, c.terminals-test.true)

pub terminals-preserved : goal.terminals-preserved
terminals-preserved c =
    filled_next (is_layout_of c.args.whose) c.args.terminals.now c.terminals.number c.index-terminals-number.result
    c.terminals.layout c.put_layout.new.layout (omega (arith, c.terminals-test.true)) c.index-terminals-number.is c.terminals.invariant
    c.put_layout.ensures.put c.put_layout.ensures.skipped

use Rattle.std.proofs.Common.{◌++◌, ◌∷◌, [], false, sym, ◌∙◌, arith}
use Rattle.std.specs.Prelude.{is_ok}
use Rattle.std.proofs.lemmas.List.{append-nil}
use Rattle.wb_text_tokens.proofs.PrintLemmas.{text_more, grown_by}
use Rattle.wb_text_tokens.proofs.print.append_text.Goals as goal

pub loop-b-preserved : goal.loop-b-preserved
loop-b-preserved c =
    text_more (c.args.out.now.items ++ 34 ∷ []) c.loop-b.out.items c.print_byte.new.out.items c.args.text.now c.loop-b.b-index
    (omega (arith, c.loop-b-test.true)) c.loop-b.invariant c.in_ok-print_byte.ensures

pub returns-in_err-extend_from_slice-clause-grown : goal.returns-in_err-extend_from_slice-clause-grown
returns-in_err-extend_from_slice-clause-grown c = ([], c.in_err-extend_from_slice.ensures.items ∙ sym (append-nil c.args.out.now.items))

pub returns-in_err-print_byte-clause-grown : goal.returns-in_err-print_byte-clause-grown
returns-in_err-print_byte-clause-grown c =
    grown_by c.args.out.now.items c.loop-b.out.items c.print_byte.new.out.items _ [] false c.loop-b.invariant c.in_err-print_byte.ensures

pub returns-clause-grown : goal.returns-clause-grown
returns-clause-grown c =
    grown_by c.args.out.now.items c.loop-b.out.items c.extend_from_slice-2.new.self.items _ (34 ∷ []) (is_ok c.extend_from_slice-2.result)
    c.loop-b.invariant c.extend_from_slice-2.ensures.items

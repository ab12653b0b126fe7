use Rattle.std.proofs.Common.{subst, sym}
use Rattle.wb_syntax.specs.SpecText.{IsWrittenText}
use Rattle.wb_reader.proofs.TextLemmas.{whole_outcome, stopped_outcome}
use Rattle.wb_reader.proofs.written.read_written.Goals as goal

pub returns-in-Whole-clause-ok : goal.returns-in-Whole-clause-ok
returns-in-Whole-clause-ok c =
    subst (λ spec. IsWrittenText c.args.bytes.now spec) (sym c.take_written.ensures)
    (whole_outcome c.args.bytes.now c.args.dialect c.requires c.new-parts.result c.new-parts.ensures
    c.in_ok-parts.field-0 c.in_ok-parts.ensures.ok c.in-Whole.parts c.in-Whole.is)

pub returns-in-Stopped-clause-refused : goal.returns-in-Stopped-clause-refused
returns-in-Stopped-clause-refused c =
    stopped_outcome c.args.bytes.now c.args.dialect c.requires c.new-parts.result c.new-parts.ensures c.in_ok-parts.field-0
    c.in_ok-parts.ensures.ok c.in-Stopped.at c.in-Stopped.is

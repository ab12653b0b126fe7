-- What is written begins with what `workbench` has on the page, and the run ends with its status.
use Rattle.std.proofs.Common.{◌≡◌}
use Rattle.wb_operations.specs.Operations.{Operations}
use Rattle.wb_program_words.specs.Asked.{texts}
use Rattle.wb_program.specs.Report.{IsReport}
use Rattle.wb_program.specs.status.Status.TheVariants.{Usage, Absent, ReadFault}
use Rattle.wb_explain_lines.specs.Outside.{outside}
use Rattle.wb_explain_lines.proofs.KeepLemmas.{keeps_twice}
use Rattle.wb_explain.specs.Inner.Ends.{shown_as}
use Rattle.wb_explain.proofs.EndLemmas.{explained, fault_rose, same_status}
use Rattle.wb_explain.proofs.program.run_as.Goals as goal

pub returns-in-Ok-clause-usage : goal.returns-in-Ok-clause-usage
returns-in-Ok-clause-usage g c = λ is.
    c.workbench-status.ensures.usage (same_status c.workbench-status.result c.written-end.result Usage c.added.new.page.bytes
    (g.K.Sink.written c.args.sink.now) (g.K.Sink.written c.written-end.new.sink) (λ e. absurd (cc)) (λ e. absurd (cc))
    c.written-end.ensures.ends is)

pub returns-in-Ok-clause-absent : goal.returns-in-Ok-clause-absent
returns-in-Ok-clause-absent g c = λ is. (
  g.S.Shelf.absences c.workbench-status.new.shelf,
  c.workbench-status.ensures.absent (same_status c.workbench-status.result c.written-end.result Absent c.added.new.page.bytes
      (g.K.Sink.written c.args.sink.now) (g.K.Sink.written c.written-end.new.sink) (λ e. absurd (cc)) (λ e. absurd (cc))
      c.written-end.ensures.ends is),
  c.added.ensures.keeps.absences,
)

pub returns-in-Ok-clause-read_fault : goal.returns-in-Ok-clause-read_fault
returns-in-Ok-clause-read_fault g c = λ is. (
  g.S.Shelf.faults c.workbench-status.new.shelf,
  c.workbench-status.ensures.read_fault (same_status c.workbench-status.result c.written-end.result ReadFault c.added.new.page.bytes
      (g.K.Sink.written c.args.sink.now) (g.K.Sink.written c.written-end.new.sink) (λ e. absurd (cc)) (λ e. absurd (cc))
      c.written-end.ensures.ends is),
  c.added.ensures.keeps.faults,
)

pub returns-in-Ok-clause-write_fault : goal.returns-in-Ok-clause-write_fault
returns-in-Ok-clause-write_fault g c = λ is.
    fault_rose (shown_as c.args.draws (texts c.args.words.now)) c.workbench-status.result c.new-page.result c.workbench-status.new.sink c.added.new.page (g.K.Sink.faults c.args.sink.now) (g.K.Sink.faults c.written-end.new.sink)
    c.new-page.ensures c.workbench-status.ensures.write_fault c.in-Ok.ensures.adds (c.written-end.ensures.failed is)

pub returns-in-Ok-clause-keeps : goal.returns-in-Ok-clause-keeps
returns-in-Ok-clause-keeps g c =
    keeps_twice (outside (g.S.Shelf.files c.args.shelf.now) (g.S.Shelf.absences c.args.shelf.now) (g.S.Shelf.faults c.args.shelf.now))
    (outside (g.S.Shelf.files c.workbench-status.new.shelf) (g.S.Shelf.absences c.workbench-status.new.shelf)
    (g.S.Shelf.faults c.workbench-status.new.shelf))
    (outside (g.S.Shelf.files c.added.new.shelf) (g.S.Shelf.absences c.added.new.shelf) (g.S.Shelf.faults c.added.new.shelf))
    (record {
      files = c.workbench-status.ensures.files;
      absences = c.workbench-status.ensures.absences;
      faults = c.workbench-status.ensures.read_faults;
    }) c.added.ensures.keeps

pub returns-in-Err-clause-keeps : goal.returns-in-Err-clause-keeps
returns-in-Err-clause-keeps g c =
    keeps_twice (outside (g.S.Shelf.files c.args.shelf.now) (g.S.Shelf.absences c.args.shelf.now) (g.S.Shelf.faults c.args.shelf.now))
    (outside (g.S.Shelf.files c.workbench-status.new.shelf) (g.S.Shelf.absences c.workbench-status.new.shelf)
    (g.S.Shelf.faults c.workbench-status.new.shelf))
    (outside (g.S.Shelf.files c.added.new.shelf) (g.S.Shelf.absences c.added.new.shelf) (g.S.Shelf.faults c.added.new.shelf))
    (record {
      files = c.workbench-status.ensures.files;
      absences = c.workbench-status.ensures.absences;
      faults = c.workbench-status.ensures.read_faults;
    }) c.added.ensures.keeps

pub returns-in-Ok-clause-written : goal.returns-in-Ok-clause-written
returns-in-Ok-clause-written g c =
    let operations : Operations = record { signatures = c.args.operations.now.signatures; meaning = g.M.Meaning.meaning } in
    explained (IsReport operations (texts c.args.words.now) (g.S.Shelf.files c.args.shelf.now)) (shown_as c.args.draws (texts c.args.words.now)) c.workbench-status.result
    c.written-end.result c.new-page.result c.workbench-status.new.sink c.added.new.page (g.K.Sink.written c.args.sink.now)
    (g.K.Sink.written c.written-end.new.sink) c.new-page.ensures c.workbench-status.ensures.write_fault c.workbench-status.ensures.written c.in-Ok.ensures.adds c.written-end.ensures.ends

use Rattle.std.proofs.Common.{length, refl, arith}
use Rattle.wb_session_theory.proofs.ReadLemmas.{reads_kept, reads_once, reads_between, first_read, ends_answer}
use Rattle.wb_session_theory.proofs.SessionLemmas.{edit_before, answer_kept, one_answer}
use Rattle.wb_session_theory.proofs.RunLemmas.{run_from}
use Rattle.wb_session_theory.proofs.laws.kept_law.Goals as goal

pub returns-clause-edit : goal.returns-clause-edit
returns-clause-edit c l text bytes from to e at stack first within le reads = reads_kept reads (edit_before text bytes from to first
    within e le)

pub returns-clause-once : goal.returns-clause-once
returns-clause-once c l ok text e d at one other a b = reads_once l ok text a b refl refl refl

pub returns-clause-keeps : goal.returns-clause-keeps
returns-clause-keeps c l ok text e at stack reads = first_read l ok text reads

pub returns-clause-answer : goal.returns-clause-answer
returns-clause-answer c l ok text e at stack answer reads ends = ends_answer l ok text ends (first_read l ok text reads)

pub returns-clause-goes_on : goal.returns-clause-goes_on
returns-clause-goes_on c l tables ok tables_of text e at stack within reads =
    let run = run_from l tables ok tables_of text (length text) stack at (first_read l ok text reads) within (omega arith) in
    (run.last, run.place, run.answer, run.reads, run.ends)

pub returns-clause-unchanged : goal.returns-clause-unchanged
returns-clause-unchanged c l ok text bytes from to e at stack answer first within le reads ends =
    answer_kept l ok (edit_before text bytes from to first within e le) reads ends

pub returns-clause-one : goal.returns-clause-one
returns-clause-one c = one_answer

pub returns-clause-between : goal.returns-clause-between
returns-clause-between c l ok text e d at end one other a b le = reads_between l ok text a b refl refl le

-- The certificate is read after its file.
use Rattle.std.proofs.Common.{ℕ, List, Option, ◌⊎◌, inl, inr, subst}
use Rattle.wb_world.specs.Shelf.{Files}
use Rattle.wb_program_files.specs.Contents.{ContentsAre}
use Rattle.wb_program_files.specs.Stopped.{Outside, outside}
use Rattle.wb_program_files.proofs.StopLemmas.{reason_since, goes_on_twice, weaker_stop}
use Rattle.wb_program_files.proofs.MakesLemmas.{answered, exhausted, handed}
use Rattle.wb_program_files.proofs.PairLemmas.{paired_read}
use Rattle.wb_program_files.proofs.pairs.read_pair.Goals as goal

pub returns-in_err-contents : goal.returns-in_err-contents
returns-in_err-contents g c =
    let before = outside (g.S.Shelf.files c.args.shelf.now) (g.S.Shelf.absences c.args.shelf.now) (g.S.Shelf.faults c.args.shelf.now) in
    let now = outside (g.S.Shelf.files c.read_file.new.shelf) (g.S.Shelf.absences c.read_file.new.shelf)
    (g.S.Shelf.faults c.read_file.new.shelf) in
    let failure = c.in_err-contents.field-0.0 in
    handed c.from_residual.result failure c.from_residual.ensures.1
    (weaker_stop before now (λ P. P c.args.file.now) (λ P. P c.args.file.now ⊎ P c.args.certificate.now) failure (λ P is. inl is)
    c.in_err-contents.ensures.stopped) c.read_file.ensures.goes_on

pub returns-in_ok-paired-in-Ok : goal.returns-in_ok-paired-in-Ok
returns-in_ok-paired-in-Ok g c =
    let known = g.S.Shelf.files c.args.shelf.now in
    let before = outside (g.S.Shelf.files c.args.shelf.now) (g.S.Shelf.absences c.args.shelf.now) (g.S.Shelf.faults c.args.shelf.now) in
    let between = outside (g.S.Shelf.files c.read_file.new.shelf) (g.S.Shelf.absences c.read_file.new.shelf)
    (g.S.Shelf.faults c.read_file.new.shelf) in
    let now = outside (g.S.Shelf.files c.read_file-2.new.shelf) (g.S.Shelf.absences c.read_file-2.new.shelf)
    (g.S.Shelf.faults c.read_file-2.new.shelf) in
    let made = c.in_ok-paired-in-Ok.field-0 in
    let text = subst (λ (told : Option Files). ContentsAre 16777216 told c.args.certificate.now c.in-Ok.text)
    c.read_file.ensures.goes_on.files c.in-Ok.ensures.ok in
    answered made
    (paired_read known c.args.file.now c.args.certificate.now c.in_ok-contents.contents c.in-Ok.text made c.in_ok-contents.ensures.ok text
    c.in_ok-paired-in-Ok.ensures) (goes_on_twice before between now c.read_file.ensures.goes_on c.read_file-2.ensures.goes_on)

pub returns-in_err-paired-in-Ok : goal.returns-in_err-paired-in-Ok
returns-in_err-paired-in-Ok g c =
    let before = outside (g.S.Shelf.files c.args.shelf.now) (g.S.Shelf.absences c.args.shelf.now) (g.S.Shelf.faults c.args.shelf.now) in
    let between = outside (g.S.Shelf.files c.read_file.new.shelf) (g.S.Shelf.absences c.read_file.new.shelf)
    (g.S.Shelf.faults c.read_file.new.shelf) in
    let now = outside (g.S.Shelf.files c.read_file-2.new.shelf) (g.S.Shelf.absences c.read_file-2.new.shelf)
    (g.S.Shelf.faults c.read_file-2.new.shelf) in
    exhausted c.from_residual-in_err-paired-in-Ok.result c.from_residual-in_err-paired-in-Ok.ensures.1
    (goes_on_twice before between now c.read_file.ensures.goes_on c.read_file-2.ensures.goes_on)

pub returns-in-Err : goal.returns-in-Err
returns-in-Err g c =
    let before = outside (g.S.Shelf.files c.args.shelf.now) (g.S.Shelf.absences c.args.shelf.now) (g.S.Shelf.faults c.args.shelf.now) in
    let between = outside (g.S.Shelf.files c.read_file.new.shelf) (g.S.Shelf.absences c.read_file.new.shelf)
    (g.S.Shelf.faults c.read_file.new.shelf) in
    let now = outside (g.S.Shelf.files c.read_file-2.new.shelf) (g.S.Shelf.absences c.read_file-2.new.shelf)
    (g.S.Shelf.faults c.read_file-2.new.shelf) in
    record {
      ok = tt;
      stopped = reason_since before between now (λ P. P c.args.certificate.now) (λ P. P c.args.file.now ⊎ P c.args.certificate.now)
          c.in-Err.failure c.read_file.ensures.goes_on (λ P Q weaker meets. inr (weaker c.args.certificate.now meets))
          c.in-Err.ensures.stopped;
      goes_on = goes_on_twice before between now c.read_file.ensures.goes_on c.read_file-2.ensures.goes_on;
    }

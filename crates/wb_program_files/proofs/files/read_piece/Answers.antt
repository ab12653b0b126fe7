-- What was read goes after the prefix.
use Rattle.std.proofs.Common.{◌≡◌, arith, length, subst, refl}
use Rattle.std.proofs.lemmas.Grind.{common_steps}
use Rattle.wb_world.specs.Shelf.{FitsFiles}
use Rattle.wb_world.specs.declared.shelf.Got.TheVariants.{Bytes as Gave}
use Rattle.wb_program_files.proofs.Pieces.{absent_known, prefix_more}
use Rattle.wb_program_files.proofs.files.read_piece.Goals as goal

pub returns-in_ok-extend_from_slice-in-Bytes-clause-part :
    goal.returns-in_ok-extend_from_slice-in-Bytes-clause-part
returns-in_ok-extend_from_slice-in-Bytes-clause-part g c = λ front.
    let place : c.len.result ≡ length c.args.bytes.now.items = grind (arith, common_steps) in
    let fits : FitsFiles (g.S.Shelf.files c.args.shelf.now) c.args.name.now (length c.args.bytes.now.items)
    (Gave c.in-Bytes.count) c.read.new.into =
    subst (λ from. FitsFiles (g.S.Shelf.files c.args.shelf.now) c.args.name.now from
    (Gave c.in-Bytes.count) c.read.new.into) place c.in-Bytes.ensures.known in
    rw c.in_ok-extend_from_slice-in-Bytes.ensures.items
    (prefix_more (g.S.Shelf.files c.args.shelf.now) c.args.name.now c.args.bytes.now.items c.read.new.into _ c.in-Bytes.count front fits
    (grind (arith, common_steps)) (grind (arith, common_steps)))

pub returns-in-Absent-clause-goes_on : goal.returns-in-Absent-clause-goes_on
returns-in-Absent-clause-goes_on g c =
    record { files = c.read.ensures.files; absences = c.read.ensures.absences; faults = c.read.ensures.faults }

pub returns-in-Failed-clause-goes_on : goal.returns-in-Failed-clause-goes_on
returns-in-Failed-clause-goes_on g c =
    record { files = c.read.ensures.files; absences = c.read.ensures.absences; faults = c.read.ensures.faults }

pub returns-in-NoMemory-clause-goes_on : goal.returns-in-NoMemory-clause-goes_on
returns-in-NoMemory-clause-goes_on g c =
    record { files = c.read.ensures.files; absences = c.read.ensures.absences; faults = c.read.ensures.faults }

pub returns-in_err-extend_from_slice-in-Bytes-clause-goes_on : goal.returns-in_err-extend_from_slice-in-Bytes-clause-goes_on
returns-in_err-extend_from_slice-in-Bytes-clause-goes_on g c =
    record { files = c.read.ensures.files; absences = c.read.ensures.absences; faults = c.read.ensures.faults }

pub returns-in_ok-extend_from_slice-in-Bytes-clause-goes_on : goal.returns-in_ok-extend_from_slice-in-Bytes-clause-goes_on
returns-in_ok-extend_from_slice-in-Bytes-clause-goes_on g c =
    record { files = c.read.ensures.files; absences = c.read.ensures.absences; faults = c.read.ensures.faults }

pub returns-in-Absent-clause-stopped : goal.returns-in-Absent-clause-stopped
returns-in-Absent-clause-stopped g c = (
  c.in-Absent.ensures.absent refl,
  absent_known (g.S.Shelf.files c.args.shelf.now) c.args.name.now c.len.result c.read.new.into c.in-Absent.ensures.known,
)

pub returns-in-Failed-clause-stopped : goal.returns-in-Failed-clause-stopped
returns-in-Failed-clause-stopped g c = c.in-Failed.ensures.failed refl

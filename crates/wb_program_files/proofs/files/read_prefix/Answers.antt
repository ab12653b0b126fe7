-- At the end, or one byte past the limit, the bytes are the prefix that is asked for.
use Rattle.std.proofs.Common.{rules, sym, ◌≡◌, ◌≤◌, ◌+◌, arith, subst, length, vec_len}
use Rattle.std.proofs.lemmas.Grind.{common_steps}
use Rattle.wb_lemmas.proofs.Refusals.{handed_on}
use Rattle.wb_program_files.specs.Files.{KnownFile}
use Rattle.wb_program_files.specs.Inner.Prefixes.{KnownPrefix}
use Rattle.wb_program_files.proofs.Pieces.{prefix_end, prefix_limit}
use Rattle.wb_program_files.specs.Stopped.{outside, Stopped}
use Rattle.wb_program_files.proofs.StopLemmas.{goes_on_here, goes_on_twice, stops_since}
use Rattle.wb_program_files.proofs.files.read_prefix.Goals as goal

pub returns-then-branch-eq0-clause-ok : goal.returns-then-branch-eq0-clause-ok
returns-then-branch-eq0-clause-ok g c =
    let none : c.in_ok-read_piece.field-0 ≡ 0 = search rules in
    let ended : KnownFile (g.S.Shelf.files c.loop-bytes.shelf) c.args.name.now
    (λ contents. length contents ≤ vec_len c.read_piece.new.bytes) = c.in_ok-read_piece.ensures.end none in
    let same : g.S.Shelf.files c.loop-bytes.shelf ≡ g.S.Shelf.files c.args.shelf.now = c.loop-bytes.invariant.goes_on.files in
    let before : KnownPrefix (g.S.Shelf.files c.loop-bytes.shelf) c.args.name.now c.loop-bytes.bytes.items = subst
    (λ told. KnownPrefix told c.args.name.now c.loop-bytes.bytes.items) (sym same) c.loop-bytes.invariant.part in
    prefix_end (g.S.Shelf.files c.args.shelf.now) c.args.name.now c.read_piece.new.bytes.items (vec_len c.read_piece.new.bytes)
    (c.args.limit + 1)
    (subst (λ told. KnownPrefix told c.args.name.now c.read_piece.new.bytes.items) same (c.in_ok-read_piece.ensures.part before))
    (subst (λ told. KnownFile told c.args.name.now (λ contents. length contents ≤ vec_len c.read_piece.new.bytes)) same ended)
    (grind (arith, common_steps)) (grind (arith, common_steps))

pub returns-clause-ok : goal.returns-clause-ok
returns-clause-ok g c = prefix_limit (g.S.Shelf.files c.args.shelf.now) c.args.name.now c.loop-bytes.bytes.items
    (c.args.limit + 1) c.loop-bytes.invariant.part (grind (arith, common_steps)) (omega arith)

pub returns-in_err-piece-clause-goes_on : goal.returns-in_err-piece-clause-goes_on
returns-in_err-piece-clause-goes_on g c =
    goes_on_here (outside (g.S.Shelf.files c.args.shelf.now) (g.S.Shelf.absences c.args.shelf.now) (g.S.Shelf.faults c.args.shelf.now))

pub returns-in_err-read_piece-clause-goes_on : goal.returns-in_err-read_piece-clause-goes_on
returns-in_err-read_piece-clause-goes_on g c =
    goes_on_twice (outside (g.S.Shelf.files c.args.shelf.now) (g.S.Shelf.absences c.args.shelf.now) (g.S.Shelf.faults c.args.shelf.now))
    (outside (g.S.Shelf.files c.loop-bytes.shelf) (g.S.Shelf.absences c.loop-bytes.shelf) (g.S.Shelf.faults c.loop-bytes.shelf))
    (outside (g.S.Shelf.files c.read_piece.new.shelf) (g.S.Shelf.absences c.read_piece.new.shelf) (g.S.Shelf.faults c.read_piece.new.shelf))
    c.loop-bytes.invariant.goes_on c.read_piece.ensures.goes_on

pub returns-then-branch-eq0-clause-goes_on : goal.returns-then-branch-eq0-clause-goes_on
returns-then-branch-eq0-clause-goes_on g c =
    goes_on_twice (outside (g.S.Shelf.files c.args.shelf.now) (g.S.Shelf.absences c.args.shelf.now) (g.S.Shelf.faults c.args.shelf.now))
    (outside (g.S.Shelf.files c.loop-bytes.shelf) (g.S.Shelf.absences c.loop-bytes.shelf) (g.S.Shelf.faults c.loop-bytes.shelf))
    (outside (g.S.Shelf.files c.read_piece.new.shelf) (g.S.Shelf.absences c.read_piece.new.shelf) (g.S.Shelf.faults c.read_piece.new.shelf))
    c.loop-bytes.invariant.goes_on c.read_piece.ensures.goes_on

pub returns-clause-goes_on : goal.returns-clause-goes_on
returns-clause-goes_on g c = c.loop-bytes.invariant.goes_on

pub returns-in_err-read_piece-clause-stopped : goal.returns-in_err-read_piece-clause-stopped
returns-in_err-read_piece-clause-stopped g c =
    let name = c.args.name.now in
    let before = outside (g.S.Shelf.files c.args.shelf.now) (g.S.Shelf.absences c.args.shelf.now) (g.S.Shelf.faults c.args.shelf.now) in
    let between = outside (g.S.Shelf.files c.loop-bytes.shelf) (g.S.Shelf.absences c.loop-bytes.shelf) (g.S.Shelf.faults c.loop-bytes.shelf) in
    let now = outside (g.S.Shelf.files c.read_piece.new.shelf) (g.S.Shelf.absences c.read_piece.new.shelf)
    (g.S.Shelf.faults c.read_piece.new.shelf) in
    handed_on (Stopped between now (λ P. P name)) (Stopped before now (λ P. P name)) c.from_residual-in_err-read_piece.result
    c.in_err-read_piece.field-0.0 c.from_residual-in_err-read_piece.ensures.1
    (λ failure. stops_since before between now name failure c.loop-bytes.invariant.goes_on) c.in_err-read_piece.ensures.stopped

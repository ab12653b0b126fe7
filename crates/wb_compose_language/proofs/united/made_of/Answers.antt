use Rattle.std.proofs.Common.{subst, sym}
use Rattle.wb_scan_theory.specs.Facts.{IsDeterministic}
use Rattle.wb_compose_language.proofs.PartLemmas.{is_made}
use Rattle.wb_compose_language.proofs.UnionLemmas.{deterministic}
use Rattle.wb_compose_language.proofs.united.made_of.Goals as goal

pub parts_in-requires : goal.parts_in-requires
parts_in-requires c = subst IsDeterministic (sym c.requires.grammar) (deterministic c.args.lent.now c.requires.unitable)

pub returns : goal.returns
returns c =
    is_made c.args.lent.now c.requires.unitable c.args.grammar.now c.in_ok-parts.parts
    (record { rows = c.in_ok-written.written.rows; scanned = c.in_ok-written.written.scanned }) c.requires.grammar c.in_ok-parts.ensures
    c.in_ok-written.ensures

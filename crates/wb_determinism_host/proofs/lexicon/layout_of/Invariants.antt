use Rattle.std.proofs.Common.{◌≡◌}
use Rattle.wb_determinism_host.specs.Inner.Flags.{filled}
use Rattle.wb_determinism_host.specs.Lexicons.{is_layout_of}
use Rattle.wb_determinism_host.proofs.lexicon.layout_of.Given as goal

abbrev pub invariant-terminals : goal.invariant-terminals
invariant-terminals l = l.layout ≡ filled (is_layout_of l.whose) l.number l.terminals

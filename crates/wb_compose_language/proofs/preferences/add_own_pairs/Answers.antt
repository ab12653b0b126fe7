use Rattle.std.proofs.Common.{◌+◌, arith}
use Rattle.wb_syntax_resolved.specs.declared.terminal.Preference.{Preference}
use Rattle.wb_compose_language.proofs.OwnLemmas.{own_more}
use Rattle.wb_compose_language.proofs.preferences.add_own_pairs.Goals as goal

abbrev nothing : Preference
nothing = record { first = 0; second = 0 }

pub preferences-preserved : goal.preferences-preserved
preferences-preserved c =
    own_more c.args.blocks c.args.preferences.now c.preferences.preference-index nothing c.args.pairs.now.items c.preferences.pairs.items
    c.add_own_pair.new.pairs.items (omega arith) c.preferences.invariant c.in_ok-add_own_pair.ensures

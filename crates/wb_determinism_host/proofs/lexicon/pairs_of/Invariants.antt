use Rattle.std.proofs.Common.{◌≡◌, take, map}
use Rattle.wb_syntax_resolved.specs.declared.terminal.Preference.{Preference}
use Rattle.wb_determinism_host.proofs.lexicon.pairs_of.Given as goal

abbrev pub invariant-preferences : goal.invariant-preferences
invariant-preferences l = l.pairs.items ≡ map (λ (p : Preference). (p.first, p.second)) (take l.preference-index l.preferences)

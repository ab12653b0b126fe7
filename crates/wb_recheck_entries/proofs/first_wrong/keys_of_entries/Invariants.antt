use Rattle.wb_recheck_entries.specs.Inner.Walks.{AreKeysUpTo}
use Rattle.wb_recheck_entries.proofs.first_wrong.keys_of_entries.Given as goal

abbrev pub invariant-entries : goal.invariant-entries
invariant-entries l = AreKeysUpTo l.reference.grammar.now l.reference.lines.now l.entries l.keys l.place

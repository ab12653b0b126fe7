use Rattle.wb_compose_language.specs.Inner.Rows.{AreEarlier, AreGathered}
use Rattle.wb_compose_language.proofs.preferences.united_preferences.Given as goal

abbrev pub invariant-extensions : goal.invariant-extensions
invariant-extensions l = record {
  earlier : AreEarlier l.lent l.number l.earlier;
  pairs : AreGathered l.lent l.number l.pairs.items;
}

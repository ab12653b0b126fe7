use Rattle.std.proofs.Common.{◌≡◌, ◌-◌, ◌≤◌, length}
use Rattle.wb_compose_texts.specs.Names.{terminals_of}
use Rattle.wb_compose_texts.specs.Signatures.{signatures_of}
use Rattle.wb_compose_texts.specs.Unions.{all_resolved}
use Rattle.wb_compose_texts.specs.Inner.Walks.{HasCome}
use Rattle.wb_compose_texts.proofs.edits.edit_all.Given as goal

abbrev pub invariant-places : goal.invariant-places
invariant-places l = record {
  within : l.place ≤ length l.edits;
  language : l.session.language ≡ l.initial.session.language;
  come : HasCome (terminals_of l.host.resolved (all_resolved l.extensions)) (signatures_of l.host.resolved (all_resolved l.extensions))
      l.initial.session.language l.initial.session.text l.edits l.place l.session.text l.lines;
}

abbrev pub decreases-places : goal.decreases-places
decreases-places l = length l.edits - l.place

use Rattle.std.proofs.Common.{◌≡◌, ◌<◌, ℕ, Some}
use Rattle.std.specs.Prelude.{slice_get}
use Rattle.wb_recheck_theory.specs.declared.entry.Entry.{Entry}
use Rattle.wb_recheck_entries.specs.Inner.Steps.{AreFollowersIn}
use Rattle.wb_recheck_entries.specs.Inner.Walks.{IsKnown}
use Rattle.wb_recheck_entries.proofs.missing.lacking.Given as goal

abbrev pub invariant-entries : goal.invariant-entries
invariant-entries l =
    IsKnown l.listing.reference.now.grammar.now l.listing.keys.now l.known
    × ((n : ℕ) (e : Entry) → n < l.place → slice_get l.entries n ≡ Some e →
    AreFollowersIn l.listing.reference.now.grammar.now l.listing.reference.now.lines.now l.listing.keys.now e.kernel e.item e.terminal)

-- The tokens so far are the first of the text.
use Rattle.std.proofs.Common.{◌≤◌, ◌-◌, length}
use Rattle.wb_reader_places.specs.Tokens.{AreFirst}
use Rattle.wb_reader_places.proofs.tokens.push_tokens.Given as goal

abbrev pub invariant-tokens : goal.invariant-tokens
invariant-tokens l = record {
  within : l.from ≤ length l.text;
  first : AreFirst l.dialect l.text l.places.items l.from;
}

abbrev pub decreases-tokens : goal.decreases-tokens
decreases-tokens l = length l.text - l.from

use Rattle.wb_parser_expected.specs.Inner.Longer.{IsLongestBelow}
use Rattle.wb_parser_expected.proofs.word.word_at.Given as goal

abbrev pub invariant-states : goal.invariant-states
invariant-states l = IsLongestBelow l.language l.text l.from l.state l.longest

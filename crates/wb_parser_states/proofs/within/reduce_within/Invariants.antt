use Rattle.std.proofs.Common.{◌≡◌, length, take}
use Rattle.wb_parser_states.specs.Kept.{AreReductions}
use Rattle.wb_parser_states.specs.Inner.Carried.{AreLeft}
use Rattle.wb_parser_states.proofs.within.reduce_within.Given as goal

abbrev pub invariant-reductions : goal.invariant-reductions
invariant-reductions l = record {
  left : AreLeft l.language l.terminal (take l.count l.initial.states) l.states l.left;
  length : length l.states ≡ length l.initial.states;
  kept : AreReductions l.language.language.grammar l.language.tables l.reductions;
}

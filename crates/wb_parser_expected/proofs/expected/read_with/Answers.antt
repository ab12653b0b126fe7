use Rattle.std.proofs.Common.{◌<◌, [], arith}
use Rattle.std.proofs.lemmas.List.Elements.{All-nil, All-same}
use Rattle.wb_lookahead.specs.Contents.{size_of}
use Rattle.wb_parser_expected.proofs.WalkLemmas.{first_read}
use Rattle.wb_parser_expected.proofs.expected.read_with.Goals as goal

pub leaves-init : goal.leaves-init
leaves-init c = record {
  within = omega arith;
  below = All-same (λ s. s < size_of c.args.language.now.tables) c.args.states.now.items [] c.requires.states
      (All-nil (λ s. s < size_of c.args.language.now.tables));
  read = first_read c.args.language.now c.args.text.now c.args.states.now.items c.requires.states;
}

use Rattle.std.proofs.Common.{◌∙◌, sym}
use Rattle.wb_automata.specs.Inner.Pairs.{met_of}
use Rattle.wb_automata.proofs.AnswerLemmas.{passed_none}
use Rattle.wb_automata.proofs.walk.pass.Goals as goal

pub returns-then-not-has_byte : goal.returns-then-not-has_byte
returns-then-not-has_byte c = passed_none c.args.seeds.now.places.now c.args.group c.args.byte (met_of c.args.groups.now) c.args.words.now
    c.requires.words (sym c.has_byte.ensures ∙ c.if-not-has_byte.true)

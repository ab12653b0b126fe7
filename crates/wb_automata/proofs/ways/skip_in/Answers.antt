use Rattle.std.proofs.Common.{arith, rules, get_or, ◌/◌, ◌<◌, ◌^◌}
use Rattle.wb_automata.proofs.SkipLemmas.{skip_bits, skip_word}
use Rattle.wb_automata.proofs.ways.skip_in.Goals as goal

pub returns-then-rest-eq0 : goal.returns-then-rest-eq0
returns-then-rest-eq0 c b le lt = skip_word c.args.words.now c.args.byte b c.if-rest-eq0.true le lt

pub returns : goal.returns
returns c b le lt = skip_bits c.args.words.now c.args.byte b (let f : get_or c.args.words.now (c.args.byte / 64) 0 < 2 ^ 64 = search rules in f)
    (omega (arith, c.if-rest-eq0.false)) le lt

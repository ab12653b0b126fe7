use Rattle.std.proofs.Common.{◌∙◌, sym, subst, arith}
use Rattle.wb_automata.specs.Inner.Pairs.{HasCommonBytes, met_of}
use Rattle.wb_automata.proofs.AnswerLemmas.{group_pairs, keep_more, passed_keeps}
use Rattle.wb_automata.proofs.GroupLemmas.{passing_end, passing_more}
use Rattle.wb_automata.proofs.walk.go_on.Goals as goal

pub add_common-requires : goal.add_common-requires
add_common-requires c = group_pairs c.args.seeds.now.places.now c.args.seeds.now.pairs.now (met_of c.args.groups.now) c.args.group
    c.row.result.now c.requires.before.begun.are_met c.requires.group c.row.ensures

pub pass-requires-clause-words : goal.pass-requires-clause-words
pass-requires-clause-words c = subst (λ z. HasCommonBytes c.args.seeds.now.places.now z c.add_common.new.words)
    (c.row.ensures ∙ sym (c.loop-byte.invariant.kept.rows c.args.group c.requires.group)) c.add_common.ensures

pub loop-byte-preserved : goal.loop-byte-preserved
loop-byte-preserved c =
    let places = c.args.seeds.now.places.now in
    let seeds = c.args.seeds.now.pairs.now in
    record {
      passing = passing_more places seeds (met_of c.loop-byte.groups) c.args.group c.loop-byte.byte c.loop-byte.invariant.passing
          (met_of c.pass.new.groups) c.in_ok-pass.ensures;
      kept = keep_more c.args.groups.now.pairs c.loop-byte.groups.pairs c.pass.new.groups.pairs c.loop-byte.invariant.kept
          (passed_keeps places c.args.group c.loop-byte.byte (met_of c.loop-byte.groups) (met_of c.pass.new.groups) c.in_ok-pass.ensures);
    }

pub returns-clause-walked : goal.returns-clause-walked
returns-clause-walked c = passing_end c.args.seeds.now.places.now c.args.seeds.now.pairs.now (met_of c.loop-byte.groups) c.args.group
    c.loop-byte.byte (omega arith) c.loop-byte.invariant.passing

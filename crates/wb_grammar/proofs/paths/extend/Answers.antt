use Rattle.std.proofs.Common.{◌≡◌, ◌≢◌, ◌+◌, ◌-◌, ◌++◌, ◌∷◌, [], length, arith}
use Rattle.std.specs.Prelude.{slice_index}
use Rattle.std.proofs.lemmas.Grind.{common_steps}
use Rattle.wb_grammar.proofs.PathLemmas.{trail_more}
use Rattle.wb_grammar.proofs.paths.extend.Goals as goal

pub returns-clause-trail : goal.returns-clause-trail
returns-clause-trail c to t =
    let places = c.args.places.now.items in
    let trail = c.args.trail.now.items in
    let below_met : slice_index places c.args.below ≢ 0 = λ z. (let h = c.if-index-eq0.false in grind (arith, common_steps)) in
    let unmet : slice_index places c.args.above ≡ 0 = grind (arith, common_steps) in
    let is : c.push.new.list.items ≡ trail ++ (c.args.above, slice_index places c.args.below - 1) ∷ [] = grind (arith, common_steps) in
    let len : c.len.result ≡ length trail + 1 = grind (arith, common_steps) in
    rw (is, len) (trail_more c.args.edges.now to places trail c.args.above c.args.below c.requires.edge c.requires.above unmet below_met t)

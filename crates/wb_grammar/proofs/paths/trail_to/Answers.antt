use Rattle.std.proofs.Common.{◌≡◌, ◌∷◌, [], arith}
use Rattle.std.proofs.lemmas.Grind.{common_steps}
use Rattle.wb_grammar.proofs.PathLemmas.{trail_start}
use Rattle.wb_grammar.proofs.paths.trail_to.Goals as goal

pub sweeps-init : goal.sweeps-init
sweeps-init c =
    let trail : c.push.new.list.items ≡ (c.args.to, 0) ∷ [] = grind (arith, common_steps) in (
      grind (arith, common_steps),
      rw trail (trail_start c.args.edges.now c.args.to 0 c.args.places.now.items c.requires.none c.requires.to),
    )

use Rattle.wb_digraph.specs.Inner.Numbers.{HasNumber}
use Rattle.wb_digraph.proofs.LinkLemmas.{adds_then}
use Rattle.wb_digraph.proofs.links.add_at.Goals as goal

pub returns : goal.returns
returns c =
    adds_then c.args.context.now.kernels.now
    (HasNumber c.args.context.now.kernels.now c.args.context.now.productions.now c.args.context.now.bases.now) c.in_ok-add_over.ensures
    c.in_ok-add_opened.ensures (λ v u hands. hands)

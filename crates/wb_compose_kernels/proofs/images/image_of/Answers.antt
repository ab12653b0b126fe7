use Rattle.wb_compose_kernels.proofs.ListedLemmas.{image_made}
use Rattle.wb_compose_kernels.proofs.images.image_of.Goals as goal

pub returns-clause-len : goal.returns-clause-len
returns-clause-len c =
    (image_made c.args.block c.args.markers.now c.args.count c.args.set.now c.in_ok-made.made c.add_images.new.made c.in_ok-made.ensures
    c.in_ok-add_images.ensures).0

pub returns-clause-each : goal.returns-clause-each
returns-clause-each c =
    (image_made c.args.block c.args.markers.now c.args.count c.args.set.now c.in_ok-made.made c.add_images.new.made c.in_ok-made.ensures
    c.in_ok-add_images.ensures).1

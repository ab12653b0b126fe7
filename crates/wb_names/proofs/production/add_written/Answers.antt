use Rattle.std.proofs.Common.{subst, sym}
use Rattle.std.proofs.lemmas.Result.{on_ok_weaker}
use Rattle.wb_names.specs.Inner.Bodies.{KnowsLabels, file_of}
use Rattle.wb_names.proofs.BodyLemmas.{labels_by_places, written_body}
use Rattle.wb_names.proofs.EquationsThere.{all_there}
use Rattle.wb_names.proofs.production.add_written.Goals as goal

pub places_of-places-requires : goal.places_of-places-requires
places_of-places-requires c = c.requires.context.writers.len

pub labels_of-requires : goal.labels_of-requires
labels_of-requires c =
    let at = c.places_of-places.ensures c.args.context.now.file.items.now c.requires.context.writers in at.within

pub add_all-added-requires : goal.add_all-added-requires
add_all-added-requires c =
    let context = c.args.context.now in
    let items = context.file.items.now in
    let name = c.args.name.now in
    let places = c.places_of-places.result.now in
    let at = c.places_of-places.ensures items c.requires.context.writers in
    let names = labels_by_places items name places c.args.children.now c.deref.result.now c.args.body.now.locals.items
    c.in_ok-labels.labels.names c.in_ok-labels.ensures.names c.deref.ensures.value at in
    all_there (file_of context) context.scope.now c.requires.context.numbers.there c.requires.context.right.hold.meant
    c.in_ok-labels.labels name
    (subst (KnowsLabels (file_of context) name) (sym names) c.requires.labels) places at

pub returns : goal.returns
returns c =
    let context = c.args.context.now in
    let items = context.file.items.now in
    let name = c.args.name.now in
    let places = c.places_of-places.result.now in
    let at = c.places_of-places.ensures items c.requires.context.writers in
    let names = labels_by_places items name places c.args.children.now c.deref.result.now c.args.body.now.locals.items
    c.in_ok-labels.labels.names c.in_ok-labels.ensures.names c.deref.ensures.value at in
    on_ok_weaker c.add_all-added.result (λ adds.
    written_body context.scope.now c.args.children.now items name places c.args.body.now c.add_all-added.new.body c.in_ok-labels.labels
    names
    c.in_ok-labels.ensures.count at adds) c.add_all-added.ensures

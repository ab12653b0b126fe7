use Rattle.std.proofs.Common.{◌≡◌, Some, length, refl, ◌∙◌, ap, rules}
use Rattle.std.proofs.lemmas.Option.{slice_get_read}
use Rattle.wb_graph.specs.Inner.Search.{state_of}
use Rattle.wb_graph.specs.declared.search.Colour.TheVariants.{White}
use Rattle.wb_graph.proofs.AdvanceLemmas.{begins}
use Rattle.wb_graph.proofs.search.Search.visit.Goals as goal

pub path-init : goal.path-init
path-init c =
    let colours = c.args.self.now.colours.items in
    let white : c.index.result.now ≡ White = search rules in
    let colour = slice_get_read colours (length colours) c.args.root c.index.result.now refl c.requires.root c.index.ensures
    ∙ ap Some white in
    let begun = begins c.args.edges.now (state_of c.args.self.now)
    (state_of c.enter.new.self) c.args.root c.requires.path c.requires.search colour c.in_ok-enter.ensures in
    record { search = begun.0; keeps = begun.1; visited = begun.2 }

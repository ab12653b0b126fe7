use Rattle.wb_names_symbols.proofs.WritersLemmas.{found_places}
use Rattle.wb_names_symbols.proofs.writers.Writers.places_of.Goals as goal

pub returns-in-Some : goal.returns-in-Some
returns-in-Some c items are =
    found_places items c.args.self.now are c.in-Some.number c.args.name.now c.deref.result.now c.index.result.now c.in-Some.ensures.found
    c.index.ensures c.deref.ensures.value

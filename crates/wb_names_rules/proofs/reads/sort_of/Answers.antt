use Rattle.std.proofs.Common.{List, ap, ◌∙◌, slice_get}
use Rattle.wb_names_theory.specs.declared.declaration.Declaration.{Declaration}
use Rattle.wb_names_theory.specs.declared.declaration.Declaration.TheVariants as d
use Rattle.wb_names_theory.specs.Duplicate as s
use Rattle.wb_names_rules.proofs.ReadLemmas.{only_one}
use Rattle.wb_names_theory.specs.declared.declaration.Sort.{Sort}
use Rattle.wb_names_rules.proofs.reads.sort_of.Goals as goal

pub returns-in-Some : goal.returns-in-Some
returns-in-Some c =
    let (is, at) = rw c.in-Some.is at c.in_ok-symbol.ensures.found in
    only_one c.args.index.now (λ (x : Sort). d.Symbol c.args.name.now x) c.declarations.ensures.once (λ x y. s.symbol) (λ x y e. cc) c.in-Some.place is _ at tt
    (c.sort_at.ensures c.args.name.now is (ap (λ (ds : List Declaration). slice_get ds c.in-Some.place) c.declarations.ensures.all ∙ at))

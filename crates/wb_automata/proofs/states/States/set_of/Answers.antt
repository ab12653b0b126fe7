use Rattle.std.proofs.Common.{◌≡◌, ◌<◌, ◌∙◌, sym, ap, subst, length, arith, get_or, Some}
use Rattle.std.specs.Prelude.{slice_get}
use Rattle.std.proofs.lemmas.Option.{slice_get-get_or}
use Rattle.wb_automata.specs.Inner.Found.{Found}
use Rattle.wb_automata.proofs.TextLemmas.{paths_len, set_at}
use Rattle.wb_automata.proofs.states.States.set_of.Goals as goal

index-requires' : (c : goal.After-index) → c.args.i < length c.self.inside.predecessors.items
index-requires' c = omega (arith, c.requires, ap (λ (f : Found). length f.paths) c.self.view_is, paths_len c.self.inside.predecessors.items)

pub index-requires : goal.index-requires
index-requires c = omega (arith, c.requires, ap (λ (f : Found). length f.paths) c.self.view_is, paths_len c.self.inside.predecessors.items)

pub returns : goal.returns
returns c path at =
    let os = c.self.inside.predecessors.items in
    let e : get_or os c.args.i c.index.result.now ≡ c.index.result.now = sym c.index.ensures in
    set_at os c.args.i c.index.result.now (slice_get-get_or os c.args.i c.index.result.now (index-requires' c) ∙ ap Some e) path
    (subst (λ (f : Found). slice_get f.paths c.args.i ≡ Some path) (sym c.self.view_is) at)

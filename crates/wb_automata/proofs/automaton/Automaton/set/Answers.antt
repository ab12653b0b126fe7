use Rattle.std.proofs.Common.{◌≡◌, ◌<◌, ◌∙◌, sym, ap, subst, length, arith, get_or, Some, []}
use Rattle.std.specs.Prelude.{slice_get}
use Rattle.std.proofs.lemmas.Option.{slice_get-get_or}
use Rattle.wb_automata.specs.Automata.{AutomatonView, Path}
use Rattle.wb_automata.specs.Paths.{paths_of}
use Rattle.wb_automata.proofs.TextLemmas.{paths_len, set_at}
use Rattle.wb_automata.proofs.automaton.Automaton.set.Goals as goal

index-requires' : (c : goal.After-index) → c.args.state < length c.self.inside.predecessors.items
index-requires' c = omega
    (arith, c.requires, ap (λ (v : AutomatonView). length v.paths) c.self.view_is, paths_len c.self.inside.predecessors.items)

pub index-requires : goal.index-requires
index-requires c = omega
    (arith, c.requires, ap (λ (v : AutomatonView). length v.paths) c.self.view_is, paths_len c.self.inside.predecessors.items)

pub returns-clause-path : goal.returns-clause-path
returns-clause-path c path at =
    let os = c.self.inside.predecessors.items in
    let e : get_or os c.args.state c.index.result.now ≡ c.index.result.now = sym c.index.ensures in
    set_at os c.args.state c.index.result.now (slice_get-get_or os c.args.state c.index.result.now (index-requires' c) ∙ ap Some e) path
    (subst (λ (v : AutomatonView). slice_get v.paths c.args.state ≡ Some path) (sym c.self.view_is) at)

pub returns-clause-below : goal.returns-clause-below
returns-clause-below c =
    let os = c.self.inside.predecessors.items in
    let o = c.index.result.now in
    let lt : c.args.state < length (paths_of os) = omega (arith, c.requires, ap (λ (v : AutomatonView). length v.paths) c.self.view_is) in
    let path : Path = get_or (paths_of os) c.args.state (record { set = 0; text = [] }) in
    let at : slice_get (paths_of os) c.args.state ≡ Some path = slice_get-get_or (paths_of os) c.args.state
    (record { set = 0; text = [] }) lt in
    let here : slice_get os c.args.state ≡ Some o = slice_get-get_or os c.args.state o (index-requires' c) ∙ ap Some
    (sym c.index.ensures) in
    subst (λ (v : AutomatonView). o.set < length v.sets) c.self.view_is
    (subst (λ z. z < length c.self.inside.sets.items) (sym (set_at os c.args.state o here path at))
    (c.self.invariant.sets_below c.args.state path at))

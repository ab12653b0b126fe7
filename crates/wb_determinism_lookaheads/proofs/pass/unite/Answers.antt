use Rattle.std.proofs.Common.{◌≡◌, ◌<◌, [], Bool, List, length, refl, sym, subst, arith}
use Rattle.std.specs.Prelude.{slice_index_or}
use Rattle.wb_lemmas.proofs.Places.{default_at, read_at}
use Rattle.wb_determinism_lookaheads.specs.Inner.Spreading.{AddsTo}
use Rattle.wb_determinism_lookaheads.proofs.TrueLemmas.{true_united}
use Rattle.wb_determinism_lookaheads.proofs.pass.unite.Goals as goal

pub returns : goal.returns
returns c =
    let old = c.args.sets.now.items in
    let row = c.index_mut.result.now in
    let lt : c.args.place < length old = omega (arith, c.if-place-len.false, c.args.sets.now.ok.0) in
    let is : slice_index_or old c.args.place [] ≡ row = default_at old c.args.place [] row
    (read_at old old c.args.place row refl lt c.index_mut.ensures.value) in
    true_united c.args.context.now old c.requires.sound c.args.place c.args.at c.args.one c.args.set.now c.unite.new.self _ lt refl
    (subst (λ (z : List (List Bool)). AddsTo z c.args.at c.args.set.now c.unite.new.self) (sym is) c.unite.ensures) c.requires.slot
    c.requires.holds

use Rattle.std.proofs.Common.{◌++◌, ◌∷◌, ◌∙◌, [], ap}
use Rattle.wb_base.specs.declared.symbol.Symbol.{Symbol}
use Rattle.wb_compose_kernels.proofs.RowLemmas.{marked_moves, plain_move}
use Rattle.wb_compose_kernels.proofs.moves.add_move.Goals as goal

pub returns-in-Some : goal.returns-in-Some
returns-in-Some c =
    let to = c.args.to.now in
    marked_moves to.names (to.host.now ++ to.new.now) to.marks.now c.args.from c.in-Some.hole c.args.found c.args.moves.now.items
    c.add_marked.new.moves.items c.in-Some.ensures.0 c.in-Some.ensures.1 c.in_ok-add_marked.ensures

pub returns : goal.returns
returns c =
    let to = c.args.to.now in
    plain_move to.names (to.host.now ++ to.new.now) to.marks.now c.args.from c.number_at-next.result c.args.found c.args.moves.now.items
    c.push.new.list.items c.in_default.ensures c.number_at-next.ensures
    (c.in_ok-push.ensures.ok ∙
    ap (λ (z : Symbol). c.args.moves.now.items ++ (c.args.from, z, c.number_at-next.result) ∷ []) c.in_ok-symbol.ensures)

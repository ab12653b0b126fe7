use Rattle.std.proofs.Common.{◌∙◌, arith, sym}
use Rattle.std.proofs.lemmas.Bool.{true≢false}
use Rattle.wb_compose_kernels.specs.Inner.Filling.{HasNoTarget, HasTarget, IsFirstOpened, OpensNone}
use Rattle.wb_compose_kernels.proofs.SlotLemmas.{match_as, target_free, target_hole, target_none}
use Rattle.wb_compose_kernels.proofs.targets.target_of.Goals as goal

pub blocks_at-names-requires : goal.blocks_at-names-requires
blocks_at-names-requires c =
    let len = (c.requires.filling.blocks c.requires.filling.given.spliceable).len in
    let lt = c.requires.part in
    omega (arith, len, lt)

pub returns-then-is_hole : goal.returns-then-is_hole
returns-then-is_hole c =
    let f = c.args.filling.now in
    let g = c.part_at.result.beside.now.grammar.now in
    let hole = c.is_hole.ensures.0 c.if-is_hole.true in
    match_as c.first_opened.result (IsFirstOpened g f.rules.now c.args.item) (HasTarget f c.args.part c.args.item)
    (OpensNone g f.rules.now c.args.item) (HasNoTarget f c.args.part c.args.item)
    (target_none f c.args.part c.args.item c.part_at.result c.part_at.ensures c.blocks_at-names.result c.blocks_at-names.ensures hole)
    (target_hole f c.args.part c.args.item c.part_at.result c.part_at.ensures c.blocks_at-names.result c.blocks_at-names.ensures hole)
    c.first_opened.ensures

pub returns : goal.returns
returns c =
    target_free c.args.filling.now c.requires.filling c.args.part c.args.item c.requires.part c.blocks_at-names.result
    c.blocks_at-names.ensures (λ x. true≢false (sym (c.is_hole.ensures.1 x) ∙ c.if-is_hole.false)) c.in_ok-target.target
    c.in_ok-target.ensures

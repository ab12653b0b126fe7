use Rattle.std.proofs.Common.{rules, ◌∙◌, ◌<◌, Some, length, refl, ap}
use Rattle.std.proofs.lemmas.Option.{slice_get_within}
use Rattle.wb_lemmas.proofs.Places.{at_once, read_at}
use Rattle.wb_eval.proofs.perform.truth_at.Goals as goal

pub bounds-values-at : goal.bounds-values-at
bounds-values-at c = slice_get_within c.args.values.now c.args.at _ c.requires.1

pub offset_bounds-values-at : goal.offset_bounds-values-at
offset_bounds-values-at c =
    let within : c.args.at < length c.args.values.now = slice_get_within c.args.values.now c.args.at _ c.requires.1 in search rules

pub unreachable-requires : goal.unreachable-requires
unreachable-requires c =
    let values = c.args.values.now in
    let within = slice_get_within values c.args.at _ c.requires.1 in
    c.in_default.not-Bool c.requires.0
    (at_once values c.args.at _ _ (read_at values values c.args.at c.index-values-at.result refl within c.index-values-at.is) c.requires.1)

pub returns : goal.returns
returns c =
    let values = c.args.values.now in
    let within = slice_get_within values c.args.at _ c.requires.1 in
    read_at values values c.args.at c.index-values-at.result refl within c.index-values-at.is ∙ ap Some c.in-Bool.is

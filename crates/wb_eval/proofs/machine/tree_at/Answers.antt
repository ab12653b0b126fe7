use Rattle.std.proofs.Common.{rules, ◌∙◌, Some, refl, sym, ap}
use Rattle.std.proofs.lemmas.Option.{slice_get_within}
use Rattle.wb_lemmas.proofs.Places.{read_at}
use Rattle.wb_eval.proofs.machine.tree_at.Goals as goal

pub index-requires : goal.index-requires
index-requires c =
    let within = slice_get_within c.args.memo.now.trees.items c.args.site (Some c.requires.0) c.requires.1 in search rules

pub unreachable-requires : goal.unreachable-requires
unreachable-requires c =
    let rows = c.args.memo.now.trees.items in
    let within = slice_get_within rows c.args.site (Some c.requires.0) c.requires.1 in
    let none = sym (read_at rows rows c.args.site c.index.result.now refl within c.index.ensures ∙ ap Some c.in-None.is) ∙ c.requires.1 in
    cc none

pub returns : goal.returns
returns c =
    let rows = c.args.memo.now.trees.items in
    let within = slice_get_within rows c.args.site (Some c.requires.0) c.requires.1 in
    read_at rows rows c.args.site c.index.result.now refl within c.index.ensures ∙ ap Some c.in-Some.is

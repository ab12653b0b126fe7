use Rattle.std.proofs.Common.{◌≡◌, ◌∙◌, ap, length, map, refl, rules, sym}
use Rattle.std.proofs.lemmas.List.{get_or_read_under}
use Rattle.wb_lookahead.specs.declared.action.Action.TheVariants.{None}
use Rattle.wb_lookahead.specs.Codes.{action_at}
use Rattle.wb_lookahead.specs.Contents.{action_in}
use Rattle.wb_lookahead.proofs.KernelRowLemmas.{action_code, put_at}
use Rattle.wb_lookahead.proofs.action_row.put.Goals as goal

pub returns-clause-ok : goal.returns-clause-ok
returns-clause-ok c =
    let there : c.action_from-there.result ≡ None = search rules in
    let none : action_in (map action_at c.args.row.now.items) c.args.terminal ≡ None = action_code c.args.row.now.items c.args.terminal
    ∙ ap action_at (sym (get_or_read_under c.args.row.now.items c.args.terminal (length c.args.row.now.items) c.index.result.now 0
    c.index.ensures c.requires refl)) ∙ sym c.action_from-there.ensures ∙ there in
    put_at c.args.row.now.items c.args.terminal c.args.code c.requires none

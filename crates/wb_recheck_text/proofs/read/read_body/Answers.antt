use Rattle.std.proofs.Common.{[], subst, sym, ◌∙◌}
use Rattle.wb_recheck_text.specs.Faults.{IsTextOf}
use Rattle.wb_recheck_text.specs.Inner.Progress.{HasRead, head_of}
use Rattle.wb_recheck_text.proofs.ProgressLemmas.{ok_then, read_only, read_whole}
use Rattle.wb_recheck_text.proofs.read.read_body.Goals as goal

pub returns-in-Ok-clause-ok : goal.returns-in-Ok-clause-ok
returns-in-Ok-clause-ok c =
    let begun = subst (λ z. HasRead c.args.text.now c.args.body.now (head_of c.args.words) z []) (sym c.new-lines.ensures.items) c.requires in
    let read = c.in-Ok.ensures.read c.args.text.now (head_of c.args.words) begun in
    ok_then c.made.result c.made.ensures.ok
    (λ certificate is. subst (IsTextOf c.args.text.now) (sym is) (read_whole c.args.text.now (head_of c.args.words) _ _ read))

pub returns-in-Ok-clause-only : goal.returns-in-Ok-clause-only
returns-in-Ok-clause-only c =
    let begun = subst (λ z. HasRead c.args.text.now c.args.body.now (head_of c.args.words) z []) (sym c.new-lines.ensures.items) c.requires in
    let read = c.in-Ok.ensures.read c.args.text.now (head_of c.args.words) begun in
    ok_then c.made.result c.made.ensures.ok
    (λ certificate is other t. read_only c.args.text.now (head_of c.args.words) _ _ read other t ∙ sym is)

pub returns-in-Ok-clause-refused : goal.returns-in-Ok-clause-refused
returns-in-Ok-clause-refused c = c.made.ensures.err c.args.text.now

pub refusal-requires : goal.refusal-requires
refusal-requires c =
    let begun = subst (λ z. HasRead c.args.text.now c.args.body.now (head_of c.args.words) z []) (sym c.new-lines.ensures.items) c.requires in
    c.in-Err.ensures.halted c.args.text.now (head_of c.args.words) begun

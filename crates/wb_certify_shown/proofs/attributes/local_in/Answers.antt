-- The label of the local at this place, and none past the last.
use Rattle.std.proofs.Common.{◌≡◌, IfOk, refl, subst, ◌∙◌}
use Rattle.wb_syntax_resolved.specs.declared.production.Local.{Local}
use Rattle.wb_syntax_resolved.specs.declared.resolved.ResolvedParts.{ResolvedParts}
use Rattle.wb_certify_shown.specs.Names.{printed}
use Rattle.wb_certify_shown.proofs.ListLemmas.{name_at, no_name_past}
use Rattle.wb_certify_shown.proofs.attributes.local_in.Goals as goal

pub returns-in-Some : goal.returns-in-Some
returns-in-Some c =
    let r = c.args.resolved.now in
    let l = c.in-Some.local.now in
    let locals = c.args.locals.now in
    let own : IfOk c.named.result (λ name. name ≡ printed r l.owner l.label) =
    subst (λ (q : ResolvedParts). IfOk c.named.result (λ name. name ≡ printed q l.owner l.label)) c.parts.ensures.parts c.named.ensures in
    subst (λ z. IfOk c.named.result (λ name. name ≡ z)) (name_at (λ (x : Local). printed r x.owner x.label) locals locals c.args.place l
    c.in-Some.ensures.lookup.0 c.in-Some.ensures.lookup.1 refl) own

pub returns-in-None : goal.returns-in-None
returns-in-None c =
    let r = c.args.resolved.now in
    let locals = c.args.locals.now in
    c.empty.ensures ∙ no_name_past (λ (x : Local). printed r x.owner x.label) locals locals c.args.place c.in-None.ensures.lookup.0 refl

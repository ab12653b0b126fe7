use Rattle.std.proofs.Common.{◌++◌, ◌∷◌, [], List, ap, ◌∙◌}
use Rattle.wb_values.specs.Signature.{Signature}
use Rattle.wb_values.proofs.SignatureLemmas.{signatures-push}
use Rattle.wb_values.proofs.signatures.Signatures.add.Goals as goal

pub returns-clause-ok : goal.returns-clause-ok
returns-clause-ok c =
    let es = c.self.inside.entries.items in
    let pushed = signatures-push c.self.inside.names c.number_name.new.names es
    (record { name = c.in_ok-name.name; left = c.args.left; children = c.in_ok-children.children }) c.args.name.now
    c.in_ok-name.ensures.kept c.self.invariant.below c.in_ok-name.ensures.named in
    rw (c.push_reserved.ensures.items, c.in_ok-reserve.ensures.items)
    (pushed ∙ ap
    (λ (xs : List Signature). xs ++ record { name = c.args.name.now; left = c.args.left; children = c.in_ok-children.children.items } ∷
    []) c.self.view_is
    ∙ ap (λ (kinds : _). c.args.self.now ++ record { name = c.args.name.now; left = c.args.left; children = kinds } ∷ [])
    c.in_ok-children.ensures.items)

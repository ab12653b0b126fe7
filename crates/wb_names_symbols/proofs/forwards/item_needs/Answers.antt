use Rattle.std.proofs.Common.{All, Contains, sym, subst}
use Rattle.wb_syntax.specs.declared.item.ItemForm.{ItemForm}
use Rattle.wb_syntax.specs.declared.item.PlainForm.{PlainForm}
use Rattle.wb_syntax.specs.declared.pattern.Pattern.{Pattern}
use Rattle.wb_names_symbols.specs.Inner.Names.{form_needs, plain_needs}
use Rattle.wb_names_symbols.proofs.forwards.item_needs.Goals as goal

pub written_needs-requires : goal.written_needs-requires
written_needs-requires c =
    let there = All (Contains c.args.scope.now.attributes) in
    let plain = subst (λ (z : ItemForm Pattern). there (form_needs z)) c.in-Plain.is c.requires in
    let needs = subst (λ (z : PlainForm). there (plain_needs z)) c.in-ForwardOn.is plain in
    subst there (sym c.as_slice.ensures) needs

use Rattle.std.proofs.Common.{◌++◌, ◌∙◌, ap, sym}
use Rattle.std.specs.List.{flat_map}
use Rattle.std.proofs.lemmas.Result.{on_ok_weaker}
use Rattle.wb_syntax.specs.declared.item.Item.{Item}
use Rattle.wb_syntax.specs.declared.pattern.Pattern.{Pattern}
use Rattle.wb_names_symbols.specs.Inner.Names.{form_closeds}
use Rattle.wb_names_symbols.proofs.NamesFlat.{closeds_flat}
use Rattle.wb_names_symbols.proofs.said.add_said.Goals as goal

pub returns-clause-closed : goal.returns-clause-closed
returns-clause-closed c =
    let closed = λ (item : Item Pattern). form_closeds item.form in
    on_ok_weaker c.add_closed_names.result
    (λ e. e ∙ (ap (λ z. z ++ flat_map closed c.args.items.now) c.requires.closed ∙ sym (closeds_flat c.args.items.now)))
    c.add_closed_names.ensures

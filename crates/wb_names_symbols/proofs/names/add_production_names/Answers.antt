use Rattle.std.proofs.Common.{◌≡◌, ◌++◌, List, ℕ, Bool, true, false, ap, ◌∙◌}
use Rattle.std.specs.List.{flat_map}
use Rattle.std.proofs.lemmas.Result.{on_ok_weaker}
use Rattle.wb_syntax_resolved.specs.declared.attribution.AttributionParts.{AttributionParts}
use Rattle.wb_syntax_resolved.specs.declared.production.Production.{Production}
use Rattle.wb_syntax.specs.declared.item.Item.{Item}
use Rattle.wb_syntax.specs.declared.pattern.Pattern.{Pattern}
use Rattle.wb_names_symbols.specs.Inner.Names.{form_productions, row_names}
use Rattle.wb_names_symbols.proofs.ProductionNames.{production_names}
use Rattle.wb_names_symbols.proofs.names.add_production_names.Goals as goal

pub returns : goal.returns
returns c =
    let rows = c.args.file.now.base.now.attributes.productions in
    let items = c.args.file.now.items.now in
    let base = λ (b : Bool) (xs : List Production). flat_map (λ (p : Production). row_names b p) xs in
    let own = λ (b : Bool). flat_map (λ (item : Item Pattern). form_productions b item.form) items in
    let read : c.as_slice-rows.result.now ≡ rows =
    c.as_slice-rows.ensures ∙ ap (λ (z : AttributionParts). z.productions) c.parts.ensures.parts in
    let first : c.add_productions.new.names ≡ base true rows =
    c.in_ok-add_productions.ensures
    ∙ (ap (λ (z : List (List ℕ)). z ++ base true c.as_slice-rows.result.now) c.requires ∙ ap (base true) read) in
    let second : c.add_declared_productions.new.names ≡ base true rows ++ own true =
    c.in_ok-add_declared_productions.ensures ∙ ap (λ (z : List (List ℕ)). z ++ own true) first in
    let third : c.add_productions-2.new.names ≡ (base true rows ++ own true) ++ base false rows =
    c.in_ok-add_productions-2.ensures
    ∙ (ap (λ (z : List (List ℕ)). z ++ base false c.as_slice-rows.result.now) second
    ∙ ap (λ (z : List Production). (base true rows ++ own true) ++ base false z) read) in
    on_ok_weaker c.add_declared_productions-2.result
    (λ e. production_names rows items c.add_declared_productions-2.new.names (e ∙ ap (λ (z : List (List ℕ)). z ++ own false) third))
    c.add_declared_productions-2.ensures

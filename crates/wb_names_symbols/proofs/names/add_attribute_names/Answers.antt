use Rattle.std.proofs.Common.{◌≡◌, ◌++◌, List, ℕ, map, ap, sym, ◌∙◌}
use Rattle.std.specs.List.{flat_map}
use Rattle.std.proofs.lemmas.Result.{on_ok_weaker}
use Rattle.wb_syntax_resolved.specs.declared.attributes.Attribute.{Attribute}
use Rattle.wb_syntax_resolved.specs.declared.attribution.AttributionParts.{AttributionParts}
use Rattle.wb_syntax.specs.declared.item.Item.{Item}
use Rattle.wb_syntax.specs.declared.pattern.Pattern.{Pattern}
use Rattle.wb_names_symbols.specs.Inner.Names.{form_attributes}
use Rattle.wb_names_symbols.proofs.NamesFlat.{attributes_flat}
use Rattle.wb_names_symbols.proofs.names.add_attribute_names.Goals as goal

pub returns : goal.returns
returns c =
    let names = λ (xs : List Attribute). map (λ (a : Attribute). a.name) xs in
    let base = c.args.file.now.base.now.attributes in
    let items = c.args.file.now.items.now in
    let rows : names c.as_slice.result.now ≡ names base.attributes =
    ap names (c.as_slice.ensures ∙ ap (λ (z : AttributionParts). z.attributes) c.parts.ensures.parts) in
    let before : c.add_names.new.names ≡ names base.attributes =
    c.in_ok-add_names.ensures ∙ (ap (λ (z : List (List ℕ)). z ++ names c.as_slice.result.now) c.requires ∙ rows) in
    on_ok_weaker c.add_declared_attributes.result
    (λ e. e ∙ (ap (λ (z : List (List ℕ)). z ++ flat_map (λ (item : Item Pattern). form_attributes item.form) items) before
    ∙ ap (λ (z : List (List ℕ)). names base.attributes ++ z) (sym (attributes_flat items))))
    c.add_declared_attributes.ensures

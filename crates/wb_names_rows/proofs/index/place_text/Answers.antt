use Rattle.std.proofs.Common.{◌≡◌, ◌++◌, ◌∷◌, [], length, sym, subst, ap, ◌∙◌}
use Rattle.wb_base.specs.Names.{AddsName}
use Rattle.wb_names_rows.specs.Index.{IsIndex}
use Rattle.wb_names_rows.proofs.IndexLemmas.{index_new, index_present}
use Rattle.wb_names_rows.proofs.index.place_text.Goals as goal

pub returns-in-New-clause-index : goal.returns-in-New-clause-index
returns-in-New-clause-index c = λ texts index count.
    let names = c.args.names.now in
    let numbers = c.args.numbers.now.items in
    let text = c.args.text.now in
    let e = subst (λ z. AddsName names text z c.add.new.self) c.in-New.is c.in_ok-add.ensures.ok in
    let pushed : c.push_reserved.new.self.items ≡ numbers ++ length texts ∷ [] =
    c.push_reserved.ensures.items ∙ (ap (λ z. z ++ c.args.place ∷ []) c.in_ok-reserve.ensures.items
    ∙ ap (λ z. numbers ++ z ∷ []) (sym count)) in
    subst (λ z. IsIndex z c.push_reserved.new.self.items (texts ++ text ∷ [])) (sym e.2)
    (subst (λ z. IsIndex (names ++ text ∷ []) z (texts ++ text ∷ [])) (sym pushed) (index_new names numbers texts text index))

pub returns-in-Present-clause-index : goal.returns-in-Present-clause-index
returns-in-Present-clause-index c = λ texts index count.
    let names = c.args.names.now in
    let numbers = c.args.numbers.now.items in
    let text = c.args.text.now in
    let e = subst (λ z. AddsName names text z c.add.new.self) c.in-Present.is c.in_ok-add.ensures.ok in
    subst (λ z. IsIndex z c.reserve.new.self.items (texts ++ text ∷ [])) (sym e.1)
    (subst (λ z. IsIndex names z (texts ++ text ∷ [])) (sym c.in_ok-reserve.ensures.items)
    (index_present names numbers texts text c.in-Present.field-0 index e.0))

use Rattle.std.proofs.Common.{List, ℕ, subst, sym}
use Rattle.std.proofs.lemmas.Result.{on_ok_weaker}
use Rattle.wb_syntax.specs.declared.item.ItemForm.{ItemForm}
use Rattle.wb_syntax.specs.declared.pattern.Pattern.{Pattern}
use Rattle.wb_names_numbers_theory.specs.Files.{block_of}
use Rattle.wb_names_symbols.specs.Inner.Writers.{AddsBlock, AddsPlace}
use Rattle.wb_names_symbols.proofs.writers.add_item.Goals as goal

pub returns-in-Production : goal.returns-in-Production
returns-in-Production c =
    let old = c.args.made.now in
    let new = c.add_place.new.made in
    on_ok_weaker c.add_place.result
    (λ added. subst (λ (z : ItemForm Pattern). AddsBlock (block_of z) c.args.place old new) (sym c.in-Production.is)
    (subst (λ (z : List ℕ). AddsPlace z c.args.place old new) c.as_slice.ensures added))
    c.add_place.ensures

pub returns-in-Aspect : goal.returns-in-Aspect
returns-in-Aspect c =
    let old = c.args.made.now in
    let new = c.add_place-in-Aspect.new.made in
    on_ok_weaker c.add_place-in-Aspect.result
    (λ added. subst (λ (z : ItemForm Pattern). AddsBlock (block_of z) c.args.place old new) (sym c.in-Aspect.is)
    (subst (λ (z : List ℕ). AddsPlace z c.args.place old new) c.as_slice-in-Aspect.ensures added))
    c.add_place-in-Aspect.ensures

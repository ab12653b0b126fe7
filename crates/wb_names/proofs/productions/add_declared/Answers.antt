use Rattle.std.proofs.Common.{List, ap, refl, sym, subst, take}
use Rattle.std.proofs.lemmas.List.{take_all}
use Rattle.wb_lemmas.proofs.Members.{contains_at}
use Rattle.wb_lemmas.proofs.Places.{read_at}
use Rattle.wb_syntax.specs.declared.item.Item.{Item}
use Rattle.wb_syntax.specs.declared.item.ItemForm.{ItemForm}
use Rattle.wb_syntax.specs.declared.pattern.Pattern.{Pattern}
use Rattle.std.specs.Prelude.{option_to_list}
use Rattle.wb_names_theory.specs.Declarations.{ProductionDeclaration, production_of, productions}
use Rattle.wb_names_numbers_theory.proofs.OwnDeclared.{kept}
use Rattle.wb_names.specs.Inner.Bodies.{file_of}
use Rattle.wb_names.specs.Inner.Now.{IsDeclaredNow}
use Rattle.wb_names.specs.Inner.Rows.{AddsProductions, declares_concrete}
use Rattle.wb_names.proofs.ProductionsGrouped.{both_added, no_production, nothing_added, productions_more}
use Rattle.wb_names.proofs.productions.add_declared.Goals as goal

pub add_own-requires-clause-there : goal.add_own-requires-clause-there
add_own-requires-clause-there c =
    let items = c.args.context.now.file.items.now in
    let i = c.loop-item.item-index in
    let item = c.item-item.result in
    let x : ProductionDeclaration = record { role = c.in-Production.role; production = c.in-Production.production } in
    kept (λ (z : Item Pattern). production_of z.form) items item x
    (contains_at items item i (read_at items items i item refl c.loop-item-test.true c.item-item.is)) (ap production_of c.in-Production.is)

pub loop-item-init : goal.loop-item-init
loop-item-init c =
    let context = c.args.context.now in
    nothing_added declares_concrete (IsDeclaredNow (file_of context) context.scope.now context.moves.now) c.args.made.now

pub loop-item-preserved : goal.loop-item-preserved
loop-item-preserved c =
    let context = c.args.context.now in
    let items = context.file.items.now in
    let i = c.loop-item.item-index in
    let item = c.item-item.result in
    let R = IsDeclaredNow (file_of context) context.scope.now context.moves.now in
    let added = subst (λ (z : ItemForm Pattern). AddsProductions declares_concrete R (option_to_list (production_of z)) c.loop-item.made
    c.add_own.new.made) (sym c.in-Production.is) c.in_ok-add_own.ensures in
    subst (λ (z : List ProductionDeclaration). AddsProductions declares_concrete R z c.args.made.now c.add_own.new.made)
    (sym (productions_more items i item c.loop-item-test.true c.item-item.is))
    (both_added declares_concrete R (productions (take i items)) (option_to_list (production_of item.form)) c.args.made.now
    c.loop-item.made c.add_own.new.made c.loop-item.invariant added)

pub loop-item-preserved-in_default : goal.loop-item-preserved-in_default
loop-item-preserved-in_default c =
    let context = c.args.context.now in
    let items = context.file.items.now in
    let i = c.loop-item.item-index in
    let item = c.item-item.result in
    let R = IsDeclaredNow (file_of context) context.scope.now context.moves.now in
    let none = subst (λ (z : List ProductionDeclaration). AddsProductions declares_concrete R z c.loop-item.made c.loop-item.made)
    (sym (no_production item.form c.in_default.not-Production)) (nothing_added declares_concrete R c.loop-item.made) in
    subst (λ (z : List ProductionDeclaration). AddsProductions declares_concrete R z c.args.made.now c.loop-item.made)
    (sym (productions_more items i item c.loop-item-test.true c.item-item.is))
    (both_added declares_concrete R (productions (take i items)) (option_to_list (production_of item.form)) c.args.made.now
    c.loop-item.made c.loop-item.made c.loop-item.invariant none)

pub returns : goal.returns
returns c =
    let context = c.args.context.now in
    let items = context.file.items.now in
    let R = IsDeclaredNow (file_of context) context.scope.now context.moves.now in
    subst (λ (z : List (Item Pattern)). AddsProductions declares_concrete R (productions z) c.args.made.now c.loop-item.made)
    (take_all c.loop-item.item-index items c.loop-item-test.false) c.loop-item.invariant

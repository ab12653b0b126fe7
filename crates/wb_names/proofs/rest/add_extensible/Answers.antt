use Rattle.std.proofs.Common.{List, ℕ, All, Contains, refl, sym, subst}
use Rattle.wb_lemmas.proofs.Members.{contains_at}
use Rattle.wb_lemmas.proofs.Places.{read_at}
use Rattle.wb_syntax.specs.declared.item.Item.{Item}
use Rattle.wb_syntax.specs.declared.pattern.Pattern.{Pattern}
use Rattle.wb_names_rows.specs.GrammarNames.{form_extensibles}
use Rattle.wb_names_rows.specs.Nodes.{IsAt}
use Rattle.wb_names_rows.specs.Plains.{AddsEach}
use Rattle.wb_names_rows.proofs.GrammarNameLemmas.{extensibles_flat}
use Rattle.wb_names.proofs.RestLemmas.{each_item}
use Rattle.wb_names.proofs.RestStart.{all_of_one, each_end}
use Rattle.wb_names.proofs.rest.add_extensible.Goals as goal

pub add_form-requires : goal.add_form-requires
add_form-requires c =
    all_of_one (Contains c.args.scope.now.nonterminals) (λ (x : Item Pattern). form_extensibles x.form) c.args.items.now c.item-item.result
    (subst (All (Contains c.args.scope.now.nonterminals)) (extensibles_flat c.args.items.now) c.requires)
    (contains_at c.args.items.now c.item-item.result c.items.item-index
    (read_at c.args.items.now c.args.items.now c.items.item-index c.item-item.result refl c.items-test.true c.item-item.is))

pub items-preserved : goal.items-preserved
items-preserved c =
    each_item (λ (x : Item Pattern). form_extensibles x.form) (IsAt c.args.scope.now.nonterminals) c.args.items.now c.items.item-index
    c.item-item.result c.args.made.now.items c.items.made.items c.add_form.new.made.items c.items.invariant c.items-test.true c.item-item.is
    c.in_ok-add_form.ensures

pub returns : goal.returns
returns c =
    subst (λ (z : List (List ℕ)). AddsEach (IsAt c.args.scope.now.nonterminals) z c.args.made.now.items c.items.made.items)
    (sym (extensibles_flat c.args.items.now))
    (each_end (λ (x : Item Pattern). form_extensibles x.form) (IsAt c.args.scope.now.nonterminals) c.args.items.now c.items.item-index
    c.args.made.now.items c.items.made.items c.items.invariant c.items-test.false)

use Rattle.std.proofs.Common.{All, Contains, refl, subst}
use Rattle.wb_lemmas.proofs.Members.{contains_at}
use Rattle.wb_lemmas.proofs.Places.{read_at}
use Rattle.wb_syntax.specs.declared.item.Item.{Item}
use Rattle.wb_syntax.specs.declared.pattern.Pattern.{Pattern}
use Rattle.wb_names_rows.specs.GrammarNames.{form_starts}
use Rattle.wb_names_rows.specs.Nodes.{IsAt}
use Rattle.wb_names_rows.proofs.GrammarNameLemmas.{starts_flat}
use Rattle.wb_names.proofs.RestStart.{all_of_one}
use Rattle.wb_names.proofs.StartLemmas.{none_at_all, only_start}
use Rattle.wb_names.proofs.rest.written_start.Goals as goal

pub form_start-requires : goal.form_start-requires
form_start-requires c =
    all_of_one (Contains c.args.scope.now.nonterminals) (λ (x : Item Pattern). form_starts x.form) c.args.items.now c.item-item.result
    (subst (All (Contains c.args.scope.now.nonterminals)) (starts_flat c.args.items.now) c.requires.there)
    (contains_at c.args.items.now c.item-item.result c.items.item-index
    (read_at c.args.items.now c.args.items.now c.items.item-index c.item-item.result refl c.items-test.true c.item-item.is))

pub returns-in-Some : goal.returns-in-Some
returns-in-Some c =
    only_start (IsAt c.args.scope.now.nonterminals) c.args.items.now c.requires.few c.item-item.result c.in-Some.number
    (contains_at c.args.items.now c.item-item.result c.items.item-index
    (read_at c.args.items.now c.args.items.now c.items.item-index c.item-item.result refl c.items-test.true c.item-item.is))
    c.in-Some.ensures

pub returns : goal.returns
returns c = none_at_all (IsAt c.args.scope.now.nonterminals) c.args.items.now c.items.item-index c.items.invariant c.items-test.false

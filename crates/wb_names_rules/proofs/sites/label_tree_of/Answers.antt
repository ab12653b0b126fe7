use Rattle.std.proofs.Common.{ℕ, List, Option}
use Rattle.std.specs.Option.{option_map}
use Rattle.std.proofs.lemmas.Result.{IfOk-weaker}
use denote.Bor.{Bor}
use Rattle.wb_names_rules.specs.Inner.Reads.{IsTreeOf, IsLabelTreeOf}
use Rattle.wb_names_rules.proofs.SiteLemmas.{label_tree}
use Rattle.wb_names_rules.proofs.sites.label_tree_of.Goals as goal

pub returns-in-None : goal.returns-in-None
returns-in-None c = let none = rw c.in-None.is at c.in_ok-labelled_as.ensures in λ n has. none has.0 has.1

pub returns-in-Some : goal.returns-in-Some
returns-in-Some c =
    let only = rw c.in-Some.is at c.in_ok-labelled_as.ensures in
    IfOk-weaker c.tree_of.result
    (λ (o : Option (Bor (List ℕ))). IsTreeOf c.args.index.now c.in-Some.is'.now (option_map (λ (x : Bor (List ℕ)). x.now) o))
    (λ (o : Option (Bor (List ℕ))). IsLabelTreeOf c.args.index.now c.args.production.now c.args.label.now (option_map (λ (x : Bor (List ℕ)). x.now) o))
    (λ o tree. label_tree c.args.index.now c.args.production.now c.args.label.now c.in-Some.is'.now (option_map (λ (x : Bor (List ℕ)). x.now) o)
    only tree) c.tree_of.ensures

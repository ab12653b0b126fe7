use Rattle.std.proofs.Common.{ℕ, List, Option, sym, subst}
use Rattle.std.specs.Option.{option_map}
use Rattle.std.proofs.lemmas.Result.{IfOk-weaker}
use denote.Bor.{Bor}
use Rattle.wb_names_theory.specs.declared.declaration.Labelled.{Labelled}
use Rattle.wb_names_rules.specs.Inner.Reads.{IsNonterminalNamed, IsTreeOf}
use Rattle.wb_names_rules.proofs.SiteLemmas.{child_tree, local_tree}
use Rattle.wb_names_rules.proofs.sites.tree_of.Goals as goal

pub returns-in-Child : goal.returns-in-Child
returns-in-Child c =
    IfOk-weaker c.nonterminal_named.result
    (λ (o : Option (Bor (List ℕ))). IsNonterminalNamed c.args.index.now c.in-Child.name (option_map (λ (x : Bor (List ℕ)). x.now) o))
    (λ (o : Option (Bor (List ℕ))). IsTreeOf c.args.index.now c.args.is.now (option_map (λ (x : Bor (List ℕ)). x.now) o))
    (λ o only. subst (λ (z : Labelled). IsTreeOf c.args.index.now z (option_map (λ (x : Bor (List ℕ)). x.now) o)) (sym c.in-Child.is)
    (child_tree c.args.index.now c.in-Child.name (option_map (λ (x : Bor (List ℕ)). x.now) o) only)) c.nonterminal_named.ensures

pub returns-in-Local : goal.returns-in-Local
returns-in-Local c =
    IfOk-weaker c.nonterminal_named-in-Local.result
    (λ (o : Option (Bor (List ℕ))). IsNonterminalNamed c.args.index.now c.in-Local.name (option_map (λ (x : Bor (List ℕ)). x.now) o))
    (λ (o : Option (Bor (List ℕ))). IsTreeOf c.args.index.now c.args.is.now (option_map (λ (x : Bor (List ℕ)). x.now) o))
    (λ o only. subst (λ (z : Labelled). IsTreeOf c.args.index.now z (option_map (λ (x : Bor (List ℕ)). x.now) o)) (sym c.in-Local.is)
    (local_tree c.args.index.now c.in-Local.name (option_map (λ (x : Bor (List ℕ)). x.now) o) only)) c.nonterminal_named-in-Local.ensures

use Rattle.std.proofs.Common.{ℕ, List, Option}
use Rattle.std.specs.Option.{option_map}
use Rattle.std.proofs.lemmas.Result.{IfOk-weaker}
use denote.Bor.{Bor}
use Rattle.wb_names_theory.specs.declared.declaration.Sort.TheVariants.{Nonterminal}
use Rattle.wb_names_theory.specs.Meaning.{HasLeft, IsSymbol}
use Rattle.wb_names_rules.specs.Inner.Reads.{IsNonterminalNamed, IsTopOf}
use Rattle.wb_names_rules.proofs.SiteLemmas.{only_both}
use Rattle.wb_names_rules.proofs.sites.top_of.Goals as goal

pub returns-in-None : goal.returns-in-None
returns-in-None c = let none = rw c.in-None.is at c.in_ok-left_of.ensures in λ n has. none n has.0

pub returns-in-Some : goal.returns-in-Some
returns-in-Some c =
    let only = rw c.in-Some.is at c.in_ok-left_of.ensures in
    IfOk-weaker c.nonterminal_named.result
    (λ (o : Option (Bor (List ℕ))). IsNonterminalNamed c.args.index.now c.in-Some.left.now (option_map (λ (x : Bor (List ℕ)). x.now) o))
    (λ (o : Option (Bor (List ℕ))). IsTopOf c.args.index.now c.args.production.now (option_map (λ (x : Bor (List ℕ)). x.now) o))
    (λ o both. only_both (HasLeft c.args.index.now c.args.production.now) (λ (n : List ℕ). IsSymbol c.args.index.now n Nonterminal)
    c.in-Some.left.now (option_map (λ (x : Bor (List ℕ)). x.now) o) only both) c.nonterminal_named.ensures

use Rattle.std.proofs.Common.{ℕ, List, Option, sym, subst}
use Rattle.std.specs.Option.{option_map}
use Rattle.std.proofs.lemmas.Result.{IfOk-weaker}
use denote.Bor.{Bor}
use Rattle.wb_names_theory.specs.declared.declaration.Site.{Site}
use Rattle.wb_names_rules.specs.Inner.Reads.{IsTopOf, IsLabelTreeOf, IsSiteOf}
use Rattle.wb_names_rules.proofs.sites.site_of.Goals as goal

pub returns-in-Top : goal.returns-in-Top
returns-in-Top c =
    IfOk-weaker c.top_of.result
    (λ (o : Option (Bor (List ℕ))). IsTopOf c.args.index.now c.args.production.now (option_map (λ (x : Bor (List ℕ)). x.now) o))
    (λ (o : Option (Bor (List ℕ))). IsSiteOf c.args.index.now c.args.production.now c.args.site.now (option_map (λ (x : Bor (List ℕ)). x.now) o))
    (λ o only. subst (λ (z : Site). IsSiteOf c.args.index.now c.args.production.now z (option_map (λ (x : Bor (List ℕ)). x.now) o))
    (sym c.in-Top.is) only) c.top_of.ensures

pub returns-in-Forward : goal.returns-in-Forward
returns-in-Forward c =
    IfOk-weaker c.top_of-in-Forward.result
    (λ (o : Option (Bor (List ℕ))). IsTopOf c.args.index.now c.args.production.now (option_map (λ (x : Bor (List ℕ)). x.now) o))
    (λ (o : Option (Bor (List ℕ))). IsSiteOf c.args.index.now c.args.production.now c.args.site.now (option_map (λ (x : Bor (List ℕ)). x.now) o))
    (λ o only. subst (λ (z : Site). IsSiteOf c.args.index.now c.args.production.now z (option_map (λ (x : Bor (List ℕ)). x.now) o))
    (sym c.in-Forward.is) only) c.top_of-in-Forward.ensures

pub returns-in-Label : goal.returns-in-Label
returns-in-Label c =
    IfOk-weaker c.label_tree_of.result
    (λ (o : Option (Bor (List ℕ))). IsLabelTreeOf c.args.index.now c.args.production.now c.as_slice.result.now (option_map (λ (x : Bor (List ℕ)). x.now) o))
    (λ (o : Option (Bor (List ℕ))). IsSiteOf c.args.index.now c.args.production.now c.args.site.now (option_map (λ (x : Bor (List ℕ)). x.now) o))
    (λ o only. subst (λ (z : Site). IsSiteOf c.args.index.now c.args.production.now z (option_map (λ (x : Bor (List ℕ)). x.now) o))
    (sym c.in-Label.is) (subst (λ (l : List ℕ). IsLabelTreeOf c.args.index.now c.args.production.now l (option_map (λ (x : Bor (List ℕ)). x.now) o))
    c.as_slice.ensures only)) c.label_tree_of.ensures

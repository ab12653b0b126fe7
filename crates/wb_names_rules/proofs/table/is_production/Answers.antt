use Rattle.std.proofs.Common.{◌≡◌, ◌∷◌, ℕ, List, subst, ◌∙◌}
use Rattle.std.specs.Prelude.{Contains}
use Rattle.wb_names_rules.specs.Indexed.{IsKept}
use Rattle.wb_names_rules.proofs.SymbolLemmas.{production_none, production_found}
use Rattle.wb_names_rules.proofs.table.is_production.Goals as goal

pub returns-in-None : goal.returns-in-None
returns-in-None c =
    let key : c.deref.result.now ≡ 0 ∷ c.args.name.now = c.deref.ensures.value ∙ c.in_ok-key.ensures in
    let absent = subst (λ (k : List ℕ). ¬ Contains c.args.table.now.keys k) key c.in-None.ensures.none in (
      λ e. absurd (cc),
      λ is. absurd (production_none c.args.declarations.now c.args.table.now.keys c.args.table.now.places.items c.args.name.now c.requires absent is),
    )

pub returns : goal.returns
returns c =
    let key : c.deref.result.now ≡ 0 ∷ c.args.name.now = c.deref.ensures.value ∙ c.in_ok-key.ensures in
    let kept = subst (λ (k : List ℕ). IsKept c.args.table.now.keys c.args.table.now.places.items k c.in-Some.place) key c.in-Some.ensures.found in
    let exact = production_found c.args.declarations.now c.args.table.now.keys c.args.table.now.places.items c.args.name.now c.in-Some.place
    c.requires kept in
    (λ holds. exact.0 (c.is_production_at.ensures.0 holds), λ is. c.is_production_at.ensures.1 (exact.1 is))

use Rattle.std.proofs.Common.{refl, sym, true≢false}
use Rattle.wb_names_rules.proofs.SymbolLemmas.{is_production_there, other_sort_there, other_there, nothing_there}
use Rattle.wb_names_rules.proofs.table.is_production_at.Goals as goal

pub returns-then-place-declarations : goal.returns-then-place-declarations
returns-then-place-declarations c = (
  (λ bad. absurd (true≢false (sym bad))),
  (λ is. absurd (nothing_there c.args.declarations.now c.args.place c.if-place-declarations.true is)),
)

pub returns-in-Production : goal.returns-in-Production
returns-in-Production c = (
  (λ yes. is_production_there c.args.declarations.now c.args.place c.index-declarations-place.result c.if-place-declarations.false
      c.index-declarations-place.is c.in-Symbol.name c.in-Symbol.sort c.in-Symbol.is c.in-Production.is),
  (λ is. refl),
)

pub returns-in_default-sort : goal.returns-in_default-sort
returns-in_default-sort c = (
  (λ bad. absurd (true≢false (sym bad))),
  (λ is. absurd (other_sort_there c.args.declarations.now c.args.place c.index-declarations-place.result c.if-place-declarations.false
      c.index-declarations-place.is c.in-Symbol.name c.in-Symbol.sort c.in-Symbol.is c.in_default-sort.not-Production is)),
)

pub returns-in_default : goal.returns-in_default
returns-in_default c = (
  (λ bad. absurd (true≢false (sym bad))),
  (λ is. absurd (other_there c.args.declarations.now c.args.place c.index-declarations-place.result c.if-place-declarations.false
      c.index-declarations-place.is c.in_default.not-Symbol is)),
)

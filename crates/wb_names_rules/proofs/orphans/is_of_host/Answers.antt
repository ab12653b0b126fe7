use Rattle.std.proofs.Common.{Bool, take}
use Rattle.std.specs.Prelude.{IsTrue, ◌↔◌}
use Rattle.std.proofs.lemmas.Result.{IfOk-weaker}
use Rattle.wb_lemmas.proofs.Members.{contains_take}
use Rattle.wb_names_theory.specs.declared.declaration.Declaration.TheVariants as d
use Rattle.wb_names_theory.specs.declared.declaration.Sort.TheVariants as sort
use Rattle.wb_names_theory.specs.Meaning.{IsSymbol}
use Rattle.wb_names_theory.specs.Orphan.{IsOfHost}
use Rattle.wb_names_rules.proofs.OwnerLemmas.{not_of_host, of_host_test}
use Rattle.wb_names_rules.proofs.orphans.is_of_host.Goals as goal

pub returns-in-None : goal.returns-in-None
returns-in-None c =
    let none = rw c.in-None.is at c.in_ok-symbol.ensures.none in
    (λ e. absurd (cc), λ has. absurd (none sort.Production (contains_take c.args.index.now c.args.from (d.Symbol c.args.name.now sort.Production) has)))

pub returns-then-place-from : goal.returns-then-place-from
returns-then-place-from c =
    let (is, at) = rw c.in-Some.is at c.in_ok-symbol.ensures.found in (
      λ e. absurd (cc),
      λ has. absurd (not_of_host c.args.index.now c.args.from c.in_ok-symbol.ensures.once c.in-Some.place c.args.name.now is at
          c.if-place-from.true has),
    )

pub returns-else-place-from : goal.returns-else-place-from
returns-else-place-from c =
    let (is, at) = rw c.in-Some.is at c.in_ok-symbol.ensures.found in
    IfOk-weaker c.is_production.result (λ (b : Bool). IsTrue b ↔ IsSymbol c.args.index.now c.args.name.now sort.Production)
    (λ (b : Bool). IsTrue b ↔ IsOfHost (take c.args.from c.args.index.now) c.args.name.now)
    (λ b test. of_host_test c.args.index.now c.args.from c.in_ok-symbol.ensures.once c.in-Some.place c.args.name.now is at b c.if-place-from.false test)
    c.is_production.ensures

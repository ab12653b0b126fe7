use Rattle.std.proofs.Common.{ℕ, List, take, drop, sym, subst, refl, inl, inr}
use Rattle.wb_lemmas.proofs.Members.{contains_take}
use Rattle.wb_names_theory.specs.declared.declaration.Declaration.TheVariants as d
use Rattle.wb_names_theory.specs.declared.declaration.Sort.TheVariants as sort
use Rattle.wb_names_theory.specs.Meaning.{IsSymbol}
use Rattle.wb_names_theory.specs.Orphan.{IsOfHost, IsOwnOccurrence}
use Rattle.wb_names_rules.specs.Inner.Owners.{IsForeignEquation}
use Rattle.wb_names_rules.proofs.ReadLemmas.{fails_when}
use Rattle.wb_names_rules.proofs.OwnerLemmas.{orphan_if}
use Rattle.wb_names_rules.proofs.orphans.check_equation.Goals as goal

pub returns-then-not-branch-clause-ok : goal.returns-then-not-branch-clause-ok
returns-then-not-branch-clause-ok c =
    let not = rw c.as_slice.ensures at (fails_when _ c.if-not-branch.true c.in_ok-is_of_host.ensures) in
    λ host. absurd (not host)

pub is_own_local-requires : goal.is_own_local-requires
is_own_local-requires c =
    contains_take c.args.index.now c.args.from (d.Symbol c.args.production.now sort.Production)
    (rw c.as_slice.ensures at (c.in_ok-is_of_host.ensures.0 c.if-not-branch.false))

pub returns-then-branch-clause-ok : goal.returns-then-branch-clause-ok
returns-then-branch-clause-ok c = λ host n has. inr (c.in_ok-is_own_local.ensures.0 c.if-branch.true)

pub site_of-requires : goal.site_of-requires
site_of-requires c =
    subst (λ (p : List ℕ). IsSymbol c.args.index.now p sort.Production) (sym c.as_slice-2.ensures)
    (contains_take c.args.index.now c.args.from (d.Symbol c.args.production.now sort.Production)
    (rw c.as_slice.ensures at (c.in_ok-is_of_host.ensures.0 c.if-not-branch.false)))

pub returns-in-None-clause-ok : goal.returns-in-None-clause-ok
returns-in-None-clause-ok c =
    let none = rw c.as_slice-2.ensures at (rw c.in-None.is at c.in_ok-site_of.ensures) in
    λ host n has. absurd (none n has)

pub returns-then-branch-2-clause-ok : goal.returns-then-branch-2-clause-ok
returns-then-branch-2-clause-ok c =
    let only = rw c.as_slice-2.ensures at (rw c.in-Some.is at c.in_ok-site_of.ensures) in
    λ host n has. inl (subst (λ (z : List ℕ). IsOwnOccurrence (drop c.args.from c.args.index.now) c.args.attribute.now z)
    (sym ((only n).0 has)) (c.in_ok-is_own_occurrence-in-Some.ensures.0 c.if-branch-2.true))

pub returns-else-branch-2-clause-refused : goal.returns-else-branch-2-clause-refused
returns-else-branch-2-clause-refused c =
    let only = rw c.as_slice-2.ensures at (rw c.in-Some.is at c.in_ok-site_of.ensures) in
    orphan_if (IsForeignEquation c.args.index.now c.args.from c.args.production.now c.args.attribute.now c.args.site.now)
    c.args.attribute.now
    c.orphan.result (record {
      of_host = subst (λ (p : List ℕ). IsOfHost (take c.args.from c.args.index.now) p) c.as_slice.ensures
          (c.in_ok-is_of_host.ensures.0 c.if-not-branch.false);
      nonterminal = c.in-Some.nonterminal.now;
      there = (only c.in-Some.nonterminal.now).1 refl;
      no_occurrence = fails_when _ c.if-branch-2.false c.in_ok-is_own_occurrence-in-Some.ensures;
      no_local = fails_when _ c.if-branch.false c.in_ok-is_own_local.ensures;
    }) c.orphan.ensures

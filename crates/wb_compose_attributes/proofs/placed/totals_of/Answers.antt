use Rattle.std.proofs.Common.{◌∙◌, ap}
use Rattle.std.proofs.lemmas.List.{take_all}
use Rattle.wb_compose_attributes.specs.declared.placed.Counts.{Counts}
use Rattle.wb_compose_attributes.specs.Inner.Counted as s
use Rattle.wb_compose_attributes.specs.Inner.Counted.{size_by, sums_in, totals_in}
use Rattle.wb_compose_attributes.proofs.NumberedLemmas.{total_next}
use Rattle.wb_compose_attributes.proofs.placed.totals_of.Goals as goal

pub additions-preserved : goal.additions-preserved
additions-preserved c =
    let xs = c.args.additions.now in
    let i = c.additions.addition-index in
    let x = c.addition-item.result in
    let old = c.additions.totals in
    let new = c.in_ok-totals.totals in
    let within = c.additions-test.true in
    let is = c.addition-item.is in
    let was = c.additions.invariant in
    let step = c.in_ok-totals.ensures ∙ ap (sums_in old) c.counts_of.ensures in
    λ j. record {
      terminals = total_next (size_by s.Terminals) xs i x old.terminals new.terminals within is
          (ap (λ (z : Counts). z.terminals) was) (ap (λ (z : Counts). z.terminals) step) j;
      nonterminals = total_next (size_by s.Nonterminals) xs i x old.nonterminals new.nonterminals within is
          (ap (λ (z : Counts). z.nonterminals) was) (ap (λ (z : Counts). z.nonterminals) step) j;
      abstract_nonterminals = total_next (size_by s.AbstractNonterminals) xs i x old.abstract_nonterminals new.abstract_nonterminals within
          is (ap (λ (z : Counts). z.abstract_nonterminals) was) (ap (λ (z : Counts). z.abstract_nonterminals) step) j;
      attributes = total_next (size_by s.Attributes) xs i x old.attributes new.attributes within is
          (ap (λ (z : Counts). z.attributes) was) (ap (λ (z : Counts). z.attributes) step) j;
      productions = total_next (size_by s.Productions) xs i x old.productions new.productions within is
          (ap (λ (z : Counts). z.productions) was) (ap (λ (z : Counts). z.productions) step) j;
      abstract_productions = total_next (size_by s.AbstractProductions) xs i x old.abstract_productions new.abstract_productions within is
          (ap (λ (z : Counts). z.abstract_productions) was) (ap (λ (z : Counts). z.abstract_productions) step) j;
    }

pub returns : goal.returns
returns c =
    c.additions.invariant ∙ ap totals_in (take_all c.additions.addition-index c.args.additions.now c.additions-test.false)

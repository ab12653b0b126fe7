use Rattle.std.proofs.Common.{◌∙◌, ◌++◌, length, subst, ap}
use Rattle.std.proofs.lemmas.List.{take_all}
use Rattle.std.specs.List.{flat_map}
use Rattle.wb_names_rows.proofs.ListLemmas.{flat_map_next}
use Rattle.wb_compose_attributes.specs.Inner.Filled.{Following}
use Rattle.wb_compose_attributes.specs.Inner.Gathered.{abstract_nonterminals_in, abstract_productions_in, host_productions, nonterminals_by}
use Rattle.wb_compose_attributes.specs.Inner.Gathered.{nonterminals_in, productions_in}
use Rattle.wb_compose_attributes.proofs.NumberedLemmas.{flat_none}
use Rattle.wb_compose_attributes.proofs.lists.add_following.Goals as goal

pub placed-init : goal.placed-init
placed-init c =
    let h = c.args.host.now in
    let n = h.numbers.now in
    let rows = h.rows.now in
    let xs = h.placed.now in
    let leading = length rows.productions.now in
    let nonterminals = nonterminals_by n rows.nonterminals.now ++ flat_map nonterminals_in xs
    ++ nonterminals_by n rows.abstract_nonterminals.now in
    let productions = host_productions n leading xs 0 rows.productions.now ++ flat_map productions_in xs
    ++ host_productions n leading xs leading rows.abstract_productions.now in
    let was = c.requires in
    record {
      extensions = was.extensions;
      nonterminals = c.in_ok-add_nonterminals.ensures ∙ (ap (λ z. z ++ nonterminals_by n rows.abstract_nonterminals.now) was.nonterminals
          ∙ flat_none abstract_nonterminals_in xs nonterminals);
      attributes = was.attributes;
      occurrences = was.occurrences;
      productions = c.in_ok-add_host.ensures
          ∙ (ap (λ z. z ++ host_productions n leading xs leading rows.abstract_productions.now) was.productions
          ∙ flat_none abstract_productions_in xs productions);
    }

pub placed-preserved : goal.placed-preserved
placed-preserved c =
    let h = c.args.host.now in
    let n = h.numbers.now in
    let rows = h.rows.now in
    let xs = h.placed.now in
    let i = c.placed.extension-index in
    let x = c.extension-item.result in
    let within = c.placed-test.true in
    let is = c.extension-item.is in
    let was = c.placed.invariant in
    let leading = length rows.productions.now in
    let nonterminals = nonterminals_by n rows.nonterminals.now ++ flat_map nonterminals_in xs
    ++ nonterminals_by n rows.abstract_nonterminals.now in
    let productions = host_productions n leading xs 0 rows.productions.now ++ flat_map productions_in xs
    ++ host_productions n leading xs leading rows.abstract_productions.now in
    record {
      extensions = was.extensions;
      nonterminals = flat_map_next abstract_nonterminals_in xs i x nonterminals c.placed.made.nonterminals.items
          c.add_nonterminals-in-placed.new.made.items was.nonterminals within is c.in_ok-add_nonterminals-2.ensures;
      attributes = was.attributes;
      occurrences = was.occurrences;
      productions = flat_map_next abstract_productions_in xs i x productions c.placed.made.productions.items
          c.add_own.new.made.items was.productions within is c.in_ok-add_own.ensures;
    }

pub returns : goal.returns
returns c =
    let h = c.args.host.now in
    subst (λ xs. Following h xs c.placed.made) (take_all c.placed.extension-index h.placed.now c.placed-test.false) c.placed.invariant

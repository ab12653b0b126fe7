use Rattle.std.proofs.Common.{◌∙◌, ◌++◌, length, subst, ap}
use Rattle.std.proofs.lemmas.List.{take_all}
use Rattle.wb_names_rows.proofs.ListLemmas.{flat_map_next}
use Rattle.wb_compose_attributes.specs.Inner.Filled.{Leading}
use Rattle.wb_compose_attributes.specs.Inner.Gathered.{attributes_by, attributes_in, host_productions, nonterminals_by, nonterminals_in}
use Rattle.wb_compose_attributes.specs.Inner.Gathered.{occurrences_by, occurrences_in, productions_in}
use Rattle.wb_compose_attributes.proofs.NumberedLemmas.{flat_none}
use Rattle.wb_compose_attributes.proofs.lists.add_leading.Goals as goal

pub placed-init : goal.placed-init
placed-init c =
    let h = c.args.host.now in
    let n = h.numbers.now in
    let rows = h.rows.now in
    let xs = h.placed.now in
    let added = c.in_ok-add_rows.ensures in
    let leading = length rows.productions.now in
    record {
      extensions = added.extensions ∙ c.requires.extensions;
      nonterminals = added.nonterminals ∙ (ap (λ z. z ++ nonterminals_by n rows.nonterminals.now) c.requires.nonterminals
          ∙ flat_none nonterminals_in xs (nonterminals_by n rows.nonterminals.now));
      attributes = added.attributes ∙ (ap (λ z. z ++ attributes_by n rows.attributes.now) c.requires.attributes
          ∙ flat_none attributes_in xs (attributes_by n rows.attributes.now));
      occurrences = added.occurrences ∙ (ap (λ z. z ++ occurrences_by n rows.occurrences.now) c.requires.occurrences
          ∙ flat_none occurrences_in xs (occurrences_by n rows.occurrences.now));
      productions = c.in_ok-add_host.ensures ∙ (ap (λ z. z ++ host_productions n leading xs 0 rows.productions.now)
          (added.productions ∙ c.requires.productions)
          ∙ flat_none productions_in xs (host_productions n leading xs 0 rows.productions.now));
    }

pub placed-preserved : goal.placed-preserved
placed-preserved c =
    let h = c.args.host.now in
    let n = h.numbers.now in
    let rows = h.rows.now in
    let xs = h.placed.now in
    let i = c.placed.extension-index in
    let x = c.extension-item.result in
    let within = c.placed-test.true in
    let is = c.extension-item.is in
    let was = c.placed.invariant in
    let added = c.in_ok-add_rows-2.ensures in
    let old = c.placed.made in
    let new = c.add_rows-in-placed.new.made in
    let leading = length rows.productions.now in
    record {
      extensions = added.extensions ∙ was.extensions;
      nonterminals = flat_map_next nonterminals_in xs i x (nonterminals_by n rows.nonterminals.now) old.nonterminals.items
          new.nonterminals.items was.nonterminals within is added.nonterminals;
      attributes = flat_map_next attributes_in xs i x (attributes_by n rows.attributes.now) old.attributes.items
          new.attributes.items was.attributes within is added.attributes;
      occurrences = flat_map_next occurrences_in xs i x (occurrences_by n rows.occurrences.now) old.occurrences.items
          new.occurrences.items was.occurrences within is added.occurrences;
      productions = flat_map_next productions_in xs i x (host_productions n leading xs 0 rows.productions.now) old.productions.items
          c.add_own.new.made.items was.productions within is
          (c.in_ok-add_own.ensures ∙ ap (λ z. z ++ productions_in x) added.productions);
    }

pub returns : goal.returns
returns c =
    let h = c.args.host.now in
    subst (λ xs. Leading h xs c.placed.made) (take_all c.placed.extension-index h.placed.now c.placed-test.false) c.placed.invariant

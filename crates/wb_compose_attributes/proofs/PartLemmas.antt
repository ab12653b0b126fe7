-- What is gathered by new numbers are the lists of the united attribution.
use Rattle.std.proofs.Common.{◌≡◌, ◌∙◌, List, map, sym}
use Rattle.wb_compose_theory_lists.specs.Additions as union
use Rattle.wb_compose_theory_lists.specs.United.{united_attribution}
use Rattle.wb_syntax_resolved.specs.Numbered.{signature_of}
use Rattle.wb_compose_attributes.specs.declared.addition.Addition.{Addition}
use Rattle.wb_compose_attributes.specs.declared.addition.Rows.{Rows}
use Rattle.wb_compose_attributes.specs.declared.placed.Placed.{Placed}
use Rattle.wb_compose_attributes.specs.Inner.Counted.{counts_in, placed_at}
use Rattle.wb_compose_attributes.specs.Inner.Gathered.{gathered, names_in}
use Rattle.wb_compose_attributes.specs.Lent.{addition_in, all_in, rows_in}
use Rattle.wb_compose_attributes.proofs.NumberedLemmas.{map_map, map_numbered}
use Rattle.wb_compose_attributes.proofs.ProductionLemmas.{productions_are}
use Rattle.wb_compose_attributes.proofs.UnitedLemmas.{attributes_are, nonterminals_are, occurrences_are, own_numbers, placed}
use Rattle.std.proofs.Common.{refl}

module _ (host : Rows) (adds : List Addition) where
  names_are : names_in (placed host adds) ≡ map (λ (x : union.Addition). x.name) (all_in host adds)
  names_are = map_numbered (λ (y : Placed). y.addition.name.now) (placed_at (counts_in host) adds) (λ (x : Addition). x.name.now)
      (λ k x. refl) 0 adds ∙ sym (map_map (λ (x : union.Addition). x.name) (addition_in host) adds)

  pub gathered_are : gathered (own_numbers host adds) host (placed host adds) ≡ united_attribution (rows_in host) (all_in host adds)
  gathered_are = λ j. record {
    extensions = names_are j;
    nonterminals = nonterminals_are host adds j;
    attributes = attributes_are host adds j;
    occurrences = occurrences_are host adds j;
    productions = productions_are host adds j;
    signatures = map (signature_of (names_are j)) (productions_are host adds j);
  }

use Rattle.std.proofs.Common.{◌≡◌, ◌∙◌, IfOk, map, subst, sym}
use Rattle.wb_syntax_resolved.specs.Attribution.{IsAttribution}
use Rattle.wb_syntax_resolved.specs.declared.attribution.AttributionParts.{AttributionParts}
use Rattle.wb_syntax_resolved.specs.Numbered.{signature_of}
use Rattle.wb_compose_attributes.specs.declared.lists.Lists.{Lists}
use Rattle.wb_compose_attributes.specs.Inner.Filled.{parts_in}
use Rattle.wb_compose_attributes.proofs.union.attribution_of.Goals as goal

parts_are : (made : Lists) (parts : AttributionParts) → parts.extensions ≡ made.extensions.items →
    parts.nonterminals ≡ made.nonterminals.items → parts.attributes ≡ made.attributes.items →
    parts.occurrences ≡ made.occurrences.items → parts.productions ≡ made.productions.items →
    parts.signatures ≡ map (signature_of made.extensions.items) made.productions.items → parts ≡ parts_in made
parts_are made parts extensions nonterminals attributes occurrences productions signatures = λ j. record {
  extensions = extensions j;
  nonterminals = nonterminals j;
  attributes = attributes j;
  occurrences = occurrences j;
  productions = productions j;
  signatures = signatures j;
}

pub new-requires : goal.new-requires
new-requires c =
    let signatures = c.in_ok-signatures.ensures ∙ (λ j. map (signature_of (c.deref.ensures.value j)) (c.deref-2.ensures.value j)) in
    subst IsAttribution (sym (parts_are c.args.made _ c.from_vec.ensures c.from_vec-2.ensures c.from_vec-3.ensures c.from_vec-4.ensures
    c.from_vec-5.ensures signatures)) c.requires

pub returns : goal.returns
returns c =
    let signatures = c.in_ok-signatures.ensures ∙ (λ j. map (signature_of (c.deref.ensures.value j)) (c.deref-2.ensures.value j)) in
    subst (λ z. IfOk c.new.result (λ made. made ≡ z)) (parts_are c.args.made _ c.from_vec.ensures c.from_vec-2.ensures
    c.from_vec-3.ensures c.from_vec-4.ensures c.from_vec-5.ensures signatures) c.new.ensures

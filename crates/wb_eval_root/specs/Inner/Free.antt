-- Which occurrences are of an attribute that may be asked by its name.
use Rattle.std.specs.Prelude.{◌≡◌, ℕ, List, [], Contains}
use Rattle.wb_flow_theory.specs.Occurrences.{Goes}
use Rattle.wb_syntax_resolved.specs.declared.attributes.Direction.TheVariants.{Synthesized}
use Rattle.wb_syntax_resolved.specs.declared.attributes.Occurrence.{Occurrence}
use Rattle.wb_syntax_resolved.specs.declared.attribution.AttributionParts.{AttributionParts}
use Rattle.wb_eval_root.specs.Asked.{IsPrintedAs}

module _ (a : AttributionParts) (name : List ℕ) where
  -- the attribute is synthesized and printed so
  pub record IsUpAs (attribute : ℕ) : Type 0 where
    pub goes : Goes a Synthesized attribute
    pub named : IsPrintedAs a name attribute

  -- the occurrence is of such an attribute, on this nonterminal, and needs nothing
  pub record IsFree (nonterminal : ℕ) (o : Occurrence) : Type 0 where
    pub on : o.nonterminal ≡ nonterminal
    pub needs : o.needs ≡ []
    pub up : IsUpAs o.attribute

  -- an occurrence of the attribute is one of these
  pub record IsFreeOn (nonterminal attribute : ℕ) : Type 0 where
    pub occurrence : Occurrence
    pub listed : Contains a.occurrences occurrence
    pub is_free : IsFree nonterminal occurrence
    pub its : attribute ≡ occurrence.attribute

  -- no occurrence is one of these
  abbrev pub HasNoneFree : ℕ → Type 0
  HasNoneFree nonterminal = (o : Occurrence) → Contains a.occurrences o → ¬ IsFree nonterminal o

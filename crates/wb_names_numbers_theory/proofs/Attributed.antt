-- The attribution of a file whose names are right is one.
use Rattle.std.proofs.Common.{◌≡◌, ◌⊎◌, inl, inr, ℕ, List, Some}
use Rattle.std.proofs.Common.{Contains, All, map, slice_get, ap, sym, refl, subst, ◌∙◌}
use Rattle.wb_base.specs.Different.{Differ}
use Rattle.wb_base.specs.Identifiers.{IsName}
use Rattle.wb_syntax_resolved.specs.declared.attributes.Attribute.{Attribute}
use Rattle.wb_syntax_resolved.specs.declared.attributes.Nonterminal.{Nonterminal}
use Rattle.wb_syntax_resolved.specs.declared.attribution.AttributionParts.{AttributionParts}
use Rattle.wb_syntax_resolved.specs.declared.production.Production.{Production}
use Rattle.wb_syntax_resolved.specs.declared.production.ProductionRole.TheVariants.{Concrete}
use Rattle.wb_syntax_resolved.specs.declared.resolved.ResolvedParts.{ResolvedParts}
use Rattle.wb_syntax_resolved.specs.declared.terminal.Terminal.{Terminal}
use Rattle.wb_syntax_resolved.specs.Attribution.{IsAttribution}
use Rattle.wb_syntax_resolved.specs.Named.{IsNamed, IsNamedAttribute, IsNamedOccurrence}
use Rattle.wb_syntax_resolved.specs.Numbered.{IsNumbered, signature_of}
use Rattle.wb_syntax_resolved.specs.Once.{IsOnce, symbol_names}
use Rattle.wb_names_theory.specs.Declarations.{LexicalDeclaration, AttributeDeclaration, ProductionDeclaration}
use Rattle.wb_names_theory.specs.Declarations.{attributes, occurrences, nonterminals, productions}
use Rattle.wb_names_theory.specs.Hold.{NamesHold}
use Rattle.wb_names_theory.specs.NamesOk.{scope_of}
use Rattle.wb_names_numbers_theory.specs.Files.{File}
use Rattle.wb_names_numbers_theory.specs.Given.{IsFile}
use Rattle.wb_names_numbers_theory.specs.Numbering.{Numbering, numbering_of}
use Rattle.wb_names_numbers_theory.specs.Resolves.{Resolves, IsNonterminal, IsAttribute, IsOccurrence, IsProduction}
use Rattle.wb_names_numbers_theory.specs.Resolves.{IsInGrammarOf, IsConcrete}
use Rattle.wb_names_numbers_theory.specs.Sources.{sources}
use Rattle.wb_names_numbers_theory.proofs.Distinct.{distinct}
use Rattle.wb_names_numbers_theory.proofs.EquationsOwned.{owned_equations}
use Rattle.wb_names_numbers_theory.proofs.Ground.{Ground, hosts}
use Rattle.wb_names_numbers_theory.proofs.Grouped.{rising_sources, is_grouped, goes_by_owner}
use Rattle.wb_names_numbers_theory.proofs.NumberLemmas.{differ_right}
use Rattle.wb_names_numbers_theory.proofs.OccurrencesOnce.{occurs_once}
use Rattle.wb_names_numbers_theory.proofs.OpenOwned.{open_occurrences}
use Rattle.wb_names_numbers_theory.proofs.OwnNamed.{Known}
use Rattle.wb_names_numbers_theory.proofs.ProductionsNamed.{children_scanned, all_named, all_once}
use Rattle.wb_names_numbers_theory.proofs.RowLemmas.{all_zipped, source_of}
use Rattle.wb_names_numbers_theory.proofs.RowsNamed.{IsOwners, named_nonterminal, named_attribute, named_occurrence}
use Rattle.wb_names_numbers_theory.proofs.RowsOwned.{owned_occurrences}

-- what is known where the names of a file are right
pub known : (file : File) (r : ResolvedParts) → IsFile file → (format : ℕ) → NamesHold (scope_of file.base file.owner format file.items)
    → Resolves file r → Known file r
known file r is format hold resolves =
    let ground : Ground file r = record {
      resolves = resolves;
      distinct = distinct file r resolves hold.once;
      base = is.base;
      alone = is.alone;
      host = hosts file.base is.base is.alone;
    } in
    record {
      ground = ground;
      format = format;
      hold = hold;
      scanned = children_scanned file format hold;
      names = is.names;
      whole = is.whole;
    }

-- the owner of what a row comes from
abbrev pub terminal_owner : ℕ → Terminal ⊎ LexicalDeclaration → ℕ
terminal_owner owner (inl x) = x.owner
terminal_owner owner (inr x) = owner

abbrev pub nonterminal_owner : ℕ → Nonterminal ⊎ List ℕ → ℕ
nonterminal_owner owner (inl x) = x.owner
nonterminal_owner owner (inr x) = owner

abbrev pub attribute_owner : ℕ → Attribute ⊎ AttributeDeclaration → ℕ
attribute_owner owner (inl x) = x.owner
attribute_owner owner (inr x) = owner

abbrev pub production_owner : ℕ → Production ⊎ ProductionDeclaration → ℕ
production_owner owner (inl x) = x.owner
production_owner owner (inr x) = owner

module _ (file : File) (r : ResolvedParts) (given : IsFile file) (k : Known file r) where
  abbrev n : Numbering
  n = numbering_of r

  abbrev a : AttributionParts
  a = r.attributes

  abbrev b : AttributionParts
  b = file.base.attributes

  abbrev ground : Ground file r
  ground = k.ground

  pub owners : IsOwners file
  owners = record { owner = given.owner }

  all_names : IsNamed a
  all_names = record {
    extensions = subst (All IsName) (sym ground.resolves.extensions) given.extensions;
    nonterminals = λ number row at.
        let s = source_of (IsInGrammarOf file) (IsNonterminal file n) (sources b.nonterminals (nonterminals file.items)) a.nonterminals
        ground.resolves.nonterminals number row at in
        named_nonterminal file r k owners number row at s.source s.listed s.is_row;
    attributes = all_zipped (IsAttribute file n) (IsNamedAttribute a) (sources b.attributes (attributes file.items)) a.attributes
        ground.resolves.attributes
        (named_attribute file r k owners);
    occurrences = all_zipped (IsOccurrence file n) (IsNamedOccurrence a) (sources b.occurrences (occurrences file.items)) a.occurrences
        ground.resolves.occurrences
        (named_occurrence file r k owners);
    productions = all_named file r k owners;
  }

  once : IsOnce a
  once = record {
    extensions = subst Differ (sym ground.resolves.extensions) given.differ;
    symbols = differ_right n.terminals (symbol_names a) ground.distinct.symbols;
    attributes = ground.distinct.attributes;
    occurrences = occurs_once file r ground k.hold.once;
    productions = all_once file r k owners;
  }

  -- numbering
  pub production_leads : (j : ℕ) (x : Production ⊎ ProductionDeclaration) (row : Production)
      → Contains (sources b.productions (productions file.items)) x → slice_get a.productions j ≡ Some row → IsProduction file n x row
      → (row.role ≡ Concrete → IsConcrete x) × (IsConcrete x → row.role ≡ Concrete)
  production_leads j (inl p) row has at e = (λ q. sym e.role ∙ q, λ q. e.role ∙ q)
  production_leads j (inr x) row has at e = (λ q. sym e.role ∙ q, λ q. e.role ∙ q)

  owner_of_production : (x : Production ⊎ ProductionDeclaration) (row : Production)
      → Contains (sources b.productions (productions file.items)) x
      → IsProduction file n x row → row.owner ≡ production_owner file.owner x
  owner_of_production (inl p) row has e = e.owner_is
  owner_of_production (inr x) row has e = e.owner_is

  owner_of_attribute : (x : Attribute ⊎ AttributeDeclaration) (row : Attribute) → Contains (sources b.attributes (attributes file.items)) x
      → IsAttribute file n x row → row.owner ≡ attribute_owner file.owner x
  owner_of_attribute (inl p) row has e = e.owner
  owner_of_attribute (inr x) row has e = e.owner_is

  numbered : IsNumbered a
  numbered = record {
    signatures = ground.resolves.signatures ∙ ap (λ z. map (signature_of z) a.productions) (sym ground.resolves.extensions);
    productions = is_grouped IsConcrete (IsProduction file n) (sources b.productions (productions file.items)) a.productions
        ground.resolves.productions (production_owner file.owner) (λ (y : Production). y.owner) (λ j y. y.role ≡ Concrete)
        (rising_sources (production_owner file.owner) file.owner b.productions (productions file.items) ground.host.productions (λ y. refl))
        owner_of_production production_leads;
    attributes = goes_by_owner (IsAttribute file n) (sources b.attributes (attributes file.items)) a.attributes ground.resolves.attributes
        (attribute_owner file.owner) (λ (y : Attribute). y.owner)
        (rising_sources (attribute_owner file.owner) file.owner b.attributes (attributes file.items) ground.host.attributes (λ y. refl))
        owner_of_attribute;
  }

  pub attribution : IsAttribution a
  attribution = record {
    named = all_names;
    owned = record { occurrences = owned_occurrences file r k; open_to = open_occurrences file r k; equations = owned_equations file r k };
    once = once;
    numbered = numbered;
  }

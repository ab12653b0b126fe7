-- N1: each name is declared where its place asks for it. When that fails, and with which name.
use Rattle.std.specs.Prelude.{ℕ, List, Contains}
use Rattle.wb_names_theory.specs.declared.declaration.Declaration.{Declaration}
use Rattle.wb_names_theory.specs.declared.declaration.Labelled.{Labelled}
use Rattle.wb_names_theory.specs.declared.declaration.Site.{Site}
use Rattle.wb_names_theory.specs.declared.declaration.Site.TheVariants as site
use Rattle.wb_names_theory.specs.declared.declaration.Sort.TheVariants as sort
use Rattle.wb_names_theory.specs.declared.usage.LabelWanted.{LabelWanted}
use Rattle.wb_names_theory.specs.declared.usage.Usage.{Usage}
use Rattle.wb_names_theory.specs.declared.usage.Usage.TheVariants as u
use Rattle.wb_names_theory.specs.declared.usage.Wanted.{Wanted}
use Rattle.wb_names_theory.specs.Meaning.{IsSymbol, IsDeclared, Occurs, HasLabel, HasSite, Forwards}

module _ (declared : List Declaration) (used : List Usage) where
  -- an equation on a declared production uses the label, in a place that asks for this
  pub record UsesLabel (production l : List ℕ) (wanted : LabelWanted) : Type 0 where
    pub written : Contains used (u.Label production l wanted)
    pub there : IsSymbol declared production sort.Production

  -- an equation on a declared production gives or reads the attribute of the tree at this site
  pub record UsesAttribute (production attribute : List ℕ) (at : Site) : Type 0 where
    pub written : Contains used (u.Attribute production attribute at)
    pub there : IsSymbol declared production sort.Production

  -- a flow type on a declared nonterminal has the attribute
  pub record UsesNeeds (attribute nonterminal : List ℕ) : Type 0 where
    pub written : Contains used (u.Needs attribute nonterminal)
    pub there : IsSymbol declared nonterminal sort.Nonterminal

  -- this name shows that something isn't declared where its place asks for it
  pub data FailsUnknown (name : List ℕ) : Type 0 where
    -- the name space doesn't have the name
    undeclared : {wanted : Wanted} → Contains used (u.Name name wanted) → ¬ IsDeclared declared wanted name → FailsUnknown name
    -- the production doesn't have the label
    label : {production : List ℕ} {wanted : LabelWanted} → UsesLabel production name wanted
        → ((is : Labelled) → ¬ HasLabel declared production name is) → FailsUnknown name
    -- the attribute doesn't occur on the nonterminal of the tree
    elsewhere : {production nonterminal : List ℕ} {at : Site} → UsesAttribute production name at
        → HasSite declared production at nonterminal → ¬ Occurs declared name nonterminal → FailsUnknown name
    -- the production doesn't forward, and an attribute of the forwarded tree is given or read
    no_forward : {production : List ℕ} → UsesAttribute production name site.Forward → ¬ Forwards declared production → FailsUnknown name
    -- the attribute doesn't occur on the nonterminal of the flow type
    needs : {nonterminal : List ℕ} → UsesNeeds name nonterminal → ¬ Occurs declared name nonterminal → FailsUnknown name

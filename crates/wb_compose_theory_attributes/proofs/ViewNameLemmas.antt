-- The names of a view, and of a production in it, come from those of the attribution.
use Rattle.std.proofs.Common.{◌≡◌, ◌∙◌, ℕ, Some, map, slice_get, refl}
use Rattle.std.proofs.Common.{sym, ap, subst}
use Rattle.wb_lemmas.proofs.Elements.{all_at}
use Rattle.wb_syntax_resolved.specs.declared.attributes.Attribute.{Attribute}
use Rattle.wb_syntax_resolved.specs.declared.attributes.Nonterminal.{Nonterminal}
use Rattle.wb_syntax_resolved.specs.declared.attribution.AttributionParts.{AttributionParts}
use Rattle.wb_syntax_resolved.specs.declared.production.Child.{Child}
use Rattle.wb_syntax_resolved.specs.declared.production.Local.{Local}
use Rattle.wb_syntax_resolved.specs.declared.production.Production.{Production}
use Rattle.wb_syntax_resolved.specs.Named.{IsNamedLocal, IsNamedAttribute}
use Rattle.wb_syntax_resolved.specs.Once.{Entry}
use Rattle.wb_syntax_resolved.specs.Owners.{Sees}
use Rattle.wb_compose_theory_attributes.specs.Rows.{new_child}
use Rattle.wb_compose_theory_attributes.specs.Seen.{IsSeenProduction}
use Rattle.wb_compose_theory_attributes.proofs.EntryLemmas.{row_of, entry_at, ComesBack}
use Rattle.wb_compose_theory_attributes.proofs.SeenLemmas.{child_there, mapped}
use Rattle.wb_compose_theory_attributes.proofs.UnionNamedLemmas.{row_named}
use Rattle.wb_compose_theory_attributes.proofs.ViewLemmas.{View, nonterminal_back, attribute_back, production_back, local_back}

-- the entry of a row
abbrev pub nonterminal_entry : Nonterminal → Entry
nonterminal_entry r = (r.owner, r.name)

abbrev pub attribute_entry : Attribute → Entry
attribute_entry r = (r.owner, r.name)

abbrev pub production_entry : Production → Entry
production_entry r = (r.owner, r.name)

abbrev pub local_entry : Local → Entry
local_entry l = (l.owner, l.label)

abbrev pub child_entry : ℕ → Child → Entry
child_entry owner c = (owner, c.label)

-- names in a view
module _ (a : AttributionParts) (k : ℕ) (v : View a k) where
  pub nonterminals_back : ComesBack a k v (map nonterminal_entry a.nonterminals) (map nonterminal_entry v.s.nonterminals) v.t.nonterminal
  nonterminals_back i owner name at sees =
      let (r, there, is) = row_of nonterminal_entry a.nonterminals i owner name at in
      let owner_is : r.owner ≡ owner = ap (λ (z : Entry). z.0) is in
      let name_is : r.name ≡ name = ap (λ (z : Entry). z.1) is in
      let (m, from, has, i_is, same) = nonterminal_back a k v i r there (subst (Sees k) (sym owner_is) sees) in
      record {
        number = m;
        from = from.owner;
        at = entry_at nonterminal_entry v.s.nonterminals m from has
            ∙ ap (λ z. Some (from.owner, z)) (ap (λ (z : Nonterminal). z.name) same ∙ name_is);
        is = i_is;
        owner_is = sym owner_is ∙ sym (ap (λ (z : Nonterminal). z.owner) same);
        within = (v.is.named.nonterminals m from has).owner;
      }

  pub attributes_back : ComesBack a k v (map attribute_entry a.attributes) (map attribute_entry v.s.attributes) v.t.attribute
  attributes_back i owner name at sees =
      let (r, there, is) = row_of attribute_entry a.attributes i owner name at in
      let owner_is : r.owner ≡ owner = ap (λ (z : Entry). z.0) is in
      let name_is : r.name ≡ name = ap (λ (z : Entry). z.1) is in
      let (x, from, has, i_is, same) = attribute_back a k v i r there (subst (Sees k) (sym owner_is) sees) in
      record {
        number = x;
        from = from.owner;
        at = entry_at attribute_entry v.s.attributes x from has
            ∙ ap (λ z. Some (from.owner, z)) (ap (λ (z : Attribute). z.name) same ∙ name_is);
        is = i_is;
        owner_is = sym owner_is ∙ sym (ap (λ (z : Attribute). z.owner) same);
        within = (all_at (IsNamedAttribute v.s) v.s.attributes x from v.is.named.attributes has).owner;
      }

  pub productions_back : ComesBack a k v (map production_entry a.productions) (map production_entry v.s.productions) v.t.production
  productions_back i owner name at sees =
      let (r, there, is) = row_of production_entry a.productions i owner name at in
      let owner_is : r.owner ≡ owner = ap (λ (z : Entry). z.0) is in
      let name_is : r.name ≡ name = ap (λ (z : Entry). z.1) is in
      let (p, row, has, i_is, same) = production_back a k v i r there (subst (Sees k) (sym owner_is) sees) in
      record {
        number = p;
        from = row.owner;
        at = entry_at production_entry v.s.productions p row has ∙ ap (λ z. Some (row.owner, z)) (sym same.name ∙ name_is);
        is = i_is;
        owner_is = sym owner_is ∙ same.owner;
        within = (row_named a k v p row has).owner;
      }

  module _ (p : ℕ) (row there : Production) (has : slice_get v.s.productions p ≡ Some row) (same : IsSeenProduction v.t k p row there) where
    pub children_back : ComesBack a k v (map (child_entry there.owner) there.children) (map (child_entry row.owner) row.children) (λ i. i)
    children_back i owner name at sees =
        let (c, has_c, is) = row_of (child_entry there.owner) there.children i owner name at in
        let owner_is : there.owner ≡ owner = ap (λ (z : Entry). z.0) is in
        let name_is : c.label ≡ name = ap (λ (z : Entry). z.1) is in
        let (from, has_from, equal) = mapped (new_child v.t) (slice_get row.children i) c (sym (child_there v.t k p row there same i)
        ∙ has_c) in
        record {
          number = i;
          from = row.owner;
          at = entry_at (child_entry row.owner) row.children i from has_from
              ∙ ap (λ z. Some (row.owner, z)) (ap (λ (z : Child). z.label) equal ∙ name_is);
          is = refl;
          owner_is = sym owner_is ∙ same.owner;
          within = (row_named a k v p row has).owner;
        }

    pub locals_back : ComesBack a k v (map local_entry there.locals) (map local_entry row.locals) (v.t.local_in p)
    locals_back i owner name at sees =
        let (l, has_l, is) = row_of local_entry there.locals i owner name at in
        let owner_is : l.owner ≡ owner = ap (λ (z : Entry). z.0) is in
        let name_is : l.label ≡ name = ap (λ (z : Entry). z.1) is in
        let (x, from, has_from, i_is, equal) = local_back a k v p row there same i l has_l (subst (Sees k) (sym owner_is) sees) in
        record {
          number = x;
          from = from.owner;
          at = entry_at local_entry row.locals x from has_from
              ∙ ap (λ z. Some (from.owner, z)) (ap (λ (z : Local). z.label) equal ∙ name_is);
          is = i_is;
          owner_is = sym owner_is ∙ sym (ap (λ (z : Local). z.owner) equal);
          within = (all_at (IsNamedLocal v.s row) row.locals x from (row_named a k v p row has).locals has_from).owner;
        }

-- What is seen in a resolved specification is seen in one that has it, in whose numbers it is given.
use Rattle.std.proofs.Common.{◌≡◌, inl, inr, ℕ, List, Option, Some, None, map, Contains, slice_get, ap, sym, refl, subst, ◌∙◌}
use Rattle.std.specs.Prelude.{option_map}
use Rattle.std.proofs.lemmas.Option.{slice_get-map}
use Rattle.wb_lemmas.proofs.Members.{contains_at, place_of}
use Rattle.wb_lemmas.proofs.Places.{at_once}
use Rattle.wb_lemmas.proofs.Zips.{zip_at}
use Rattle.wb_base.specs.declared.symbol.Kind.{Kind}
use Rattle.wb_base.specs.declared.symbol.Kind.TheVariants as kind
use Rattle.wb_syntax_resolved.specs.declared.attributes.Attribute.{Attribute}
use Rattle.wb_syntax_resolved.specs.declared.attributes.Direction.{Direction}
use Rattle.wb_syntax_resolved.specs.declared.attributes.Nonterminal.{Nonterminal}
use Rattle.wb_syntax_resolved.specs.declared.equation.Place.{Place}
use Rattle.wb_syntax_resolved.specs.declared.equation.Place.TheVariants as place
use Rattle.wb_syntax_resolved.specs.declared.production.Child.{Child}
use Rattle.wb_syntax_resolved.specs.declared.production.ChildKind.{ChildKind}
use Rattle.wb_syntax_resolved.specs.declared.production.ChildKind.TheVariants as child
use Rattle.wb_syntax_resolved.specs.declared.production.Local.{Local}
use Rattle.wb_syntax_resolved.specs.declared.production.Production.{Production}
use Rattle.wb_syntax_resolved.specs.declared.resolved.ResolvedParts.{ResolvedParts}
use Rattle.wb_syntax_resolved.specs.declared.terminal.Terminal.{Terminal}
use Rattle.wb_syntax_resolved.specs.Once.{Entry, NamesDiffer}
use Rattle.wb_syntax_resolved.specs.Owners.{Sees}
use Rattle.wb_syntax_resolved.specs.Visible.{SeesNonterminal, SeesProduction, SeesAttribute, SeesOccurrence, SeesKind, SeesPlace}
use Rattle.wb_syntax_resolved.specs.Visible.{owner_of_local}
use Rattle.wb_names_numbers_theory.specs.Numbering.{numbering_of, labels_in}
use Rattle.wb_names_numbers_theory.specs.Moved.{Move, IsMovedNumber, IsMovedKind, IsMovedChildKind, IsMovedChild, IsMovedPlace}
use Rattle.wb_names_numbers_theory.specs.Moved.{IsMovedLocal}
use Rattle.wb_names_numbers_theory.specs.Moved.{IsMovedNonterminal, IsMovedAttribute, IsMovedTerminal}
use Rattle.wb_names_numbers_theory.specs.Moved.{IsMovedNonterminalNumber, IsMovedTerminalNumber, IsMovedAttributeNumber}
use Rattle.wb_names_numbers_theory.specs.Moved.{IsMovedProductionNumber}
use Rattle.wb_names_numbers_theory.specs.Carried.{IsThere, IsCarriedProduction, IsCarried, move_between}
use Rattle.wb_names_numbers_theory.proofs.NumberLemmas.{one_moved}
use Rattle.wb_names_numbers_theory.proofs.OneRow.{AreDistinct, terminals_differ, nonterminals_differ, productions_differ}

-- whom the host and others see, also in other numbers
pub sees_moved : (f : ℕ → ℕ) → f 0 ≡ 0 → (owner other : ℕ) → Sees owner other → Sees (f owner) (f other)
sees_moved f host owner other (inl is) = inl (ap f is ∙ host)
sees_moved f host owner other (inr is) = inr (ap f is)

-- a row and its name at one place
pub record Row {X : Type 0} (entry : X → Entry) (rows : List X) (k owner : ℕ) (name : List ℕ) : Type 0 where
  pub row : X
  pub is : slice_get rows k ≡ Some row
  pub owner_is : (entry row).0 ≡ owner
  pub name_is : (entry row).1 ≡ name

-- the row whose name is at a place
pub row_at : {X : Type 0} (entry : X → Entry) (rows : List X) (k owner : ℕ) (name : List ℕ)
    → slice_get (map entry rows) k ≡ Some (owner, name) → Row entry rows k owner name
row_at {X} entry rows k owner name at = from (slice_get rows k) refl (sym (slice_get-map entry rows k) ∙ at) where
  from : (o : Option X) → slice_get rows k ≡ o → option_map entry (slice_get rows k) ≡ Some (owner, name)
      → Row entry rows k owner name
  from None is e = let no : option_map entry None ≡ Some (owner, name) = subst (λ o. option_map entry o ≡ Some (owner, name)) is e in absurd
      (cc no)
  from (Some x) is e =
      let some : option_map entry (Some x) ≡ Some (owner, name) = subst (λ o. option_map entry o ≡ Some (owner, name)) is e in
      let pair : entry x ≡ (owner, name) = cc in
      record { row = x; is = is; owner_is = ap (λ (p : Entry). p.0) pair; name_is = ap (λ (p : Entry). p.1) pair }

-- a name at the place of its row
pub name_at : {X : Type 0} (entry : X → Entry) (rows : List X) (k : ℕ) (row : X) → slice_get rows k ≡ Some row
    → slice_get (map entry rows) k ≡ Some (entry row)
name_at entry rows k row at = slice_get-map entry rows k ∙ ap (option_map entry) at

-- a row in other numbers, at a place
pub record RowThere {X : Type 0} (IsMoved : X → X → Type 0) (rows others : List X) (k j : ℕ) : Type 0 where
  pub row : X
  pub is : slice_get rows k ≡ Some row
  pub there : X
  pub is_there : slice_get others j ≡ Some there
  pub moved : IsMoved row there

-- where each row is there, the row of a moved number is
pub row_there : {X : Type 0} (entry : X → Entry) (IsMoved : X → X → Type 0) (f : ℕ → ℕ) (rows others : List X)
    → ((x y : X) → IsMoved x y → entry y ≡ (f (entry x).0, (entry x).1)) → NamesDiffer (map entry others)
    → ((x : X) → Contains rows x → IsThere IsMoved others x) → (k j : ℕ) → IsMovedNumber f (map entry rows) (map entry others) k j
    → RowThere IsMoved rows others k j
row_there entry IsMoved f rows others named differ each k j m =
    let before = row_at entry rows k m.owner m.name m.before in
    let after = row_at entry others j (f m.owner) m.name m.after in
    let there = each before.row (contains_at rows before.row k before.is) in
    let (i, at) = place_of others there.there there.listed in
    let same : entry there.there ≡ (f m.owner, m.name) =
    named before.row there.there there.moved ∙ λ h. (f (before.owner_is h), before.name_is h) in
    let place : i ≡ j = differ i j (f m.owner) (f m.owner) m.name (name_at entry others i there.there at ∙ ap Some same) m.after (inr refl)
    in
    record {
      row = before.row;
      is = before.is;
      there = there.there;
      is_there = subst (λ z. slice_get others z ≡ Some there.there) place at;
      moved = there.moved;
    }

module _ (f : ℕ → ℕ) (r s : ResolvedParts) (distinct : AreDistinct (numbering_of s)) (carried : IsCarried f r s) where
  abbrev m : Move
  m = move_between f r s

  nonterminal_there : (k j : ℕ) → IsMovedNonterminalNumber m k j
      → RowThere (IsMovedNonterminal m) r.attributes.nonterminals s.attributes.nonterminals k j
  nonterminal_there = row_there (λ (x : Nonterminal). (x.owner, x.name)) (IsMovedNonterminal m) f r.attributes.nonterminals
      s.attributes.nonterminals (λ x y e. λ h. (e.owner h, e.name h)) (nonterminals_differ (numbering_of s) distinct) carried.nonterminals

  attribute_there : (k j : ℕ) → IsMovedAttributeNumber m k j
      → RowThere (IsMovedAttribute m) r.attributes.attributes s.attributes.attributes k j
  attribute_there = row_there (λ (x : Attribute). (x.owner, x.name)) (IsMovedAttribute m) f r.attributes.attributes
      s.attributes.attributes (λ x y e. λ h. (e.owner h, e.name h)) distinct.attributes carried.attributes

  production_there : (k j : ℕ) → IsMovedProductionNumber m k j
      → RowThere (IsCarriedProduction m) r.attributes.productions s.attributes.productions k j
  production_there = row_there (λ (x : Production). (x.owner, x.name)) (IsCarriedProduction m) f r.attributes.productions
      s.attributes.productions (λ x y e. λ h. (e.owner h, e.name h)) (productions_differ (numbering_of s) distinct) carried.productions

  pub terminal_there : (k j : ℕ) → IsMovedTerminalNumber m k j → RowThere (IsMovedTerminal m) r.terminals s.terminals k j
  terminal_there = row_there (λ (x : Terminal). (x.owner, x.name)) (IsMovedTerminal m) f r.terminals s.terminals
      (λ x y e. λ h. (e.owner h, e.name h)) (terminals_differ (numbering_of s) distinct) carried.terminals

  -- a nonterminal, production or attribute that is seen
  pub carried_nonterminal : (owner k j : ℕ) → SeesNonterminal r.attributes owner k → IsMovedNonterminalNumber m k j
      → SeesNonterminal s.attributes (f owner) j
  carried_nonterminal owner k j sees moved =
      let t = nonterminal_there k j moved in
      let same = at_once r.attributes.nonterminals k sees.nonterminal t.row sees.is t.is in
      record {
        nonterminal = t.there;
        is = t.is_there;
        seen = subst (λ o. Sees (f owner) o) (sym (t.moved.owner ∙ ap (λ (x : Nonterminal). f x.owner) (sym same)))
            (sees_moved f carried.host owner sees.nonterminal.owner sees.seen);
      }

  pub carried_production : (owner k j : ℕ) → SeesProduction r.attributes owner k → IsMovedProductionNumber m k j
      → SeesProduction s.attributes (f owner) j
  carried_production owner k j sees moved =
      let t = production_there k j moved in
      let same = at_once r.attributes.productions k sees.production t.row sees.is t.is in
      record {
        production = t.there;
        is = t.is_there;
        seen = subst (λ o. Sees (f owner) o) (sym (t.moved.owner ∙ ap (λ (x : Production). f x.owner) (sym same)))
            (sees_moved f carried.host owner sees.production.owner sees.seen);
      }

  pub carried_attribute : (owner : ℕ) (direction : Direction) (k j : ℕ) → SeesAttribute r.attributes owner direction k
      → IsMovedAttributeNumber m k j → SeesAttribute s.attributes (f owner) direction j
  carried_attribute owner direction k j sees moved =
      let t = attribute_there k j moved in
      let same = at_once r.attributes.attributes k sees.attribute t.row sees.is t.is in
      record {
        attribute = t.there;
        is = t.is_there;
        goes = t.moved.direction ∙ (ap (λ (x : Attribute). x.direction) (sym same) ∙ sees.goes);
        seen = subst (λ o. Sees (f owner) o) (sym (t.moved.owner ∙ ap (λ (x : Attribute). f x.owner) (sym same)))
            (sees_moved f carried.host owner sees.attribute.owner sees.seen);
      }

  -- an occurrence that is seen
  pub carried_occurrence : (owner : ℕ) (direction : Direction) (k l i j : ℕ) → SeesOccurrence r.attributes owner direction k l
      → IsMovedAttributeNumber m k i → IsMovedNonterminalNumber m l j → SeesOccurrence s.attributes (f owner) direction i j
  carried_occurrence owner direction k l i j sees attribute nonterminal =
      let o = sees.occurrence in
      let t = carried.occurrences o sees.listed in
      record {
        attribute = carried_attribute owner direction k i sees.attribute attribute;
        occurrence = t.there;
        listed = t.listed;
        of_attribute = one_moved f (numbering_of r).attributes (numbering_of s).attributes distinct.attributes k t.there.attribute i
            (subst (λ z. IsMovedAttributeNumber m z t.there.attribute) sees.of_attribute t.moved.attribute) attribute;
        on_nonterminal = one_moved f (numbering_of r).nonterminals (numbering_of s).nonterminals
            (nonterminals_differ (numbering_of s) distinct) l t.there.nonterminal j
            (subst (λ z. IsMovedNonterminalNumber m z t.there.nonterminal) sees.on_nonterminal t.moved.nonterminal) nonterminal;
        seen = subst (λ z. Sees (f owner) z) (sym t.moved.owner) (sees_moved f carried.host owner o.owner sees.seen);
      }

  -- a kind that is seen
  pub carried_kind : (owner : ℕ) (is to : Kind) → SeesKind r.attributes owner is → IsMovedKind m is to → SeesKind s.attributes (f owner) to
  carried_kind owner kind.Int to sees e = subst (SeesKind s.attributes (f owner)) (sym e) tt
  carried_kind owner kind.Bool to sees e = subst (SeesKind s.attributes (f owner)) (sym e) tt
  carried_kind owner kind.Text to sees e = subst (SeesKind s.attributes (f owner)) (sym e) tt
  carried_kind owner (kind.Tree number) to sees e =
      subst (SeesKind s.attributes (f owner)) (sym e.2) (carried_nonterminal owner number e.0 sees e.1)

  -- the place of a production that is carried
  module _ (p q : Production) (head : IsCarriedProduction m p q) (differ : NamesDiffer (labels_in q).locals) where
    local_there : (k j : ℕ) → IsMovedNumber f (labels_in p).locals (labels_in q).locals k j
        → RowThere (IsMovedLocal m (labels_in p) (labels_in q)) p.locals q.locals k j
    local_there = row_there (λ (x : Local). (x.owner, x.label)) (IsMovedLocal m (labels_in p) (labels_in q)) f p.locals q.locals
        (λ x y e. λ h. (e.owner h, e.label h)) differ head.locals

    -- a place, in the other numbers
    pub record PlaceThere (owner : ℕ) (to : Place) (is : ChildKind) : Type 0 where
      pub to_kind : ChildKind
      pub moved : IsMovedChildKind m is to_kind
      pub sees : SeesPlace q (f owner) to to_kind

    kind_of_option : (o : Option Child) (is : ChildKind) → option_map (λ (c : Child). c.kind) o ≡ Some is → (c : Child) × (o ≡ Some c)
        × (c.kind ≡ is)
    kind_of_option None is e = absurd (cc e)
    kind_of_option (Some c) is e = (c, refl, cc e)

    pub carried_place : (owner : ℕ) (at to : Place) (is : ChildKind) → SeesPlace p owner at is
        → IsMovedPlace m (labels_in p) (labels_in q) at to → PlaceThere owner to is
    carried_place owner (place.Child k) to is sees e =
        let (c, at, kind_is) = kind_of_option (slice_get p.children k) is sees.is in
        let t = zip_at (IsMovedChild m) p.children q.children k c head.children at in
        subst (λ z. PlaceThere owner z is) (sym e) (record {
          to_kind = t.other.kind;
          moved = subst (λ z. IsMovedChildKind m z t.other.kind) kind_is t.related.is_kind;
          sees = record {
            is = ap (option_map (λ (d : Child). d.kind)) t.there;
            seen = subst (λ z. Sees (f owner) z) (sym head.owner) (sees_moved f carried.host owner p.owner sees.seen);
          };
        })
    carried_place owner (place.Local k) to is sees e =
        let t = local_there k e.0 e.1 in
        let kinds : Some (child.Value (kind.Tree t.row.nonterminal)) ≡ Some is =
        sym (ap (option_map (λ (l : Local). child.Value (kind.Tree l.nonterminal))) t.is) ∙ sees.is in
        let kind_is : child.Value (kind.Tree t.row.nonterminal) ≡ is = cc in
        let owner_sees : Sees owner t.row.owner = subst (λ o. Sees owner (owner_of_local p o)) t.is sees.seen in
        subst (λ z. PlaceThere owner z is) (sym e.2) (record {
          to_kind = child.Value (kind.Tree t.there.nonterminal);
          moved = subst (λ z. IsMovedChildKind m z (child.Value (kind.Tree t.there.nonterminal))) kind_is
              (kind.Tree t.there.nonterminal, (t.there.nonterminal, t.moved.nonterminal, refl), refl);
          sees = record {
            is = ap (option_map (λ (l : Local). child.Value (kind.Tree l.nonterminal))) t.is_there;
            seen = subst (λ o. Sees (f owner) (owner_of_local q o)) (sym t.is_there)
                (subst (λ z. Sees (f owner) z) (sym t.moved.owner) (sees_moved f carried.host owner t.row.owner owner_sees));
          };
        })

-- What a value declares and writes is what its owners may, where the names of its file are right.
use Rattle.std.proofs.Common.{◌≡◌, ◌++◌, ◌∷◌, ◌⊎◌, inl, inr, [], ℕ, zero, suc, Bool, true, false, List, Some, Contains, All}
use Rattle.std.proofs.Common.{map, slice_get, ap, sym, refl, subst, ◌∙◌, arith}
use Rattle.std.specs.Prelude.{option_map}
use Rattle.std.proofs.lemmas.Bool.{false≢true}
use Rattle.wb_lemmas.proofs.Members.{contains_at, contains_first, contains_later, append_contains_right}
use Rattle.wb_syntax_resolved.specs.declared.attributes.Attribute.{Attribute}
use Rattle.wb_syntax_resolved.specs.declared.attributes.Direction.{Direction}
use Rattle.wb_syntax_resolved.specs.declared.attributes.Direction.TheVariants.{Synthesized, Inherited}
use Rattle.wb_syntax_resolved.specs.declared.attributes.Nonterminal.{Nonterminal}
use Rattle.wb_syntax_resolved.specs.declared.attributes.Occurrence.{Occurrence}
use Rattle.wb_syntax_resolved.specs.declared.attribution.AttributionParts.{AttributionParts}
use Rattle.wb_syntax_resolved.specs.declared.production.Production.{Production}
use Rattle.wb_syntax_resolved.specs.declared.resolved.ResolvedParts.{ResolvedParts}
use Rattle.wb_syntax_resolved.specs.Owned.{IsOwnOccurrence}
use Rattle.wb_syntax_resolved.specs.Owners.{Sees}
use Rattle.wb_syntax.specs.declared.expression.Equation as written
use Rattle.wb_syntax.specs.declared.expression.Target as is_for
use Rattle.wb_syntax.specs.declared.expression.Target.TheVariants as g
use Rattle.wb_syntax.specs.declared.item.Item.{Item}
use Rattle.wb_syntax.specs.declared.item.ItemForm.{ItemForm}
use Rattle.wb_syntax.specs.declared.item.ItemForm.TheVariants as f
use Rattle.wb_syntax.specs.declared.item.PlainForm.{PlainForm}
use Rattle.wb_syntax.specs.declared.item.PlainForm.TheVariants as i
use Rattle.wb_syntax.specs.declared.pattern.Pattern.{Pattern}
use Rattle.wb_syntax.specs.declared.production.NamedKind.{NamedKind}
use Rattle.wb_syntax.specs.declared.production.NamedKind.TheVariants as k
use Rattle.wb_names_theory.specs.declared.declaration.Declaration.{Declaration}
use Rattle.wb_names_theory.specs.declared.declaration.Declaration.TheVariants as d
use Rattle.wb_names_theory.specs.declared.declaration.Labelled.TheVariants as label
use Rattle.wb_names_theory.specs.declared.declaration.Sort.{Sort}
use Rattle.wb_names_theory.specs.declared.declaration.Sort.TheVariants as sort
use Rattle.wb_names_theory.specs.Declarations.{Items, AttributeDeclaration, OccurrenceDeclaration, attributes, occurrences}
use Rattle.wb_names_theory.specs.Declarations.{nonterminals, productions, plain_items, plain_of, attribute_of, occurrence_of}
use Rattle.wb_names_theory.specs.Declarations.{nonterminal_of}
use Rattle.wb_names_theory.specs.Declares.{item_declarations, form_declarations, plain_declaration, target_declaration}
use Rattle.wb_names_theory.specs.Declares.{equation_declarations, child_declaration, labelled}
use Rattle.wb_names_numbers_theory.specs.Files.{File, Block, blocks, block_of}
use Rattle.wb_names_numbers_theory.specs.Numbering.{Numbering, numbering_of, IsNumber}
use Rattle.wb_names_numbers_theory.specs.Resolves.{IsOccurrence, IsProduction, IsConcrete, IsAttribute, IsNonterminal, IsInGrammarOf}
use Rattle.wb_names_numbers_theory.specs.Sources.{sources}
use Rattle.wb_names_numbers_theory.proofs.Carrying.{row_at, name_at}
use Rattle.wb_names_numbers_theory.proofs.Found.{own_terminal}
use Rattle.wb_names_numbers_theory.proofs.Ground.{Ground}
use Rattle.wb_names_numbers_theory.proofs.NumberLemmas.{one_number, not_in_both}
use Rattle.wb_names_numbers_theory.proofs.OneRow.{not_both, nonterminals_differ, others_differ}
use Rattle.wb_names_numbers_theory.proofs.OwnDeclared.{IsOwnDeclared, own_declared, kept, flat_map_contains}
use Rattle.wb_names_numbers_theory.proofs.OwnDeclared as own
use Rattle.wb_names_numbers_theory.proofs.OwnNamed.{Known}
use Rattle.wb_names_numbers_theory.proofs.RowLemmas.{all_zipped, row_of, row_of_zip, source_before, source_declared, there_declared}
use Rattle.wb_names_numbers_theory.proofs.RowLemmas.{map_contains}
use Rattle.wb_names_numbers_theory.proofs.Selected.{kept_from}

-- what an item of names alone declares, and an equation
pub plain_declares : (items : Items) (x : PlainForm) → Contains (plain_items items) x
    → Contains (item_declarations items) (plain_declaration x)
plain_declares items x has =
    let k = kept_from (λ (y : Item Pattern). plain_of y.form) items x has in
    flat_map_contains (λ (y : Item Pattern). form_declarations y.form) items k.0 (plain_declaration x) k.1 (from k.0.form k.2) where
      from : (form : ItemForm Pattern) → plain_of form ≡ Some x → Contains (form_declarations form) (plain_declaration x)
      from (f.Plain y) e = let same : y ≡ x = cc in subst (λ z. Contains (form_declarations (f.Plain y)) (plain_declaration z)) same
          (contains_first (plain_declaration y) [])
      from (f.Lexical role name pattern) e = absurd (cc e)
      from (f.Production role p) e = absurd (cc e)
      from (f.Aspect name es) e = absurd (cc e)

pub block_declares : (items : Items) (b : Block) → Contains (blocks items) b → (q : written.Equation) → Contains b.equations q
    → Contains (item_declarations items) (target_declaration b.name q.target)
block_declares items b has q inside =
    let k = kept_from (λ (y : Item Pattern). block_of y.form) items b has in
    flat_map_contains (λ (y : Item Pattern). form_declarations y.form) items k.0 (target_declaration b.name q.target) k.1 (from k.0.form
    k.2) where
      here : Contains (equation_declarations b.name b.equations) (target_declaration b.name q.target)
      here = map_contains (λ (e : written.Equation). target_declaration b.name e.target) b.equations q inside

      from : (form : ItemForm Pattern) → block_of form ≡ Some b → Contains (form_declarations form) (target_declaration b.name q.target)
      from (f.Plain y) e = absurd (cc e)
      from (f.Lexical role name pattern) e = absurd (cc e)
      from (f.Production role p) e =
          let same : record { name = p.name; equations = p.equations } ≡ b = cc in
          let it = target_declaration b.name q.target in
          let rest = map (child_declaration p.name) p.children ++ equation_declarations p.name p.equations in
          contains_later (d.Symbol p.name sort.Production) it (d.Left p.name p.left ∷ rest) (contains_later (d.Left p.name p.left) it rest
          (append_contains_right (map (child_declaration p.name) p.children) (equation_declarations p.name p.equations) it
          (subst (λ (z : Block). Contains (equation_declarations z.name z.equations) it) (sym same) here)))
      from (f.Aspect name es) e =
          let same : record { name = name; equations = es } ≡ b = cc in
          subst (λ (z : Block). Contains (equation_declarations z.name z.equations) (target_declaration b.name q.target)) (sym same) here

-- forms of declarations
abbrev is_attribute : Declaration → Bool
is_attribute (d.Attribute name direction) = true
is_attribute other = false

abbrev is_occurrence : Declaration → Bool
is_occurrence (d.Occurrence a m) = true
is_occurrence other = false

abbrev is_symbol : Declaration → Bool
is_symbol (d.Symbol name is) = true
is_symbol other = false

abbrev is_label : Declaration → Bool
is_label (d.Label p l is) = true
is_label other = false

target_no_attribute : (p : List ℕ) (t : is_for.Target) → is_attribute (target_declaration p t) ≡ false
target_no_attribute p (g.Top a) = refl
target_no_attribute p (g.Label l a) = refl
target_no_attribute p (g.Forward a) = refl
target_no_attribute p (g.Local l m) = refl
target_no_attribute p g.ForwardsTo = refl

target_no_occurrence : (p : List ℕ) (t : is_for.Target) → is_occurrence (target_declaration p t) ≡ false
target_no_occurrence p (g.Top a) = refl
target_no_occurrence p (g.Label l a) = refl
target_no_occurrence p (g.Forward a) = refl
target_no_occurrence p (g.Local l m) = refl
target_no_occurrence p g.ForwardsTo = refl

target_no_symbol : (p : List ℕ) (t : is_for.Target) → is_symbol (target_declaration p t) ≡ false
target_no_symbol p (g.Top a) = refl
target_no_symbol p (g.Label l a) = refl
target_no_symbol p (g.Forward a) = refl
target_no_symbol p (g.Local l m) = refl
target_no_symbol p g.ForwardsTo = refl

plain_no_label : (x : PlainForm) → is_label (plain_declaration x) ≡ false
plain_no_label (i.Prefer first second) = refl
plain_no_label (i.Nonterminal one) = refl
plain_no_label (i.Start one) = refl
plain_no_label (i.Extensible one) = refl
plain_no_label (i.Closed one) = refl
plain_no_label (i.Synthesized one its) = refl
plain_no_label (i.Inherited one its) = refl
plain_no_label (i.Occurs a m needs) = refl
plain_no_label (i.ForwardOn m needs) = refl

-- a child isn't declared as a local
pub child_no_local : (from : NamedKind) (m : List ℕ) → labelled from ≡ label.Local m → ⊥
child_no_local k.Int m e = absurd (cc e)
child_no_local k.Bool m e = absurd (cc e)
child_no_local k.Text m e = absurd (cc e)
child_no_local (k.Name name) m e = absurd (cc e)

module _ (file : File) (r : ResolvedParts) (known : Known file r) where
  abbrev n : Numbering
  n = numbering_of r

  abbrev a : AttributionParts
  a = r.attributes

  abbrev b : AttributionParts
  b = file.base.attributes

  abbrev ground : Ground file r
  ground = known.ground

  abbrev owns : List Declaration
  owns = item_declarations file.items

  -- whose an attribute and a nonterminal are that items declare
  attribute_owner : (x : AttributeDeclaration) → Contains (attributes file.items) x → (k : ℕ) → IsNumber n.attributes file.owner x.name k
      → option_map (λ (y : Attribute). y.owner) (slice_get a.attributes k) ≡ Some file.owner
  attribute_owner x has k is =
      let h = row_of_zip (IsAttribute file n) (sources b.attributes (attributes file.items)) a.attributes ground.resolves.attributes (inr x)
      (there_declared b.attributes (attributes file.items) x has) in
      let number : IsNumber n.attributes file.owner x.name h.place = record {
        other = h.row.owner;
        is = name_at (λ (y : Attribute). (y.owner, y.name)) a.attributes h.place h.row h.at ∙ ap (λ (z : List ℕ). Some (h.row.owner, z))
            h.is_row.name;
        seen = inr h.is_row.owner_is;
      } in
      let same = one_number n.attributes ground.distinct.attributes file.owner x.name h.place k number is in
      ap (option_map (λ (y : Attribute). y.owner)) (subst (λ z. slice_get a.attributes z ≡ Some h.row) same h.at) ∙ ap Some
      h.is_row.owner_is

  own_attribute : (name : List ℕ) (direction : Direction) → IsOwnDeclared file.items (d.Attribute name direction) → (k : ℕ)
      → IsNumber n.attributes file.owner name k → option_map (λ (y : Attribute). y.owner) (slice_get a.attributes k) ≡ Some file.owner
  own_attribute name direction (own.plain x has e) k is = from x has e where
    from : (x : PlainForm) → Contains (plain_items file.items) x → plain_declaration x ≡ d.Attribute name direction
        → option_map (λ (y : Attribute). y.owner) (slice_get a.attributes k) ≡ Some file.owner
    from (i.Synthesized one its) has e =
        let same : name ≡ one = cc in
        attribute_owner (record { name = one; direction = Synthesized; kind = its }) (kept attribute_of (plain_items file.items) _ _ has
        refl) k
        (subst (λ z. IsNumber n.attributes file.owner z k) same is)
    from (i.Inherited one its) has e =
        let same : name ≡ one = cc in
        attribute_owner (record { name = one; direction = Inherited; kind = its }) (kept attribute_of (plain_items file.items) _ _ has refl)
        k
        (subst (λ z. IsNumber n.attributes file.owner z k) same is)
    from (i.Prefer first second) has e = absurd (false≢true (ap is_attribute e))
    from (i.Nonterminal one) has e = absurd (false≢true (ap is_attribute e))
    from (i.Start one) has e = absurd (false≢true (ap is_attribute e))
    from (i.Extensible one) has e = absurd (false≢true (ap is_attribute e))
    from (i.Closed one) has e = absurd (false≢true (ap is_attribute e))
    from (i.Occurs c m needs) has e = absurd (false≢true (ap is_attribute e))
    from (i.ForwardOn m needs) has e = absurd (false≢true (ap is_attribute e))
  own_attribute name direction (own.lexical x has e) k is = absurd (false≢true (ap is_attribute e))
  own_attribute name direction (own.production x has e) k is = absurd (false≢true (ap is_attribute e))
  own_attribute name direction (own.left x has e) k is = absurd (false≢true (ap is_attribute e))
  own_attribute name direction (own.child x has c more e) k is = absurd (false≢true (ap is_attribute e))
  own_attribute name direction (own.equation y has q more e) k is =
      absurd (false≢true (sym (target_no_attribute y.name q.target) ∙ ap is_attribute e))

  nonterminal_owner : (name : List ℕ) → Contains (nonterminals file.items) name → (k : ℕ) → IsNumber n.nonterminals file.owner name k
      → option_map (λ (y : Nonterminal). y.owner) (slice_get a.nonterminals k) ≡ Some file.owner
  nonterminal_owner name has k is =
      let h = row_of (IsInGrammarOf file) (IsNonterminal file n) (sources b.nonterminals (nonterminals file.items)) a.nonterminals
      ground.resolves.nonterminals (inr name) (there_declared b.nonterminals (nonterminals file.items) name has) in
      let number : IsNumber n.nonterminals file.owner name h.place = record {
        other = h.row.owner;
        is = name_at (λ (y : Nonterminal). (y.owner, y.name)) a.nonterminals h.place h.row h.at
            ∙ ap (λ (z : List ℕ). Some (h.row.owner, z)) h.is_row.name_is;
        seen = inr h.is_row.owner_is;
      } in
      let same = one_number n.nonterminals (nonterminals_differ n ground.distinct) file.owner name h.place k number is in
      ap (option_map (λ (y : Nonterminal). y.owner)) (subst (λ z. slice_get a.nonterminals z ≡ Some h.row) same h.at) ∙ ap Some
      h.is_row.owner_is

  own_symbol : (m : List ℕ) (is : Sort) → IsOwnDeclared file.items (d.Symbol m is) → (k : ℕ) → IsNumber n.nonterminals file.owner m k
      → option_map (λ (y : Nonterminal). y.owner) (slice_get a.nonterminals k) ≡ Some file.owner
  own_symbol m is (own.lexical x has e) k number =
      let same : m ≡ x.name = cc in
      let t = own_terminal file r ground x has in
      absurd (not_both n ground.distinct file.owner x.name t.number k t.is (subst (λ z. IsNumber n.nonterminals file.owner z k) same
      number))
  own_symbol m is (own.plain x has e) k number = from x has e where
    from : (x : PlainForm) → Contains (plain_items file.items) x → plain_declaration x ≡ d.Symbol m is
        → option_map (λ (y : Nonterminal). y.owner) (slice_get a.nonterminals k) ≡ Some file.owner
    from (i.Nonterminal one) has e =
        let same : m ≡ one = cc in
        nonterminal_owner one (kept nonterminal_of (plain_items file.items) _ _ has refl) k
        (subst (λ z. IsNumber n.nonterminals file.owner z k) same number)
    from (i.Synthesized one its) has e = absurd (false≢true (ap is_symbol e))
    from (i.Inherited one its) has e = absurd (false≢true (ap is_symbol e))
    from (i.Prefer first second) has e = absurd (false≢true (ap is_symbol e))
    from (i.Start one) has e = absurd (false≢true (ap is_symbol e))
    from (i.Extensible one) has e = absurd (false≢true (ap is_symbol e))
    from (i.Closed one) has e = absurd (false≢true (ap is_symbol e))
    from (i.Occurs c l needs) has e = absurd (false≢true (ap is_symbol e))
    from (i.ForwardOn l needs) has e = absurd (false≢true (ap is_symbol e))
  own_symbol m is (own.production x has e) k number =
      let same : x.production.name ≡ m = cc in
      let h = row_of IsConcrete (IsProduction file n) (sources b.productions (productions file.items)) a.productions
      ground.resolves.productions
      (inr x) (there_declared b.productions (productions file.items) x has) in
      let other : IsNumber n.productions file.owner m h.place = record {
        other = h.row.owner;
        is = name_at (λ (y : Production). (y.owner, y.name)) a.productions h.place h.row h.at
            ∙ ap (λ (z : List ℕ). Some (h.row.owner, z)) (h.is_row.name ∙ same);
        seen = inr h.is_row.owner_is;
      } in
      absurd (not_in_both n.nonterminals n.productions (others_differ n ground.distinct) file.owner m k h.place number other)
  own_symbol m is (own.left x has e) k number = absurd (false≢true (ap is_symbol e))
  own_symbol m is (own.child x has c more e) k number = absurd (false≢true (ap is_symbol e))
  own_symbol m is (own.equation y has q more e) k number = absurd (false≢true (sym (target_no_symbol y.name q.target) ∙ ap is_symbol e))

  -- what is named by a number that the host's owner sees, where the file is a host's, is the host's
  host_attribute : file.owner ≡ 0 → (name : List ℕ) (k : ℕ) → IsNumber n.attributes file.owner name k
      → option_map (λ (y : Attribute). y.owner) (slice_get a.attributes k) ≡ Some file.owner
  host_attribute zero_is name k is =
      let row = row_at (λ (y : Attribute). (y.owner, y.name)) a.attributes k is.other name is.is in
      ap (option_map (λ (y : Attribute). y.owner)) row.is ∙ ap Some (row.owner_is ∙ seen_by is.seen) where
        seen_by : Sees file.owner is.other → is.other ≡ file.owner
        seen_by (inl zero_too) = zero_too ∙ sym zero_is
        seen_by (inr same) = same

  -- what the items declare of an occurrence
  pub occurrence_written : (x : OccurrenceDeclaration) → Contains (occurrences file.items) x
      → Contains owns (d.Occurrence x.attribute x.nonterminal)
  occurrence_written x has = let k = kept_from occurrence_of (plain_items file.items) x has in from k.0 k.1 k.2 where
    from : (form : PlainForm) → Contains (plain_items file.items) form → occurrence_of form ≡ Some x
        → Contains owns (d.Occurrence x.attribute x.nonterminal)
    from (i.Occurs c m needs) there q =
        let same : record { attribute = c; nonterminal = m; needs = needs } ≡ x = cc in
        subst (λ (z : OccurrenceDeclaration). Contains owns (d.Occurrence z.attribute z.nonterminal)) same
        (plain_declares file.items (i.Occurs c m needs) there)
    from (i.Prefer first second) there q = absurd (cc q)
    from (i.Nonterminal one) there q = absurd (cc q)
    from (i.Start one) there q = absurd (cc q)
    from (i.Extensible one) there q = absurd (cc q)
    from (i.Closed one) there q = absurd (cc q)
    from (i.Synthesized one its) there q = absurd (cc q)
    from (i.Inherited one its) there q = absurd (cc q)
    from (i.ForwardOn m needs) there q = absurd (cc q)

  -- an occurrence that the file declares
  occurrence_own : (x : OccurrenceDeclaration) (row : Occurrence) → Contains (occurrences file.items) x → IsOccurrence file n (inr x) row
      → (o : ℕ) → file.owner ≡ o → IsOwnOccurrence a row
  occurrence_own x row has e zero is =
      inl (subst (λ z. option_map (λ (y : Attribute). y.owner) (slice_get a.attributes row.attribute) ≡ Some z) (sym e.owner_is)
      (host_attribute is x.attribute row.attribute e.attribute))
  occurrence_own x row has e (suc o) is =
      let owned = known.hold.owned (λ z. not_zero (sym z ∙ is)) in
      by_own (owned.occurrences x.attribute x.nonterminal (occurrence_written x has)) where
        not_zero : 0 ≡ suc o → ⊥
        not_zero z = absurd (omega (arith, z))

        by_own : ((direction : Direction) × Contains owns (d.Attribute x.attribute direction)) ⊎ ((is : Sort) × Contains owns (d.Symbol
            x.nonterminal is))
            → IsOwnOccurrence a row
        by_own (inl (direction, listed)) =
            inl (subst (λ z. option_map (λ (y : Attribute). y.owner) (slice_get a.attributes row.attribute) ≡ Some z) (sym e.owner_is)
            (own_attribute x.attribute direction (own_declared file.items (d.Attribute x.attribute direction) listed) row.attribute
            e.attribute))
        by_own (inr (is, listed)) =
            inr (subst (λ z. option_map (λ (y : Nonterminal). y.owner) (slice_get a.nonterminals row.nonterminal) ≡ Some z) (sym e.owner_is)
            (own_symbol x.nonterminal is (own_declared file.items (d.Symbol x.nonterminal is) listed) row.nonterminal e.nonterminal))

  -- one of the base is of the host's attribute
  owned_occurrence : (x : Occurrence ⊎ OccurrenceDeclaration) (row : Occurrence) → Contains (sources b.occurrences (occurrences file.items))
      x
      → Contains a.occurrences row → IsOccurrence file n x row → IsOwnOccurrence a row
  owned_occurrence (inl x) row has listed e =
      let inside = source_before b.occurrences (occurrences file.items) x has in
      let before = row_at (λ (y : Attribute). (y.owner, y.name)) b.attributes x.attribute e.attribute.owner e.attribute.name
      e.attribute.before in
      let after = row_at (λ (y : Attribute). (y.owner, y.name)) a.attributes row.attribute e.attribute.owner e.attribute.name
      e.attribute.after in
      let zero_is : e.attribute.owner ≡ 0 =
      sym before.owner_is ∙ ground.host.attributes before.row (contains_at b.attributes before.row x.attribute before.is) in
      inl (ap (option_map (λ (y : Attribute). y.owner)) after.is ∙ ap Some (after.owner_is ∙ (zero_is ∙ sym (e.owner ∙
      ground.host.occurrences x inside))))
  owned_occurrence (inr x) row has listed e =
      occurrence_own x row (source_declared b.occurrences (occurrences file.items) x has) e file.owner refl

  pub owned_occurrences : All (IsOwnOccurrence a) a.occurrences
  owned_occurrences = all_zipped (IsOccurrence file n) (IsOwnOccurrence a) (sources b.occurrences (occurrences file.items)) a.occurrences
      ground.resolves.occurrences owned_occurrence

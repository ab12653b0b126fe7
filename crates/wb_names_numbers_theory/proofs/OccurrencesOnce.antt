-- No attribute occurs twice on a nonterminal, where declarations are once.
use Rattle.std.proofs.Common.{◌≡◌, ◌≤◌, ◌+◌, ◌∷◌, ◌⊎◌, inl, inr, ℕ, true, List, map}
use Rattle.std.proofs.Common.{ap, sym, refl, subst, ◌∙◌, arith}
use Rattle.std.specs.Prelude.{filter_map, option_to_list, option_map}
use Rattle.std.specs.Str.{bytes_eq}
use Rattle.std.proofs.lemmas.Option.{slice_get-map}
use Rattle.wb_lemmas.proofs.Booleans.{and_both}
use Rattle.wb_lemmas.proofs.Zips.{beside}
use Rattle.wb_syntax_resolved.specs.declared.attributes.Occurrence.{Occurrence}
use Rattle.wb_syntax_resolved.specs.declared.resolved.ResolvedParts.{ResolvedParts}
use Rattle.wb_syntax_resolved.specs.Once.{OccursOnce}
use Rattle.wb_syntax.specs.declared.item.Item.{Item}
use Rattle.wb_syntax.specs.declared.item.ItemForm.{ItemForm}
use Rattle.wb_syntax.specs.declared.item.ItemForm.TheVariants as f
use Rattle.wb_syntax.specs.declared.item.PlainForm.TheVariants as i
use Rattle.wb_syntax.specs.declared.pattern.Pattern.{Pattern}
use Rattle.wb_names_theory.specs.declared.declaration.Declaration.{Declaration}
use Rattle.wb_names_theory.specs.declared.declaration.Declaration.TheVariants as d
use Rattle.wb_names_theory.specs.Declarations.{Items, OccurrenceDeclaration, occurrences, plain_items, plain_of, occurrence_of}
use Rattle.wb_names_theory.specs.Declares.{base_declarations, item_declarations, form_declarations, declarations, attribute_name}
use Rattle.wb_names_theory.specs.Declares.{nonterminal_name}
use Rattle.wb_names_theory.specs.Hold.{AreOnce}
use Rattle.wb_names_numbers_theory.specs.Files.{File}
use Rattle.wb_names_numbers_theory.specs.Numbering.{Numbering, numbering_of, IsNumber}
use Rattle.wb_names_numbers_theory.specs.Resolves.{IsOccurrence}
use Rattle.wb_names_numbers_theory.specs.Sources.{sources}
use Rattle.wb_names_numbers_theory.proofs.Counts.{times_sources, times_nested, count_items, count_base}
use Rattle.wb_names_numbers_theory.proofs.Found.{moved_attribute, moved_nonterminal}
use Rattle.wb_names_numbers_theory.proofs.Ground.{Ground}
use Rattle.wb_names_numbers_theory.proofs.Selected.{bytes_same}
use Rattle.wb_names_numbers_theory.proofs.TargetsOnce.{number_name}
use Rattle.wb_names_numbers_theory.proofs.Times.{is_same, times, times_append, times_once, one_place}

module _ (a k : List ℕ) where
  abbrev x : Declaration
  x = d.Occurrence a k

  abbrev total : Items → ℕ
  total items = times x (map (λ (y : OccurrenceDeclaration). d.Occurrence y.attribute y.nonterminal) (occurrences items))

  abbrev of_form : ItemForm Pattern → ℕ
  of_form form =
      times x (map (λ (y : OccurrenceDeclaration). d.Occurrence y.attribute y.nonterminal) (filter_map occurrence_of (option_to_list
      (plain_of form))))

  step : (item : Item Pattern) (items : Items) → total (item ∷ items) ≡ of_form item.form + total items
  step item items = times_nested x (λ (y : OccurrenceDeclaration). d.Occurrence y.attribute y.nonterminal) occurrence_of (plain_of
      item.form)
      (plain_items items)

  each : (form : ItemForm Pattern) → of_form form ≤ times x (form_declarations form)
  each (f.Lexical kind one pattern) = omega arith
  each (f.Plain (i.Prefer first second)) = omega arith
  each (f.Plain (i.Nonterminal one)) = omega arith
  each (f.Plain (i.Start one)) = omega arith
  each (f.Plain (i.Extensible one)) = omega arith
  each (f.Plain (i.Closed one)) = omega arith
  each (f.Plain (i.Synthesized one its)) = omega arith
  each (f.Plain (i.Inherited one its)) = omega arith
  each (f.Plain (i.Occurs b m needs)) = omega arith
  each (f.Plain (i.ForwardOn m needs)) = omega arith
  each (f.Production kind p) = omega arith
  each (f.Aspect one es) = omega arith

  occurrences_count : (items : Items) → total items ≤ times x (item_declarations items)
  occurrences_count items = count_items x of_form total refl step each items

module _ (file : File) (r : ResolvedParts) (ground : Ground file r) (once : AreOnce (declarations file.base file.items)) where
  abbrev n : Numbering
  n = numbering_of r

  abbrev mark : Occurrence ⊎ OccurrenceDeclaration → Declaration
  mark (inl y) = d.Occurrence (attribute_name file.base y.attribute) (nonterminal_name file.base y.nonterminal)
  mark (inr y) = d.Occurrence y.attribute y.nonterminal

  record Called (row : Occurrence) (it : Declaration) : Type 0 where
    attribute : List ℕ
    nonterminal : List ℕ
    is : it ≡ d.Occurrence attribute nonterminal
    of_attribute : IsNumber n.attributes file.owner attribute row.attribute
    on_nonterminal : IsNumber n.nonterminals file.owner nonterminal row.nonterminal

  called : (u : Occurrence ⊎ OccurrenceDeclaration) (row : Occurrence) → IsOccurrence file n u row → Called row (mark u)
  called (inl y) row e = record {
    attribute = attribute_name file.base y.attribute;
    nonterminal = nonterminal_name file.base y.nonterminal;
    is = refl;
    of_attribute = moved_attribute file r ground y.attribute row.attribute e.attribute;
    on_nonterminal = moved_nonterminal file r ground y.nonterminal row.nonterminal e.nonterminal;
  }
  called (inr y) row e = record {
    attribute = y.attribute;
    nonterminal = y.nonterminal;
    is = refl;
    of_attribute = e.attribute;
    on_nonterminal = e.nonterminal;
  }

  same_called : (a b m k : List ℕ) → a ≡ b → m ≡ k → is_same (d.Occurrence a m) (d.Occurrence b k) ≡ true
  same_called a b m k e f =
      and_both (bytes_eq a b) (bytes_eq m k) (bytes_same a b e) (bytes_same m k f)

  occurrences_few : (a k : List ℕ) → times (d.Occurrence a k)
      (map mark (sources file.base.attributes.occurrences (occurrences file.items))) ≤ 1
  occurrences_few a k =
      let x = d.Occurrence a k in
      let parts = times_sources x mark file.base.attributes.occurrences (occurrences file.items) in
      let base = count_base x file.base in
      let items = occurrences_count a k file.items in
      let both = times_append x (base_declarations file.base) (item_declarations file.items) in
      let few = times_once x (declarations file.base file.items) once in
      omega (arith, parts, base, items, both, few)

  pub occurs_once : OccursOnce r.attributes.occurrences
  occurs_once i j s t at_i at_j same_attribute same_nonterminal =
      let all = ground.resolves.occurrences in
      let xs = sources file.base.attributes.occurrences (occurrences file.items) in
      let x = beside (IsOccurrence file n) xs r.attributes.occurrences i s all at_i in
      let y = beside (IsOccurrence file n) xs r.attributes.occurrences j t all at_j in
      let c = called x.other s x.related in
      let k = called y.other t y.related in
      let a = number_name n.attributes file.owner c.attribute k.attribute t.attribute
      (subst (IsNumber n.attributes file.owner c.attribute) same_attribute c.of_attribute) k.of_attribute in
      let m = number_name n.nonterminals file.owner c.nonterminal k.nonterminal t.nonterminal
      (subst (IsNumber n.nonterminals file.owner c.nonterminal) same_nonterminal c.on_nonterminal) k.on_nonterminal in
      one_place (d.Occurrence c.attribute c.nonterminal) (map mark xs) (occurrences_few c.attribute c.nonterminal) i j (mark x.other)
      (mark y.other)
      (slice_get-map mark xs i ∙ ap (option_map mark) x.at) (slice_get-map mark xs j ∙ ap (option_map mark) y.at)
      (subst (λ z. is_same (d.Occurrence c.attribute c.nonterminal) z ≡ true) (sym c.is)
      (same_called c.attribute c.attribute c.nonterminal c.nonterminal refl refl))
      (subst (λ z. is_same (d.Occurrence c.attribute c.nonterminal) z ≡ true) (sym k.is)
      (same_called c.attribute k.attribute c.nonterminal k.nonterminal a m))

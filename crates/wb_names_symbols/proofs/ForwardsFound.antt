-- What forwards of a nonterminal may need is what the one item says that is found by the nonterminal's name.
use Rattle.std.proofs.Common.{◌≡◌, ◌≢◌, ◌<◌, ◌++◌, ◌∷◌, [], ℕ, zero, suc, Bool, true, false, List, Option, Some, None, Contains, length}
use Rattle.std.proofs.Common.{map, cond, get_or, slice_get, ap, sym, refl}
use Rattle.std.proofs.Common.{subst, ◌∙◌}
use Rattle.std.specs.Prelude.{filter, filter_map, flat_map, option_map}
use Rattle.std.specs.List.{cons_option}
use Rattle.std.specs.Str.{bytes_eq}
use Rattle.std.proofs.lemmas.List.{append-nil}
use Rattle.std.proofs.lemmas.Option.{slice_get-map, slice_get_within}
use Rattle.wb_lemmas.proofs.Booleans.{is_false}
use Rattle.wb_lemmas.proofs.Members.{contains_at, contains_first, contains_later}
use Rattle.wb_lemmas.proofs.Places.{at_once, nothing_at, read_at}
use Rattle.wb_base.specs.Identifiers.{IsIdentifier, IsName}
use Rattle.wb_syntax.specs.declared.item.Item.{Item}
use Rattle.wb_syntax.specs.declared.item.ItemForm.{ItemForm}
use Rattle.wb_syntax.specs.declared.item.ItemForm.TheVariants as f
use Rattle.wb_syntax.specs.declared.item.PlainForm.{PlainForm}
use Rattle.wb_syntax.specs.declared.item.PlainForm.TheVariants as i
use Rattle.wb_syntax.specs.declared.pattern.Pattern.{Pattern}
use Rattle.wb_names_theory.specs.declared.declaration.Declaration.TheVariants as d
use Rattle.wb_names_theory.specs.Declarations.{Items, ForwardDeclaration, forward_of, plain_of, plain_items, forwards}
use Rattle.wb_names_theory.specs.Declares.{item_declarations, form_declarations}
use Rattle.wb_names_theory.specs.Duplicate.AreSame.{forward_needs}
use Rattle.wb_names_theory.specs.Hold.{AreOnce}
use Rattle.wb_names_numbers_theory.specs.Files.{forward_needs_of}
use Rattle.wb_names_numbers_theory.proofs.OwnDeclared.{flat_map_contains}
use Rattle.wb_names_numbers_theory.proofs.RowLemmas.{contains_map}
use Rattle.wb_names_numbers_theory.proofs.Selected.{bytes_same, same_bytes}
use Rattle.wb_names_rows.specs.declared.scope.Scope.{Scope}
use Rattle.wb_names_symbols.specs.Inner.Names.{form_forwarder, form_needs}
use Rattle.wb_names_symbols.specs.Inner.Nonterminals.{HasForwards}
use Rattle.wb_names_symbols.proofs.OnceNames.{once_right, once_apart}

-- nothing, whatever the test says
neither : (b : Bool) (rest : List (List ℕ)) → rest ≡ cond b [] [] ++ rest
neither true rest = refl
neither false rest = refl

-- one forward more
one_more : (b : Bool) (x : ForwardDeclaration) (xs : List ForwardDeclaration)
    → flat_map (λ (y : ForwardDeclaration). y.needs) (cond b (x ∷ xs) xs)
    ≡ cond b x.needs [] ++ flat_map (λ (y : ForwardDeclaration). y.needs) xs
one_more true x xs = refl
one_more false x xs = refl

module _ (name : List ℕ) where
  abbrev own : ItemForm Pattern → List (List ℕ)
  own form = cond (bytes_eq (form_forwarder form) name) (form_needs form) []

  abbrev gathered : List ForwardDeclaration → List (List ℕ)
  gathered xs = flat_map (λ (x : ForwardDeclaration). x.needs) (filter (λ (x : ForwardDeclaration). bytes_eq x.nonterminal name) xs)

  plain_step : (plain : PlainForm) (xs : List ForwardDeclaration)
      → gathered (cons_option (forward_of plain) xs) ≡ own (f.Plain plain) ++ gathered xs
  plain_step (i.ForwardOn nonterminal needs) xs =
      one_more (bytes_eq nonterminal name) (record { nonterminal = nonterminal; needs = needs })
      (filter (λ (x : ForwardDeclaration). bytes_eq x.nonterminal name) xs)
  plain_step (i.Prefer first second) xs = neither (bytes_eq [] name) (gathered xs)
  plain_step (i.Nonterminal z) xs = neither (bytes_eq [] name) (gathered xs)
  plain_step (i.Start z) xs = neither (bytes_eq [] name) (gathered xs)
  plain_step (i.Extensible z) xs = neither (bytes_eq [] name) (gathered xs)
  plain_step (i.Closed z) xs = neither (bytes_eq [] name) (gathered xs)
  plain_step (i.Synthesized z kind) xs = neither (bytes_eq [] name) (gathered xs)
  plain_step (i.Inherited z kind) xs = neither (bytes_eq [] name) (gathered xs)
  plain_step (i.Occurs attribute nonterminal needs) xs = neither (bytes_eq [] name) (gathered xs)

  form_step : (item : Item Pattern) (form : ItemForm Pattern) (items : Items) → item.form ≡ form
      → forward_needs_of name (item ∷ items) ≡ own form ++ forward_needs_of name items
  form_step item (f.Plain plain) items e =
      ap (λ o. gathered (filter_map forward_of (cons_option o (plain_items items)))) (ap plain_of e) ∙ plain_step plain (forwards items)
  form_step item (f.Lexical role z pattern) items e =
      ap (λ o. gathered (filter_map forward_of (cons_option o (plain_items items)))) (ap plain_of e)
      ∙ neither (bytes_eq [] name) (forward_needs_of name items)
  form_step item (f.Production role p) items e =
      ap (λ o. gathered (filter_map forward_of (cons_option o (plain_items items)))) (ap plain_of e)
      ∙ neither (bytes_eq [] name) (forward_needs_of name items)
  form_step item (f.Aspect z es) items e =
      ap (λ o. gathered (filter_map forward_of (cons_option o (plain_items items)))) (ap plain_of e)
      ∙ neither (bytes_eq [] name) (forward_needs_of name items)

  step : (item : Item Pattern) (items : Items) → forward_needs_of name (item ∷ items) ≡ own item.form ++ forward_needs_of name items
  step item items = form_step item item.form items refl

  -- an item that says it of another nonterminal, and one that says it of this one
  skipped : (item : Item Pattern) (items : Items) → form_forwarder item.form ≢ name
      → forward_needs_of name (item ∷ items) ≡ forward_needs_of name items
  skipped item items other =
      step item items
      ∙ ap (λ b. cond b (form_needs item.form) [] ++ forward_needs_of name items)
      (is_false (bytes_eq (form_forwarder item.form) name) (λ e. other (same_bytes (form_forwarder item.form) name e)))

  took : (item : Item Pattern) (items : Items) → form_forwarder item.form ≡ name
      → forward_needs_of name (item ∷ items) ≡ form_needs item.form ++ forward_needs_of name items
  took item items is =
      step item items
      ∙ ap (λ b. cond b (form_needs item.form) [] ++ forward_needs_of name items) (bytes_same (form_forwarder item.form) name is)

  abbrev forwarders : Items → List (List ℕ)
  forwarders items = map (λ (item : Item Pattern). form_forwarder item.form) items

  -- no item says it of this one
  pub none_needed : (items : Items) → ¬ Contains (forwarders items) name → forward_needs_of name items ≡ []
  none_needed [] free = refl
  none_needed (item ∷ items) free =
      skipped item items (λ e. free (subst (λ z. Contains (z ∷ forwarders items) name) (sym e) (contains_first name (forwarders items))))
      ∙ none_needed items (λ has. free (contains_later (form_forwarder item.form) name (forwarders items) has))

  -- what says it declares it
  says : (form : ItemForm Pattern) → form_forwarder form ≡ name → name ≢ [] → Contains (form_declarations form) (d.ForwardNeeds name)
  says (f.Plain (i.ForwardOn nonterminal needs)) is some =
      subst (λ z. Contains (d.ForwardNeeds z ∷ []) (d.ForwardNeeds name)) (sym is) (contains_first (d.ForwardNeeds name) [])
  says (f.Plain (i.Prefer first second)) is some = absurd (some (sym is))
  says (f.Plain (i.Nonterminal z)) is some = absurd (some (sym is))
  says (f.Plain (i.Start z)) is some = absurd (some (sym is))
  says (f.Plain (i.Extensible z)) is some = absurd (some (sym is))
  says (f.Plain (i.Closed z)) is some = absurd (some (sym is))
  says (f.Plain (i.Synthesized z kind)) is some = absurd (some (sym is))
  says (f.Plain (i.Inherited z kind)) is some = absurd (some (sym is))
  says (f.Plain (i.Occurs attribute nonterminal needs)) is some = absurd (some (sym is))
  says (f.Lexical role z pattern) is some = absurd (some (sym is))
  says (f.Production role p) is some = absurd (some (sym is))
  says (f.Aspect z es) is some = absurd (some (sym is))

  said : (items : Items) (item : Item Pattern) → Contains items item → form_forwarder item.form ≡ name → name ≢ []
      → Contains (item_declarations items) (d.ForwardNeeds name)
  said items item has is some =
      flat_map_contains (λ (x : Item Pattern). form_declarations x.form) items item (d.ForwardNeeds name) has (says item.form is some)

  listed : (items : Items) → Contains (forwarders items) name
      → (item : Item Pattern) × Contains items item × (form_forwarder item.form ≡ name)
  listed items has = contains_map (λ (item : Item Pattern). form_forwarder item.form) items name has

  -- the one that says it of this one
  pub one_needed : (items : Items) (k : ℕ) (item : Item Pattern) → slice_get items k ≡ Some item → form_forwarder item.form ≡ name
      → name ≢ []
      → AreOnce (item_declarations items) → forward_needs_of name items ≡ form_needs item.form
  one_needed [] k item at is some once = absurd (nothing_at item k at)
  one_needed (first ∷ items) zero item at is some once =
      let here : first ≡ item = cc in
      let says_it : form_forwarder first.form ≡ name = ap (λ (z : Item Pattern). form_forwarder z.form) here ∙ is in
      took first items says_it
      ∙ (ap (λ z. form_needs first.form ++ z) (none_needed items (λ has.
      let x = listed items has in
      once_apart (form_declarations first.form) (item_declarations items) (d.ForwardNeeds name) (d.ForwardNeeds name) once forward_needs
      (says first.form says_it some) (said items x.0 x.1 x.2 some)))
      ∙ (append-nil (form_needs first.form) ∙ ap (λ (z : Item Pattern). form_needs z.form) here))
  one_needed (first ∷ items) (suc k) item at is some once =
      skipped first items (λ e.
      once_apart (form_declarations first.form) (item_declarations items) (d.ForwardNeeds name) (d.ForwardNeeds name) once forward_needs
      (says first.form e some) (said items item (contains_at items item k at) is some))
      ∙ one_needed items k item at is some (once_right (form_declarations first.form) (item_declarations items) once)

-- the item at the place of a name
found_item : (o : Option (Item Pattern)) (name : List ℕ) → option_map (λ (item : Item Pattern). form_forwarder item.form) o ≡ Some name
    → (item : Item Pattern) × (o ≡ Some item) × (form_forwarder item.form ≡ name)
found_item None name e = absurd (cc e)
found_item (Some item) name e = let same : form_forwarder item.form ≡ name = cc in (item, refl, same)

module _ (s : Scope) (items : Items) (names : List (List ℕ)) (has : HasForwards s items names) (name : List ℕ) where
  found_at : (k : ℕ) → slice_get names k ≡ Some name → (item : Item Pattern) × (slice_get items k ≡ Some item)
      × (form_forwarder item.form ≡ name)
  found_at k at =
      found_item (slice_get items k) name
      (sym (slice_get-map (λ (item : Item Pattern). form_forwarder item.form) items k) ∙ (ap (λ z. slice_get z k) (sym has.are) ∙ at))

  pub place_within : (k : ℕ) → slice_get names k ≡ Some name → k < length items
  place_within k at = let x = found_at k at in slice_get_within items k x.0 x.1

  pub needs_found : (k : ℕ) (item : Item Pattern) → slice_get names k ≡ Some name → item ≡ get_or items k item → name ≢ []
      → forward_needs_of name items ≡ form_needs item.form
  needs_found k item at is some =
      let x = found_at k at in
      let here : slice_get items k ≡ Some item = read_at items items k item refl (place_within k at) is in
      let same : x.0 ≡ item = at_once items k x.0 item x.1 here in
      one_needed name items k item here (subst (λ (z : Item Pattern). form_forwarder z.form ≡ name) same x.2) some has.once

  pub needs_absent : ¬ Contains names name → forward_needs_of name items ≡ []
  needs_absent free = none_needed name items (λ h. free (subst (λ z. Contains z name) (sym has.are) h))

-- a name has bytes
pub name_is_some : (name : List ℕ) → IsName name → name ≢ []
name_is_some name is e = subst IsIdentifier e is.identifier

-- The rows of a base and of what a file declares, one after the other; and that what they name is there.
use Rattle.std.proofs.Common.{◌≡◌, ◌<◌, ◌+◌, ◌++◌, ◌∷◌, [], ℕ, List, Option, Some, All, length, take, get_or, ap, sym, subst, ◌∙◌}
use Rattle.std.proofs.Common.{append_assoc}
use Rattle.std.specs.Prelude.{IfSome, flat_map, slice_get}
use Rattle.std.specs.List.{AllZip}
use Rattle.std.proofs.lemmas.Grind.{flat_map-append}
use Rattle.std.proofs.lemmas.List.{length-map, append-nil, take_more}
use Rattle.std.proofs.lemmas.Option.{slice_get_within}
use Rattle.wb_lemmas.proofs.Elements.{all_from_contained, all_weaker}
use Rattle.wb_base.specs.Grammar.{GrammarView}
use Rattle.wb_syntax_resolved.specs.declared.attributes.Attribute.{Attribute}
use Rattle.wb_syntax_resolved.specs.declared.attributes.Nonterminal.{Nonterminal}
use Rattle.wb_syntax_resolved.specs.declared.attributes.Occurrence.{Occurrence}
use Rattle.wb_syntax_resolved.specs.declared.production.Production.{Production}
use Rattle.wb_syntax_resolved.specs.declared.resolved.ResolvedParts.{ResolvedParts}
use Rattle.wb_syntax_resolved.specs.declared.terminal.Terminal.{Terminal}
use Rattle.wb_syntax_resolved.specs.Named.{IsNamedAttribute, IsNamedOccurrence}
use Rattle.wb_syntax_resolved.specs.Resolved.{IsResolved, IsNamedPreference}
use Rattle.wb_syntax_resolved.specs.Visible.{SeesNonterminal}
use Rattle.wb_syntax.specs.declared.item.Item.{Item}
use Rattle.wb_syntax.specs.declared.pattern.Pattern.{Pattern}
use Rattle.wb_names_theory.specs.Declarations.{attributes, occurrences, preferences, plain_items}
use Rattle.wb_names_theory.specs.Declares.{declarations}
use Rattle.wb_names_theory.specs.Hold.{NamesHold}
use Rattle.wb_names_theory.specs.Uses.{uses, form_uses}
use Rattle.wb_names_numbers_theory.specs.Files.{File}
use Rattle.wb_names_numbers_theory.specs.Numbering.{Numbering, numbering_of}
use Rattle.wb_names_numbers_theory.specs.Sources.{sources, IsFrom}
use Rattle.wb_names_numbers_theory.proofs.OwnDeclared.{flat_map_contains}
use Rattle.wb_names_rows.specs.declared.moves.Moves.{Moves}
use Rattle.wb_names_rows.specs.declared.plains.Plains.{Plains}
use Rattle.wb_names_rows.specs.declared.scope.Scope.{Scope}
use Rattle.wb_names_rows.specs.Base.{IsAttributeNow, IsOccurrenceNow, IsPreferenceNow, PreferenceIsWithin}
use Rattle.wb_names_rows.specs.Moves.{KindIsWithin}
use Rattle.wb_names_rows.specs.Plains.{AddsEach, AddsPlains, FormIsThere, IsFoundAttribute, IsFoundOccurrence, IsFoundPreference}
use Rattle.wb_names_rows.specs.There.{HasDeclared}
use Rattle.wb_names_rows.proofs.BaseWithin.{kind_within, nonterminal_within}
use Rattle.wb_names_rows.proofs.GroupLemmas.{zip_sources}
use Rattle.wb_names_rows.proofs.UsesThere.{form_there}
use Rattle.wb_names_rows.proofs.ZipLemmas.{zip_append}
use Rattle.wb_names_symbols.specs.Symbols.{AreNumbers}
use Rattle.wb_names.specs.Resolving.{file_scope}
use Rattle.wb_names.specs.Inner.Rest.{AddsBase, AreBasePlains, ArePlains, HasTables}

-- what is added to nothing, and what is added after rows of a base
pub each_fresh : {A B : Type 0} (R : A → B → Type 0) (xs : List A) (old new : List B) → old ≡ [] → AddsEach R xs old new → AllZip R xs new
each_fresh R xs old new fresh (own, is, all) = subst (AllZip R xs) (sym (is ∙ ap (λ z. z ++ own) fresh)) all

pub each_after : {A B C : Type 0} (M : A → C → Type 0) (W : B → C → Type 0) (xs : List A) (us : List B) (old new : List C) → AllZip M xs old
    → AddsEach W us old new → AllZip (IsFrom M W) (sources xs us) new
each_after M W xs us old new all (own, is, more) = subst (AllZip (IsFrom M W) (sources xs us)) (sym is) (zip_sources M W xs us old own all
    more)

-- the rows of a base, which are added to nothing
pub base_alone : (base : ResolvedParts) (m : Moves) (old new : Plains) → old.attributes.items ≡ [] → old.occurrences.items ≡ []
    → old.preferences.items ≡ [] → AddsBase base m old new → AreBasePlains base m new
base_alone base m old new no_attributes no_occurrences no_preferences adds = record {
  attributes = each_fresh (IsAttributeNow m) base.attributes.attributes old.attributes.items new.attributes.items no_attributes
      adds.attributes;
  occurrences = each_fresh (IsOccurrenceNow m) base.attributes.occurrences old.occurrences.items new.occurrences.items no_occurrences
      adds.occurrences;
  preferences = each_fresh (IsPreferenceNow m) base.preferences old.preferences.items new.preferences.items no_preferences
      adds.preferences;
}

-- the next item, where each item adds what a list says
pub each_item : {X A B : Type 0} (h : X → List A) (R : A → B → Type 0) (items : List X) (at : ℕ) (item : X) (old mid new : List B)
    → AddsEach R (flat_map h (take at items)) old mid → at < length items → item ≡ get_or items at item → AddsEach R (h item) mid new
    → AddsEach R (flat_map h (take (at + 1) items)) old new
each_item h R items at item old mid new (own, is, all) within same (more, added, zipped) =
    let flat : flat_map h (take (at + 1) items) ≡ flat_map h (take at items) ++ h item =
    ap (flat_map h) (take_more items at item within ∙ ap (λ z. take at items ++ z ∷ []) (sym same))
    ∙ (flat_map-append h (take at items) (item ∷ []) ∙ ap (λ z. flat_map h (take at items) ++ z) (append-nil (h item))) in (
      own ++ more,
      added ∙ (ap (λ z. z ++ more) is ∙ append_assoc old own more),
      subst (λ z. AllZip R z (own ++ more)) (sym flat) (zip_append R (flat_map h (take at items)) (h item) own more all zipped),
    )

-- the rows of a file after those of its base
pub plains_after : (file : File) (s : Scope) (m : Moves) (old new : Plains) → AreBasePlains file.base m old
    → AddsPlains s (plain_items file.items) old new → ArePlains file s m new
plains_after file s m old new base adds = record {
  attributes = each_after (IsAttributeNow m) (IsFoundAttribute s) file.base.attributes.attributes (attributes file.items)
      old.attributes.items new.attributes.items base.attributes adds.attributes;
  occurrences = each_after (IsOccurrenceNow m) (IsFoundOccurrence s) file.base.attributes.occurrences (occurrences file.items)
      old.occurrences.items new.occurrences.items base.occurrences adds.occurrences;
  preferences = each_after (IsPreferenceNow m) (IsFoundPreference s) file.base.preferences (preferences file.items)
      old.preferences.items new.preferences.items base.preferences adds.preferences;
}

-- tables are as long as the base
pub tables_of : (file : File) (s : Scope) (m : Moves) → AreNumbers file s m → HasTables file.base m
tables_of file s m are = record {
  terminals = are.tables.terminals.len ∙ length-map file.base.terminals (λ (t : Terminal). t.name);
  nonterminals = are.tables.nonterminals.len ∙ length-map file.base.attributes.nonterminals (λ (x : Nonterminal). x.name);
  productions = are.tables.productions.len ∙ length-map file.base.attributes.productions (λ (p : Production). p.name);
}

-- what a base names is in them
module _ (base : ResolvedParts) (m : Moves) (is : IsResolved base) (tables : HasTables base m) where
  abbrev alone : File
  alone = record { base = base; owner = 0; extensions = []; items = [] }

  abbrev n : Numbering
  n = numbering_of base

  number_within : (owner k : ℕ) → SeesNonterminal base.attributes owner k → k < length m.nonterminals.items
  number_within = nonterminal_within alone n m tables.productions tables.nonterminals

  pub attributes_within : All (λ (a : Attribute). KindIsWithin m a.kind) base.attributes.attributes
  attributes_within = all_weaker (IsNamedAttribute base.attributes) (λ (a : Attribute). KindIsWithin m a.kind) base.attributes.attributes
      (λ a named. kind_within alone n m tables.productions tables.nonterminals a.owner a.kind named.is_kind) is.attributes.named.attributes

  pub occurrences_within : All (λ (o : Occurrence). o.nonterminal < length m.nonterminals.items) base.attributes.occurrences
  occurrences_within = all_weaker (IsNamedOccurrence base.attributes) (λ (o : Occurrence). o.nonterminal < length m.nonterminals.items)
      base.attributes.occurrences (λ o named. number_within o.owner o.nonterminal named.nonterminal) is.attributes.named.occurrences

  terminal_within : (k : ℕ) (t : Terminal) → slice_get base.terminals k ≡ Some t → k < length m.terminals.items
  terminal_within k t at = subst (λ (z : ℕ). k < z) (sym tables.terminals) (slice_get_within base.terminals k t at)

  pub preferences_within : All (PreferenceIsWithin m) base.preferences
  preferences_within = all_weaker (IsNamedPreference base) (PreferenceIsWithin m) base.preferences (λ p named. record {
    first = terminal_within p.first named.first.terminal named.first.is;
    second = terminal_within p.second named.second.terminal named.second.is;
  }) is.preferences

  pub extensible_within : All (λ (k : ℕ). k < length m.nonterminals.items) base.extensible
  extensible_within = all_weaker (SeesNonterminal base.attributes 0) (λ (k : ℕ). k < length m.nonterminals.items) base.extensible
      (λ k sees. number_within 0 k sees) is.extensible

  pub start_within : (g : GrammarView) → base.grammar ≡ Some g → g.start < length m.nonterminals.items
  start_within g at = number_within 0 g.start
      (subst (λ (o : Option GrammarView). IfSome o (λ (x : GrammarView). SeesNonterminal base.attributes 0 x.start)) at is.start)

-- what items name is there
pub items_there : (file : File) (s : Scope) {format : ℕ} → NamesHold (file_scope format file)
    → HasDeclared s (declarations file.base file.items) → All (λ (item : Item Pattern). FormIsThere s item.form) file.items
items_there file s hold has = all_from_contained (λ (item : Item Pattern). FormIsThere s item.form) file.items
    (λ item there. form_there s (declarations file.base file.items) (uses file.items) has hold.meant item.form
    (λ it more. flat_map_contains (λ (x : Item Pattern). form_uses x.form) file.items item it there more))

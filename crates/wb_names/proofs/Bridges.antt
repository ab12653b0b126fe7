-- Rows as they were made are the rows of what a file stands for, in the numbering of all rows.
use Rattle.std.proofs.Common.{◌≡◌, ◌<◌, ◌∷◌, ◌⊎◌, inl, inr, [], ℕ, List, Contains, All, length, ap, sym, refl, subst}
use Rattle.std.specs.List.{AllZip}
use Rattle.std.proofs.lemmas.List.Elements.{All-head, All-tail}
use Rattle.wb_lemmas.proofs.Elements.{all_contained, all_weaker}
use Rattle.wb_lemmas.proofs.Members.{place_of}
use Rattle.wb_lemmas.proofs.Zips.{zip_weaker}
use Rattle.wb_syntax_resolved.specs.declared.attributes.Attribute.{Attribute}
use Rattle.wb_syntax_resolved.specs.declared.attributes.Direction.TheVariants.{Inherited}
use Rattle.wb_syntax_resolved.specs.declared.attributes.Nonterminal.{Nonterminal}
use Rattle.wb_syntax_resolved.specs.declared.attributes.Occurrence.{Occurrence}
use Rattle.wb_syntax_resolved.specs.declared.terminal.Preference.{Preference}
use Rattle.wb_syntax_resolved.specs.declared.terminal.Terminal.{Terminal}
use Rattle.wb_syntax_resolved.specs.Named.{IsNamedOccurrence}
use Rattle.wb_syntax_resolved.specs.Resolved.{IsResolved}
use Rattle.wb_syntax_resolved.specs.Visible.{SeesOccurrence}
use Rattle.wb_names_theory.specs.Declarations.{LexicalDeclaration, AttributeDeclaration, OccurrenceDeclaration, PreferenceDeclaration}
use Rattle.wb_names_theory.specs.Declarations.{nonterminals, occurrences}
use Rattle.wb_names_numbers_theory.specs.Files.{File, forward_needs_of}
use Rattle.wb_names_numbers_theory.specs.Moved.{IsMovedNonterminal, IsMovedAttributeNumber}
use Rattle.wb_names_numbers_theory.specs.Numbering.{Numbering, IsNumber}
use Rattle.wb_names_numbers_theory.specs.Resolves.{IsTerminal, IsNonterminal, IsAttribute, IsOccurrence, IsPreference, IsNonterminalNumber}
use Rattle.wb_names_numbers_theory.specs.Resolves.{move_of}
use Rattle.wb_names_numbers_theory.specs.Rows.{IsAttributeRow, IsOccurrenceRow, IsPreferenceRow}
use Rattle.wb_names_numbers_theory.specs.Sources.{sources, IsFrom}
use Rattle.wb_names_numbers_theory.proofs.RowLemmas.{source_before}
use Rattle.wb_names_rows.specs.declared.moves.Moves.{Moves}
use Rattle.wb_names_rows.specs.declared.scope.Scope.{Scope}
use Rattle.wb_names_rows.specs.Base.{IsAttributeNow, IsOccurrenceNow, IsPreferenceNow}
use Rattle.wb_names_rows.specs.Nodes.{IsAt}
use Rattle.wb_names_rows.specs.Plains.{IsFoundAttribute, IsFoundOccurrence, IsFoundPreference}
use Rattle.wb_names_rows.specs.Scope.{IsScope}
use Rattle.wb_names_rows.proofs.BaseMoved.{Stays, moved_attribute, moved_occurrence, moved_preference}
use Rattle.wb_names_rows.proofs.BaseWithin.{attribute_in}
use Rattle.wb_names_rows.proofs.MovedLemmas.{AreMoves}
use Rattle.wb_names_rows.proofs.PlainsFound.{found_attribute, found_occurrence, found_preference}
use Rattle.wb_names_rows.proofs.ScopeLemmas.{is_number}
use Rattle.wb_names_symbols.specs.Rows.{IsTerminalNow, IsNonterminalNow}
use Rattle.wb_names.specs.Inner.Rest.{IsNumberNow}

-- a terminal's row, whatever the numbers are
pub is_terminal : (file : File) (n : Numbering) (x : Terminal ⊎ LexicalDeclaration) (row : Terminal) → IsTerminalNow file x row
    → IsTerminal file n x row
is_terminal file n (inl t) row e = record {
  name = ap (λ (z : Terminal). z.name) e;
  owner = ap (λ (z : Terminal). z.owner) e;
  kind = ap (λ (z : Terminal). z.kind) e;
  pattern = ap (λ (z : Terminal). z.pattern) e;
}
is_terminal file n (inr d) row e = record { name = e.name; owner_is = e.owner_is; kind = e.kind; pattern = e.pattern }

module _ (file : File) (base : IsResolved file.base) (s : Scope) (m : Moves) (n : Numbering) (owner : s.owner ≡ file.owner)
    (scope : IsScope s n) (moves : AreMoves m (move_of file n)) (stays : Stays (move_of file n)) where
  abbrev Below : ℕ → Type 0
  Below k = k < length (move_of file n).from.attributes

  -- numbers of attributes that stay
  needs_stay : (needs : List ℕ) → All Below needs → AllZip (IsMovedAttributeNumber (move_of file n)) needs needs
  needs_stay [] all = tt
  needs_stay (k ∷ needs) all = (stays.attributes k (All-head Below k needs all), needs_stay needs (All-tail Below k needs all))

  own_attribute : (name : List ℕ) (k : ℕ) → IsAt s.attributes name k → IsNumber n.attributes file.owner name k
  own_attribute name k at = subst (λ (o : ℕ). IsNumber n.attributes o name k) owner
      (is_number s.attributes n.attributes s.owner scope.attributes name k at)

  -- a nonterminal's row
  copied : (x : Nonterminal) → Contains file.base.attributes.nonterminals x → IsMovedNonterminal (move_of file n) x x
  copied x has =
      let (k, at) = place_of file.base.attributes.nonterminals x has in
      let named = base.attributes.named.nonterminals k x at in
      record {
        name = refl;
        owner = refl;
        closed = refl;
        needs = needs_stay x.forward_needs (all_weaker (λ (i : ℕ). SeesOccurrence file.base.attributes x.owner Inherited i k) Below
            x.forward_needs (λ i sees. attribute_in file n x.owner Inherited i sees.attribute) named.needs);
      }

  pub is_nonterminal : (x : Nonterminal ⊎ List ℕ) (row : Nonterminal)
      → Contains (sources file.base.attributes.nonterminals (nonterminals file.items)) x → IsNonterminalNow file s x row
      → IsNonterminal file n x row
  is_nonterminal (inl x) row has e =
      subst (IsMovedNonterminal (move_of file n) x) (sym e)
      (copied x (source_before file.base.attributes.nonterminals (nonterminals file.items) x has))
  is_nonterminal (inr name) row has e = record {
    name_is = e.name_is;
    owner_is = e.owner_is;
    closed = e.closed;
    needs = zip_weaker (IsAt s.attributes) (IsNumber n.attributes file.owner) own_attribute (forward_needs_of name file.items)
        row.forward_needs e.needs;
  }

  -- rows of attributes, occurrences and preferences
  pub is_attribute : (x : Attribute ⊎ AttributeDeclaration) (row : Attribute) → IsFrom (IsAttributeNow m) (IsFoundAttribute s) x row
      → IsAttribute file n x row
  is_attribute (inl x) row e = moved_attribute m (move_of file n) moves stays x row e
  is_attribute (inr d) row e =
      subst (λ (o : ℕ). IsAttributeRow n o file.items d row) owner (found_attribute s n file.items scope d row e)

  pub is_occurrence : (x : Occurrence ⊎ OccurrenceDeclaration) (row : Occurrence)
      → Contains (sources file.base.attributes.occurrences (occurrences file.items)) x
      → IsFrom (IsOccurrenceNow m) (IsFoundOccurrence s) x row → IsOccurrence file n x row
  is_occurrence (inl x) row has e =
      let named = all_contained (IsNamedOccurrence file.base.attributes) file.base.attributes.occurrences x
      base.attributes.named.occurrences
      (source_before file.base.attributes.occurrences (occurrences file.items) x has) in
      moved_occurrence m (move_of file n) moves stays x row (attribute_in file n x.owner named.direction x.attribute named.attribute)
      (all_weaker (λ (i : ℕ). SeesOccurrence file.base.attributes x.owner Inherited i x.nonterminal) Below x.needs
      (λ i sees. attribute_in file n x.owner Inherited i sees.attribute) named.needs) e
  is_occurrence (inr d) row has e =
      subst (λ (o : ℕ). IsOccurrenceRow n o file.items d row) owner (found_occurrence s n file.items scope d row e)

  pub is_preference : (x : Preference ⊎ PreferenceDeclaration) (row : Preference) → IsFrom (IsPreferenceNow m) (IsFoundPreference s) x row
      → IsPreference file n x row
  is_preference (inl x) row e = moved_preference m (move_of file n) moves stays x row e
  is_preference (inr d) row e =
      subst (λ (o : ℕ). IsPreferenceRow n o file.items d row) owner (found_preference s n file.items scope d row e)

  -- the number of a nonterminal
  pub is_nonterminal_number : (x : ℕ ⊎ List ℕ) (k : ℕ) → IsNumberNow s m x k → IsNonterminalNumber file n x k
  is_nonterminal_number (inl j) k e = moves.nonterminals j k e
  is_nonterminal_number (inr name) k e =
      subst (λ (o : ℕ). IsNumber n.nonterminals o name k) owner
      (is_number s.nonterminals n.nonterminals s.owner scope.nonterminals name k e)

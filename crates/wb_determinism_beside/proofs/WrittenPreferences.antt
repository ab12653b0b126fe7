-- With an extension the host's preferences stay, and each other one names a terminal or layout of the extension.
use Rattle.std.proofs.Common.{◌≡◌, ◌⊎◌, inl, inr, [], ℕ, List, Some, Contains, map, ap, refl, sym, subst}
use Rattle.std.proofs.Common.{◌∙◌, arith}
use Rattle.std.proofs.lemmas.Option.{same_Some}
use Rattle.wb_lemmas.proofs.Members.{contains_at, place_of}
use Rattle.wb_lemmas.proofs.Places.{append_keeps}
use Rattle.wb_lemmas.proofs.Zips.{beside, zip_at}
use Rattle.wb_base.specs.Grammar.{GrammarView}
use Rattle.wb_names.specs.Resolving.{ResolvesExtension}
use Rattle.wb_names_theory.specs.declared.declaration.Declaration.TheVariants as d
use Rattle.wb_names_theory.specs.Declarations.{Items, PreferenceDeclaration, plain_items, preference_of, preferences}
use Rattle.wb_names_theory.specs.Declares.{item_declarations}
use Rattle.wb_names_theory.specs.Orphan as orphan
use Rattle.wb_names_numbers_theory.specs.Moved.{IsMovedNumber, IsMovedPreference}
use Rattle.wb_names_numbers_theory.specs.Numbering.{IsNumber, numbering_of}
use Rattle.wb_names_numbers_theory.specs.Resolves.{IsPreference}
use Rattle.wb_names_numbers_theory.specs.Sources.{sources}
use Rattle.wb_names_numbers_theory.proofs.Carrying.{name_at, row_at}
use Rattle.wb_names_numbers_theory.proofs.NumberLemmas.{differ_left}
use Rattle.wb_names_numbers_theory.proofs.PreferencesOnce.{IsAtSource, at_source, new, old}
use Rattle.wb_names_numbers_theory.proofs.RowLemmas.{contains_map, map_contains}
use Rattle.wb_names_numbers_theory.proofs.RowsOwned.{plain_declares}
use Rattle.wb_names_numbers_theory.proofs.Selected.{kept_from}
use Rattle.wb_syntax_resolved.specs.declared.resolved.ResolvedParts.{ResolvedParts}
use Rattle.wb_syntax_resolved.specs.declared.terminal.Preference.{Preference}
use Rattle.wb_syntax_resolved.specs.declared.terminal.Terminal.{Terminal}
use Rattle.wb_syntax_resolved.specs.Once.{Entry, symbol_names}
use Rattle.wb_syntax_resolved.specs.Resolved.{IsResolved}
use Rattle.wb_syntax.specs.declared.item.PlainForm.{PlainForm}
use Rattle.wb_syntax.specs.declared.item.PlainForm.TheVariants as i
use Rattle.wb_syntax.specs.SpecText.{SpecView}
use Rattle.wb_determinism_beside.proofs.KeptLemmas as k
use Rattle.wb_determinism_beside.proofs.RowLemmas.{map_at}
use Rattle.wb_determinism_beside.proofs.WrittenRows.{IsOwnPlace, names_apart, own_decided, row_down, row_up, up}

-- the preferences that items write they declare
preference_declares : (items : Items) (x : PreferenceDeclaration) → Contains (preferences items) x
    → Contains (item_declarations items) (d.Preference x.first x.second)
preference_declares items x has =
    let z = kept_from preference_of (plain_items items) x has in from z.0 z.1 z.2 where
      from : (form : PlainForm) → Contains (plain_items items) form → preference_of form ≡ Some x
          → Contains (item_declarations items) (d.Preference x.first x.second)
      from (i.Prefer first second) there e =
          let same : (record { first = first; second = second }) ≡ x = same_Some (record { first = first; second = second }) x e in
          subst (λ (y : PreferenceDeclaration). Contains (item_declarations items) (d.Preference y.first y.second)) same
          (plain_declares items (i.Prefer first second) there)
      from (i.Extensible m) there e = absurd (cc e)
      from (i.Closed m) there e = absurd (cc e)
      from (i.Nonterminal m) there e = absurd (cc e)
      from (i.Start m) there e = absurd (cc e)
      from (i.Synthesized m its) there e = absurd (cc e)
      from (i.Inherited m its) there e = absurd (cc e)
      from (i.Occurs m l needs) there e = absurd (cc e)
      from (i.ForwardOn m needs) there e = absurd (cc e)

-- a preference as a pair
abbrev pub pair_of : Preference → ℕ × ℕ
pair_of p = (p.first, p.second)

module _ (host r : ResolvedParts) (spec : SpecView) (names : ResolvesExtension host spec r) (host_whole : IsResolved host)
    (whole : IsResolved r) (h g : GrammarView) (host_start : host.grammar ≡ Some h) (start : r.grammar ≡ Some g)
    (alone : host.attributes.extensions ≡ []) where
  abbrev pub up_here : ℕ → ℕ
  up_here t = up host r spec names host_whole whole h g host_start start alone t

  abbrev entry : Terminal → Entry
  entry t = (t.owner, t.name)

  -- a number of the host's that is moved is moved up
  moved_up : (t other : ℕ) → IsMovedNumber (λ (o : ℕ). o) (numbering_of host).terminals (numbering_of r).terminals t other →
      other ≡ up_here t
  moved_up t other m =
      let was = row_at entry host.terminals t m.owner m.name m.before in
      let x = row_up host r spec names host_whole whole h g host_start start alone t was.row was.is in
      let owner_is = x.moved.owner ∙ was.owner_is in
      let name_is = x.moved.name ∙ was.name_is in
      let same : entry x.row ≡ (m.owner, m.name) = λ z. (owner_is z, name_is z) in
      let there = name_at entry r.terminals (up_here t) x.row x.there ∙ ap Some same in
      sym (differ_left (numbering_of r).terminals (symbol_names r.attributes) whole.once.symbols (up_here t) other m.owner m.owner m.name
      there m.after (inr refl))

  -- the host's preferences stay
  pub preferred : (t u : ℕ) → Contains (map pair_of host.preferences) (t, u) → Contains (map pair_of r.preferences) (up_here t, up_here u)
  preferred t u has =
      let (p, listed, same) = contains_map pair_of host.preferences (t, u) has in
      let (j, at) = place_of host.preferences p listed in
      let found = zip_at (IsPreference (k.file host r spec names host_whole whole h g host_start start) (numbering_of r))
      (sources host.preferences (preferences spec.items)) r.preferences j (inl p) names.value.preferences
      (append_keeps (map inl host.preferences) (map inr (preferences spec.items)) j (inl p) (map_at inl host.preferences j p at)) in
      let moved : IsMovedPreference (k.move host r spec names host_whole whole h g host_start start) p found.other = found.related in
      let first = moved_up p.first found.other.first moved.first ∙ ap up_here (ap (λ (z : ℕ × ℕ). z.0) same) in
      let second = moved_up p.second found.other.second moved.second ∙ ap up_here (ap (λ (z : ℕ × ℕ). z.1) same) in
      subst (λ z. Contains (map pair_of r.preferences) (z, up_here u)) first
      (subst (λ z. Contains (map pair_of r.preferences) (found.other.first, z)) second
      (map_contains pair_of r.preferences found.other (contains_at r.preferences found.other j found.there)))

  -- a preference of the host, moved up
  pub record IsMovedPair (t u : ℕ) : Type 0 where
    pub first : ℕ
    pub second : ℕ
    pub listed : Contains (map pair_of host.preferences) (first, second)
    pub first_is : t ≡ up_here first
    pub second_is : u ≡ up_here second

  abbrev pub IsOwn : ℕ → Type 0
  IsOwn t = IsOwnPlace host r spec names host_whole whole h g host_start start alone t

  decided : (t : ℕ) → IsOwn t ⊎ (¬ IsOwn t)
  decided t = own_decided host r spec names host_whole whole h g host_start start alone t

  -- a name that the extension declares isn't that of a host's row
  not_own_symbol : (t : ℕ) (name : List ℕ) → IsNumber (numbering_of r).terminals 1 name t → ¬ IsOwn t →
      ¬ orphan.IsOwnSymbol (item_declarations spec.items) name
  not_own_symbol t name number other (is, has) =
      let found = row_at entry r.terminals t number.other name number.is in
      let x = row_down host r spec names host_whole whole h g host_start start alone t found.row found.is other in
      names_apart host r spec names host_whole whole h g host_start start alone x.number x.was x.there is
      (subst (λ z. Contains (item_declarations spec.items) (d.Symbol z is)) (sym found.name_is ∙ x.moved.name) has)

  -- each preference is the host's, or names a terminal or layout of the extension
  pub preferences_are : (t u : ℕ) → Contains (map pair_of r.preferences) (t, u) → IsMovedPair t u ⊎ (IsOwn t ⊎ IsOwn u)
  preferences_are t u has =
      let (q, listed, same) = contains_map pair_of r.preferences (t, u) has in
      let (j, at) = place_of r.preferences q listed in
      let source = beside (IsPreference (k.file host r spec names host_whole whole h g host_start start) (numbering_of r))
      (sources host.preferences (preferences spec.items)) r.preferences j q names.value.preferences at in
      by q same j (at_source host.preferences (preferences spec.items) j source.other source.at) source.related
    where
      by : (q : Preference) → pair_of q ≡ (t, u) → (j : ℕ) → {z : Preference ⊎ PreferenceDeclaration} →
          IsAtSource host.preferences (preferences spec.items) j z →
          IsPreference (k.file host r spec names host_whole whole h g host_start start) (numbering_of r) z q →
          IsMovedPair t u ⊎ (IsOwn t ⊎ IsOwn u)
      by q same j (old {x = p} there) moved = inl (record {
        first = p.first;
        second = p.second;
        listed = map_contains pair_of host.preferences p (contains_at host.preferences p j there);
        first_is = sym (ap (λ (z : ℕ × ℕ). z.0) same) ∙ moved_up p.first q.first moved.first;
        second_is = sym (ap (λ (z : ℕ × ℕ). z.1) same) ∙ moved_up p.second q.second moved.second;
      })
      by q same j (new {x = p} n e there) is_row = elim (decided t) [
        | inl mine ↦ inr (inl mine)
        | inr first ↦ elim (decided u) [
          | inl mine ↦ inr (inr mine)
          | inr second ↦ absurd (names.names.owned (λ z. omega (arith, z)) p.first (orphan.preference
              (preference_declares spec.items p (contains_at (preferences spec.items) p n there))
              (not_own_symbol t p.first (subst (IsNumber (numbering_of r).terminals 1 p.first) (ap (λ (z : ℕ × ℕ). z.0) same) is_row.first)
              first)
              (not_own_symbol u p.second (subst (IsNumber (numbering_of r).terminals 1 p.second) (ap (λ (z : ℕ × ℕ). z.1) same)
              is_row.second) second)))
        ]
      ]

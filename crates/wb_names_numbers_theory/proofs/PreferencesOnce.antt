-- No preference and no extensible nonterminal of a value is there twice.
use Rattle.std.proofs.Common.{◌≡◌, ◌≤◌, ◌+◌, ◌++◌, ◌∷◌, ◌⊎◌, inl, inr, ℕ, zero, suc, List, Option, Some, None}
use Rattle.std.proofs.Common.{Contains, map, length, slice_get, ap, sym, refl, subst, ◌∙◌, arith}
use Rattle.std.specs.Prelude.{option_map, option_to_list, filter_map}
use Rattle.std.specs.Str.{bytes_eq}
use Rattle.std.proofs.lemmas.Option.{slice_get-map}
use Rattle.std.proofs.lemmas.List.{length-map}
use Rattle.wb_lemmas.proofs.Booleans.{and_both}
use Rattle.wb_lemmas.proofs.Members.{contains_at, append_contains_right}
use Rattle.wb_lemmas.proofs.Places.{at_once, at_append, append_after, nothing_at}
use Rattle.wb_lemmas.proofs.Zips.{beside}
use Rattle.wb_base.specs.Different.{Differ}
use Rattle.wb_syntax_resolved.specs.declared.production.Production.{Production}
use Rattle.wb_syntax_resolved.specs.declared.resolved.ResolvedParts.{ResolvedParts}
use Rattle.wb_syntax_resolved.specs.declared.terminal.Preference.{Preference}
use Rattle.wb_syntax_resolved.specs.declared.terminal.Terminal.{Terminal}
use Rattle.wb_syntax_resolved.specs.Once.{Entry, NamesDiffer, symbol_names}
use Rattle.wb_syntax.specs.declared.expression.Target.{Target}
use Rattle.wb_syntax.specs.declared.expression.Target.TheVariants as g
use Rattle.wb_syntax.specs.declared.item.Item.{Item}
use Rattle.wb_syntax.specs.declared.item.ItemForm.{ItemForm}
use Rattle.wb_syntax.specs.declared.item.ItemForm.TheVariants as f
use Rattle.wb_syntax.specs.declared.item.PlainForm.{PlainForm}
use Rattle.wb_syntax.specs.declared.item.PlainForm.TheVariants as i
use Rattle.wb_syntax.specs.declared.pattern.Pattern.{Pattern}
use Rattle.wb_names_theory.specs.declared.declaration.Declaration.{Declaration}
use Rattle.wb_names_theory.specs.declared.declaration.Declaration.TheVariants as d
use Rattle.wb_names_theory.specs.declared.declaration.Sort.{Sort}
use Rattle.wb_names_theory.specs.declared.declaration.Sort.TheVariants as sort
use Rattle.wb_names_theory.specs.Declarations.{Items, PreferenceDeclaration, LexicalDeclaration, preferences, extensibles}
use Rattle.wb_names_theory.specs.Declarations.{plain_items, plain_of, preference_of, extensible_of, lexicals, productions}
use Rattle.wb_names_theory.specs.Declares.{declarations, base_declarations, item_declarations, form_declarations, plain_declaration}
use Rattle.wb_names_theory.specs.Declares.{target_declaration}
use Rattle.wb_names_numbers_theory.specs.Files.{File}
use Rattle.wb_names_numbers_theory.specs.Given.{IsFile}
use Rattle.wb_names_numbers_theory.specs.Moved.{IsMovedNumber, IsMovedTerminalNumber}
use Rattle.wb_names_numbers_theory.specs.Numbering.{Numbering, numbering_of, IsNumber}
use Rattle.wb_names_numbers_theory.specs.Resolves.{move_of, IsPreference, IsNonterminalNumber, IsTerminal, IsScanned, IsConcrete}
use Rattle.wb_names_numbers_theory.specs.Resolves.{IsProduction}
use Rattle.wb_names_numbers_theory.specs.Sources.{sources}
use Rattle.wb_names_numbers_theory.proofs.Carrying.{row_at, name_at}
use Rattle.wb_names_numbers_theory.proofs.Counts.{times_nested, count_items}
use Rattle.wb_names_numbers_theory.proofs.Found.{nonterminal_found}
use Rattle.wb_names_numbers_theory.proofs.Ground.{Ground}
use Rattle.wb_names_numbers_theory.proofs.NumberLemmas.{one_number, differ_left, differ_right, not_in_both}
use Rattle.wb_names_numbers_theory.proofs.OneRow.{same_preference, terminals_differ, not_both}
use Rattle.wb_names_numbers_theory.proofs.OwnDeclared.{IsOwnDeclared, own_declared, kept}
use Rattle.wb_names_numbers_theory.proofs.OwnDeclared as own
use Rattle.wb_names_numbers_theory.proofs.OwnNamed.{Known}
use Rattle.wb_names_numbers_theory.proofs.RowLemmas.{row_of, there_declared}
use Rattle.wb_names_numbers_theory.proofs.RowsOwned.{plain_declares}
use Rattle.wb_names_numbers_theory.proofs.Selected.{bytes_same, kept_from}
use Rattle.wb_names_numbers_theory.proofs.TargetsOnce.{number_name}
use Rattle.wb_names_numbers_theory.proofs.Times.{times, times_append, times_once, one_place}

-- where a number is moved from
from_one : (names others : List Entry) → NamesDiffer names → (k j to : ℕ) → IsMovedNumber (λ (o : ℕ). o) names others k to
    → IsMovedNumber (λ (o : ℕ). o) names others j to → k ≡ j
from_one names others differ k j to x y =
    let same : (x.owner, x.name) ≡ (y.owner, y.name) = at_once others to (x.owner, x.name) (y.owner, y.name) x.after y.after in
    differ k j y.owner y.owner y.name (x.before ∙ ap Some same) y.before (inr refl)

-- preferences and extensible nonterminals of items are once
module _ (a m : List ℕ) where
  abbrev x : Declaration
  x = d.Preference a m

  abbrev mark : PreferenceDeclaration → Declaration
  mark y = d.Preference y.first y.second

  abbrev total : Items → ℕ
  total items = times x (map mark (preferences items))

  abbrev of_form : ItemForm Pattern → ℕ
  of_form form = times x (map mark (filter_map preference_of (option_to_list (plain_of form))))

  step : (item : Item Pattern) (items : Items) → total (item ∷ items) ≡ of_form item.form + total items
  step item items = times_nested x mark preference_of (plain_of item.form) (plain_items items)

  each : (form : ItemForm Pattern) → of_form form ≤ times x (form_declarations form)
  each (f.Lexical kind one pattern) = omega arith
  each (f.Plain (i.Prefer first second)) = omega arith
  each (f.Plain (i.Nonterminal one)) = omega arith
  each (f.Plain (i.Start one)) = omega arith
  each (f.Plain (i.Extensible one)) = omega arith
  each (f.Plain (i.Closed one)) = omega arith
  each (f.Plain (i.Synthesized one its)) = omega arith
  each (f.Plain (i.Inherited one its)) = omega arith
  each (f.Plain (i.Occurs c m needs)) = omega arith
  each (f.Plain (i.ForwardOn m needs)) = omega arith
  each (f.Production kind p) = omega arith
  each (f.Aspect one es) = omega arith

  pub preferences_count : (items : Items) → total items ≤ times x (item_declarations items)
  preferences_count items = count_items x of_form total refl step each items

module _ (a : List ℕ) where
  abbrev y : Declaration
  y = d.Extensible a

  abbrev extensible_total : Items → ℕ
  extensible_total items = times y (map d.Extensible (extensibles items))

  abbrev extensible_form : ItemForm Pattern → ℕ
  extensible_form form = times y (map d.Extensible (filter_map extensible_of (option_to_list (plain_of form))))

  extensible_step : (item : Item Pattern) (items : Items) → extensible_total (item ∷ items) ≡ extensible_form item.form + extensible_total
      items
  extensible_step item items = times_nested y d.Extensible extensible_of (plain_of item.form) (plain_items items)

  extensible_each : (form : ItemForm Pattern) → extensible_form form ≤ times y (form_declarations form)
  extensible_each (f.Lexical kind one pattern) = omega arith
  extensible_each (f.Plain (i.Prefer first second)) = omega arith
  extensible_each (f.Plain (i.Nonterminal one)) = omega arith
  extensible_each (f.Plain (i.Start one)) = omega arith
  extensible_each (f.Plain (i.Extensible one)) = omega arith
  extensible_each (f.Plain (i.Closed one)) = omega arith
  extensible_each (f.Plain (i.Synthesized one its)) = omega arith
  extensible_each (f.Plain (i.Inherited one its)) = omega arith
  extensible_each (f.Plain (i.Occurs c m needs)) = omega arith
  extensible_each (f.Plain (i.ForwardOn m needs)) = omega arith
  extensible_each (f.Production kind p) = omega arith
  extensible_each (f.Aspect one es) = omega arith

  pub extensibles_count : (items : Items) → extensible_total items ≤ times y (item_declarations items)
  extensibles_count items = count_items y extensible_form extensible_total refl extensible_step extensible_each items

-- where an element of the sources is
pub data IsAtSource {A B : Type 0} (before : List A) (declared : List B) (i : ℕ) : A ⊎ B → Type 0 where
  old : {x : A} → slice_get before i ≡ Some x → IsAtSource before declared i (inl x)
  new : {x : B} (j : ℕ) → i ≡ length before + j → slice_get declared j ≡ Some x → IsAtSource before declared i (inr x)

mapped_option : {X Y : Type 0} (g : X → Y) (o : Option X) (y : Y) → option_map g o ≡ Some y → (x : X) × (o ≡ Some x) × (g x ≡ y)
mapped_option g None y e = absurd (cc e)
mapped_option g (Some x) y e = let same : g x ≡ y = cc in (x, refl, same)

pub at_source : {A B : Type 0} (before : List A) (declared : List B) (i : ℕ) (x : A ⊎ B) → slice_get (sources before declared) i ≡ Some x
    → IsAtSource before declared i x
at_source {A} {B} before declared i x at =
    let left : A → A ⊎ B = inl in
    let right : B → A ⊎ B = inr in
    elim (at_append (map left before) (map right declared) x i at) [
      | inl h ↦ let o = mapped_option left (slice_get before i) x (sym (slice_get-map left before i) ∙ h) in
          subst (IsAtSource before declared i) o.2 (old o.1)
      | inr h ↦ let o = mapped_option right (slice_get declared h.0) x (sym (slice_get-map right declared h.0) ∙ h.2) in
          let count : length (map left before) ≡ length before = length-map before left in
          subst (IsAtSource before declared i) o.2 (new h.0 (h.1 ∙ ap (λ z. z + h.0) count) o.1)
    ]

module _ (file : File) (r : ResolvedParts) (given : IsFile file) (k : Known file r) where
  abbrev n : Numbering
  n = numbering_of r

  abbrev ground : Ground file r
  ground = k.ground

  abbrev mark_of : PreferenceDeclaration → Declaration
  mark_of y = d.Preference y.first y.second

  base_terminals_differ : NamesDiffer (numbering_of file.base).terminals
  base_terminals_differ = differ_left (numbering_of file.base).terminals (symbol_names file.base.attributes) ground.base.once.symbols

  base_nonterminals_differ : NamesDiffer (numbering_of file.base).nonterminals
  base_nonterminals_differ =
      differ_left (numbering_of file.base).nonterminals (numbering_of file.base).productions
      (differ_right (numbering_of file.base).terminals (symbol_names file.base.attributes) ground.base.once.symbols)

  -- a terminal that items declare is the file's own
  own_terminal_row : (y : LexicalDeclaration) → Contains (lexicals file.items) y → (t : ℕ) → (is : IsNumber n.terminals file.owner y.name t)
      → is.other ≡ file.owner
  own_terminal_row y has t is =
      let h = row_of IsScanned (IsTerminal file n) (sources file.base.terminals (lexicals file.items)) r.terminals ground.resolves.terminals
      (inr y)
      (there_declared file.base.terminals (lexicals file.items) y has) in
      let entry : slice_get n.terminals h.place ≡ Some (h.row.owner, y.name) =
      name_at (λ (z : Terminal). (z.owner, z.name)) r.terminals h.place h.row h.at ∙ ap (λ (z : List ℕ). Some (h.row.owner, z))
      h.is_row.name in
      let number : IsNumber n.terminals file.owner y.name h.place = record { other = h.row.owner; is = entry; seen = inr h.is_row.owner_is }
      in
      let same = one_number n.terminals (terminals_differ n ground.distinct) file.owner y.name h.place t number is in
      let both = at_once n.terminals t (h.row.owner, y.name) (is.other, y.name)
      (subst (λ z. slice_get n.terminals z ≡ Some (h.row.owner, y.name)) same entry) is.is in
      sym (ap (λ (e : Entry). e.0) both) ∙ h.is_row.owner_is

  own_symbol : (name : List ℕ) (of : Sort) → IsOwnDeclared file.items (d.Symbol name of) → (t : ℕ)
      → (is : IsNumber n.terminals file.owner name t) → is.other ≡ file.owner
  own_symbol name of (own.lexical y has e) t is =
      let same : name ≡ y.name = cc in
      let moved : IsNumber n.terminals file.owner y.name t =
      record { other = is.other; is = is.is ∙ ap (λ (z : List ℕ). Some (is.other, z)) same; seen = is.seen } in
      own_terminal_row y has t moved
  own_symbol name of (own.plain y has e) t is = from y has e where
    from : (y : PlainForm) → Contains (plain_items file.items) y → plain_declaration y ≡ d.Symbol name of → is.other ≡ file.owner
    from (i.Nonterminal one) has e =
        let same : one ≡ name = cc in
        let f = nonterminal_found file r ground one (append_contains_right (base_declarations file.base) (item_declarations file.items)
        (d.Symbol one sort.Nonterminal) (plain_declares file.items (i.Nonterminal one) has)) in
        absurd (not_both n ground.distinct file.owner name t f.number is (subst (λ z. IsNumber n.nonterminals file.owner z f.number) same
        f.is))
    from (i.Prefer first second) has e = absurd (cc e)
    from (i.Start one) has e = absurd (cc e)
    from (i.Extensible one) has e = absurd (cc e)
    from (i.Closed one) has e = absurd (cc e)
    from (i.Synthesized one its) has e = absurd (cc e)
    from (i.Inherited one its) has e = absurd (cc e)
    from (i.Occurs c m needs) has e = absurd (cc e)
    from (i.ForwardOn m needs) has e = absurd (cc e)
  own_symbol name of (own.production y has e) t is =
      let same : y.production.name ≡ name = cc in
      let b = file.base.attributes in
      let h = row_of IsConcrete (IsProduction file n) (sources b.productions (productions file.items)) r.attributes.productions
      ground.resolves.productions (inr y) (there_declared b.productions (productions file.items) y has) in
      let number : IsNumber (n.nonterminals ++ n.productions) file.owner name (length n.nonterminals + h.place) = record {
        other = h.row.owner;
        is = append_after n.nonterminals n.productions h.place
            ∙ (name_at (λ (z : Production). (z.owner, z.name)) r.attributes.productions h.place h.row h.at
            ∙ ap (λ (z : List ℕ). Some (h.row.owner, z)) (h.is_row.name ∙ same));
        seen = inr h.is_row.owner_is;
      } in
      absurd (not_in_both n.terminals (n.nonterminals ++ n.productions) ground.distinct.symbols file.owner name t
      (length n.nonterminals + h.place) is number)
  own_symbol name of (own.left y has e) t is = absurd (cc e)
  own_symbol name of (own.child y has c more e) t is = absurd (cc e)
  own_symbol name of (own.equation y has q more e) t is = absurd (no_symbol y.name q.target e) where
    no_symbol : (p : List ℕ) (to : Target) → target_declaration p to ≡ d.Symbol name of → ⊥
    no_symbol p (g.Top c) e = absurd (cc e)
    no_symbol p (g.Label l c) e = absurd (cc e)
    no_symbol p (g.Forward c) e = absurd (cc e)
    no_symbol p (g.Local l c) e = absurd (cc e)
    no_symbol p g.ForwardsTo e = absurd (cc e)

  -- a host's terminal isn't the file's own, where the file isn't a host's
  not_own : (o : ℕ) → file.owner ≡ suc o → (j t : ℕ) → IsMovedTerminalNumber (move_of file n) j t → (name : List ℕ)
      → IsNumber n.terminals file.owner name t → (of : Sort) → Contains (item_declarations file.items) (d.Symbol name of) → ⊥
  not_own o is j t m name number of has =
      let owned = own_symbol name of (own_declared file.items (d.Symbol name of) has) t number in
      let same = at_once n.terminals t (m.owner, m.name) (number.other, name) m.after number.is in
      let before = row_at (λ (z : Terminal). (z.owner, z.name)) file.base.terminals j m.owner m.name m.before in
      let zero_is : m.owner ≡ 0 = sym before.owner_is ∙ ground.host.terminals before.row (contains_at file.base.terminals before.row j
      before.is) in
      let both : 0 ≡ suc o = sym zero_is ∙ (ap (λ (e : Entry). e.0) same ∙ (owned ∙ is)) in
      absurd (omega (arith, both))

  preference_own : (y : PreferenceDeclaration) → Contains (preferences file.items) y
      → Contains (item_declarations file.items) (d.Preference y.first y.second)
  preference_own y has = let z = kept_from preference_of (plain_items file.items) y has in from z.0 z.1 z.2 where
    from : (form : PlainForm) → Contains (plain_items file.items) form → preference_of form ≡ Some y
        → Contains (item_declarations file.items) (d.Preference y.first y.second)
    from (i.Prefer first second) there e =
        let same : record { first = first; second = second } ≡ y = cc in
        subst (λ (z : PreferenceDeclaration). Contains (item_declarations file.items) (d.Preference z.first z.second)) same
        (plain_declares file.items (i.Prefer first second) there)
    from (i.Start m) there e = absurd (cc e)
    from (i.Nonterminal m) there e = absurd (cc e)
    from (i.Extensible m) there e = absurd (cc e)
    from (i.Closed m) there e = absurd (cc e)
    from (i.Synthesized m its) there e = absurd (cc e)
    from (i.Inherited m its) there e = absurd (cc e)
    from (i.Occurs m l needs) there e = absurd (cc e)
    from (i.ForwardOn m needs) there e = absurd (cc e)

  -- a preference of the base isn't one of the file
  apart : (o : ℕ) → file.owner ≡ o → (p : Preference) (at : ℕ) → slice_get file.base.preferences at ≡ Some p → (y : PreferenceDeclaration)
      → Contains (preferences file.items) y → (row : Preference) → IsPreference file n (inl p) row → IsPreference file n (inr y) row → ⊥
  apart zero is p at there y has row e f =
      nothing_at p at (subst (λ z. slice_get z at ≡ Some p) (given.host is).0 there)
  apart (suc o) is p at there y has row e f =
      let owned = (k.hold.owned (λ z. not_zero (sym z ∙ is))).preferences y.first y.second (preference_own y has) in
      elim owned [
        | inl h ↦ not_own o is p.first row.first e.first y.first f.first h.0 h.1
        | inr h ↦ not_own o is p.second row.second e.second y.second f.second h.0 h.1
      ] where
        not_zero : 0 ≡ suc o → ⊥
        not_zero z = absurd (omega (arith, z))

  pub preferences_differ : Differ r.preferences
  preferences_differ p i j at_i at_j =
      let xs = sources file.base.preferences (preferences file.items) in
      let u = beside (IsPreference file n) xs r.preferences i p ground.resolves.preferences at_i in
      let v = beside (IsPreference file n) xs r.preferences j p ground.resolves.preferences at_j in
      by_source u.other v.other (at_source file.base.preferences (preferences file.items) i u.other u.at)
      (at_source file.base.preferences (preferences file.items) j v.other v.at) u.related v.related where
        by_source : (u v : Preference ⊎ PreferenceDeclaration) → IsAtSource file.base.preferences (preferences file.items) i u
            → IsAtSource file.base.preferences (preferences file.items) j v → IsPreference file n u p → IsPreference file n v p → i ≡ j
        by_source u v (old {x = q} a) (old {x = s} c) e f =
            let first = from_one (numbering_of file.base).terminals n.terminals base_terminals_differ q.first s.first p.first e.first
            f.first in
            let second = from_one (numbering_of file.base).terminals n.terminals base_terminals_differ q.second s.second p.second e.second
            f.second in
            ground.base.once.preferences s i j (a ∙ ap Some (same_preference q s first second)) c
        by_source u v (old {x = q} a) (new {x = s} b same c) e f =
            absurd (apart file.owner refl q i a s (contains_at (preferences file.items) s b c) p e f)
        by_source u v (new {x = s} b same c) (old {x = q} a) e f =
            absurd (apart file.owner refl q j a s (contains_at (preferences file.items) s b c) p f e)
        by_source u v (new {x = q} b same a) (new {x = s} c same_too e_at) e f =
            let first = number_name n.terminals file.owner q.first s.first p.first e.first f.first in
            let second = number_name n.terminals file.owner q.second s.second p.second e.second f.second in
            let z = d.Preference q.first q.second in
            let items = preferences_count q.first q.second file.items in
            let both = times_append z (base_declarations file.base) (item_declarations file.items) in
            let few = times_once z (declarations file.base file.items) k.hold.once in
            let one : times z (map mark_of (preferences file.items)) ≤ 1 = omega (arith, items, both, few) in
            let place = one_place z (map mark_of (preferences file.items)) one b c (mark_of q) (mark_of s)
            (slice_get-map mark_of (preferences file.items) b ∙ ap (option_map mark_of) a)
            (slice_get-map mark_of (preferences file.items) c ∙ ap (option_map mark_of) e_at)
            (and_both (bytes_eq q.first q.first) (bytes_eq q.second q.second) (bytes_same q.first q.first refl) (bytes_same q.second
            q.second refl))
            (and_both (bytes_eq q.first s.first) (bytes_eq q.second s.second) (bytes_same q.first s.first first)
            (bytes_same q.second s.second second)) in
            omega (arith, same, same_too, place)

  -- extensible nonterminals
  extensible_own : (name : List ℕ) → Contains (extensibles file.items) name → Contains (item_declarations file.items) (d.Extensible name)
  extensible_own name has = let z = kept_from extensible_of (plain_items file.items) name has in from z.0 z.1 z.2 where
    from : (form : PlainForm) → Contains (plain_items file.items) form → extensible_of form ≡ Some name
        → Contains (item_declarations file.items) (d.Extensible name)
    from (i.Extensible m) there e =
        let same : m ≡ name = cc in
        subst (λ z. Contains (item_declarations file.items) (d.Extensible z)) same (plain_declares file.items (i.Extensible m) there)
    from (i.Prefer first second) there e = absurd (cc e)
    from (i.Nonterminal m) there e = absurd (cc e)
    from (i.Start m) there e = absurd (cc e)
    from (i.Closed m) there e = absurd (cc e)
    from (i.Synthesized m its) there e = absurd (cc e)
    from (i.Inherited m its) there e = absurd (cc e)
    from (i.Occurs m l needs) there e = absurd (cc e)
    from (i.ForwardOn m needs) there e = absurd (cc e)

  extensible_apart : (o : ℕ) → file.owner ≡ o → (p at : ℕ) → slice_get file.base.extensible at ≡ Some p → (name : List ℕ)
      → Contains (extensibles file.items) name → ⊥
  extensible_apart zero is p at there name has = nothing_at p at (subst (λ z. slice_get z at ≡ Some p) (given.host is).1 there)
  extensible_apart (suc o) is p at there name has =
      (k.hold.owned (λ z. let both : 0 ≡ suc o = sym z ∙ is in absurd (omega (arith, both)))).extensible name (extensible_own name has)

  pub extensible_differ : Differ r.extensible
  extensible_differ p i j at_i at_j =
      let xs = sources file.base.extensible (extensibles file.items) in
      let u = beside (IsNonterminalNumber file n) xs r.extensible i p ground.resolves.extensible at_i in
      let v = beside (IsNonterminalNumber file n) xs r.extensible j p ground.resolves.extensible at_j in
      by_source u.other v.other (at_source file.base.extensible (extensibles file.items) i u.other u.at)
      (at_source file.base.extensible (extensibles file.items) j v.other v.at) u.related v.related where
        by_source : (u v : ℕ ⊎ List ℕ) → IsAtSource file.base.extensible (extensibles file.items) i u
            → IsAtSource file.base.extensible (extensibles file.items) j v → IsNonterminalNumber file n u p
            → IsNonterminalNumber file n v p → i ≡ j
        by_source u v (old {x = q} a) (old {x = s} c) e f =
            let same = from_one (numbering_of file.base).nonterminals n.nonterminals base_nonterminals_differ q s p e f in
            ground.base.once.extensible s i j (a ∙ ap Some same) c
        by_source u v (old {x = q} a) (new {x = s} b same c) e f =
            absurd (extensible_apart file.owner refl q i a s (contains_at (extensibles file.items) s b c))
        by_source u v (new {x = s} b same c) (old {x = q} a) e f =
            absurd (extensible_apart file.owner refl q j a s (contains_at (extensibles file.items) s b c))
        by_source u v (new {x = q} b same a) (new {x = s} c same_too e_at) e f =
            let named = number_name n.nonterminals file.owner q s p e f in
            let z = d.Extensible q in
            let items = extensibles_count q file.items in
            let both = times_append z (base_declarations file.base) (item_declarations file.items) in
            let few = times_once z (declarations file.base file.items) k.hold.once in
            let one : times z (map d.Extensible (extensibles file.items)) ≤ 1 = omega (arith, items, both, few) in
            let place = one_place z (map d.Extensible (extensibles file.items)) one b c (d.Extensible q) (d.Extensible s)
            (slice_get-map d.Extensible (extensibles file.items) b ∙ ap (option_map d.Extensible) a)
            (slice_get-map d.Extensible (extensibles file.items) c ∙ ap (option_map d.Extensible) e_at) (bytes_same q q refl)
            (bytes_same q s named) in
            omega (arith, same, same_too, place)

-- What an extension adds to the rows of a host, and the nonterminals, attributes and occurrences with it.
use Rattle.std.proofs.Common.{◌≡◌, ◌∙◌, ◌≤◌, ◌++◌, ◌∷◌, [], ℕ, List, Option, Some, None, All, length, map, slice_get, take, drop, refl, sym}
use Rattle.std.proofs.Common.{ap, subst, arith}
use Rattle.std.proofs.lemmas.List.{append-nil, take-append-drop}
use Rattle.wb_lemmas.proofs.Elements.{all_left, all_right, all_weaker, all_from_places}
use Rattle.wb_lemmas.proofs.Zips.{zip_all}
use Rattle.wb_base.specs.Grammar.{GrammarView}
use Rattle.wb_names_theory.specs.Declarations.{Items}
use Rattle.wb_names_numbers_theory.specs.Moved.{IsMovedNonterminal, IsMovedAttribute, IsMovedOccurrence}
use Rattle.wb_names_numbers_theory.specs.Rows.{IsNonterminalRow, IsAttributeRow, IsOccurrenceRow, IsProductionRow, IsExtendedProduction}
use Rattle.wb_syntax_resolved.specs.declared.attributes.Attribute.{Attribute}
use Rattle.wb_syntax_resolved.specs.declared.attributes.Nonterminal.{Nonterminal}
use Rattle.wb_syntax_resolved.specs.declared.attributes.Occurrence.{Occurrence}
use Rattle.wb_syntax_resolved.specs.declared.attribution.AttributionParts.{AttributionParts}
use Rattle.wb_syntax_resolved.specs.declared.equation.Equation.{Equation}
use Rattle.wb_syntax_resolved.specs.declared.production.Child.{Child}
use Rattle.wb_syntax_resolved.specs.declared.production.Forward.{Forward}
use Rattle.wb_syntax_resolved.specs.declared.production.Local.{Local}
use Rattle.wb_syntax_resolved.specs.declared.production.Production.{Production}
use Rattle.wb_syntax_resolved.specs.declared.production.ProductionRole.{ProductionRole}
use Rattle.wb_syntax_resolved.specs.declared.resolved.ResolvedParts.{ResolvedParts}
use Rattle.wb_syntax_resolved.specs.Named.{IsNamedAttribute, IsNamedOccurrence}
use Rattle.wb_values.specs.Signature.{Signature}
use Rattle.wb_compose_theory_attributes.specs.Numbers.{NumberMap}
use Rattle.wb_compose_theory_attributes.specs.Rows.{new_nonterminal, new_attribute, new_occurrence}
use Rattle.wb_compose_theory_lists.specs.Additions.{Rows, Addition, nothing}
use Rattle.wb_compose_theory_lists.specs.Joined.{grouped, joined}
use Rattle.wb_compose_theory_lists.specs.Numbers.{locals_in, host_locals, number_without, local_number, numbers_of}
use Rattle.wb_compose_theory_lists.specs.United.{united_nonterminals, united_attributes, united_occurrences}
use Rattle.wb_compose_theory_lists.proofs.PlacedLemmas.{host_alone, after_alone, grouped_alone, after_below}
use Rattle.wb_compose_theory_lists.specs.Extended.{IsExtendedBy}
use Rattle.wb_compose_theory_lists.specs.Hosts.{rows_of}
use Rattle.wb_compose_theory_lists.proofs.ContextLemmas.{n, m, nonterminal_groups, production_groups, terminal_groups, attribute_parts}
use Rattle.wb_compose_theory_lists.proofs.ContextLemmas.{occurrence_parts, nonterminal_moved, production_moved, terminal_moved}
use Rattle.wb_compose_theory_lists.proofs.ContextLemmas.{attribute_moved}
use Rattle.wb_compose_theory_lists.proofs.MoveLemmas.{zip_is_all, MovesBy, nonterminal_is, attribute_is, occurrence_is}
use Rattle.wb_compose_theory_lists.proofs.PositionLemmas.{place as place_of_group}
use Rattle.wb_compose_theory_lists.proofs.SplitLemmas.{Parts, Groups}
use Rattle.wb_compose_theory_lists.proofs.StayLemmas.{map_stays_all, Stays, nonterminal_stays, attribute_stays, occurrence_stays}

-- what comes after the host's on what may be its production
abbrev pub own_locals : Option Production → List Local → List Local
own_locals None locals = []
own_locals (Some production) locals = drop (length production.locals) locals

abbrev pub own_equations : Option Production → List Equation → List Equation
own_equations None equations = []
own_equations (Some production) equations = drop (length production.equations) equations

abbrev pub equations_in : Option Production → List Equation
equations_in None = []
equations_in (Some production) = production.equations

-- rows in one group and in two
part_is : {B X : Type 0} (M : X → X → Type 0) (W : B → X → Type 0) (before : List X) (declared : List B) (rows : List X)
    (p : Parts M W before declared rows) (f g : X → X) → p.moved ≡ map f before → map g p.own ≡ p.own
    → rows ≡ map f before ++ joined (map g p.own ∷ [])
part_is M W before declared rows p f g moved own =
    p.are ∙ (ap (λ z. z ++ p.own) moved
    ∙ ap (λ z. map f before ++ z) (sym own ∙ sym (append-nil (map g p.own))))

pub group_is : {B X : Type 0} (M : X → X → Type 0) (W : B → X → Type 0) (before : List X) (count : ℕ) (rows : List X)
    (g : Groups M W before count rows) (a b c d : List X) → g.lead_parts.moved ≡ a → g.lead_parts.own ≡ b → g.follow_parts.moved ≡ c
    → g.follow_parts.own ≡ d → rows ≡ grouped a (b ∷ []) c (d ∷ [])
group_is M W before count rows g a b c d first second third fourth =
    g.are ∙ (ap (λ z. z ++ g.following) (g.lead_parts.are ∙ (ap (λ z. z ++ g.lead_parts.own) first
    ∙ ap (λ z. a ++ z) (second ∙ sym (append-nil b))))
    ∙ (ap (λ z. (a ++ (b ++ [])) ++ z) (g.follow_parts.are ∙ (ap (λ z. z ++ g.follow_parts.own) third
    ∙ ap (λ z. c ++ z) (fourth ∙ sym (append-nil d))))
    ∙ sym (assoc (a ++ (b ++ [])) c (d ++ []))))
  where
    assoc : {X : Type 0} (xs ys zs : List X) → (xs ++ ys) ++ zs ≡ xs ++ (ys ++ zs)
    assoc [] ys zs = refl
    assoc (x ∷ xs) ys zs = ap (λ z. x ∷ z) (assoc xs ys zs)

abbrev pub production_row : List ℕ → ℕ → ProductionRole → ℕ → List Child → List Local → Option Forward → List Equation → Production
production_row name owner role left children locals forward equations = record {
  name = name;
  owner = owner;
  role = role;
  left = left;
  children = children;
  locals = locals;
  forward = forward;
  equations = equations;
}

abbrev pub attributed_of : List (List ℕ) → List Nonterminal → List Attribute → List Occurrence → List Production → List Signature
    → AttributionParts
attributed_of extensions nonterminals attributes occurrences productions signatures = record {
  extensions = extensions;
  nonterminals = nonterminals;
  attributes = attributes;
  occurrences = occurrences;
  productions = productions;
  signatures = signatures;
}

module _ (host r : ResolvedParts) (name : List ℕ) (items : Items) (h : GrammarView) (ex : IsExtendedBy host r name items h) where
  abbrev pub rows : Rows
  rows = rows_of host h

  abbrev pub up : ℕ → ℕ
  up = place_of_group (IsExtendedProduction (n host r name items h ex) 1 items (m host r name items h ex))
      (IsProductionRow (n host r name items h ex) 1 items) host.attributes.productions (length h.productions) r.attributes.productions
      (production_groups host r name items h ex)

  abbrev pub added : Rows
  added = record {
    terminals = length (terminal_groups host r name items h ex).lead_parts.own;
    nonterminals = (nonterminal_groups host r name items h ex).lead_parts.own;
    abstract_nonterminals = (nonterminal_groups host r name items h ex).follow_parts.own;
    attributes = (attribute_parts host r name items h ex).own;
    occurrences = (occurrence_parts host r name items h ex).own;
    productions = (production_groups host r name items h ex).lead_parts.own;
    abstract_productions = (production_groups host r name items h ex).follow_parts.own;
  }

  -- what the extension adds
  abbrev pub addition : Addition
  addition = record {
    name = name;
    rows = added;
    locals = λ p. own_locals (slice_get (rows.productions ++ rows.abstract_productions) p)
        (locals_in (slice_get r.attributes.productions (up p)));
    equations = λ p. own_equations (slice_get (rows.productions ++ rows.abstract_productions) p)
        (equations_in (slice_get r.attributes.productions (up p)));
  }

  abbrev pub u : NumberMap
  u = numbers_of rows (addition ∷ []) 0 nothing

  abbrev pub v : NumberMap
  v = numbers_of rows (addition ∷ []) 0 addition

  pub stays : Stays v
  stays = record {
    terminal = after_alone rows.terminals added.terminals;
    nonterminal = grouped_alone (length rows.nonterminals) (length rows.abstract_nonterminals) (length added.nonterminals)
        (length added.abstract_nonterminals);
    attribute = after_alone (length rows.attributes) (length added.attributes);
    production = grouped_alone (length rows.productions) (length rows.abstract_productions) (length added.productions)
        (length added.abstract_productions);
    local_in = λ p. local_stays_in (number_without rows addition p);
  } where
    local_stays_in : (o : Option ℕ) (y : ℕ) → local_number rows (addition ∷ []) 0 addition o y ≡ y
    local_stays_in None y = refl
    local_stays_in (Some p) y = after_alone (length (host_locals rows p)) (length (addition.locals p)) y

  pub moves : MovesBy (m host r name items h ex) u h.terminals
  moves = record {
    terminal = λ i j less moved. terminal_moved host r name items h ex i j less moved
        ∙ sym (after_below h.terminals (host_alone added.terminals) i less);
    nonterminal = nonterminal_moved host r name items h ex;
    attribute = λ i j moved. let (is, less) = attribute_moved host r name items h ex i j moved in
        is ∙ sym (after_below (length rows.attributes) (host_alone (length added.attributes)) i less);
    production = production_moved host r name items h ex;
    owner = λ o. refl;
  }

  -- the host's rows are its own
  none : length host.attributes.extensions ≡ 0
  none = ap length ex.alone

  pub zero_owner : (owner : ℕ) → owner ≤ length host.attributes.extensions → owner ≡ 0
  zero_owner owner le = let e = none in omega (arith, le, e)

  nonterminals_own : All (λ (x : Nonterminal). x.owner ≡ 0) host.attributes.nonterminals
  nonterminals_own = all_from_places (λ (x : Nonterminal). x.owner ≡ 0) host.attributes.nonterminals
      (λ i x at. zero_owner x.owner (ex.host_resolved.attributes.named.nonterminals i x at).owner)

  split_all : {X : Type 0} (P : X → Type 0) (count : ℕ) (xs : List X) → All P xs → All P (take count xs) × All P (drop count xs)
  split_all P count xs each =
      let whole = subst (All P) (sym (take-append-drop count xs)) each in
      (all_left P (take count xs) (drop count xs) whole, all_right P (take count xs) (drop count xs) whole)

  pub nonterminals_are : r.attributes.nonterminals ≡ united_nonterminals rows (addition ∷ [])
  nonterminals_are =
      let g = nonterminal_groups host r name items h ex in
      let own = split_all (λ (x : Nonterminal). x.owner ≡ 0) h.nonterminals host.attributes.nonterminals nonterminals_own in
      group_is (IsMovedNonterminal (m host r name items h ex)) (IsNonterminalRow (n host r name items h ex) 1 items)
      host.attributes.nonterminals h.nonterminals r.attributes.nonterminals g
      (map (new_nonterminal u 0) rows.nonterminals) (map (new_nonterminal v 1) added.nonterminals)
      (map (new_nonterminal u 0) rows.abstract_nonterminals) (map (new_nonterminal v 1) added.abstract_nonterminals)
      (zip_is_all (IsMovedNonterminal (m host r name items h ex)) (λ (x : Nonterminal). x.owner ≡ 0) (new_nonterminal u 0)
      (nonterminal_is (m host r name items h ex) u h.terminals moves) rows.nonterminals g.lead_parts.moved g.lead_parts.are_moved own.0)
      (sym (map_stays_all (λ (x : Nonterminal). x.owner ≡ 1) (new_nonterminal v 1) (nonterminal_stays v stays 1 refl) added.nonterminals
      (zip_all (IsNonterminalRow (n host r name items h ex) 1 items) (λ (x : Nonterminal). x.owner ≡ 1) (λ d x w. w.owner_is) g.lead
      added.nonterminals g.lead_parts.are_own)))
      (zip_is_all (IsMovedNonterminal (m host r name items h ex)) (λ (x : Nonterminal). x.owner ≡ 0) (new_nonterminal u 0)
      (nonterminal_is (m host r name items h ex) u h.terminals moves) rows.abstract_nonterminals g.follow_parts.moved
      g.follow_parts.are_moved own.1)
      (sym (map_stays_all (λ (x : Nonterminal). x.owner ≡ 1) (new_nonterminal v 1) (nonterminal_stays v stays 1 refl)
      added.abstract_nonterminals
      (zip_all (IsNonterminalRow (n host r name items h ex) 1 items) (λ (x : Nonterminal). x.owner ≡ 1) (λ d x w. w.owner_is) g.follow
      added.abstract_nonterminals g.follow_parts.are_own)))

  pub attributes_are : r.attributes.attributes ≡ united_attributes rows (addition ∷ [])
  attributes_are =
      let p = attribute_parts host r name items h ex in
      part_is (IsMovedAttribute (m host r name items h ex)) (IsAttributeRow (n host r name items h ex) 1 items) host.attributes.attributes _
      r.attributes.attributes p (new_attribute u 0) (new_attribute v 1)
      (zip_is_all (IsMovedAttribute (m host r name items h ex)) (λ (x : Attribute). x.owner ≡ 0) (new_attribute u 0)
      (attribute_is (m host r name items h ex) u h.terminals moves) host.attributes.attributes p.moved p.are_moved
      (all_weaker (IsNamedAttribute host.attributes) (λ (x : Attribute). x.owner ≡ 0) host.attributes.attributes
      (λ x named. zero_owner x.owner named.owner)
      ex.host_resolved.attributes.named.attributes))
      (map_stays_all (λ (x : Attribute). x.owner ≡ 1) (new_attribute v 1) (attribute_stays v stays 1 refl) p.own
      (zip_all (IsAttributeRow (n host r name items h ex) 1 items) (λ (x : Attribute). x.owner ≡ 1)
      (λ d x w. w.owner_is) _ p.own p.are_own))

  pub occurrences_are : r.attributes.occurrences ≡ united_occurrences rows (addition ∷ [])
  occurrences_are =
      let p = occurrence_parts host r name items h ex in
      part_is (IsMovedOccurrence (m host r name items h ex)) (IsOccurrenceRow (n host r name items h ex) 1 items)
      host.attributes.occurrences _
      r.attributes.occurrences p (new_occurrence u 0) (new_occurrence v 1)
      (zip_is_all (IsMovedOccurrence (m host r name items h ex)) (λ (x : Occurrence). x.owner ≡ 0) (new_occurrence u 0)
      (occurrence_is (m host r name items h ex) u h.terminals moves) host.attributes.occurrences p.moved p.are_moved
      (all_weaker (IsNamedOccurrence host.attributes) (λ (x : Occurrence). x.owner ≡ 0) host.attributes.occurrences
      (λ x named. zero_owner x.owner named.owner)
      ex.host_resolved.attributes.named.occurrences))
      (map_stays_all (λ (x : Occurrence). x.owner ≡ 1) (new_occurrence v 1) (occurrence_stays v stays 1 refl) p.own
      (zip_all (IsOccurrenceRow (n host r name items h ex) 1 items) (λ (x : Occurrence). x.owner ≡ 1)
      (λ d x w. w.owner_is) _ p.own p.are_own))

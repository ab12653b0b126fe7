-- The groups of a host with an extension, and that what is the host's has its new numbers.
use Rattle.std.proofs.Common.{◌≡◌, ◌⊎◌, ◌∙◌, ◌<◌, ◌≤◌, ◌+◌, ◌-◌, ◌++◌, ◌∷◌, [], ℕ, zero, suc, List, Some, All, length, map, slice_get, take}
use Rattle.std.proofs.Common.{drop, refl}
use Rattle.std.proofs.Common.{sym, ap, subst, inl, inr, arith}
use Rattle.std.specs.Prelude.{IfSome}
use Rattle.std.proofs.lemmas.List.{length-map, take-append-drop, length-append}
use Rattle.std.proofs.lemmas.Option.{slice_get_within}
use Rattle.wb_lemmas.proofs.Elements.{all_at}
use Rattle.wb_lemmas.proofs.Places.{append_after, append_keeps}
use Rattle.wb_base.specs.Grammar.{GrammarView}
use Rattle.wb_names_theory.specs.Declarations.{Items, lexicals, nonterminals, attributes, occurrences, productions}
use Rattle.wb_names_numbers_theory.specs.Files.{File}
use Rattle.wb_names_numbers_theory.specs.Moved.{Move, IsMovedNumber, IsMovedNonterminal, IsMovedAttribute, IsMovedOccurrence}
use Rattle.wb_names_numbers_theory.specs.Moved.{IsMovedTerminal}
use Rattle.wb_names_numbers_theory.specs.Numbering.{Numbering, numbering_of}
use Rattle.wb_names_numbers_theory.specs.Resolves.{IsScanned, IsInGrammarOf, IsConcrete, move_of}
use Rattle.wb_names_numbers_theory.specs.Rows.{IsTerminalRow, IsNonterminalRow, IsAttributeRow, IsOccurrenceRow, IsProductionRow}
use Rattle.wb_names_numbers_theory.specs.Rows.{IsExtendedProduction}
use Rattle.wb_syntax_resolved.specs.declared.attributes.Attribute.{Attribute}
use Rattle.wb_syntax_resolved.specs.declared.attributes.Nonterminal.{Nonterminal}
use Rattle.wb_syntax_resolved.specs.declared.attributes.Occurrence.{Occurrence}
use Rattle.wb_syntax_resolved.specs.declared.production.Production.{Production}
use Rattle.wb_syntax_resolved.specs.declared.resolved.ResolvedParts.{ResolvedParts}
use Rattle.wb_syntax_resolved.specs.declared.terminal.Terminal.{Terminal}
use Rattle.wb_syntax_resolved.specs.Grammar.{IsGrammarOf}
use Rattle.wb_syntax_resolved.specs.Once.{Entry, NamesDiffer}
use Rattle.wb_compose_theory_lists.specs.Joined.{place_after}
use Rattle.wb_compose_theory_lists.proofs.PlacedLemmas.{alone, host_alone, after_below, alone_below, Fits}
use Rattle.wb_compose_theory_lists.specs.Extended.{file_on, IsExtendedBy}
use Rattle.wb_compose_theory_lists.proofs.PositionLemmas.{MovedTo, part_at, place, group_at, moved_is}
use Rattle.wb_compose_theory_lists.proofs.SplitLemmas.{LeadFirst, Parts, Groups, AreSplit, parts, groups, groups_leading}

pub names_left : (xs ys : List Entry) → NamesDiffer (xs ++ ys) → NamesDiffer xs
names_left xs ys differ i j owner other name at at' sees =
    differ i j owner other name (append_keeps xs ys i (owner, name) at) (append_keeps xs ys j (other, name) at') sees

pub names_right : (xs ys : List Entry) → NamesDiffer (xs ++ ys) → NamesDiffer ys
names_right xs ys differ i j owner other name at at' sees =
    let same = differ (length xs + i) (length xs + j) owner other name (append_after xs ys i ∙ at) (append_after xs ys j ∙ at') sees in
    omega (arith, same)

module _ (host r : ResolvedParts) (name : List ℕ) (items : Items) (h : GrammarView) (ex : IsExtendedBy host r name items h) where
  abbrev pub file : File
  file = file_on host name items

  abbrev pub n : Numbering
  n = numbering_of r

  abbrev pub m : Move
  m = move_of file n

  pub host_grammar : IsGrammarOf host h
  host_grammar = subst (λ o. IfSome o (IsGrammarOf host)) ex.grammar ex.host_resolved.numbered.grammar

  -- the groups
  lead_nonterminals : LeadFirst (λ (x : Nonterminal). IsInGrammarOf file (inl x)) h.nonterminals host.attributes.nonterminals
  lead_nonterminals i x at = (
    (λ less. inl (record { number = i; nonterminal = x; listed = at; named = refl; of_grammar = (host_grammar.nonterminals i).0 less })),
    (λ inside. ex.keeps i x at inside),
  )

  lead_productions : LeadFirst (λ (p : Production). IsConcrete (inl p)) (length h.productions) host.attributes.productions
  lead_productions i p at = ((host_grammar.productions i p at).0, (host_grammar.productions i p at).1)

  lead_terminals : LeadFirst (λ (t : Terminal). IsScanned (inl t)) h.terminals host.terminals
  lead_terminals i t at = ((host_grammar.terminals i t at).0, (host_grammar.terminals i t at).1)

  pub nonterminal_groups : Groups (IsMovedNonterminal m) (IsNonterminalRow n 1 items) host.attributes.nonterminals h.nonterminals
      r.attributes.nonterminals
  nonterminal_groups =
      (groups (IsInGrammarOf file) (IsMovedNonterminal m) (IsNonterminalRow n 1 items) host.attributes.nonterminals (nonterminals items)
      h.nonterminals r.attributes.nonterminals lead_nonterminals ex.value.nonterminals).in_groups

  pub production_split : AreSplit IsConcrete (IsExtendedProduction n 1 items m) (IsProductionRow n 1 items) host.attributes.productions
      (length h.productions) r.attributes.productions
  production_split =
      groups IsConcrete (IsExtendedProduction n 1 items m) (IsProductionRow n 1 items) host.attributes.productions (productions items)
      (length h.productions) r.attributes.productions lead_productions ex.value.productions

  abbrev pub production_groups : Groups (IsExtendedProduction n 1 items m) (IsProductionRow n 1 items) host.attributes.productions
      (length h.productions) r.attributes.productions
  production_groups = production_split.in_groups

  pub terminal_groups : Groups (IsMovedTerminal m) (IsTerminalRow n 1 items) host.terminals h.terminals r.terminals
  terminal_groups =
      (groups IsScanned (IsMovedTerminal m) (IsTerminalRow n 1 items) host.terminals (lexicals items) h.terminals r.terminals lead_terminals
      ex.value.terminals).in_groups

  -- each group that leads is as long as what leads
  pub nonterminals_leading : length nonterminal_groups.leading ≡ length ex.value.nonterminals.leading
  unfolding nonterminal_groups
  nonterminals_leading =
      groups_leading (IsInGrammarOf file) (IsMovedNonterminal m) (IsNonterminalRow n 1 items) host.attributes.nonterminals
      (nonterminals items) h.nonterminals r.attributes.nonterminals lead_nonterminals ex.value.nonterminals

  pub productions_leading : length production_groups.leading ≡ length ex.value.productions.leading
  unfolding production_split
  productions_leading =
      groups_leading IsConcrete (IsExtendedProduction n 1 items m) (IsProductionRow n 1 items) host.attributes.productions
      (productions items) (length h.productions) r.attributes.productions lead_productions ex.value.productions

  pub terminals_leading : length terminal_groups.leading ≡ length ex.value.terminals.leading
  unfolding terminal_groups
  terminals_leading =
      groups_leading IsScanned (IsMovedTerminal m) (IsTerminalRow n 1 items) host.terminals (lexicals items) h.terminals r.terminals
      lead_terminals ex.value.terminals

  pub attribute_parts : Parts (IsMovedAttribute m) (IsAttributeRow n 1 items) host.attributes.attributes (attributes items)
      r.attributes.attributes
  attribute_parts =
      parts (IsMovedAttribute m) (IsAttributeRow n 1 items) host.attributes.attributes (attributes items) r.attributes.attributes
      ex.value.attributes

  pub occurrence_parts : Parts (IsMovedOccurrence m) (IsOccurrenceRow n 1 items) host.attributes.occurrences (occurrences items)
      r.attributes.occurrences
  occurrence_parts =
      parts (IsMovedOccurrence m) (IsOccurrenceRow n 1 items) host.attributes.occurrences (occurrences items) r.attributes.occurrences
      ex.value.occurrences

  -- moved numbers are places
  symbols_differ : NamesDiffer (n.nonterminals ++ n.productions)
  symbols_differ = ex.resolved.attributes.once.symbols

  pub nonterminal_moved : (i j : ℕ) → IsMovedNumber (λ (owner : ℕ). owner) (numbering_of host).nonterminals n.nonterminals i j
      → j ≡ place (IsMovedNonterminal m) (IsNonterminalRow n 1 items) host.attributes.nonterminals h.nonterminals
      r.attributes.nonterminals nonterminal_groups i
  nonterminal_moved =
      moved_is (IsMovedNonterminal m) (λ (x : Nonterminal). (x.owner, x.name)) (λ (x : Nonterminal). (x.owner, x.name))
      host.attributes.nonterminals r.attributes.nonterminals
      (place (IsMovedNonterminal m) (IsNonterminalRow n 1 items) host.attributes.nonterminals h.nonterminals r.attributes.nonterminals
      nonterminal_groups) (λ x y moved. λ z. (moved.owner z, moved.name z))
      (group_at (IsMovedNonterminal m) (IsNonterminalRow n 1 items) host.attributes.nonterminals h.nonterminals r.attributes.nonterminals
      nonterminal_groups) (names_left n.nonterminals n.productions symbols_differ)

  pub production_moved : (i j : ℕ) → IsMovedNumber (λ (owner : ℕ). owner) (numbering_of host).productions n.productions i j
      → j ≡ place (IsExtendedProduction n 1 items m) (IsProductionRow n 1 items) host.attributes.productions (length h.productions)
      r.attributes.productions production_groups i
  production_moved =
      moved_is (IsExtendedProduction n 1 items m) (λ (x : Production). (x.owner, x.name)) (λ (x : Production). (x.owner, x.name))
      host.attributes.productions r.attributes.productions
      (place (IsExtendedProduction n 1 items m) (IsProductionRow n 1 items) host.attributes.productions (length h.productions)
      r.attributes.productions production_groups) (λ x y moved. λ z. (moved.owner_is z, moved.name z))
      (group_at (IsExtendedProduction n 1 items m) (IsProductionRow n 1 items) host.attributes.productions (length h.productions)
      r.attributes.productions production_groups) (names_right n.nonterminals n.productions symbols_differ)

  terminal_place : (i j : ℕ) → IsMovedNumber (λ (owner : ℕ). owner) (numbering_of host).terminals n.terminals i j
      → j ≡ place (IsMovedTerminal m) (IsTerminalRow n 1 items) host.terminals h.terminals r.terminals terminal_groups i
  terminal_place =
      moved_is (IsMovedTerminal m) (λ (x : Terminal). (x.owner, x.name)) (λ (x : Terminal). (x.owner, x.name)) host.terminals r.terminals
      (place (IsMovedTerminal m) (IsTerminalRow n 1 items) host.terminals h.terminals r.terminals terminal_groups)
      (λ x y moved. λ z. (moved.owner z, moved.name z))
      (group_at (IsMovedTerminal m) (IsTerminalRow n 1 items) host.terminals h.terminals r.terminals terminal_groups)
      (names_left n.terminals (n.nonterminals ++ n.productions) ex.resolved.once.symbols)

  taken : length (take h.terminals host.terminals) ≡ h.terminals
  taken = length-take h.terminals host.terminals host_grammar.terminals_len where
    length-take : {X : Type 0} (k : ℕ) (xs : List X) → k ≤ length xs → length (take k xs) ≡ k
    length-take zero xs le = refl
    length-take (suc k) [] le = absurd (omega (arith, le))
    length-take (suc k) (x ∷ xs) le = ap suc (length-take k xs (omega (arith, le)))

  pub terminal_moved : (i j : ℕ) → i < h.terminals → IsMovedNumber (λ (owner : ℕ). owner) (numbering_of host).terminals n.terminals i j
      → j ≡ i
  terminal_moved i j less moved =
      let count = taken in
      terminal_place i j moved
      ∙ alone_below (length (take h.terminals host.terminals)) (length (drop h.terminals host.terminals))
      (alone (length terminal_groups.lead_parts.own)) (alone (length terminal_groups.follow_parts.own))
      (inr (omega arith)) (inr (omega arith)) i (omega (arith, less, count))

  pub attribute_moved : (i j : ℕ) → IsMovedNumber (λ (owner : ℕ). owner) (numbering_of host).attributes n.attributes i j
      → (j ≡ i) × (i < length host.attributes.attributes)
  attribute_moved i j moved =
      let within = slice_get_within (numbering_of host).attributes i (moved.owner, moved.name) moved.before in
      let count = length-map {B = Entry} host.attributes.attributes (λ (x : Attribute). (x.owner, x.name)) in (
        moved_is (IsMovedAttribute m) (λ (x : Attribute). (x.owner, x.name)) (λ (x : Attribute). (x.owner, x.name))
            host.attributes.attributes r.attributes.attributes (λ i. i) (λ x y moved. λ z. (moved.owner z, moved.name z))
            (part_at (IsMovedAttribute m) (IsAttributeRow n 1 items) host.attributes.attributes (attributes items) r.attributes.attributes
            attribute_parts) ex.resolved.attributes.once.attributes i j moved,
        omega (arith, within, count),
      )

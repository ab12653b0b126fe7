-- What is cut out of a host with a certified extension is what the extension adds.
use Rattle.std.proofs.Common.{◌≡◌, ◌∙◌, ◌<◌, ◌≤◌, ◌+◌, ◌-◌, ◌++◌, ◌∷◌, ◌⊎◌, inl, inr, [], ℕ, List, Option, Some, None, drop, length}
use Rattle.std.proofs.Common.{slice_get, take, refl, sym, ap, subst, arith}
use Rattle.std.specs.Prelude.{slice_index_or}
use Rattle.std.proofs.lemmas.Bool.{cases_lt}
use Rattle.std.proofs.lemmas.List.{take-append-drop}
use Rattle.std.proofs.lemmas.Option.{slice_get_within}
use Rattle.wb_compose_theory_lists.proofs.AddedLemmas.{is_addition}
use Rattle.wb_compose_theory_lists.proofs.AdditionRows as base
use Rattle.wb_compose_theory_lists.proofs.AdditionRows.{own_equations, own_locals}
use Rattle.wb_compose_theory_lists.proofs.ContextLemmas.{attribute_parts, m, n, nonterminal_groups, nonterminals_leading, occurrence_parts}
use Rattle.wb_compose_theory_lists.proofs.ContextLemmas.{production_groups, productions_leading, terminal_groups, terminals_leading}
use Rattle.wb_compose_theory_lists.proofs.ExtendedLemmas.{attributes_with}
use Rattle.wb_compose_theory_lists.specs.Extended.{IsExtendedBy}
use Rattle.wb_compose_theory_lists.specs.Hosts.{rows_of}
use Rattle.wb_base.specs.Grammar.{GrammarView}
use Rattle.wb_compose.proofs.CutLemmas.{follow_cut, lead_cut, lead_long, length-drop_within, part_cut}
use Rattle.wb_certify.proofs.RowLemmas.{length-take_within}
use Rattle.wb_compose.proofs.KeepLemmas.{extended_by, names, spec}
use Rattle.wb_compose.specs.Attributes as cut
use Rattle.wb_compose.specs.Attributes.{added_rows, addition_of, equations_after, locals_after, written_with}
use Rattle.wb_certify.proofs.InRange.{grammar_of}
use Rattle.wb_certify.proofs.KeptLemmas.{grammar_row, productions_len}
use Rattle.wb_certify.specs.Kept.{AreCertifiedBoth}
use Rattle.wb_compose.specs.Joined.{Extended}
use Rattle.wb_compose.specs.Written.{name_in}
use Rattle.wb_names_theory.specs.Declarations.{attributes, occurrences}
use Rattle.wb_compose_theory_lists.proofs.PlacedLemmas.{alone, alone_below, alone_between}
use Rattle.wb_compose_theory_lists.specs.Additions.{Addition, IsAddition, Rows}
use Rattle.wb_compose_theory_lists.specs.Numbers.{locals_in}
use Rattle.wb_compose_theory_lists.specs.United.{united_attribution}
use Rattle.wb_names_numbers_theory.specs.Moved.{IsMovedAttribute, IsMovedNonterminal, IsMovedOccurrence, IsMovedTerminal}
use Rattle.wb_names_numbers_theory.specs.Rows.{IsAttributeRow, IsExtendedProduction, IsNonterminalRow, IsOccurrenceRow, IsProductionRow}
use Rattle.wb_names_numbers_theory.specs.Rows.{IsTerminalRow}
use Rattle.wb_operations.specs.Operations.{OperationSignature}
use Rattle.wb_syntax_resolved.specs.declared.production.Production.{Production}
use Rattle.wb_syntax_resolved.specs.declared.resolved.ResolvedParts.{ResolvedParts}
use Rattle.wb_syntax_resolved.specs.Grammar.{IsGrammarOf}
use Rattle.wb_syntax.specs.declared.item.Item.{Item}
use Rattle.wb_syntax.specs.declared.pattern.Pattern.{Pattern}
use Rattle.wb_compose_theory.specs.Blocks.{lift}
use Rattle.wb_compose_theory_grammar.proofs.PlaceLemmas.{lift_below, lift_past}

module _ (host : ResolvedParts) (h : GrammarView) (operations : List OperationSignature) (e : Extended)
    (both : AreCertifiedBoth host e.resolved h e.grammar operations) where
  abbrev r : ResolvedParts
  r = e.resolved

  abbrev name : List ℕ
  name = (spec host r h e.grammar operations both).name

  abbrev items : List (Item Pattern)
  items = (spec host r h e.grammar operations both).items

  abbrev ex : IsExtendedBy host r name items h
  ex = extended_by host r h e.grammar operations both

  own : IsGrammarOf host h
  own = grammar_of host h both.host_resolved both.host_start

  -- what the extension adds
  abbrev x : Addition
  x = base.addition host r name items h ex

  abbrev added : Rows
  added = base.added host r name items h ex

  -- how long each group is that leads
  nonterminals_long : length (nonterminal_groups host r name items h ex).leading ≡ e.grammar.nonterminals
  nonterminals_long =
      nonterminals_leading host r name items h ex
      ∙ sym (grammar_row host r (spec host r h e.grammar operations both) (names host r h e.grammar operations both)
      both.host_resolved both.resolved h e.grammar both.host_start both.start).nonterminals_are

  terminals_long : length (terminal_groups host r name items h ex).leading ≡ e.grammar.terminals
  terminals_long =
      terminals_leading host r name items h ex
      ∙ sym (grammar_row host r (spec host r h e.grammar operations both) (names host r h e.grammar operations both)
      both.host_resolved both.resolved h e.grammar both.host_start both.start).terminals_are

  productions_long : length (production_groups host r name items h ex).leading ≡ length e.grammar.productions
  productions_long =
      productions_leading host r name items h ex
      ∙ sym (productions_len host r (spec host r h e.grammar operations both) (names host r h e.grammar operations both)
      both.host_resolved both.resolved h e.grammar both.host_start both.start)

  -- rows
  terminals_added : e.grammar.terminals - h.terminals ≡ added.terminals
  terminals_added =
      let whole = terminals_long in
      let parts = lead_long (IsMovedTerminal (m host r name items h ex)) (IsTerminalRow (n host r name items h ex) 1 items) host.terminals
      h.terminals r.terminals (terminal_groups host r name items h ex) own.terminals_len in omega (arith, whole, parts)

  productions_added : length e.grammar.productions - length h.productions ≡ length added.productions
  productions_added =
      let whole = productions_long in
      let parts = lead_long (IsExtendedProduction (n host r name items h ex) 1 items (m host r name items h ex))
      (IsProductionRow (n host r name items h ex) 1 items) host.attributes.productions (length h.productions) r.attributes.productions
      (production_groups host r name items h ex) own.productions_len in omega (arith, whole, parts)

  rows_are : added_rows host h e ≡ added
  rows_are = λ i. record {
    terminals = terminals_added i;
    nonterminals = lead_cut (IsMovedNonterminal (m host r name items h ex)) (IsNonterminalRow (n host r name items h ex) 1 items)
        host.attributes.nonterminals h.nonterminals r.attributes.nonterminals (nonterminal_groups host r name items h ex)
        own.nonterminals_len e.grammar.nonterminals nonterminals_long i;
    abstract_nonterminals = follow_cut (IsMovedNonterminal (m host r name items h ex))
        (IsNonterminalRow (n host r name items h ex) 1 items) host.attributes.nonterminals h.nonterminals r.attributes.nonterminals
        (nonterminal_groups host r name items h ex) own.nonterminals_len e.grammar.nonterminals nonterminals_long i;
    attributes = part_cut (IsMovedAttribute (m host r name items h ex)) (IsAttributeRow (n host r name items h ex) 1 items)
        host.attributes.attributes (attributes items) r.attributes.attributes (attribute_parts host r name items h ex) i;
    occurrences = part_cut (IsMovedOccurrence (m host r name items h ex)) (IsOccurrenceRow (n host r name items h ex) 1 items)
        host.attributes.occurrences (occurrences items) r.attributes.occurrences (occurrence_parts host r name items h ex) i;
    productions = lead_cut (IsExtendedProduction (n host r name items h ex) 1 items (m host r name items h ex))
        (IsProductionRow (n host r name items h ex) 1 items) host.attributes.productions (length h.productions) r.attributes.productions
        (production_groups host r name items h ex) own.productions_len (length e.grammar.productions) productions_long i;
    abstract_productions = follow_cut (IsExtendedProduction (n host r name items h ex) 1 items (m host r name items h ex))
        (IsProductionRow (n host r name items h ex) 1 items) host.attributes.productions (length h.productions) r.attributes.productions
        (production_groups host r name items h ex) own.productions_len (length e.grammar.productions) productions_long i;
  }

  -- where a production of the host is with the extension
  abbrev up : ℕ → ℕ
  up = base.up host r name items h ex

  abbrev lifted : ℕ → ℕ
  lifted p = lift (length h.productions) (length e.grammar.productions - length h.productions) p

  abbrev lead : ℕ
  lead = length (take (length h.productions) host.attributes.productions)

  abbrev follow : ℕ
  follow = length (drop (length h.productions) host.attributes.productions)

  taken : lead ≡ length h.productions
  taken = length-take_within (length h.productions) host.attributes.productions own.productions_len

  left : follow ≡ length host.attributes.productions - length h.productions
  left = length-drop_within (length h.productions) host.attributes.productions own.productions_len

  up_is : (p : ℕ) → p < length host.attributes.productions → lifted p ≡ up p
  up_is p within = by_place (cases_lt p (length h.productions)) where
    by_place : (p < length h.productions) ⊎ (length h.productions ≤ p) → lifted p ≡ up p
    by_place (inl less) =
        let count = taken in
        lift_below (length h.productions) (length e.grammar.productions - length h.productions) p less
        ∙ sym (alone_below lead follow (alone (length added.productions)) (alone (length added.abstract_productions)) (inr (omega arith))
        (inr (omega arith)) p (omega (arith, less, count)))
    by_place (inr far) =
        let count = taken in
        let rest = left in
        let more = productions_added in
        let whole = own.productions_len in
        lift_past (length h.productions) (length e.grammar.productions - length h.productions) p far
        ∙ (ap (λ z. p + z) more
        ∙ sym (alone_between lead follow (alone (length added.productions)) (alone (length added.abstract_productions)) (inr (omega arith))
        (inr (omega arith)) p (omega (arith, far, count)) (omega (arith, within, count, rest, whole))))

  -- what is written on it
  whole_host : take (length h.productions) host.attributes.productions ++ drop (length h.productions) host.attributes.productions
      ≡ host.attributes.productions
  whole_host = take-append-drop (length h.productions) host.attributes.productions

  locals_are : (p : ℕ) → locals_after (slice_get host.attributes.productions p) (written_with host h e p) ≡ x.locals p
  locals_are p =
      by (slice_get host.attributes.productions p) refl
      ∙ ap (λ z. own_locals (slice_get z p) (locals_in (slice_get r.attributes.productions (up p)))) (sym whole_host)
    where
      by : (o : Option Production) → slice_get host.attributes.productions p ≡ o
          → locals_after (slice_get host.attributes.productions p) (written_with host h e p)
          ≡ own_locals (slice_get host.attributes.productions p) (locals_in (slice_get r.attributes.productions (up p)))
      by None at =
          ap (λ z. locals_after z (written_with host h e p)) at
          ∙ sym (ap (λ z. own_locals z (locals_in (slice_get r.attributes.productions (up p)))) at)
      by (Some q) at =
          ap (λ z. locals_after z (written_with host h e p)) at
          ∙ (ap (λ i. drop (length q.locals) (locals_in (slice_get r.attributes.productions i)))
          (up_is p (slice_get_within host.attributes.productions p q at))
          ∙ sym (ap (λ z. own_locals z (locals_in (slice_get r.attributes.productions (up p)))) at))

  equations_are : (p : ℕ) → equations_after (slice_get host.attributes.productions p) (written_with host h e p) ≡ x.equations p
  equations_are p =
      by (slice_get host.attributes.productions p) refl
      ∙ ap (λ z. own_equations (slice_get z p) (cut.equations_in (slice_get r.attributes.productions (up p)))) (sym whole_host)
    where
      by : (o : Option Production) → slice_get host.attributes.productions p ≡ o
          → equations_after (slice_get host.attributes.productions p) (written_with host h e p)
          ≡ own_equations (slice_get host.attributes.productions p) (cut.equations_in (slice_get r.attributes.productions (up p)))
      by None at =
          ap (λ z. equations_after z (written_with host h e p)) at
          ∙ sym (ap (λ z. own_equations z (cut.equations_in (slice_get r.attributes.productions (up p)))) at)
      by (Some q) at =
          ap (λ z. equations_after z (written_with host h e p)) at
          ∙ (ap (λ i. drop (length q.equations) (cut.equations_in (slice_get r.attributes.productions i)))
          (up_is p (slice_get_within host.attributes.productions p q at))
          ∙ sym (ap (λ z. own_equations z (cut.equations_in (slice_get r.attributes.productions (up p)))) at))

  -- its name
  pub name_is : name_in r ≡ name
  name_is = ap (λ z. slice_index_or z 0 []) ex.value.extensions

  -- so it is the addition
  addition_is : addition_of host h e ≡ x
  addition_is = λ i. record {
    name = name_is i;
    rows = rows_are i;
    locals = λ p. locals_are p i;
    equations = λ p. equations_are p i;
  }

  pub is_addition_of : IsAddition (addition_of host h e)
  is_addition_of = subst IsAddition (sym addition_is) (is_addition host r name items h ex)

  pub attributes_are : r.attributes ≡ united_attribution (rows_of host h) (addition_of host h e ∷ [])
  attributes_are =
      attributes_with host r name items h ex ∙ ap (λ z. united_attribution (rows_of host h) (z ∷ [])) (sym addition_is)

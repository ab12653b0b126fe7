-- What is of a host's grammar keeps its numbers with an extension.
use Rattle.std.proofs.Common.{◌≡◌, ◌≤◌, ◌<◌, ◌+◌, ◌++◌, ◌∷◌, ◌⊎◌, inl, inr, [], ℕ, List, Some, Contains, map, take}
use Rattle.std.proofs.Common.{length, slice_get, ap, refl, sym, subst, ◌∙◌, arith}
use Rattle.std.specs.Prelude.{option_map, option_to_list}
use Rattle.std.specs.List.{AllZip}
use Rattle.std.proofs.lemmas.List.{length-append, length-map}
use Rattle.std.proofs.lemmas.Option.{same_Some}
use Rattle.std.proofs.lemmas.Slice.Zip.{AllZip-long}
use Rattle.wb_lemmas.proofs.Members.{contains_at, contains_first}
use Rattle.wb_lemmas.proofs.Places.{append_keeps}
use Rattle.wb_lemmas.proofs.Zips.{zip_at}
use Rattle.wb_base.specs.Grammar.{GrammarView}
use Rattle.wb_names.specs.Resolving.{ResolvesExtension, extension_file}
use Rattle.wb_names_theory.specs.declared.declaration.Declaration.TheVariants as d
use Rattle.wb_names_theory.specs.Declarations.{Items, extensible_of, extensibles, lexicals, nonterminals, plain_items, productions, starts}
use Rattle.wb_names_theory.specs.Declares.{item_declarations}
use Rattle.wb_names_theory.specs.Orphan as orphan
use Rattle.wb_names_numbers_theory.specs.Files.{File}
use Rattle.wb_names_numbers_theory.specs.Moved.{IsMovedNonterminal, IsMovedNumber, IsMovedTerminal, Move}
use Rattle.wb_names_numbers_theory.specs.Numbering.{Numbering, numbering_of}
use Rattle.wb_names_numbers_theory.specs.Resolves.{IsConcrete, IsGrammarRow, IsInGrammarOf, IsNonterminalNumber, IsScanned, move_of}
use Rattle.wb_names_numbers_theory.specs.Resolves.{starts_of}
use Rattle.wb_names_numbers_theory.specs.Rows.{IsExtendedProduction, IsNonterminalRow, IsProductionRow, IsTerminalRow}
use Rattle.wb_names_numbers_theory.specs.Sources.{sources}
use Rattle.wb_names_numbers_theory.proofs.Carrying.{name_at}
use Rattle.wb_names_numbers_theory.proofs.NumberLemmas.{differ_left, differ_right}
use Rattle.wb_names_numbers_theory.proofs.RowsOwned.{plain_declares}
use Rattle.wb_names_numbers_theory.proofs.Selected.{kept_from}
use Rattle.wb_syntax_resolved.specs.declared.attributes.Nonterminal.{Nonterminal}
use Rattle.wb_syntax_resolved.specs.declared.resolved.ResolvedParts.{ResolvedParts}
use Rattle.wb_syntax_resolved.specs.declared.terminal.Terminal.{Terminal}
use Rattle.wb_syntax_resolved.specs.Grammar.{IsGrammarOf, IsGrammarProduction}
use Rattle.wb_syntax_resolved.specs.Once.{Entry, NamesDiffer, symbol_names}
use Rattle.wb_syntax_resolved.specs.Resolved.{IsResolved}
use Rattle.wb_syntax.specs.declared.item.PlainForm.{PlainForm}
use Rattle.wb_syntax.specs.declared.item.PlainForm.TheVariants as i
use Rattle.wb_syntax.specs.SpecText.{SpecView}
use Rattle.wb_determinism_beside.proofs.InRange.{grammar_of, in_range, with_some}
use Rattle.wb_determinism_beside.proofs.RowLemmas.{Kept, all_below, kept_at, map_at, same_list}
use Rattle.wb_determinism_beside.proofs.RowLemmas.{length-take_within}

-- a number that is moved stays where its name does
same_number : {X : Type 0} (entry : X → Entry) (before rows : List X) → NamesDiffer (map entry rows) → (k other : ℕ) (was row : X)
    → slice_get before k ≡ Some was → slice_get rows k ≡ Some row → entry row ≡ entry was
    → IsMovedNumber (λ (o : ℕ). o) (map entry before) (map entry rows) k other → k ≡ other
same_number entry before rows differ k other was row at there e m =
    let same : entry was ≡ (m.owner, m.name) = same_Some (entry was) (m.owner, m.name) (sym (name_at entry before k was at) ∙ m.before) in
    differ k other m.owner m.owner m.name (name_at entry rows k row there ∙ ap Some (e ∙ same)) m.after (inr refl)

-- there are as many sources as were there and are declared
length-sources : {A B : Type 0} (before : List A) (declared : List B)
    → length (sources before declared) ≡ length before + length declared
length-sources {A} {B} before declared =
    let left : A → A ⊎ B = inl in
    let right : B → A ⊎ B = inr in
    let joined = length-append (map left before) (map right declared) in
    let one = length-map before left in
    let other = length-map declared right in omega (arith, joined, one, other)

-- no members, no list
empty_of : {X : Type 0} (xs : List X) → ((x : X) → ¬ Contains xs x) → xs ≡ []
empty_of [] none = refl
empty_of (x ∷ xs) none = absurd (none x (contains_first x xs))

-- what items make extensible they declare so
extensible_declared : (items : Items) (name : List ℕ) → Contains (extensibles items) name
    → Contains (item_declarations items) (d.Extensible name)
extensible_declared items name has =
    let z = kept_from extensible_of (plain_items items) name has in from z.0 z.1 z.2 where
      from : (form : PlainForm) → Contains (plain_items items) form → extensible_of form ≡ Some name
          → Contains (item_declarations items) (d.Extensible name)
      from (i.Extensible m) there e =
          let same : m ≡ name = cc in
          subst (λ k. Contains (item_declarations items) (d.Extensible k)) same (plain_declares items (i.Extensible m) there)
      from (i.Prefer first second) there e = absurd (cc e)
      from (i.Nonterminal m) there e = absurd (cc e)
      from (i.Start m) there e = absurd (cc e)
      from (i.Synthesized m its) there e = absurd (cc e)
      from (i.Inherited m its) there e = absurd (cc e)
      from (i.Occurs m l needs) there e = absurd (cc e)
      from (i.Closed m) there e = absurd (cc e)
      from (i.ForwardOn m needs) there e = absurd (cc e)

module _ (host r : ResolvedParts) (spec : SpecView) (names : ResolvesExtension host spec r) (host_whole : IsResolved host)
    (whole : IsResolved r) (h g : GrammarView) (host_start : host.grammar ≡ Some h) (start : r.grammar ≡ Some g) where
  abbrev pub file : File
  file = extension_file host spec

  abbrev pub n : Numbering
  n = numbering_of r

  abbrev pub move : Move
  move = move_of file n

  pub own : IsGrammarOf host h
  own = grammar_of host h host_whole host_start

  pub both : IsGrammarOf r g
  both = grammar_of r g whole start

  pub grammar_row : IsGrammarRow (length names.value.terminals.leading) (length names.value.nonterminals.leading)
      (length names.value.productions.leading) r.attributes.productions g
  grammar_row =
      with_some r.grammar (IsGrammarRow (length names.value.terminals.leading) (length names.value.nonterminals.leading)
      (length names.value.productions.leading) r.attributes.productions) names.value.grammar g start

  -- what is kept at a number
  abbrev pub KeptTerminal : ℕ → Type 0
  KeptTerminal k = Kept IsScanned (IsMovedTerminal move) (IsTerminalRow n 1 spec.items) host.terminals (lexicals spec.items) r.terminals
      names.value.terminals k

  abbrev pub KeptNonterminal : ℕ → Type 0
  KeptNonterminal k = Kept (IsInGrammarOf file) (IsMovedNonterminal move) (IsNonterminalRow n 1 spec.items) host.attributes.nonterminals
      (nonterminals spec.items) r.attributes.nonterminals names.value.nonterminals k

  abbrev pub KeptProduction : ℕ → Type 0
  KeptProduction k = Kept IsConcrete (IsExtendedProduction n 1 spec.items move) (IsProductionRow n 1 spec.items)
      host.attributes.productions (productions spec.items) r.attributes.productions names.value.productions k

  pub terminal_kept : (k : ℕ) → k < h.terminals → KeptTerminal k
  terminal_kept k below =
      kept_at IsScanned (IsMovedTerminal move) (IsTerminalRow n 1 spec.items) host.terminals (lexicals spec.items) r.terminals
      names.value.terminals h.terminals own.terminals_len (λ j x less at. (own.terminals j x at).0 less) k below

  pub nonterminal_kept : (k : ℕ) → k < h.nonterminals → KeptNonterminal k
  nonterminal_kept k below =
      kept_at (IsInGrammarOf file) (IsMovedNonterminal move) (IsNonterminalRow n 1 spec.items) host.attributes.nonterminals
      (nonterminals spec.items) r.attributes.nonterminals names.value.nonterminals h.nonterminals own.nonterminals_len
      (λ j x less at. inl (record { number = j; nonterminal = x; listed = at; named = refl; of_grammar = (own.nonterminals j).0 less })) k
      below

  pub production_kept : (k : ℕ) → k < length h.productions → KeptProduction k
  production_kept k below =
      kept_at IsConcrete (IsExtendedProduction n 1 spec.items move) (IsProductionRow n 1 spec.items) host.attributes.productions
      (productions spec.items) r.attributes.productions names.value.productions (length h.productions) own.productions_len
      (λ j x less at. (own.productions j x at).0 less) k below

  -- there are no fewer
  pub more_terminals : h.terminals ≤ g.terminals
  more_terminals =
      let least = all_below h.terminals (length names.value.terminals.leading) (λ k below. (terminal_kept k below).within) in
      let is = grammar_row.terminals_are in omega (arith, least, is)

  pub more_nonterminals : h.nonterminals ≤ g.nonterminals
  more_nonterminals =
      let least = all_below h.nonterminals (length names.value.nonterminals.leading) (λ k below. (nonterminal_kept k below).within) in
      let is = grammar_row.nonterminals_are in omega (arith, least, is)

  -- the productions of the grammar are those that lead
  pub productions_len : length g.productions ≡ length names.value.productions.leading
  productions_len =
      let rows = AllZip-long _ (names.value.productions.leading ++ names.value.productions.following) r.attributes.productions
      names.value.productions.are_rows in
      let joined = length-append names.value.productions.leading names.value.productions.following in
      let taken = length-take_within (length names.value.productions.leading) r.attributes.productions (omega (arith, rows, joined)) in
      let is = AllZip-long IsGrammarProduction (take (length names.value.productions.leading) r.attributes.productions) g.productions
      grammar_row.productions_are in
      omega (arith, taken, is)

  -- names are once
  terminals_differ : NamesDiffer n.terminals
  terminals_differ = differ_left n.terminals (symbol_names r.attributes) whole.once.symbols

  nonterminals_differ : NamesDiffer n.nonterminals
  nonterminals_differ =
      differ_left n.nonterminals n.productions (differ_right n.terminals (symbol_names r.attributes) whole.once.symbols)

  -- so the numbers of the host's grammar stay
  pub terminal_same : (k other : ℕ) → k < h.terminals → IsMovedNumber (λ (o : ℕ). o) (numbering_of host).terminals n.terminals k other
      → k ≡ other
  terminal_same k other below m =
      let x = terminal_kept k below in
      same_number (λ (t : Terminal). (t.owner, t.name)) host.terminals r.terminals terminals_differ k other x.was x.row x.at x.there
      (λ z. (x.moved.owner z, x.moved.name z)) m

  pub nonterminal_same : (k other : ℕ) → k < h.nonterminals
      → IsMovedNumber (λ (o : ℕ). o) (numbering_of host).nonterminals n.nonterminals k other → k ≡ other
  nonterminal_same k other below m =
      let x = nonterminal_kept k below in
      same_number (λ (t : Nonterminal). (t.owner, t.name)) host.attributes.nonterminals r.attributes.nonterminals nonterminals_differ k
      other x.was x.row x.at x.there (λ z. (x.moved.owner z, x.moved.name z)) m

  -- a number that was there, at its place
  moved_at : (before : List ℕ) (declared : List (List ℕ)) (rows : List ℕ)
      → AllZip (IsNonterminalNumber file n) (sources before declared) rows → (k a : ℕ) → slice_get before k ≡ Some a
      → (other : ℕ) × (slice_get rows k ≡ Some other)
      × IsMovedNumber (λ (o : ℕ). o) (numbering_of host).nonterminals n.nonterminals a other
  moved_at before declared rows all k a at =
      let found = zip_at (IsNonterminalNumber file n) (sources before declared) rows k (inl a) all
      (append_keeps (map inl before) (map inr declared) k (inl a) (map_at inl before k a at)) in
      (found.other, found.there, found.related)

  -- the start
  pub start_same : g.start ≡ h.start
  start_same =
      let was : slice_get (starts_of host) 0 ≡ Some h.start = ap (λ o. slice_get (option_to_list (option_map (λ (g : GrammarView). g.start)
      o)) 0) host_start in
      let is : slice_get (starts_of r) 0 ≡ Some g.start = ap (λ o. slice_get (option_to_list (option_map (λ (g : GrammarView). g.start)
      o)) 0) start in
      let found = moved_at (starts_of host) (starts spec.items) (starts_of r) names.value.start 0 h.start was in
      let same : found.0 ≡ g.start = same_Some found.0 g.start (sym found.1 ∙ is) in
      let stays : h.start ≡ found.0 = nonterminal_same h.start found.0 (in_range host h host_whole host_start).start_below found.2 in
      sym same ∙ sym stays

  -- an extension makes nothing extensible
  no_extensible : extensibles spec.items ≡ []
  no_extensible =
      empty_of (extensibles spec.items) (λ name has. names.names.owned (λ e. omega (arith, e)) name
      (orphan.extensible (extensible_declared spec.items name has)))

  -- what is extensible
  pub extensible_same : r.extensible ≡ host.extensible
  extensible_same = same_list host.extensible r.extensible long each where
    long : length r.extensible ≡ length host.extensible
    long =
        let none = ap (λ (xs : List (List ℕ)). length xs) no_extensible in
        let rows = AllZip-long (IsNonterminalNumber file n) (sources host.extensible (extensibles spec.items)) r.extensible
        names.value.extensible in
        let counted = length-sources host.extensible (extensibles spec.items) in
        omega (arith, none, rows, counted)

    each : (k a : ℕ) → slice_get host.extensible k ≡ Some a → slice_get r.extensible k ≡ Some a
    each k a at =
        let found = moved_at host.extensible (extensibles spec.items) r.extensible names.value.extensible k a at in
        let below : a < h.nonterminals = (own.nonterminals a).1 (inr (inl (contains_at host.extensible a k at))) in
        found.1 ∙ ap Some (sym (nonterminal_same a found.0 below found.2))

-- The markers of a certified extension are those that an extension in numbers asks for.
use Rattle.std.proofs.Common.{◌≡◌, ◌≢◌, ◌≤◌, ◌<◌, ◌∷◌, ◌⊎◌, inl, inr, [], ℕ, true, List, Option, Some}
use Rattle.std.proofs.Common.{None, Contains, length, slice_get, ap, refl, sym, subst, ◌∙◌, arith}
use Rattle.std.specs.Prelude.{IsTrue}
use Rattle.std.proofs.lemmas.Bool.{cases_lt}
use Rattle.wb_lemmas.proofs.Elements.{all_at}
use Rattle.wb_lemmas.proofs.Members.{contains_at, contains_first, contains_later}
use Rattle.wb_lemmas.proofs.Places.{at_once}
use Rattle.wb_base.specs.declared.symbol.Symbol.{Symbol}
use Rattle.wb_base.specs.declared.symbol.Symbol.TheVariants as symbol
use Rattle.wb_base.specs.Grammar.{GrammarView}
use Rattle.wb_determinism.specs.Images.{is_marker_row, is_marking}
use Rattle.wb_grammar_theory.specs.Productions.{IsProduction}
use Rattle.wb_grammar_theory.proofs.ProductionLemmas.{production_once, production_within}
use Rattle.wb_marking.specs.Bridges.{AreBridges}
use Rattle.wb_marking.specs.Marked.{IsBridge, IsMarked, IsOnOwn}
use Rattle.wb_marking.specs.Markers.{HasNoMarker, IsMarker}
use Rattle.wb_marking.proofs.CallerLemmas.{marked}
use Rattle.wb_names.specs.Resolving.{ResolvesExtension}
use Rattle.wb_names_theory.specs.Declarations.{productions}
use Rattle.wb_names_numbers_theory.specs.Resolves.{IsConcrete}
use Rattle.wb_names_numbers_theory.specs.Rows.{IsExtendedProduction, IsProductionRow}
use Rattle.wb_names_numbers_theory.proofs.Ground.{IsHosts, hosts}
use Rattle.wb_syntax_resolved.specs.declared.attributes.Nonterminal.{Nonterminal}
use Rattle.wb_syntax_resolved.specs.declared.production.Production as rule
use Rattle.wb_syntax_resolved.specs.declared.resolved.ResolvedParts.{ResolvedParts}
use Rattle.wb_syntax_resolved.specs.declared.terminal.Terminal.{Terminal}
use Rattle.wb_syntax_resolved.specs.declared.terminal.TerminalKind.{TerminalKind}
use Rattle.wb_syntax_resolved.specs.declared.terminal.TerminalKind.TheVariants.{Plain, Ignore, Marking}
use Rattle.wb_syntax_resolved.specs.Resolved.{IsNamedTerminal, IsResolved}
use Rattle.wb_syntax.specs.SpecText.{SpecView}
use Rattle.wb_compose_theory_grammar.specs.Bridges as own
use Rattle.wb_compose_theory_grammar.specs.Bridges.{AreMarkers, BeginsBridge, HasShape, IsNoMarker}
use Rattle.wb_compose_theory.specs.Marks.{Each}
use Rattle.wb_determinism_beside.specs.Pieces.{is_marker_in}
use Rattle.wb_determinism_beside.proofs.KeptLemmas as k
use Rattle.wb_determinism_beside.proofs.RowLemmas.{new_at}

-- what is marking is a marker, and the other way round
marking_is : (kind : TerminalKind) → is_marking kind ≡ true → kind ≡ Marking
marking_is Plain e = absurd (cc e)
marking_is Ignore e = absurd (cc e)
marking_is Marking e = refl

pub row_marker : (r : ResolvedParts) (t : ℕ) → IsTrue (is_marker_in r t) → IsMarker r t
row_marker r t e = go (slice_get r.terminals t) refl e where
  go : (o : Option Terminal) → slice_get r.terminals t ≡ o → is_marker_row o ≡ true → IsMarker r t
  go None is e = absurd (cc e)
  go (Some row) is e = record { terminal = row; is = is; marking = marking_is row.kind e }

pub marker_row : (r : ResolvedParts) (t : ℕ) → IsMarker r t → IsTrue (is_marker_in r t)
marker_row r t m = ap is_marker_row m.is ∙ ap is_marking m.marking

-- a marker isn't layout
not_layout : (kind : TerminalKind) → kind ≡ Marking → kind ≢ Ignore
not_layout kind is e = let bad : Marking ≡ Ignore = sym is ∙ e in cc

-- no marker among symbols, one by one
none_each : (h : GrammarView) (r : ResolvedParts) (extensible : List ℕ) (g : GrammarView) (xs : List Symbol) → HasNoMarker r xs
    → Each (IsNoMarker h extensible g (is_marker_in r)) xs
none_each h r extensible g [] none = tt
none_each h r extensible g (symbol.Terminal t ∷ xs) none = (
  λ e. none t (row_marker r t e) (contains_first (symbol.Terminal t) xs),
  none_each h r extensible g xs (λ m is has. none m is (contains_later (symbol.Terminal t) (symbol.Terminal m) xs has)),
)
none_each h r extensible g (symbol.Nonterminal a ∷ xs) none =
    (tt, none_each h r extensible g xs (λ m is has. none m is (contains_later (symbol.Nonterminal a) (symbol.Terminal m) xs has)))

module _ (host r : ResolvedParts) (spec : SpecView) (names : ResolvesExtension host spec r) (host_whole : IsResolved host)
    (whole : IsResolved r) (h g : GrammarView) (host_start : host.grammar ≡ Some h) (start : r.grammar ≡ Some g)
    (alone : host.attributes.extensions ≡ []) (bridges : AreBridges r g) where
  pub host_rows : IsHosts host
  host_rows = hosts host host_whole alone

  pub are_marked : IsMarked r g
  are_marked = marked r g (record { resolved = whole; grammar = start }) bridges

  -- the owner of a marker isn't the host
  marker_owner : (t : ℕ) (row : Terminal) → slice_get r.terminals t ≡ Some row → row.kind ≡ Marking → row.owner ≢ 0
  marker_owner t row at is = (all_at (IsNamedTerminal r) r.terminals t row whole.terminals at).marking is

  -- a terminal of the host's grammar is the host's, and so are its nonterminals and its productions
  terminal_owner : (t : ℕ) (row : Terminal) → t < h.terminals → slice_get r.terminals t ≡ Some row → row.owner ≡ 0
  terminal_owner t row below at =
      let x = k.terminal_kept host r spec names host_whole whole h g host_start start t below in
      ap (λ (z : Terminal). z.owner) (at_once r.terminals t row x.row at x.there) ∙ (x.moved.owner ∙ host_rows.terminals x.was (contains_at
      host.terminals x.was t x.at))

  pub nonterminal_owner : (a : ℕ) (row : Nonterminal) → a < h.nonterminals → slice_get r.attributes.nonterminals a ≡ Some row
      → row.owner ≡ 0
  nonterminal_owner a row below at =
      let x = k.nonterminal_kept host r spec names host_whole whole h g host_start start a below in
      ap (λ (z : Nonterminal). z.owner) (at_once r.attributes.nonterminals a row x.row at x.there)
      ∙ (x.moved.owner ∙ host_rows.nonterminals x.was (contains_at host.attributes.nonterminals x.was a x.at))

  production_owner : (p : ℕ) (row : rule.Production) → p < length h.productions → slice_get r.attributes.productions p ≡ Some row
      → row.owner ≡ 0
  production_owner p row below at =
      let x = k.production_kept host r spec names host_whole whole h g host_start start p below in
      ap (λ (z : rule.Production). z.owner) (at_once r.attributes.productions p row x.row at x.there)
      ∙ (x.moved.owner_is ∙ host_rows.productions x.was (contains_at host.attributes.productions x.was p x.at))

  -- a further production of the grammar is the extension's
  pub new_owner : (p : ℕ) (row : rule.Production) → length h.productions ≤ p → p < length g.productions
      → slice_get r.attributes.productions p ≡ Some row → row.owner ≡ 1
  new_owner p row past within at =
      let counted = k.productions_len host r spec names host_whole whole h g host_start start in
      let own_production = k.own host r spec names host_whole whole h g host_start start in
      let found = new_at IsConcrete (IsExtendedProduction (k.n host r spec names host_whole whole h g host_start start) 1 spec.items
      (k.move host r spec names host_whole whole h g host_start start))
      (IsProductionRow (k.n host r spec names host_whole whole h g host_start start) 1 spec.items) host.attributes.productions
      (productions spec.items) r.attributes.productions names.value.productions (length h.productions)
      (λ j x far there concrete. (let less = (own_production.productions j x there).1 concrete in omega (arith, far, less))) p row past
      (omega (arith, counted, within)) at in
      found.1.owner_is

  -- so they are as an extension in numbers asks
  pub are_markers : AreMarkers h host.extensible g (is_marker_in r)
  are_markers = record {
    own = λ t e. marker_past t (row_marker r t e);
    within = λ t e.
        (let m = row_marker r t e in
        ((k.both host r spec names host_whole whole h g host_start start).terminals t m.terminal m.is).1
        (not_layout m.terminal.kind m.marking));
    bridge = λ t e. begins t (are_marked.bridge t (row_marker r t e));
    once = λ t p q a b left right e one other.
        (let alone_at = bridges.once t (row_marker r t e) in
        let first = alone_at.1.alone p 0 (record { left = a; right = symbol.Terminal t ∷ left; production = one; at = refl }) in
        let second = alone_at.1.alone q 0 (record { left = b; right = symbol.Terminal t ∷ right; production = other; at = refl }) in
        first.0 ∙ sym second.0);
    shape = λ p a right past rule. shape_at p a right past rule (are_marked.shape p a right rule);
  }
    where
      not_below : (m n : ℕ) → (m < n → ⊥) → n ≤ m
      not_below m n never = elim (cases_lt m n) [ inl less ↦ absurd (never less) | inr past ↦ past ]

      marker_past : (t : ℕ) → IsMarker r t → h.terminals ≤ t
      marker_past t m = not_below t h.terminals (λ less. marker_owner t m.terminal m.is m.marking (terminal_owner t m.terminal less m.is))

      bridge_past : (t p : ℕ) → IsBridge r g t p → length h.productions ≤ p
      bridge_past t p b = not_below p (length h.productions) (λ less.
          marker_owner t b.owner.terminal b.owner.terminal_is (marking_of b.is_marker b.owner.terminal b.owner.terminal_is)
          (b.owner.one ∙ production_owner p b.owner.production less b.owner.production_is))
        where
          marking_of : IsMarker r t → (row : Terminal) → slice_get r.terminals t ≡ Some row → row.kind ≡ Marking
          marking_of m row at = ap (λ (z : Terminal). z.kind) (at_once r.terminals t row m.terminal at m.is) ∙ m.marking

      extensible_here : (a : ℕ) → Contains r.extensible a → Contains host.extensible a
      extensible_here a has =
          subst (λ xs. Contains xs a) (k.extensible_same host r spec names host_whole whole h g host_start start) has

      begins : (t : ℕ) → (p : ℕ) × IsBridge r g t p → BeginsBridge h host.extensible g (is_marker_in r) t
      begins t (p, b) = record {
        number = p;
        left = b.left;
        rest = b.rest;
        rule = b.production;
        own = bridge_past t p b;
        extensible_left = extensible_here b.left b.extensible;
      }

      shape_at : (p a : ℕ) (right : List Symbol) → length h.productions ≤ p → IsProduction g p a right
          → HasNoMarker r right ⊎ ((marker : ℕ) × IsBridge r g marker p) → HasShape h host.extensible g (is_marker_in r) a right
      shape_at p a right past rule (inl none) =
          own.unmarked (not_below a h.nonterminals (λ less. no_host less (are_marked.source p a right rule none)))
          (none_each h r host.extensible g right none)
        where
          no_host : a < h.nonterminals → IsOnOwn r p a → ⊥
          no_host less s =
              let zero_is = nonterminal_owner a s.nonterminal less s.nonterminal_is in
              let one_is = new_owner p s.production past (production_within g p a right rule) s.production_is in
              let same = s.one in omega (arith, zero_is, one_is, same)
      shape_at p a right past rule (inr (t, b)) =
          own.marked t b.rest (marker_row r t b.is_marker)
          (production_once g p a b.left right (symbol.Terminal t ∷ b.rest) rule b.production).1
          (none_each h r host.extensible g b.rest b.bare)

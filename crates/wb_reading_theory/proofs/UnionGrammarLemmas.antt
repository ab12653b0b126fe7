-- The grammar of the union extends the host's, and keeps what is valid at the host's prefixes.
use Rattle.std.proofs.Common.{◌≡◌, ◌<◌, ◌≤◌, ◌+◌, ◌-◌, ◌∙◌, ◌∷◌, ◌++◌, [], ℕ, Bool, List, Some, length, map, slice_get, refl, sym, ap}
use Rattle.std.proofs.Common.{subst, inl, inr, arith}
use Rattle.std.specs.Prelude.{All}
use Rattle.std.proofs.lemmas.Bool.{cases_lt}
use Rattle.std.proofs.lemmas.List.Elements.{All-cons, All-head, All-nil, All-same, All-tail}
use Rattle.std.proofs.lemmas.Option.{slice_get_within}
use Rattle.wb_base.specs.declared.symbol.Symbol.{Symbol}
use Rattle.wb_base.specs.declared.symbol.Symbol.TheVariants.{Terminal, Nonterminal}
use Rattle.wb_base.specs.Grammar.{GrammarView, IsGrammar, IsSymbolBelow, Production}
use Rattle.wb_determinism_contexts.specs.Considered.{LexiconView}
use Rattle.wb_termset.specs.Sets.{IsMember}
use Rattle.wb_grammar_theory.specs.declared.item.Item.{Item}
use Rattle.wb_grammar_theory.specs.Items.{after_dot, IsValidItem, IsViablePrefix, close, move, start}
use Rattle.wb_grammar_theory.specs.Lookaheads.{IsValidTerminal}
use Rattle.wb_grammar_theory.specs.Productions.{IsProduction}
use Rattle.wb_grammar_theory.proofs.DotLemmas.{after_initial}
use Rattle.wb_grammar_theory.proofs.LiveLemmas.{after_below}
use Rattle.wb_lemmas.proofs.Elements.{all_from_places}
use Rattle.wb_lemmas.proofs.Places.{append_after}
use Rattle.wb_compose_theory.specs.Blocks.{lift}
use Rattle.wb_compose_theory.specs.Renamings.{renamed}
use Rattle.wb_compose_theory.specs.Worlds.{Mark, bare, on}
use Rattle.wb_compose_theory_grammar.specs.Certificates.{AreCertified}
use Rattle.wb_compose_theory_grammar.specs.Laws.{IsOwn, in_union}
use Rattle.wb_compose_theory_grammar.specs.Pieces.{Piece, IsOwnProduction, unmarked, bridge}
use Rattle.wb_compose_theory_grammar.specs.Places.{count_before, total_of}
use Rattle.wb_compose_theory_grammar.specs.Unions.{added_terminals, productions_after}
use Rattle.wb_compose_theory_grammar.specs.UnitedWorlds.{grammars_of, left_in, nonterminal_sizes, terminal_sizes, united}
use Rattle.wb_compose_theory_grammar.proofs.BridgeLemmas.{piece_ok}
use Rattle.wb_compose_theory_grammar.proofs.FactLemmas as fact
use Rattle.wb_compose_theory_grammar.proofs.FactLemmas.{V, W, ProductionOf, at_map, extension_facts, into_by, map_at, piece_at}
use Rattle.wb_compose_theory_grammar.proofs.FactLemmas.{production_view}
use Rattle.wb_compose_theory_grammar.proofs.FactLemmas.{size_at, united_len, with_holes_len}
use Rattle.wb_compose_theory_grammar.proofs.PlaceLemmas.{Located, after_all, in_extension, in_host, lift_past, located, within_total}
use Rattle.wb_compose_theory_grammar.proofs.UnionGrammarLemmas.{united_rule}
use Rattle.wb_compose_theory_grammar.proofs.UnitedLemmas.{keeps_host}
use Rattle.wb_compose_theory_language.specs.Forms.{IsMarkerOf}
use Rattle.wb_compose_theory_language.specs.Written.{WrittenPiece, pieces_of}
use Rattle.wb_reading_theory.specs.Grammars.{ExtendsGrammar, IsFurther, KeepsValid, on_further, on_marker}
use Rattle.wb_reading_theory.specs.MarkingTerminals.{AreMarking, IsMarking}

-- symbols in range, one after others
all_push : (P : Symbol → Type 0) (xs : List Symbol) (x : Symbol) → All P xs → P x → All P (xs ++ x ∷ [])
all_push P [] x all holds = All-cons P x [] holds (All-nil P)
all_push P (y ∷ xs) x all holds =
    All-cons P y (xs ++ x ∷ []) (All-head P y xs all) (all_push P xs x (All-tail P y xs all) holds)

-- the symbols of a viable prefix are the grammar's
valid_below : {g : GrammarView} → IsGrammar g → {prefix : List Symbol} {item : Item} {t : ℕ} → IsValidItem g prefix item t →
    All (IsSymbolBelow g.terminals g.nonterminals) prefix
valid_below {g} ok start = All-nil (IsSymbolBelow g.terminals g.nonterminals)
valid_below ok (close item t b rest q u right v is rule first) = valid_below ok v
valid_below {g} ok (move item x rest prefix v is longer_is moved_is) =
    subst (All (IsSymbolBelow g.terminals g.nonterminals)) (sym longer_is)
    (all_push (IsSymbolBelow g.terminals g.nonterminals) prefix x (valid_below ok v)
    (All-head (IsSymbolBelow g.terminals g.nonterminals) x rest
    (All-same (IsSymbolBelow g.terminals g.nonterminals) (x ∷ rest) (after_dot g item) (sym is)
    (after_below g ok item))))

pub viable_below : {g : GrammarView} → IsGrammar g → (prefix : List Symbol) → IsViablePrefix g prefix →
    All (IsSymbolBelow g.terminals g.nonterminals) prefix
viable_below ok prefix (item, t, v) = valid_below ok v

module _ (host : GrammarView) (extensible : List ℕ) (own : LexiconView) (written : List WrittenPiece)
    (certified : AreCertified host extensible (pieces_of written)) (markers : List Bool)
    (marking : AreMarking host extensible own written markers) where
  abbrev pieces : List Piece
  pieces = pieces_of written

  abbrev union : GrammarView
  union = united host extensible pieces

  -- the extension at a place, as it is written
  written_at : (k : ℕ) (x : Piece) → slice_get pieces k ≡ Some x → (y : WrittenPiece) × (slice_get written k ≡ Some y) × (x ≡ y.piece)
  written_at k x at = map_at (λ (y : WrittenPiece). y.piece) written k x at

  -- a marker of an extension is one of the set
  marker_in : (k : ℕ) (x : Piece) (m a : ℕ) → slice_get pieces k ≡ Some x → x.mark m ≡ on a →
      IsMember markers (in_union host extensible pieces k m)
  marker_in k x m a at is =
      let (y, y_at, x_is) = written_at k x at in
      (marking (in_union host extensible pieces k m)).1 (record {
        k = k;
        x = y;
        of_extension = record { listed = y_at; terminal = m; marker = (a, ap (λ (z : Piece). z.mark m) (sym x_is) ∙ is); is = refl };
      })

  -- markers are further terminals
  marker_range : (t : ℕ) → IsMember markers t → (host.terminals ≤ t) × (t < union.terminals)
  marker_range t member =
      let m = (marking t).0 member in
      let at = at_map
      (λ (y : WrittenPiece). y.piece) written m.k m.x m.of_extension.listed in
      let facts = (piece_ok host extensible pieces certified.are_pieces m.k m.x.piece at).markers m.of_extension.terminal
      m.of_extension.marker.0 m.of_extension.marker.1 in
      let here = m.of_extension.is ∙ lift_past host.terminals (count_before
      (terminal_sizes host extensible pieces) m.k) m.of_extension.terminal facts.own in
      let fits = within_total (terminal_sizes host extensible pieces) m.k (added_terminals host m.x.piece.grammar)
      (size_at host extensible pieces (added_terminals host) m.k m.x.piece at) in
      let low = facts.own in
      let high = facts.within in
      (omega (arith, here, low), omega (arith, here, low, high, fits))

  -- a further production
  further : (j : ℕ) (rule : Production) → slice_get (productions_after host 0 0 (grammars_of host extensible pieces)) j ≡ Some rule →
      IsFurther host.nonterminals markers rule
  further j rule at = go (production_view host extensible pieces p)
    where
      p : ℕ
      p = length host.productions + j

      there : IsProduction union p rule.0 rule.1
      there = append_after host.productions (productions_after host 0 0 (grammars_of host extensible pieces)) j ∙ at

      in_range : p < length union.productions
      in_range = slice_get_within union.productions p rule there

      left_is : (a : ℕ) → (W host extensible pieces).left p ≡ a → rule.0 ≡ a
      left_is a is = sym (ap left_in (united_rule host extensible pieces certified.are_pieces p rule.0 rule.1 there)) ∙ is

      right_is : (right : List Symbol) → (W host extensible pieces).right p ≡ right → rule.1 ≡ right
      right_is right is =
          sym (after_initial (V host extensible pieces) p rule.0 rule.1
          (united_rule host extensible pieces certified.are_pieces p rule.0 rule.1 there)) ∙ is

      go : ProductionOf host extensible pieces p → IsFurther host.nonterminals markers rule
      go (fact.of_grammar a right is) = let less = slice_get_within host.productions p (a, right) is in absurd (omega (arith, less))
      go (fact.of_piece k x i a right x_at is place) =
          let facts = extension_facts host extensible pieces k x i a right p x_at is place in
          by (left_is ((into_by host extensible pieces k).nonterminal a) facts.left)
          (right_is (map (renamed (into_by host extensible pieces k)) right) facts.right_is)
          ((piece_ok host extensible pieces certified.are_pieces k x x_at).own_productions (length host.productions + i) a right
          (omega arith) is)
        where
          by : rule.0 ≡ (into_by host extensible pieces k).nonterminal a → rule.1 ≡ map (renamed (into_by host extensible pieces k)) right →
              IsOwnProduction host x (length host.productions + i) a right → IsFurther host.nonterminals markers rule
          by a_is r_is (unmarked low each) =
              let up = lift_past host.nonterminals (0 + count_before (nonterminal_sizes host extensible pieces) k) a low in
              on_further (omega (arith, a_is, up, low))
          by a_is r_is (bridge m b rest mark number r each) =
              let count = count_before (terminal_sizes host extensible pieces) k in
              let none : 0 + count ≡ count = omega arith in
              let same : (into_by host extensible pieces k).terminal m ≡ in_union host extensible pieces k m =
              ap (λ z. lift host.terminals z m) none in
              on_marker (in_union host extensible pieces k m) (map (renamed (into_by host extensible pieces k)) rest)
              (marker_in k x m b x_at mark)
              (r_is ∙ (ap (map (renamed (into_by host extensible pieces k))) r
              ∙ ap (λ z. Terminal z ∷ map (renamed (into_by host extensible pieces k)) rest) same))
      go (fact.of_hole i a i_at place) = absurd (omega (arith, in_range, place))
      go (fact.of_rest i place) =
          let len = with_holes_len host extensible pieces in
          let all = united_len host extensible pieces in
          absurd (omega (arith, in_range, place, len, all))

  pub extends_grammar : ExtendsGrammar host union markers
  extends_grammar = record {
    terminals = omega arith;
    nonterminals = omega arith;
    start = refl;
    more = productions_after host 0 0 (grammars_of host extensible pieces);
    productions = refl;
    shape = all_from_places (IsFurther host.nonterminals markers) (productions_after host 0 0 (grammars_of host extensible pieces)) further;
    marking = marker_range;
  }

  -- a further terminal that is no marker isn't valid at a prefix of the host
  not_valid : (prefix : List Symbol) → IsViablePrefix host prefix → (t : ℕ) → host.terminals ≤ t → t < union.terminals →
      ¬ IsMember markers t →
      ¬ IsValidTerminal union prefix t
  not_valid prefix viable t low high not valid = go (located host.terminals (terminal_sizes host extensible pieces) t)
    where
      go : Located host.terminals (terminal_sizes host extensible pieces) t → ⊥
      go (in_host below) = omega (arith, below, low)
      go (after_all j is) = omega (arith, is, high)
      go (in_extension k size i at within is) =
          let (x, x_at, size_is) = piece_at host extensible pieces (added_terminals host) k size at in
          marked x x_at size_is (x.mark (host.terminals + i)) refl
        where
          place : in_union host extensible pieces k (host.terminals + i) ≡ t
          place =
              let up = lift_past host.terminals (count_before (terminal_sizes host extensible pieces) k) (host.terminals + i)
              (omega arith) in
              omega (arith, up, is)

          marked : (x : Piece) → slice_get pieces k ≡ Some x → size ≡ added_terminals host x.grammar → (m : Mark) →
              x.mark (host.terminals + i) ≡ m → ⊥
          marked x x_at size_is (on a) mark = not (subst (IsMember markers) place (marker_in k x (host.terminals + i) a x_at mark))
          marked x x_at size_is bare mark =
              (keeps_host host extensible pieces certified).own k x x_at prefix
              (viable_below certified.are_pieces.is_grammar prefix viable) viable
              (host.terminals + i)
              (record {
                own = omega arith;
                within = let more = (piece_ok host extensible pieces certified.are_pieces k x x_at).extends.terminals in
                    omega (arith, within, size_is, more);
                unmarked = mark;
              })
              (subst (IsValidTerminal union prefix) (sym place) valid)

  pub keeps_valid : KeepsValid host union markers
  keeps_valid =
      let keeps = keeps_host host extensible pieces certified in
      record {
        terminal = λ prefix viable t less.
            keeps.terminal prefix (viable_below certified.are_pieces.is_grammar prefix viable) viable t less;
        end_of_text = λ prefix viable. keeps.end_of_text prefix (viable_below certified.are_pieces.is_grammar prefix viable) viable;
        further = not_valid;
      }

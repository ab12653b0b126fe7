-- Two terminals or layouts that match one text and that nothing orders in the union are considered together nowhere in what was certified.
use Rattle.std.proofs.Common.{◌≡◌, ◌≢◌, ◌⊎◌, ℕ, List, Some, slice_get, refl, ap, inl, inr}
use Rattle.wb_base.specs.declared.symbol.Symbol.{Symbol}
use Rattle.wb_base.specs.Grammar.{GrammarView}
use Rattle.wb_determinism_contexts.specs.Considered.{IsConsideredAt, LexiconView}
use Rattle.wb_compose_theory_language.specs.Envelopes.{IsConsideredInEnvelope}
use Rattle.wb_grammar_theory.specs.Closure.{InClosure, kernel, opened}
use Rattle.wb_grammar_theory.specs.declared.item.Item.{Item}
use Rattle.wb_grammar_theory.specs.Items.{IsViablePrefix}
use Rattle.wb_grammar_theory.specs.Lookaheads.{IsValidTerminal}
use Rattle.wb_lexical.specs.Clash.{AreOrdered}
use Rattle.wb_marking_holes.specs.Holes.{with_holes_of}
use Rattle.wb_compose_theory.specs.Numbered.{HostKernel, IsNewHostKernel, IsValidInEnvelope}
use Rattle.wb_compose_theory_grammar.specs.Numberings.{up_of}
use Rattle.wb_compose_theory_grammar.specs.Pieces.{ArePieces}
use Rattle.wb_compose_theory_language.specs.Written.{WrittenPiece, pieces_of}
use Rattle.wb_compose_theory_language.specs.Apart.{AreWrittenApart}
use Rattle.wb_compose_theory_language.specs.Rows.{Prefers, Reads, by_extension, by_host, host_row, piece_row}
use Rattle.wb_compose_theory_language.proofs.PreferenceLemmas.{apart_at}
use Rattle.wb_compose_theory_language.proofs.ReadLemmas.{reads_host, reads_piece}

-- where a terminal is valid, the prefix is viable
pub valid_viable : (g : GrammarView) (prefix : List Symbol) (t : ℕ) → IsValidTerminal g prefix t → IsViablePrefix g prefix
valid_viable g prefix t (inl can) = (can.item, can.has.0, can.has.1)
valid_viable g prefix t (inr (p, can)) = (can.item, can.has.0, can.has.1)

-- a closure has an item of its kernel
closure_has : {g : GrammarView} {Kernel : Item → Type 0} {item : Item} → InClosure g Kernel item → (i : Item) × Kernel i
closure_has (kernel {item = item} k) = (item, k)
closure_has (opened item b rest q right inside is rule) = closure_has inside

-- where a terminal is valid in an envelope, the prefix is viable
pub envelope_viable : (g k : GrammarView) (x : WrittenPiece) (host : GrammarView) (prefix : List Symbol) (t : ℕ) →
    IsValidInEnvelope g (HostKernel k (up_of host x.piece.grammar) prefix) t → IsViablePrefix k prefix
envelope_viable g k x host prefix t (inl can) =
    let (i, has) = closure_has can.within in (record { production = (up_of host x.piece.grammar).production i.production; dot = i.dot }, has.0.0, has.0.1)
envelope_viable g k x host prefix t (inr (p, can)) =
    let (i, has) = closure_has can.within in (record { production = (up_of host x.piece.grammar).production i.production; dot = i.dot }, has.0.0, has.0.1)

module _ (host : GrammarView) (extensible : List ℕ) (own : LexiconView) (written : List WrittenPiece)
    (ok : ArePieces host extensible (pieces_of written)) (apart : AreWrittenApart host extensible own written) where
  -- one of the two is preferred to the other in the union
  abbrev pub Ordered : ℕ → ℕ → Type 0
  Ordered one other = Prefers host extensible own written one other ⊎ Prefers host extensible own written other one

  -- the other way round
  pub swapped : {one other : ℕ} → Ordered one other → Ordered other one
  swapped (inl p) = inr p
  swapped (inr p) = inl p

  -- what the host orders
  pub host_orders : (a b : ℕ) → AreOrdered own.preferences a b →
      Ordered (host_row host extensible own written a) (host_row host extensible own written b)
  host_orders a b (inl h) = inl (by_host a b refl refl h)
  host_orders a b (inr h) = inr (by_host b a refl refl h)

  -- what an extension with the host orders
  pub piece_orders : (k : ℕ) (x : WrittenPiece) → slice_get written k ≡ Some x → (a b : ℕ) → AreOrdered x.lexicon.preferences a b →
      Ordered (piece_row host extensible own written k x a) (piece_row host extensible own written k x b)
  piece_orders k x at a b (inl h) = inl (by_extension k x a b at refl refl h)
  piece_orders k x at a b (inr h) = inr (by_extension k x b a at refl refl h)

  -- both match the text, and nothing orders them
  pub record AreRivals (one other : ℕ) (text : List ℕ) : Type 0 where
    pub different : one ≢ other
    pub one_reads : Reads host extensible own written one text
    pub other_reads : Reads host extensible own written other text
    pub unordered : ¬ Ordered one other

  -- the rivals are rows of an extension with the host
  module _ (k : ℕ) (x : WrittenPiece) (at : slice_get written k ≡ Some x) where
    -- at no prefix are both considered
    pub no_clash_beside : (a b : ℕ) (text : List ℕ) →
        AreRivals (piece_row host extensible own written k x a) (piece_row host extensible own written k x b) text →
        (prefix : List Symbol) → IsViablePrefix (with_holes_of x.piece.grammar extensible) prefix →
        IsConsideredAt (with_holes_of x.piece.grammar extensible) x.lexicon prefix a →
        ¬ IsConsideredAt (with_holes_of x.piece.grammar extensible) x.lexicon prefix b
    no_clash_beside a b text rivals prefix viable at_a at_b =
        (apart_at host extensible own written ok apart k x at).no_clash prefix a b text record {
          viable = viable;
          different = λ e. rivals.different (ap (piece_row host extensible own written k x) e);
          left_considered = at_a;
          right_considered = at_b;
          left_matches = reads_piece host extensible own written ok apart k x at a text rivals.one_reads;
          right_matches = reads_piece host extensible own written ok apart k x at b text rivals.other_reads;
          unordered = λ o. rivals.unordered (piece_orders k x at a b o);
        }

    -- in no envelope are they
    pub no_clash_enveloped : (a b : ℕ) (text : List ℕ) →
        AreRivals (piece_row host extensible own written k x a) (piece_row host extensible own written k x b) text →
        (prefix : List Symbol) → IsViablePrefix (with_holes_of x.piece.grammar extensible) prefix →
        IsNewHostKernel (with_holes_of host extensible) (with_holes_of x.piece.grammar extensible) (up_of host x.piece.grammar) prefix →
        IsConsideredInEnvelope (with_holes_of host extensible)
        (HostKernel (with_holes_of x.piece.grammar extensible) (up_of host x.piece.grammar) prefix)
        (record (x.lexicon) { scanned = host.terminals }) a →
        ¬ IsConsideredInEnvelope (with_holes_of host extensible)
        (HostKernel (with_holes_of x.piece.grammar extensible) (up_of host x.piece.grammar) prefix)
        (record (x.lexicon) { scanned = host.terminals }) b
    no_clash_enveloped a b text rivals prefix viable new at_a at_b =
        (apart_at host extensible own written ok apart k x at).no_new_clash prefix a b text viable new record {
          different = λ e. rivals.different (ap (piece_row host extensible own written k x) e);
          left_considered = at_a;
          right_considered = at_b;
          left_matches = reads_piece host extensible own written ok apart k x at a text rivals.one_reads;
          right_matches = reads_piece host extensible own written ok apart k x at b text rivals.other_reads;
          unordered = λ o. rivals.unordered (piece_orders k x at a b o);
        }

  -- the rivals are rows of the host
  pub no_clash_in_host : (a b : ℕ) (text : List ℕ) →
      AreRivals (host_row host extensible own written a) (host_row host extensible own written b) text → (prefix : List Symbol) →
      IsViablePrefix (with_holes_of host extensible) prefix → IsConsideredAt (with_holes_of host extensible) own prefix a →
      ¬ IsConsideredAt (with_holes_of host extensible) own prefix b
  no_clash_in_host a b text rivals prefix viable at_a at_b =
      apart.of_host.no_clash prefix a b text record {
        viable = viable;
        different = λ e. rivals.different (ap (host_row host extensible own written) e);
        left_considered = at_a;
        right_considered = at_b;
        left_matches = reads_host host extensible own written ok apart a text rivals.one_reads;
        right_matches = reads_host host extensible own written ok apart b text rivals.other_reads;
        unordered = λ o. rivals.unordered (host_orders a b o);
      }

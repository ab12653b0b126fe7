-- What is lent is written as what is certified.
use Rattle.std.proofs.Common.{◌≡◌, ◌∙◌, ◌∷◌, [], ℕ, false, List, Option, None, Some, length, map, slice_get, refl, ap}
use Rattle.std.specs.Prelude.{◌==◌, if◌then◌else◌}
use Rattle.wb_base.specs.Grammar.{GrammarView}
use Rattle.wb_certify.specs.Kept.{ExtensionView}
use Rattle.wb_certify.specs.Lexicons as certified
use Rattle.wb_certify.specs.DeterminismImages as image
use Rattle.wb_certify.specs.Pieces as piece
use Rattle.wb_compose.specs.Written.{written_with}
use Rattle.wb_syntax_resolved.specs.declared.resolved.ResolvedParts.{ResolvedParts}
use Rattle.wb_syntax_resolved.specs.declared.terminal.Preference.{Preference}
use Rattle.wb_syntax_resolved.specs.declared.terminal.Terminal.{Terminal}
use Rattle.wb_syntax_resolved.specs.declared.terminal.TerminalKind.{TerminalKind}
use Rattle.wb_syntax_resolved.specs.declared.terminal.TerminalKind.TheVariants.{Plain, Ignore, Marking}
use Rattle.wb_compose_theory_grammar.specs.Bridges.{piece_of}
use Rattle.wb_compose_language.specs.declared.addition.Addition.{Addition}
use Rattle.wb_compose_language.specs.Lents.{is_host_layout, is_layout, is_marker_in, is_marker_row, is_own_layout, lexicon_from}
use Rattle.wb_compose_language.specs.Lents.{lexicon_with, written_in}
use Rattle.wb_compose.specs.Inner.Lending.{IsLent}

-- which rows are markers, and which are layout
marker_row : (o : Option Terminal) → is_marker_row o ≡ image.is_marker_row o
marker_row None = refl
marker_row (Some t) = of_kind t.kind
  where
    of_kind : (kind : TerminalKind) →
        is_marker_row (Some (record t { kind = kind })) ≡ image.is_marker_row (Some (record t { kind = kind }))
    of_kind Plain = refl
    of_kind Ignore = refl
    of_kind Marking = refl

layout_row : (kind : TerminalKind) → is_layout kind ≡ certified.is_layout kind
layout_row Plain = refl
layout_row Ignore = refl
layout_row Marking = refl

layout_rows : (rows : List Terminal) →
    map (λ (t : Terminal). is_layout t.kind) rows ≡ map (λ (t : Terminal). certified.is_layout t.kind) rows
layout_rows [] = refl
layout_rows (t ∷ rows) = λ j. layout_row t.kind j ∷ layout_rows rows j

-- whose layout it is doesn't depend on the word for layout
host_layout_rows : (rows : List Terminal) → map is_host_layout rows ≡ map certified.is_host_layout rows
host_layout_rows [] = refl
host_layout_rows (t ∷ rows) = λ j. (if t.owner == 0 then (layout_row t.kind j) else false) ∷ host_layout_rows rows j

own_layout_rows : (rows : List Terminal) → map is_own_layout rows ≡ map certified.is_own_layout rows
own_layout_rows [] = refl
own_layout_rows (t ∷ rows) = λ j. (if t.owner == 0 then false else (layout_row t.kind j)) ∷ own_layout_rows rows j

-- what is scanned of these rows and preferences
pub lexicon_is : (r : ResolvedParts) (g : GrammarView) (rows : List Terminal) (preferences : List Preference) →
    rows ≡ r.terminals → preferences ≡ r.preferences → lexicon_with g rows preferences ≡ certified.lexicon_of r g
lexicon_is r g rows preferences rows_are preferences_are =
    ap (λ z. lexicon_with g z preferences) rows_are ∙
    (ap (λ z. lexicon_with g r.terminals z) preferences_are ∙ (λ j. record {
      expressions = map (λ (t : Terminal). t.pattern) r.terminals;
      scanned = g.terminals;
      layout = layout_rows r.terminals j;
      own_layout = map (λ (t : Terminal). false) r.terminals;
      own_productions = (0, 0);
      preferences = map (λ (p : Preference). (p.first, p.second)) r.preferences;
    }))

-- and with an extension
pub lexicon_from_is : (first : ℕ) (r : ResolvedParts) (g : GrammarView) (rows : List Terminal) (preferences : List Preference) →
    rows ≡ r.terminals → preferences ≡ r.preferences → lexicon_from first g rows preferences ≡ certified.lexicon_beside r g first
lexicon_from_is first r g rows preferences rows_are preferences_are =
    ap (λ z. lexicon_from first g z preferences) rows_are ∙
    (ap (λ z. lexicon_from first g r.terminals z) preferences_are ∙ (λ j. record {
      expressions = map (λ (t : Terminal). t.pattern) r.terminals;
      scanned = g.terminals;
      layout = host_layout_rows r.terminals j;
      own_layout = own_layout_rows r.terminals j;
      own_productions = (first, length g.productions);
      preferences = map (λ (p : Preference). (p.first, p.second)) r.preferences;
    }))

-- the markers of an extension
markers_are : (e : ExtensionView) (x : Addition) → IsLent e x → (t : ℕ) → is_marker_in x t ≡ piece.is_marker_in e.resolved t
markers_are e x is t =
    ap (λ rows. is_marker_row (slice_get rows t)) is.terminals_are ∙ marker_row (slice_get e.resolved.terminals t)

pub marker_flags : (e : ExtensionView) (x : Addition) → IsLent e x → is_marker_in x ≡ piece.is_marker_in e.resolved
marker_flags e x is = λ j. λ t. markers_are e x is t j

-- an extension is written as it was certified
pub written_is : (h : GrammarView) (e : ExtensionView) (x : Addition) → IsLent e x →
    written_in (length h.productions) x ≡ written_with h e.resolved x.grammar.now
written_is h e x is = λ j. record { piece = piece_is j; name = is.name_is j; lexicon = scanned_is j }
  where
    piece_is : piece_of x.grammar.now (is_marker_in x) ≡ piece.piece_in e.resolved x.grammar.now
    piece_is = ap (piece_of x.grammar.now) (marker_flags e x is)

    scanned_is : lexicon_from (length h.productions) x.grammar.now x.terminals.now x.preferences.now ≡
        certified.lexicon_beside e.resolved x.grammar.now (length h.productions)
    scanned_is = lexicon_from_is (length h.productions) e.resolved x.grammar.now x.terminals.now x.preferences.now is.terminals_are
        is.preferences_are

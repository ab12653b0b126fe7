-- What the automaton says of what was looked at.
use Rattle.std.proofs.Common.{◌≡◌, ◌<◌, ◌≤◌, ◌-◌, ℕ, List, ◌++◌, length, drop, sym, subst, arith}
use Rattle.std.proofs.Common.{length-take-le, length-drop}
use Rattle.std.specs.Prelude.{slice_range}
use Rattle.std.proofs.lemmas.List.{take-append-drop}
use Rattle.wb_base.specs.declared.symbol.Symbol.{Symbol}
use Rattle.wb_automata.specs.Automata.{AutomatonView, GoesOn, IsMatch}
use Rattle.wb_lookahead.specs.Contents.{TablesView, size_of}
use Rattle.wb_scan_theory.specs.Languages.{LanguageView}
use Rattle.wb_scan_theory.specs.Tokens.{Next, NextToken, skipped, wins, ends, fails}
use Rattle.wb_scan_theory.specs.Examined.{IsDead, IsLooked, up_to, Scans, skips, takes, finishes, misses}
use Rattle.wb_scan_theory.specs.Parts.{AreLanguageParts, IsPrefixOf}

pub range_size : (text : List ℕ) (from to : ℕ) → to ≤ length text → length (slice_range text from to) ≡ to - from
range_size text from to le = length-take-le (to - from) (drop from text) (omega (arith, length-drop from text))

-- where no match of the state's forms goes on from a piece, it begins none
pub dead_piece : {l : LanguageView} {tables : TablesView} {automaton : AutomatonView} → AreLanguageParts l tables automaton → (state : ℕ) →
    state < size_of tables → {prefix : List Symbol} → IsPrefixOf l.grammar tables state prefix → (piece : List ℕ) →
    (GoesOn automaton state piece → ⊥) → IsDead l prefix piece
dead_piece {l} parts state below {prefix} of piece none place more considered is =
    none (record {
      terminal = place;
      rest = more;
      is = record {
        considered = (parts.sets state place prefix of).1 considered;
        is = subst (λ z. IsMatch z place (piece ++ more)) (sym parts.expressions) is;
      };
    })

-- so the bytes up to that one were looked at and no more
pub looked_piece : {l : LanguageView} {tables : TablesView} {automaton : AutomatonView} → AreLanguageParts l tables automaton →
    (state : ℕ) →
    state < size_of tables → {prefix : List Symbol} → IsPrefixOf l.grammar tables state prefix → (text : List ℕ) (at e : ℕ) → at < e →
    e ≤ length text → (GoesOn automaton state (slice_range text at e) → ⊥) → IsLooked l text prefix at e
looked_piece parts state below of text at e lt within none =
    let size : length (slice_range text at e) ≡ e - at = range_size text at e within in
    up_to (slice_range text at e) (drop (e - at) (drop at text)) (sym (take-append-drop (e - at) (drop at text))) (omega arith)
    (dead_piece parts state below of (slice_range text at e) none) (omega arith)

-- what a scan gives is next
pub scan_next : {l : LanguageView} {text : List ℕ} {prefix : List Symbol} {e at : ℕ} {next : Next} → Scans l text prefix e at next →
    NextToken l text prefix at next
scan_next (skips p here x looked le is w more) = skipped p x is w (scan_next more)
scan_next (takes p here form x lexeme looked le at_form w is found) = wins p form x lexeme at_form w is found
scan_next (finishes is lt found) = ends is found
scan_next (misses here looked le lt out found) = fails lt out found

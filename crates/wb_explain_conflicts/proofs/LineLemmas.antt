-- What is said of two trees, from its parts.
use Rattle.std.proofs.Common.{◌≡◌, ◌++◌, ℕ, List, subst, ap, Result, Ok, Err, OnOk}
use Rattle.std.specs.Bool.{if◌then◌else◌}
use Rattle.std.specs.Result.{is_ok}
use lib.Chars.{codes}
use Rattle.wb_explain_readings.specs.declared.found.Found.{Found}
use Rattle.wb_explain_readings.specs.declared.piece.Piece.{Piece}
use Rattle.wb_syntax_resolved.specs.declared.resolved.ResolvedParts.{ResolvedParts}
use Rattle.wb_explain_conflicts.specs.Said.{before_first, before_second, heading, Lines}
use Rattle.wb_explain_conflicts.specs.Words.{HasTree, HasWords, text_shown}

-- the parts, one after the other
pub lines_of : {X E : Type 0} (result : Result X E) (r : ResolvedParts) (found : Found) (old h t t1 f f1 s new : List ℕ) (text : List ℕ)
    (first second : List Piece) → text ≡ found.text → first ≡ found.first → second ≡ found.second → h ≡ old ++ heading found.is_whole →
    HasWords (text_shown r text) h t → t1 ≡ t ++ before_first → HasTree r first t1 f → f1 ≡ f ++ before_second →
    HasTree r second f1 s → new ≡ (if is_ok result then s ++ codes "\n" else s) → OnOk result (Lines r found old new)
lines_of (Ok x) r found old h t t1 f f1 s new text first second text_is first_is second_is headed has_text one has_first two has_second last =
    record {
      text = t;
      has_text = subst (λ z. HasWords z (old ++ heading found.is_whole) t) (ap (text_shown r) text_is) (subst (λ z. HasWords (text_shown r text) z t) headed has_text);
      first = f;
      has_first = subst (λ z. HasTree r z (t ++ before_first) f) first_is (subst (λ z. HasTree r first z f) one has_first);
      second = s;
      has_second = subst (λ z. HasTree r z (f ++ before_second) s) second_is (subst (λ z. HasTree r second z s) two has_second);
      lines = last;
    }
lines_of (Err e) r found old h t t1 f f1 s new text first second text_is first_is second_is headed has_text one has_first two has_second last = tt

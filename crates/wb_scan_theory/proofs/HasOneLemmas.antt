-- Where forms are decided, one wins.
use Rattle.std.proofs.Common.{inl, inr}
use Rattle.wb_lookahead.specs.Contents.{TablesView}
use Rattle.wb_scan_theory.specs.Languages.{LanguageView}
use Rattle.wb_scan_theory.specs.Facts.{IsWritten, AreDecided, HasOneWinner}
use Rattle.wb_scan_theory.specs.Parts.{AreTablesOf}
use Rattle.wb_scan_theory.proofs.PartLemmas.{considers}
use Rattle.wb_scan_theory.proofs.WinnerLemmas.{one_winner, won_or_none}

-- at most one form wins, and one does where any that is considered matches
pub has_one : (l : LanguageView) (tables : TablesView) → IsWritten l → AreTablesOf l.grammar tables → AreDecided l → HasOneWinner l
has_one l tables written tables_of decided = record {
  one = λ prefix text at place other piece same w v. (one_winner decided w v).0;
  some = λ prefix viable text at place piece m. elim
      (won_or_none decided prefix viable text at (considers written tables_of prefix viable)) [
        | inl won ↦ won
        | inr out ↦ absurd (out place piece m)
      ];
}

-- Certificates: lines and entries that are good, and to which nothing more can be added.
use Rattle.std.specs.Prelude.{◌≡◌, List, Some, slice_get}
use Rattle.wb_base.specs.Grammar.{GrammarView}
use Rattle.wb_recheck_theory.specs.declared.line.Line.{Line}
use Rattle.wb_recheck_theory.specs.declared.entry.Entry.{Entry}
use Rattle.wb_recheck_theory.specs.Lines.{AreGoodLines, AreMovesListed}
use Rattle.wb_recheck_theory.specs.Entries.{first_entry, AreGoodEntries, AreEntriesListed}

-- the lines and entries are good, the first entry is there, and what moves or follows is listed
pub record IsCertificate (g : GrammarView) (lines : List Line) (entries : List Entry) : Type 0 where
  pub lines_good : AreGoodLines g lines
  pub entry_first : slice_get entries 0 ≡ Some (first_entry g)
  pub entries_good : AreGoodEntries g lines entries
  pub moves_listed : AreMovesListed g lines
  pub entries_listed : AreEntriesListed g lines entries

-- Which is the first wrong entry of a certificate, and what is missing.
use Rattle.std.specs.Prelude.{◌≡◌, ◌<◌, ℕ, zero, suc, List, [], Some, slice_get}
use Rattle.wb_base.specs.Grammar.{GrammarView}
use Rattle.wb_grammar_theory.specs.declared.item.Item.{Item}
use Rattle.wb_recheck_theory.specs.declared.line.Line.{Line}
use Rattle.wb_recheck_theory.specs.declared.entry.Entry.{Entry}
use Rattle.wb_recheck_theory.specs.Entries.{first_entry, AreEntriesListed, IsFollowed, IsGoodEntry, IsListed}
use Rattle.wb_recheck_entries.specs.declared.refusal.EntryRefusal.{EntryRefusal}
use Rattle.wb_recheck_entries.specs.declared.refusal.EntryRefusal.TheVariants.{Wrong, NoMemory}

-- the entry at place 0 is the first entry, and one after it is good
abbrev pub IsRightEntry : GrammarView → List Line → List Entry → ℕ → Entry → Type 0
IsRightEntry g lines entries zero e = e ≡ first_entry g
IsRightEntry g lines entries (suc n) e = IsGoodEntry g lines entries (suc n) e

-- each entry is right
abbrev pub AreRightEntries : GrammarView → List Line → List Entry → Type 0
AreRightEntries g lines entries = (n : ℕ) (e : Entry) → slice_get entries n ≡ Some e → IsRightEntry g lines entries n e

-- the entry at this place isn't right, and those before it are
pub record IsFirstWrongEntry (g : GrammarView) (lines : List Line) (entries : List Entry) (n : ℕ) : Type 0 where
  pub before : (m : ℕ) (e : Entry) → m < n → slice_get entries m ≡ Some e → IsRightEntry g lines entries m e
  pub entry : Entry
  pub at : slice_get entries n ≡ Some entry
  pub wrong : ¬ IsRightEntry g lines entries n entry

-- where the entries are refused for a place, it is that of the first wrong entry
abbrev pub IsEntryRefusal : GrammarView → List Line → List Entry → EntryRefusal → Type 0
IsEntryRefusal g lines entries (Wrong n) = IsFirstWrongEntry g lines entries n
IsEntryRefusal g lines entries (NoMemory error) = Unit {0}

-- the first entry is there, and what follows from each entry is listed
pub record AreWholeEntries (g : GrammarView) (lines : List Line) (entries : List Entry) : Type 0 where
  pub first : slice_get entries 0 ≡ Some (first_entry g)
  pub listed : AreEntriesListed g lines entries

-- what follows from an entry of the kernel isn't listed, or no entry is, and the kernel is 0
pub data LacksEntry (g : GrammarView) (lines : List Line) (entries : List Entry) (k : ℕ) : Type 0 where
  nothing_listed : entries ≡ [] → k ≡ 0 → LacksEntry g lines entries k
  unlisted : (item : Item) (t k' : ℕ) (item' : Item) (t' : ℕ) → IsListed entries k item t → IsFollowed g lines k item t k' item' t' →
      ¬ IsListed entries k' item' t' → LacksEntry g lines entries k

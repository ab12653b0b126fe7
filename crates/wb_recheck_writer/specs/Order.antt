-- The order of a certificate: kernels and entries as they are first reached.
use Rattle.std.specs.Prelude.{◌≡◌, ◌≢◌, ◌⊎◌, ℕ, suc, ◌<◌, ◌^◌, List, length, Option, Some, slice_get}
use Rattle.wb_base.specs.declared.symbol.Symbol.{Symbol}
use Rattle.wb_base.specs.Grammar.{GrammarView}
use Rattle.wb_grammar_theory.specs.declared.item.Item.{Item}
use Rattle.wb_items.specs.Order.{SymbolPrecedes}
use Rattle.wb_recheck_theory.specs.declared.line.Line.{Line}
use Rattle.wb_recheck_theory.specs.declared.entry.Entry.{Entry}
use Rattle.wb_recheck_theory.specs.Lines.{HasMove, IsMoveOf}
use Rattle.wb_recheck_theory.specs.Entries.{IsFollowed}
use Rattle.wb_recheck_theory.specs.Certificates.{IsCertificate}

-- the kernel's move by the symbol comes before that of the line: the kernel is earlier, or it is the same and the symbol is earlier
abbrev pub MovePrecedes : ℕ → Symbol → Line → Type 0
MovePrecedes k x line = (k < line.from) ⊎ ((k ≡ line.from) × SymbolPrecedes x line.symbol)

-- kernels are listed as they are first reached: each move that comes before that of a line leads to a kernel before the line's own
abbrev pub AreLinesInOrder : GrammarView → List Line → Type 0
AreLinesInOrder g lines =
    (n : ℕ) (line : Line) → slice_get lines n ≡ Some line → (k : ℕ) (x : Symbol) → MovePrecedes k x line → HasMove g lines k x →
    (m : ℕ) × (m < suc n) × IsMoveOf g lines k x m

-- of what follows from one entry the one item with its terminal comes before the other with its own: initial items come first, by
-- production and then by terminal, and then the item that moved on
pub data FollowerPrecedes (item : Item) (t : ℕ) (other : Item) (u : ℕ) : Type 0 where
  by_production : item.dot ≡ 0 → other.dot ≡ 0 → item.production < other.production → FollowerPrecedes item t other u
  by_terminal : item.dot ≡ 0 → other.dot ≡ 0 → item.production ≡ other.production → t < u → FollowerPrecedes item t other u
  by_move : item.dot ≡ 0 → other.dot ≢ 0 → FollowerPrecedes item t other u

-- the item with the terminal, as it follows from the entry at place m, comes before an entry as it follows from its origin
abbrev pub IsReachedBefore : ℕ → Item → ℕ → Entry → Type 0
IsReachedBefore m item t e =
    (place : ℕ) × (e.origin ≡ Some place) × ((m < place) ⊎ ((m ≡ place) × FollowerPrecedes item t e.item e.terminal))

-- before the place an entry has the terminal as a lookahead of the item at the kernel
abbrev pub IsListedBefore : List Entry → ℕ → ℕ → Item → ℕ → Type 0
IsListedBefore entries n k item t =
    (i : ℕ) × (origin : Option ℕ) × (i < n) ×
    (slice_get entries i ≡ Some (record { kernel = k; item = item; terminal = t; origin = origin }))

-- entries are listed as they are first reached: whatever follows from an entry, and comes before another entry, is listed before that
abbrev pub AreEntriesInOrder : GrammarView → List Line → List Entry → Type 0
AreEntriesInOrder g lines entries =
    (n : ℕ) (e : Entry) → slice_get entries n ≡ Some e → (m : ℕ) (source : Entry) (k : ℕ) (item : Item) (t : ℕ) →
    slice_get entries m ≡ Some source → IsFollowed g lines source.kernel source.item source.terminal k item t →
    IsReachedBefore m item t e → IsListedBefore entries n k item t

-- a certificate as it is written: kernels and entries are listed as they are first reached
pub record IsWrittenCertificate (g : GrammarView) (lines : List Line) (entries : List Entry) : Type 0 where
  pub certificate : IsCertificate g lines entries
  pub lines_in_order : AreLinesInOrder g lines
  pub entries_in_order : AreEntriesInOrder g lines entries

-- as it is written, a certificate of the grammar has more than so many entries
abbrev pub HasMoreEntries : GrammarView → ℕ → Type 0
HasMoreEntries g most = (lines : List Line) (entries : List Entry) → IsWrittenCertificate g lines entries → most < length entries

-- each dot is a machine number
abbrev pub HaveSmallDots : List Entry → Type 0
HaveSmallDots entries = (n : ℕ) (e : Entry) → slice_get entries n ≡ Some e → e.item.dot < 2 ^ 64

-- Entries as they are written: as they are first reached.
use Rattle.std.specs.Prelude.{◌≡◌, ◌↔◌, ◌⊎◌, ◌+◌, ℕ, ◌<◌, Bool, true, false, List, [], ◌∷◌, ◌++◌, Option, Some, None, slice_get}
use Rattle.wb_base.specs.declared.symbol.Symbol.{Symbol}
use Rattle.wb_base.specs.declared.symbol.Symbol.TheVariants.{Terminal, Nonterminal}
use Rattle.wb_base.specs.Grammar.{GrammarView, IsGrammar}
use Rattle.wb_termset.specs.Sets.{IsMember}
use Rattle.wb_grammar.specs.Facts.{AreFacts}
use Rattle.wb_grammar_theory.specs.declared.item.Item.{Item}
use Rattle.wb_grammar_theory.specs.Productions.{IsProduction}
use Rattle.wb_grammar_theory.specs.Derives.{IsFirst}
use Rattle.wb_grammar_theory.specs.Items.{after_dot, initial_item}
use Rattle.wb_items.specs.Kernels.{AreKernels}
use Rattle.wb_items.specs.Table.{AreProductions}
use Rattle.wb_recheck_theory.specs.declared.line.Line.{Line}
use Rattle.wb_recheck_theory.specs.declared.entry.Entry.{Entry}
use Rattle.wb_recheck_theory.specs.Lines.{IsItemAt}
use Rattle.wb_recheck_theory.specs.Entries.{IsEntryInRange, IsFollowed, IsListed}
use Rattle.wb_recheck_theory.specs.Listed.{AreEntries}
use Rattle.wb_recheck_writer.specs.declared.context.Context.{Context}
use Rattle.wb_recheck_writer.specs.declared.source.Source.{Source}
use Rattle.wb_recheck_writer.specs.declared.opened.Opening.{Opening}
use Rattle.wb_recheck_writer.specs.Inner.Lines.{AreAllLines}
use Rattle.wb_recheck_writer.specs.Order.{AreEntriesInOrder, HasMoreEntries, HaveSmallDots, IsWrittenCertificate}

-- by what an entry is found: its kernel, production, dot and terminal
abbrev pub key_of : Entry → ℕ × ℕ × ℕ × ℕ
key_of e = (e.kernel, e.item.production, e.item.dot, e.terminal)

-- the entry went to the end, unless its lookahead was listed
abbrev pub Adds : List Entry → Entry → List Entry → Type 0
Adds old e new =
    (IsListed old e.kernel e.item e.terminal × (new ≡ old)) ⊎ ((¬ IsListed old e.kernel e.item e.terminal) × (new ≡ old ++ e ∷ []))

-- the grammar, and the lines
abbrev pub grammar_of : Context → GrammarView
grammar_of c = c.grammar.now

abbrev pub lines_of : Context → List Line
lines_of c = c.numbered.now.lines.items

-- the facts, the productions and the kernels are those of the grammar, and all kernels have their lines
pub record IsContext (c : Context) : Type 0 where
  pub facts : AreFacts c.grammar.now c.facts.now
  pub rules : AreProductions c.grammar.now c.rules.now
  pub kernels : AreKernels c.kernels.now
  pub of_grammar : c.kernels.now.grammar ≡ c.grammar.now
  pub lines : AreAllLines c.kernels.now c.numbered.now

-- the set has the terminals that begin what the symbols derive with the terminal after them
pub record IsFirstSet (g : GrammarView) (w : List Symbol) (t : ℕ) (set : List Bool) : Type 0 where
  pub each : (u : ℕ) → IsMember set u ↔ IsFirst g (w ++ Terminal t ∷ []) u

-- the entries are good and in order, begin with the first, and what follows from those before the place is listed; all numbers are in range
pub record AreReached (g : GrammarView) (lines : List Line) (entries : List Entry) (place : ℕ) : Type 0 where
  pub ok : IsGrammar g
  pub worklist : AreEntries g lines entries place
  pub in_range : (n : ℕ) (e : Entry) → slice_get entries n ≡ Some e → IsEntryInRange g lines e
  pub there : (n : ℕ) (e : Entry) → slice_get entries n ≡ Some e → IsItemAt g lines e.kernel e.item
  pub in_order : AreEntriesInOrder g lines entries
  pub dots : HaveSmallDots entries

-- the entry is at its place
abbrev pub IsSource : List Entry → Source → Type 0
IsSource entries source = slice_get entries source.place ≡ Some source.entry

-- the symbol is after the dot of the source
abbrev pub IsBefore : GrammarView → Source → Symbol → Type 0
IsBefore g source x = (rest : List Symbol) × (after_dot g source.entry.item ≡ x ∷ rest)

-- besides, what follows from the source at its own kernel is listed
pub record AreOpened (g : GrammarView) (lines : List Line) (entries : List Entry) (source : Source) : Type 0 where
  pub reached : AreReached g lines entries source.place
  pub at : IsSource entries source
  pub opened : (k : ℕ) (item : Item) (t : ℕ) →
      IsFollowed g lines source.entry.kernel source.entry.item source.entry.terminal k item t → item.dot ≡ 0 → IsListed entries k item t

-- the nonterminal is after the dot of the source, and the set has what begins its initial items
pub record IsOpening (g : GrammarView) (opening : Opening) : Type 0 where
  pub rest : List Symbol
  pub before_dot : after_dot g opening.source.entry.item ≡ Nonterminal opening.nonterminal ∷ rest
  pub set : IsFirstSet g rest opening.source.entry.terminal opening.set.now

-- the initial items of productions before this one are listed with each terminal of the set, and that of this one with those before this
-- terminal
abbrev pub AreInitialUpTo : GrammarView → List Entry → Opening → ℕ → ℕ → Type 0
AreInitialUpTo g entries opening production from =
    (q u : ℕ) (right : List Symbol) → IsProduction g q opening.nonterminal right → IsMember opening.set.now u →
    ((q < production) ⊎ ((q ≡ production) × (u < from))) → IsListed entries opening.source.entry.kernel (initial_item q) u

-- the initial items of the productions at the first places of the list are listed with each terminal of the set
abbrev pub AreInitialIn : Opening → List ℕ → List Entry → ℕ → Type 0
AreInitialIn opening numbers entries place =
    (n q u : ℕ) → n < place → slice_get numbers n ≡ Some q → IsMember opening.set.now u →
    IsListed entries opening.source.entry.kernel (initial_item q) u

-- so far the entries are as they are reached
pub record IsRowUpTo (g : GrammarView) (lines : List Line) (entries : List Entry) (opening : Opening) (production from : ℕ) : Type 0 where
  pub reached : AreReached g lines entries opening.source.place
  pub at : IsSource entries opening.source
  pub initial : AreInitialUpTo g entries opening production from

-- the entries of a certificate as it is written, or none where it has too many
abbrev pub IsOutcome : GrammarView → List Line → ℕ → Option (List Entry) → Type 0
IsOutcome g lines most None = HasMoreEntries g most
IsOutcome g lines most (Some entries) = IsWrittenCertificate g lines entries × HaveSmallDots entries

-- the same where the entries are in a list, and the answer says whether they are all
abbrev pub IsEnd : GrammarView → List Line → ℕ → List Entry → Bool → Type 0
IsEnd g lines most entries true = IsWrittenCertificate g lines entries × HaveSmallDots entries
IsEnd g lines most entries false = HasMoreEntries g most

-- Entries before a place, and what is known to be listed.
use Rattle.std.specs.Prelude.{◌≡◌, ◌<◌, ℕ, List, ◌∷◌, Some, Contains, map, take, slice_get}
use Rattle.wb_base.specs.declared.symbol.Symbol.{Symbol}
use Rattle.wb_base.specs.declared.symbol.Symbol.TheVariants.{Nonterminal}
use Rattle.wb_base.specs.Grammar.{GrammarView}
use Rattle.wb_grammar_theory.specs.Items.{after_dot}
use Rattle.wb_items.specs.Table.{AreProductions}
use Rattle.wb_recheck_theory.specs.declared.line.Line.{Line}
use Rattle.wb_recheck_theory.specs.declared.entry.Entry.{Entry}
use Rattle.wb_recheck_entries.specs.declared.known.Known.{Known}
use Rattle.wb_recheck_entries.specs.declared.known.Listing.{Listing}
use Rattle.wb_recheck_entries.specs.Faults.{IsRightEntry}
use Rattle.wb_recheck_entries.specs.Keys.{Key, key_of}
use Rattle.wb_recheck_entries.specs.References.{IsReference}
use Rattle.wb_recheck_entries.specs.Inner.Steps.{AreFirstsListed, AreOpenedListed}

-- the entries before the place are right, and these are their keys
pub record AreKeysUpTo (g : GrammarView) (lines : List Line) (entries : List Entry) (keys : List Key) (n : ℕ) : Type 0 where
  pub right : (m : ℕ) (e : Entry) → m < n → slice_get entries m ≡ Some e → IsRightEntry g lines entries m e
  pub keys_are : keys ≡ map key_of (take n entries)

-- at a kernel and a nonterminal, and a terminal: its productions have the terminal listed there. At a kernel and a production, and a dot:
-- each terminal that begins what is behind the nonterminal after the dot is listed so
pub record IsKnown (g : GrammarView) (keys : List Key) (known : Known) : Type 0 where
  pub opened : (k b u z : ℕ) → Contains known.opened ((k, b), (u, z)) → AreOpenedListed g keys k b u
  pub rests : (k p d z b : ℕ) (rest : List Symbol) → Contains known.rests ((k, p), (d, z)) →
      after_dot g (record { production = p; dot = d }) ≡ Nonterminal b ∷ rest → AreFirstsListed g keys k b rest

-- the productions are those of the grammar's nonterminals
pub record IsListing (x : Listing) : Type 0 where
  pub reference : IsReference x.reference.now
  pub productions : AreProductions x.reference.now.grammar.now x.productions.now

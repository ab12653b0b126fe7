-- Entries by their kernel, item and terminal.
use Rattle.std.specs.Prelude.{ℕ}
use Rattle.wb_grammar_theory.specs.declared.item.Item.{Item}
use Rattle.wb_recheck_theory.specs.declared.entry.Entry.{Entry}

-- a kernel and a production, and a dot and a terminal
abbrev pub Key : Type 0
Key = (ℕ × ℕ) × (ℕ × ℕ)

-- that of a lookahead of the item at the kernel
abbrev pub key_at : ℕ → Item → ℕ → Key
key_at k item t = ((k, item.production), (item.dot, t))

-- that of an entry, whatever its origin
abbrev pub key_of : Entry → Key
key_of e = key_at e.kernel e.item e.terminal

-- What is known of a host with extensions while forms are made.
use Rattle.std.specs.Prelude.{◌≡◌, ◌≤◌, ◌<◌, ℕ, List, Some, All, length, slice_get}
use Rattle.wb_syntax_resolved.specs.declared.terminal.Terminal.{Terminal}
use Rattle.wb_syntax_resolved.specs.declared.terminal.TerminalKind.TheVariants.{Marking}
use Rattle.wb_compose_theory_grammar.specs.Places.{count_before}
use Rattle.wb_compose_theory_grammar.specs.UnitedWorlds.{united}
use Rattle.wb_compose_theory_language.specs.Rows.{sizes}
use Rattle.wb_compose_theory_language.specs.Written.{pieces_of}
use Rattle.wb_compose_language.specs.declared.addition.Addition.{Addition}
use Rattle.wb_compose_language.specs.declared.addition.Lent.{Lent}
use Rattle.wb_compose_language.specs.declared.extension_forms.OwnTerminal.{OwnTerminal}
use Rattle.wb_compose_language.specs.declared.union_forms.Opened.{Opened}
use Rattle.wb_compose_language.specs.Lents.{IsUnitable, all_in, own_in}
use Rattle.wb_compose_language.specs.Inner.Known.{AreBases, HasOwnRows, IsKnown}
use Rattle.wb_compose_language.specs.Inner.Layouts.{hosts_in}
use Rattle.wb_compose_language.specs.declared.withdrawn.Asked.{Asked}

-- how many own terminals each extension has
abbrev pub sizes_in : Lent → List ℕ
sizes_in lent = sizes lent.grammar.now lent.extensible.now (own_in lent) (all_in lent)

-- how many terminals their union has
abbrev pub union_terminals : Lent → ℕ
union_terminals lent = (united lent.grammar.now lent.extensible.now (pieces_of (all_in lent))).terminals

-- the host has rows for its terminals, and each extension for its own terminals and layout, which are listed
pub record AreOpened (opened : Opened) : Type 0 where
  pub host_rows : opened.lent.grammar.now.terminals ≤ length opened.lent.terminals.now
  pub rows : All (HasOwnRows opened.lent.grammar.now.terminals (hosts_in opened.lent)) opened.lent.extensions.now
  pub known : IsKnown opened.known.now
  pub bases : AreBases opened.lent.grammar.now.terminals (hosts_in opened.lent) opened.lent.extensions.now
      opened.known.now.owns.now.patterns.items opened.known.now.owns.now.bases.items

-- and all can be united
pub record IsOpened (opened : Opened) : Type 0 where
  pub unitable : IsUnitable opened.lent
  pub opened_are : AreOpened opened

-- the terminal is an extension's own, before which others have so many
pub record IsOwnTerminal (lent : Lent) (terminal : OwnTerminal) : Type 0 where
  pub x : Addition
  pub listed : slice_get lent.extensions.now terminal.extension ≡ Some x
  pub own : lent.grammar.now.terminals ≤ terminal.number
  pub within : terminal.number < x.grammar.now.terminals
  pub before_is : terminal.before ≡ count_before (sizes_in lent) terminal.extension
  pub row : Terminal
  pub at : slice_get x.terminals.now terminal.number ≡ Some row

-- and a marker
pub record IsMarkerTerminal (lent : Lent) (terminal : OwnTerminal) : Type 0 where
  pub is_own : IsOwnTerminal lent terminal
  pub marking : is_own.row.kind ≡ Marking

-- the expression is at its place
pub record IsAsked (asked : Asked) : Type 0 where
  pub known : IsKnown asked.known.now
  pub at : slice_get asked.known.now.owns.now.patterns.items asked.place ≡ Some asked.pattern.now

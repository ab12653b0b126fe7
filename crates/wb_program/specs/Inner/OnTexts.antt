-- Commands on a text in the language of a host with extensions.
use Rattle.wb_program_words.specs.declared.command.Command.{Command}
use Rattle.wb_program_words.specs.declared.command.Command.TheVariants as c

-- a command that asks something of such a text, which is in a file or made
abbrev pub IsOnText : Command → Type 0
IsOnText (c.Tree text host extensions) = Unit {0}
IsOnText (c.Run text attribute steps host extensions) = Unit {0}
IsOnText (c.Generate number size attribute host extensions) = Unit {0}
IsOnText (c.Edit text edits host extensions) = Unit {0}
IsOnText (c.Reading text host extensions) = Unit {0}
IsOnText other = ⊥

-- The grammar of a certified host with certified extensions. Their united attributes are in its numbers.
use Rattle.std.specs.Prelude.{List}
use Rattle.wb_base.specs.Grammar.{GrammarView}
use Rattle.wb_compose.specs.Joined.{Extended}
use Rattle.wb_compose.specs.Written.{written_in}
use Rattle.wb_syntax_resolved.specs.declared.resolved.ResolvedParts.{ResolvedParts}
use Rattle.wb_compose_theory_grammar.specs.UnitedWorlds.{united}
use Rattle.wb_compose_theory_language.specs.Written.{pieces_of}

-- the union of the host's grammar and of those that the host has with each extension alone
abbrev pub united_grammar : ResolvedParts → GrammarView → List Extended → GrammarView
united_grammar host g extended = united g host.extensible (pieces_of (written_in g extended))

-- What is lent of an extension.
use Rattle.wb_base.specs.Grammar.{GrammarView}
use Rattle.wb_compose_language.specs.declared.addition.Addition.{Addition}

-- the grammar of the host with the extension
abbrev pub grammar_in : Addition → GrammarView
grammar_in x = x.grammar.now

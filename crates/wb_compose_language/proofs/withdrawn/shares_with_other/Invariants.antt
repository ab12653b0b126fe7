use Rattle.wb_compose_language.specs.Inner.Layouts.{hosts_in}
use Rattle.wb_compose_language.specs.Inner.Sharing.{SharesAmong}
use Rattle.wb_compose_language.proofs.withdrawn.shares_with_other.Given as goal

abbrev pub invariant-extensions : goal.invariant-extensions
invariant-extensions l = ¬ SharesAmong l.opened.lent.grammar.now.terminals (hosts_in l.opened.lent) l.other
    l.opened.lent.extensions.now l.number l.asked.pattern.now

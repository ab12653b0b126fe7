use Rattle.std.proofs.Common.{length, subst}
use Rattle.std.proofs.lemmas.Result.{on_ok_weaker}
use Rattle.wb_generate.specs.Inner.Groups.{IsBelow}
use Rattle.wb_generate.proofs.GroupLemmas.{uses_nonterminal, uses_terminal}
use Rattle.wb_generate.proofs.groups.add_use.Goals as goal

pub returns-in-Terminal : goal.returns-in-Terminal
returns-in-Terminal c = uses_terminal c.args.symbol _ c.args.production c.args.groups.now.items c.in-Terminal.is

pub add-requires : goal.add-requires
add-requires c = subst (IsBelow (length c.args.groups.now.items)) c.in-Nonterminal.is c.requires

pub returns-in-Nonterminal : goal.returns-in-Nonterminal
returns-in-Nonterminal c =
    on_ok_weaker c.add.result
    (λ made. uses_nonterminal c.args.symbol c.in-Nonterminal.a c.args.production c.args.groups.now.items c.add.new.groups.items
    c.in-Nonterminal.is (subst (IsBelow (length c.args.groups.now.items)) c.in-Nonterminal.is c.requires) made)
    c.add.ensures

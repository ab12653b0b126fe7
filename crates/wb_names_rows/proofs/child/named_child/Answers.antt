use Rattle.std.proofs.Common.{refl}
use Rattle.wb_names_rows.proofs.ScopeLemmas.{is_number}
use Rattle.wb_names_rows.proofs.child.named_child.Goals as goal

pub returns-in-Some : goal.returns-in-Some
returns-in-Some c = λ n s. is_number c.args.scope.now.terminals n.terminals c.args.scope.now.owner s.terminals c.args.name.now
    c.in-Some.number c.in-Some.ensures.found

pub returns-in-None : goal.returns-in-None
returns-in-None c = λ n s. (
  c.number_of.result,
  is_number c.args.scope.now.nonterminals n.nonterminals c.args.scope.now.owner s.nonterminals c.args.name.now c.number_of.result
      c.number_of.ensures,
  refl,
)

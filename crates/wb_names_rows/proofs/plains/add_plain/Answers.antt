use Rattle.std.proofs.Common.{subst}
use Rattle.wb_names_rows.specs.Plains.{PlainIsThere}
use Rattle.wb_names_rows.proofs.plains.add_plain.Goals as goal

pub attribute-requires : goal.attribute-requires
attribute-requires c = subst (PlainIsThere c.args.scope.now) c.in-Synthesized.is c.requires

pub attribute-requires-in-Inherited : goal.attribute-requires-in-Inherited
attribute-requires-in-Inherited c = subst (PlainIsThere c.args.scope.now) c.in-Inherited.is c.requires

pub occurrence-requires-clause-attribute_there : goal.occurrence-requires-clause-attribute_there
occurrence-requires-clause-attribute_there c = (subst (PlainIsThere c.args.scope.now) c.in-Occurs.is c.requires).0

pub occurrence-requires-clause-nonterminal_there : goal.occurrence-requires-clause-nonterminal_there
occurrence-requires-clause-nonterminal_there c = (subst (PlainIsThere c.args.scope.now) c.in-Occurs.is c.requires).1

pub occurrence-requires-clause-needs_there : goal.occurrence-requires-clause-needs_there
occurrence-requires-clause-needs_there c = (subst (PlainIsThere c.args.scope.now) c.in-Occurs.is c.requires).2

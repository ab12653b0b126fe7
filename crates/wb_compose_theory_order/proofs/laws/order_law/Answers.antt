use Rattle.wb_compose_theory_order.proofs.LanguageLemmas.{same_language, same_union, same_union_answers}
use Rattle.wb_compose_theory_order.proofs.UnionFormLemmas.{withdrawn_same}
use Rattle.wb_compose_theory_order.proofs.laws.order_law.Goals as goal

pub returns-clause-same : goal.returns-clause-same
returns-clause-same c host extensible own written others to from l m both =
    same_union host extensible own written others to from both.pieces both.reordering l m both.one both.other

pub returns-clause-answers : goal.returns-clause-answers
returns-clause-answers c host extensible own written others to from l m both =
    same_union_answers host extensible own written others to from both.pieces both.reordering l m both.one both.other

pub returns-clause-language : goal.returns-clause-language
returns-clause-language c host extensible own written others to from l m both =
    same_language host extensible own written others to from both.pieces both.reordering l m both.one both.other

pub returns-clause-withdrawn : goal.returns-clause-withdrawn
returns-clause-withdrawn c host extensible own written others to from l m both =
    withdrawn_same host extensible own written others to from both.pieces both.reordering

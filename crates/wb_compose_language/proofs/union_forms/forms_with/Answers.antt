use Rattle.wb_compose_language.proofs.WholeLemmas.{all_expressions, all_forms, all_withdrawn}
use Rattle.wb_compose_language.proofs.union_forms.forms_with.Goals as goal

pub returns-clause-forms : goal.returns-clause-forms
returns-clause-forms c =
    all_forms c.args.opened.now.lent c.requires.unitable c.add_extensions.new.made.forms.items c.add_extensions.new.made.expressions.items
    c.in_ok-add_extensions.ensures.forms

pub returns-clause-expressions : goal.returns-clause-expressions
returns-clause-expressions c =
    all_expressions c.args.opened.now.lent c.requires.unitable c.add_extensions.new.made.forms.items
    c.add_extensions.new.made.expressions.items c.add_layout.new.expressions.items c.in_ok-add_extensions.ensures.forms
    c.in_ok-add_layout.ensures

pub returns-clause-withdrawn : goal.returns-clause-withdrawn
returns-clause-withdrawn c =
    all_withdrawn c.args.opened.now.lent c.requires.unitable c.add_extensions.new.made.withdrawn.items
    c.in_ok-add_extensions.ensures.withdrawn

use Rattle.std.proofs.Common.{◌++◌, ap, ◌∙◌}
use Rattle.wb_names_numbers_theory.specs.Files.{grammar_names}
use Rattle.wb_names_rows.proofs.grammar_names.grammar_names_of.Goals as goal

pub returns : goal.returns
returns c = c.in_ok-add_names.ensures ∙ ap (λ z. z ++ grammar_names c.args.items.now) c.new-names.ensures

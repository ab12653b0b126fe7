use Rattle.std.proofs.Common.{◌≡◌, ◌++◌}
use Rattle.std.specs.List.{flat_map}
use Rattle.std.proofs.lemmas.Result.{on_ok_weaker}
use Rattle.wb_syntax.specs.declared.item.Item.{Item}
use Rattle.wb_syntax.specs.declared.pattern.Pattern.{Pattern}
use Rattle.wb_names_rows.specs.Inner.GrammarNames.{form_concretes}
use Rattle.wb_names_rows.proofs.GrammarNameLemmas.{names_more}
use Rattle.wb_names_rows.proofs.grammar_names.add_names.Goals as goal

pub returns : goal.returns
returns c =
    let last = λ (e : c.add_concretes.new.names
    ≡ c.add_extensibles.new.names ++ flat_map (λ (item : Item Pattern). form_concretes item.form) c.args.items.now).
    names_more c.args.items.now c.args.names.now c.add_starts.new.names c.add_extensibles.new.names c.add_concretes.new.names
    c.in_ok-add_starts.ensures c.in_ok-add_extensibles.ensures e in
    on_ok_weaker c.add_concretes.result last c.add_concretes.ensures

use Rattle.wb_names_theory.specs.declared.usage.Wanted.TheVariants as w
use Rattle.wb_names_rules.proofs.UnknownLemmas.{as_wanted, symbol_wanted}
use Rattle.wb_names_rules.proofs.unknown.is_declared.Goals as goal

pub returns-in-Attribute : goal.returns-in-Attribute
returns-in-Attribute c =
    as_wanted c.args.index.now c.args.name.now c.args.wanted w.Attribute c.is_attribute.result c.in-Attribute.is c.is_attribute.ensures

pub returns-in-Synthesized : goal.returns-in-Synthesized
returns-in-Synthesized c =
    as_wanted c.args.index.now c.args.name.now c.args.wanted w.Synthesized c.is_attribute-in-Synthesized.result c.in-Synthesized.is
    c.is_attribute-in-Synthesized.ensures

pub returns-in-Inherited : goal.returns-in-Inherited
returns-in-Inherited c =
    as_wanted c.args.index.now c.args.name.now c.args.wanted w.Inherited c.is_attribute-in-Inherited.result c.in-Inherited.is
    c.is_attribute-in-Inherited.ensures

pub returns-in_default : goal.returns-in_default
returns-in_default c =
    symbol_wanted c.args.index.now c.args.name.now c.args.wanted c.is_symbol.result c.in_default.not-Attribute c.in_default.not-Synthesized
    c.in_default.not-Inherited c.is_symbol.ensures

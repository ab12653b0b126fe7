use Rattle.std.proofs.Common.{◌∷◌, ap, sym, ◌∙◌}
use Rattle.wb_reader_builder.proofs.TopLemmas.{few, taken}
use Rattle.wb_reader_builder.proofs.builder.SpecBuilder.add_extension.Goals as goal

pub returns-in_default : goal.returns-in_default
returns-in_default c =
    let v = c.args.self.now in
    few v.names c.take_two.new.values (λ z. record v { names = z }) _ c.in_default.ensures

pub returns : goal.returns
returns c =
    let v = c.args.self.now in
    c.set_header.ensures
    ∙ taken v.names (c.in-Some.name ∷ c.take_two.new.values) c.in-Some.host v _ c.in-Some.ensures

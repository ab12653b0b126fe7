use Rattle.std.proofs.Common.{◌∙◌}
use Rattle.wb_reader_builder.proofs.TopLemmas.{unchanged, taken}
use Rattle.wb_reader_builder.proofs.builder.SpecBuilder.add_host.Goals as goal

pub returns-in_default : goal.returns-in_default
returns-in_default c =
    let v = c.args.self.now in
    unchanged v.names c.pop.new.self (λ z. record v { names = z }) _ c.in_default.ensures

pub returns : goal.returns
returns c = c.set_header.ensures ∙ taken c.args.self.now.names c.pop.new.self c.in-Some.name c.args.self.now _ c.in-Some.ensures

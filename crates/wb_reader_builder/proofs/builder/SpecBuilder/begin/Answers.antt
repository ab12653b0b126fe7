use Rattle.std.proofs.Common.{rules, FitsSigned, w64, ◌∙◌, ap}
use Rattle.std.proofs.lemmas.Int.{to_z-of_z}
use Rattle.wb_reader_builder.specs.Items.{format_of}
use Rattle.wb_reader_builder.proofs.TopLemmas.{unchanged, taken}
use Rattle.wb_reader_builder.proofs.builder.SpecBuilder.begin.Goals as goal

pub returns-in_default : goal.returns-in_default
returns-in_default c =
    let v = c.args.self.now in
    unchanged v.integers c.pop.new.self (λ z. record v { integers = z }) _ c.in_default.ensures

pub returns : goal.returns
returns c =
    let v = c.args.self.now in
    let fits : FitsSigned w64 c.in-Some.value = search rules in
    ap (λ z. record v { integers = c.pop.new.self; format = z })
    (c.format_of-self.ensures ∙ ap format_of (to_z-of_z w64 c.in-Some.value fits))
    ∙ taken v.integers c.pop.new.self c.in-Some.value v (λ value rest. record v { integers = rest; format = format_of value })
    c.in-Some.ensures

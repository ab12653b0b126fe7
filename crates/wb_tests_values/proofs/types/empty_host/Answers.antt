use Rattle.std.proofs.Common.{refl, sym, subst}
use Rattle.wb_base.specs.Identifiers.{IsName}
use Rattle.wb_tests_values.proofs.NameLemmas.{h_name}
use Rattle.wb_tests_values.proofs.SampleLemmas.{is_nothing, nothing_resolved}
use Rattle.wb_tests_values.proofs.types.empty_host.Goals as goal

pub new-requires : goal.new-requires
new-requires c = nothing_resolved _
    (record {
      host = subst IsName (sym c.in_ok-host.ensures.ok) h_name;
      grammar = refl;
      terminals = c.nothing.ensures;
      preferences = c.nothing-2.ensures;
      extensible = c.nothing-3.ensures;
    })
    (is_nothing _ c.in_ok-attributes.ensures) c.in_ok-attributes.ensures

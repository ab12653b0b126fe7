use Rattle.std.proofs.Common.{refl, sym, subst}
use Rattle.wb_base.specs.Identifiers.{IsName}
use Rattle.wb_tests_values.proofs.NameLemmas.{h_name}
use Rattle.wb_tests_values.proofs.SampleLemmas.{is_sampled, sample_resolved}
use Rattle.wb_tests_values.proofs.types.sample_host.Goals as goal

pub new-requires : goal.new-requires
new-requires c = sample_resolved _
    (record {
      host = subst IsName (sym c.in_ok-host.ensures.ok) h_name;
      grammar = refl;
      terminals = c.nothing.ensures;
      preferences = c.nothing-2.ensures;
      extensible = c.nothing-3.ensures;
    })
    (is_sampled _ c.args.node c.requires c.in_ok-attributes.ensures) c.args.node c.in_ok-attributes.ensures

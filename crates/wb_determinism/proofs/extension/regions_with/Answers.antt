use Rattle.std.proofs.Common.{subst, sym}
use Rattle.wb_determinism_host.specs.HostGrammar.{HasGrammar}
use Rattle.wb_determinism_host.specs.Hosts.{AreHostParts, IsDeterministicBy}
use Rattle.wb_syntax_resolved.specs.declared.resolved.ResolvedParts.{ResolvedParts}
use Rattle.wb_determinism.specs.Extensions.{IsHostBeside, both_lexicon}
use Rattle.wb_determinism.proofs.extension.regions_with.Goals as goal

pub tested_regions-requires : goal.tested_regions-requires
tested_regions-requires c =
    let g = c.args.grammar.now in
    let same = sym c.parts-parts.ensures.parts in
    record {
      has = subst (λ (r : ResolvedParts). HasGrammar r g) same c.requires.grammar;
      host = subst (λ (r : ResolvedParts). IsHostBeside r g c.args.host.now) same c.requires.host;
      deterministic = subst (λ (r : ResolvedParts). IsDeterministicBy r g (both_lexicon r g c.args.host.now.grammar)) same c.requires.deterministic;
      both = subst (λ (r : ResolvedParts). AreHostParts r g c.args.both.now) same c.requires.both;
    }

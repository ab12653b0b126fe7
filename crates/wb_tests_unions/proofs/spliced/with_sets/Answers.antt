-- What is taken of the extensions, and their lookaheads, are what the union asks for.
use Rattle.std.proofs.Common.{◌≡◌, ◌∙◌, ap, sym, subst, refl, length, List, ℕ}
use Rattle.wb_determinism_host.specs.declared.parts.HostParts.{HostParts}
use Rattle.wb_syntax_resolved.specs.declared.resolved.ResolvedParts.{ResolvedParts}
use Rattle.wb_tests_unions.proofs.UnionLemmas.{all_extend, sets_are, spliceable}
use Rattle.wb_tests_unions.proofs.spliced.with_sets.Goals as goal

pub union_of-requires : goal.union_of-requires
union_of-requires c = all_extend c.args.own.now c.args.extensions.now c.args.parts.now c.requires.parts

pub agree-agree-requires-clause-spliceable : goal.agree-agree-requires-clause-spliceable
agree-agree-requires-clause-spliceable c =
    let own = c.args.own.now in
    let parts : c.parts.result.now ≡ own.host.now.resolved = c.parts.ensures.parts ∙ c.resolved.ensures.resolved in
    spliceable own c.requires.own c.args.extensions.now _ c.requires.parts refl
    (c.len.ensures ∙ ap (λ (r : ResolvedParts). length r.extensible) parts)
    (ap (λ (p : HostParts). p.kernels) c.parts-host.ensures.parts) c.in_ok-union.ensures

pub agree-agree-requires-clause-sets : goal.agree-agree-requires-clause-sets
agree-agree-requires-clause-sets c =
    sets_are c.args.own.now c.requires.own _ _ (ap (λ (p : HostParts). p.kernels) c.parts-host.ensures.parts)
    (ap (λ (p : HostParts). p.lookaheads) c.parts-host.ensures.parts) c.requires.sets

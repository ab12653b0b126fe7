use Rattle.std.proofs.Common.{subst}
use Rattle.wb_syntax_resolved.specs.Resolved.{IsResolved}
use Rattle.wb_compose.proofs.ComposedLemmas.{composed, lent_same, unitable}
use Rattle.wb_compose.proofs.composition.by_union.Goals as goal

pub united_language-requires : goal.united_language-requires
united_language-requires c =
    unitable c.args.host.now c.args.extensions.now c.in_ok-additions.additions.items c.lent_of-lent.result
    (subst IsResolved c.resolved.ensures.resolved c.lent_of-lent.ensures.whole) c.resolved.ensures.certified c.requires.each
    c.in_ok-additions.ensures (lent_same c.resolved.result.now c.args.host.now.resolved c.deref.result.now
    c.in_ok-additions.additions.items c.lent_of-lent.result c.resolved.ensures.resolved c.deref.ensures.value c.lent_of-lent.ensures.lent)
    c.requires.names

pub returns : goal.returns
returns c =
    composed c.args.host.now c.args.extensions.now c.in_ok-additions.additions.items c.lent_of-lent.result
    (subst IsResolved c.resolved.ensures.resolved c.lent_of-lent.ensures.whole) c.resolved.ensures.certified c.requires.each
    c.in_ok-additions.ensures (lent_same c.resolved.result.now c.args.host.now.resolved c.deref.result.now
    c.in_ok-additions.additions.items c.lent_of-lent.result c.resolved.ensures.resolved c.deref.ensures.value c.lent_of-lent.ensures.lent)
    c.in_ok-made.made.language.language c.in_ok-made.made.withdrawn.items c.in_ok-made.ensures.language c.in_ok-made.ensures.withdrawn

use Rattle.std.proofs.Common.{refl}
use Rattle.wb_determinism_host.proofs.HostLemmas.{lexicon_fits}
use Rattle.wb_determinism_host.proofs.JudgeLemmas.{fit_for_parsing, of_with_holes}
use Rattle.wb_determinism_host.proofs.judge.test_lexicon.Goals as goal

pub clash_at-requires-clause-lexicon : goal.clash_at-requires-clause-lexicon
clash_at-requires-clause-lexicon c =
    let x = c.args.host.now in
    rw c.requires.lexicon (rw (of_with_holes x c.requires.host) (lexicon_fits x.resolved.now x.grammar.now x.first c.requires.host.has))

pub returns-in-Some-clause-refused : goal.returns-in-Some-clause-refused
returns-in-Some-clause-refused c =
    let x = c.args.host.now in
    let of = of_with_holes x c.requires.host in (
      fit_for_parsing x c.requires.host,
      c.requires.no_conflict,
      rw of at (rw c.requires.lexicon at (rw c.in-Some.is at c.in_ok-clash.ensures.clash)),
      rw c.in-Some.is at c.in_ok-clash.ensures.in_order,
    )

pub returns-in-None-clause-ok : goal.returns-in-None-clause-ok
returns-in-None-clause-ok c =
    rw (of_with_holes c.args.host.now c.requires.host) at (rw c.requires.lexicon at (c.in_ok-clash.ensures.none (rw c.in-None.is refl)))

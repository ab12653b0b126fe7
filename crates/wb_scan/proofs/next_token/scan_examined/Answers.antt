use Rattle.std.proofs.Common.{◌+◌, length, arith}
use Rattle.wb_scan.proofs.ScanLemmas.{sought_as, sought_fits, sought_next, sought_inside, sought_goes_on, sought_skips, over_next}
use Rattle.wb_scan.proofs.next_token.scan_examined.Goals as goal

pub token_at-scanned-requires : goal.token_at-scanned-requires
token_at-scanned-requires c =
    sought_fits c.args.language.now c.args.state c.args.text.now c.layout.place c.sought_at-sought.result.end c.in-Token.terminal
    c.in-Token.prefix (sought_as c.args.language.now c.args.state c.args.text.now c.layout.place c.sought_at-sought.result.end _ _
    c.sought_at-sought.ensures.won c.in-Token.is)

pub returns-in-Token-clause-next : goal.returns-in-Token-clause-next
returns-in-Token-clause-next c prefix of =
    sought_next c.args.language.now c.args.state c.args.text.now c.layout.place c.sought_at-sought.result.end c.in-Token.terminal
    c.in-Token.prefix (sought_as c.args.language.now c.args.state c.args.text.now c.layout.place c.sought_at-sought.result.end _ _
    c.sought_at-sought.ensures.won c.in-Token.is) c.args.at c.layout.examined c.later-examined.result c.sought_at-sought.result.examined
    c.token_at-scanned.result c.layout.invariant.skips c.sought_at-sought.ensures.enough c.later-examined.ensures.one
    c.later-examined.ensures.other c.token_at-scanned.ensures prefix of

pub returns-in-Token-clause-inside : goal.returns-in-Token-clause-inside
returns-in-Token-clause-inside c =
    sought_inside c.args.language.now c.args.state c.args.text.now c.layout.place c.sought_at-sought.result.end c.in-Token.terminal
    c.in-Token.prefix (sought_as c.args.language.now c.args.state c.args.text.now c.layout.place c.sought_at-sought.result.end _ _
    c.sought_at-sought.ensures.won c.in-Token.is) c.args.at c.token_at-scanned.result c.layout.invariant.from c.token_at-scanned.ensures

pub layout-preserved : goal.layout-preserved
layout-preserved c =
    let sought = sought_as c.args.language.now c.args.state c.args.text.now c.layout.place c.sought_at-sought.result.end _ _
    c.sought_at-sought.ensures.won c.in-Layout.is in
    let goes_on = sought_goes_on c.args.language.now c.args.state c.args.text.now c.layout.place c.sought_at-sought.result.end sought in
    record {
      from = omega (arith, c.layout.invariant.from, goes_on.0);
      within = goes_on.1;
      skips = sought_skips c.args.language.now c.args.state c.args.text.now c.layout.place c.sought_at-sought.result.end sought c.args.at
          c.layout.examined c.later-examined.result c.sought_at-sought.result.examined c.layout.invariant.skips
          c.sought_at-sought.ensures.enough c.later-examined.ensures.one c.later-examined.ensures.other;
      bound = c.later-examined.ensures.within (length c.args.text.now + 1) c.layout.invariant.bound c.sought_at-sought.ensures.enough.within;
    }

pub returns-in-Nothing-clause-next : goal.returns-in-Nothing-clause-next
returns-in-Nothing-clause-next c =
    over_next c.args.language.now c.args.state c.args.text.now c.args.at c.layout.place c.layout.examined c.later-examined.result
    c.sought_at-sought.result.examined c.over_at-scanned.result c.layout.invariant.skips
    (sought_as c.args.language.now c.args.state c.args.text.now c.layout.place c.sought_at-sought.result.end _ _
    c.sought_at-sought.ensures.won c.in-Nothing.is) c.sought_at-sought.ensures.enough c.later-examined.ensures.one
    c.later-examined.ensures.other c.over_at-scanned.ensures

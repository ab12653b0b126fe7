use Rattle.std.proofs.Common.{◌≡◌, true, List, Contains, subst}
use Rattle.std.specs.Prelude.{◌↔◌}
use Rattle.wb_recheck_entries.specs.Keys.{Key}
use Rattle.wb_recheck_entries.proofs.KeyLemmas.{has_is}
use Rattle.wb_recheck_entries.proofs.entry_keys.EntryKeys.has.Goals as goal

pub returns : goal.returns
returns c =
    subst (λ (keys : List Key). (c.contains.result ≡ true) ↔ Contains keys c.args.key) c.self.view_is
    (has_is c.self.inside.keys.keys c.args.key c.contains.result c.contains.ensures)

use Rattle.std.proofs.Common.{List, subst}
use Rattle.wb_recheck_entries.specs.Keys.{Key}
use Rattle.wb_recheck_entries.specs.Inner.Inserted.{IsInserted}
use Rattle.wb_recheck_entries.proofs.KeyLemmas.{inserted}
use Rattle.wb_recheck_entries.proofs.entry_keys.EntryKeys.insert.Goals as goal

pub returns : goal.returns
returns c =
    subst (λ (keys : List Key). IsInserted keys c.args.key c.insert_full.new.self.keys c.in_ok-new.new) c.self.view_is
    (inserted c.self.inside.keys.keys c.insert_full.new.self.keys c.args.key c.in_ok-new.new c.in_ok-new.ensures.added
    c.in_ok-new.ensures.keys)

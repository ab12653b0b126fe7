use Rattle.std.proofs.Common.{length, sym, ap, ◌∙◌}
use Rattle.wb_values.proofs.Laid.{length-trees}
use Rattle.wb_values.proofs.store.TreeStore.len.Goals as goal

pub returns : goal.returns
returns c = c.len.ensures ∙ c.self.inside.nodes.ok.0 ∙ sym (length-trees c.self.inside.nodes.items c.self.inside.children)
    ∙ ap length c.self.view_is

use Rattle.std.proofs.Common.{subst, sym}
use Rattle.std.specs.Prelude.{All}
use Rattle.wb_compose_language.specs.Inner.Known.{AreBases, HasOwnRows}
use Rattle.wb_compose_language.specs.Inner.Layouts.{hosts_in}
use Rattle.wb_compose_language.proofs.OpenedLemmas.{host_rows, own_rows}
use Rattle.wb_compose_language.proofs.union_forms.united_forms.Goals as goal

pub host_layouts-hosts-requires : goal.host_layouts-hosts-requires
host_layouts-hosts-requires c = host_rows c.args.lent.now c.requires

pub owns_of-requires : goal.owns_of-requires
owns_of-requires c =
    let lent = c.args.lent.now in
    subst (λ n. All (HasOwnRows n c.host_layouts-hosts.result) lent.extensions.now) (sym c.terminals.ensures)
    (subst (λ h. All (HasOwnRows lent.grammar.now.terminals h) lent.extensions.now) (sym c.host_layouts-hosts.ensures)
    (own_rows lent c.requires))

pub forms_of-requires-clause-owns : goal.forms_of-requires-clause-owns
forms_of-requires-clause-owns c =
    let lent = c.args.lent.now in
    let owns = c.in_ok-owns.owns in
    subst (λ h. AreBases lent.grammar.now.terminals h lent.extensions.now owns.patterns.items owns.bases.items) c.host_layouts-hosts.ensures
    (subst (λ n. AreBases n c.host_layouts-hosts.result lent.extensions.now owns.patterns.items owns.bases.items) c.terminals.ensures
    c.in_ok-owns.ensures)

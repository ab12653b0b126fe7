use Rattle.std.proofs.Common.{sym, subst, List, ℕ, Option, All, Contains}
use Rattle.wb_syntax.specs.Names.{needs_names}
use Rattle.wb_names_rows.proofs.plains.needs_of.Goals as goal

pub written_needs-requires : goal.written_needs-requires
written_needs-requires c =
    let needed = subst (λ (z : Option (List (List ℕ))). All (Contains c.args.scope.now.attributes) (needs_names z)) c.in-Some.is
    c.requires in
    subst (All (Contains c.args.scope.now.attributes)) (sym c.as_slice.ensures) needed

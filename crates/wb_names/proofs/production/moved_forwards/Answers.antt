use Rattle.std.proofs.Common.{[], Option, All, subst}
use Rattle.std.specs.Prelude.{option_to_list}
use Rattle.std.proofs.lemmas.List.Elements.{All-head}
use Rattle.wb_syntax_resolved.specs.declared.production.Forward.{Forward}
use Rattle.wb_names_rows.specs.Moves.{NodeIsWithin}
use Rattle.wb_names.proofs.production.moved_forwards.Goals as goal

pub moved_forward-requires : goal.moved_forward-requires
moved_forward-requires c =
    let P : Forward → Type 0 = λ f. All (NodeIsWithin c.args.moves.now) f.nodes in
    let all : All P (option_to_list c.args.forward.now) = c.requires in
    All-head P c.in-Some.forward [] (subst (λ (z : Option Forward). All P (option_to_list z)) c.in-Some.is all)

use Rattle.std.proofs.Common.{◌∷◌, ◌++◌, [], subst, sym}
use Rattle.std.specs.Prelude.{All}
use Rattle.std.proofs.lemmas.List.Elements.{All-push}
use Rattle.wb_compose.specs.Composed.{IsWith}
use Rattle.wb_tests_unions.proofs.certified.is_pushed.Goals as goal

pub returns-in-Ok : goal.returns-in-Ok
returns-in-Ok c =
    let is = IsWith c.args.host.now in
    subst (All is) (sym c.in-Ok.ensures.ok) (All-push is c.args.extensions.now.items c.args.extension c.requires.each c.requires.extension)

use Rattle.std.proofs.Common.{◌≡◌, ◌++◌, ◌∷◌, [], rules}
use Rattle.wb_eval_memo.proofs.SitesLemmas.{added, set_linked, kept_linked}
use Rattle.wb_eval_memo.specs.declared.sites.Sites.{Sites}
use Rattle.wb_eval_memo.proofs.sites.Sites.add.Goals as goal

pub returns-clause-whole : goal.returns-clause-whole
returns-clause-whole c =
    let old = c.args.self.now in
    let two = c.in_ok-set_link.ensures in
    let new : Sites = record {
      origins = c.push_reserved.new.self;
      children = c.set_link.new.self.children;
      locals = c.set_link.new.self.locals;
      forwards = c.set_link.new.self.forwards;
    } in
    let pushed : new.origins.items ≡ old.origins.items ++ record { parent = c.args.parent; step = c.args.step } ∷ [] = search rules in
    added old new c.args.parent c.args.step c.requires.whole c.requires.there c.requires.new pushed
    (set_linked old new c.args.parent c.args.step pushed c.requires.there c.requires.new (search rules))
    (kept_linked old new c.args.parent c.args.step pushed two.kept) two.found

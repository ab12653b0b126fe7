use Rattle.std.proofs.Common.{rules, ◌≡◌, suc, length}
use Rattle.wb_eval_memo.proofs.MemoLemmas.{site_whole, site_grown, site_below}
use Rattle.wb_eval_memo.proofs.memo.Memo.add.Goals as goal

pub returns-clause-whole : goal.returns-clause-whole
returns-clause-whole c =
    site_whole c.args.self.now c.args.parent c.args.step c.args.tree c.requires.whole c.add.new.self c.push_reserved.new.self
    c.add_site.new.self
    c.requires.there (search rules) (search rules) (search rules) c.in_ok-add_site.ensures.slots c.in_ok-add_site.ensures.same

pub returns-clause-grown : goal.returns-clause-grown
returns-clause-grown c =
    site_grown c.args.self.now c.args.parent c.args.step c.args.tree c.requires.whole c.add.new.self c.push_reserved.new.self
    c.add_site.new.self
    c.requires.there (search rules) (search rules) (search rules) c.in_ok-add_site.ensures.slots c.in_ok-add_site.ensures.same

pub returns-clause-site : goal.returns-clause-site
returns-clause-site c =
    let is : c.in_ok-site.site ≡ suc (length c.args.self.now.sites.origins.items) = search rules in
    rw is (site_below c.args.self.now c.args.parent c.args.step c.args.tree c.requires.whole c.add.new.self c.push_reserved.new.self
    c.add_site.new.self
    c.requires.there (search rules) (search rules) (search rules) c.in_ok-add_site.ensures.slots c.in_ok-add_site.ensures.same)

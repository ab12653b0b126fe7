use Rattle.std.proofs.Common.{rules}
use Rattle.wb_scan_theory.specs.Facts.{IsLanguage}
use Rattle.wb_parser.specs.Parses.{IsParsed}
use Rattle.wb_session.proofs.KeptLemmas.{same_answer}
use Rattle.wb_session.proofs.session.Session.release.Goals as goal

pub returns-in-Ok-clause-same : goal.returns-in-Ok-clause-same
returns-in-Ok-clause-same c =
    let ok : IsLanguage c.args.self.now.language = search rules in
    let old : IsParsed c.args.self.now.language c.args.self.now.text c.args.self.now.store c.args.self.now.answer = search rules in
    let new : IsParsed c.args.self.now.language c.args.self.now.text c.swap.new.x.stacks.store c.in-Ok.answer = search rules in
    same_answer c.args.self.now.language ok c.args.self.now.text c.args.self.now.store c.swap.new.x.stacks.store c.args.self.now.answer
    c.in-Ok.answer old new

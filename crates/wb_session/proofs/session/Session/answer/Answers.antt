use Rattle.std.proofs.Common.{rules}
use Rattle.wb_parser.specs.Parses.{IsParsed}
use Rattle.wb_session.proofs.KeptLemmas.{parsed_fits}
use Rattle.wb_session.proofs.session.Session.answer.Goals as goal

pub returns-clause-fits : goal.returns-clause-fits
returns-clause-fits c =
    let is : IsParsed c.args.self.now.language c.args.self.now.text c.args.self.now.store c.args.self.now.answer = search rules in
    parsed_fits c.args.self.now.language c.args.self.now.text c.args.self.now.store c.args.self.now.answer is

-- What is read is the bytes with the token after them.
use Rattle.std.proofs.Common.{◌≡◌, rules}
use Rattle.wb_explain_terms.specs.Expected.{with_token}
use Rattle.wb_explain_terms.proofs.PassLemmas.{comes}
use Rattle.wb_explain_terms.proofs.coming.can_come.Goals as goal

pub returns : goal.returns
returns c =
    let same : c.deref.result.now ≡ with_token c.args.before.now c.args.token.now = search rules in
    comes _ c.args.before.now c.args.token.now _ c.is_passed-answer.result same (search rules) c.is_passed-answer.ensures

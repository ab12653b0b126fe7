use Rattle.std.proofs.Common.{rules, ◌≡◌, ◌-◌, length, subst, sym, Some}
use Rattle.wb_lookahead.specs.Contents.{goto_of}
use Rattle.wb_parser_states.specs.Stacks.{last_or}
use Rattle.wb_parser_expected.specs.Inner.Trials.{over}
use Rattle.wb_parser_expected.proofs.TrialLemmas.{over_moved}
use Rattle.wb_parser_expected.proofs.trial.reduce_over.Goals as goal

pub returns-clause-moved : goal.returns-clause-moved
returns-clause-moved c =
    let states = c.args.states.now in
    let extra = c.args.extra.now.items in
    let width = c.args.rule.width in
    let left = c.args.rule.left in
    let popped = c.saturating_sub-popped.result in
    let stays = c.saturating_sub-stays.result in
    let fewer = c.saturating_sub-fewer.result in
    let popped_is : popped ≡ width - length extra = search rules in
    let stays_is : stays ≡ length extra - width = search rules in
    let fewer_is : fewer ≡ c.args.kept - popped = search rules in
    over_moved c.args.tables.now states extra c.truncate.new.self.items c.push.new.self.items c.args.kept width popped stays fewer left
    c.target_over-target.result c.requires.kept popped_is stays_is fewer_is c.truncate.ensures.items c.in_ok-push.ensures.items
    (λ next e. c.target_over-target.ensures.next next
    (subst (λ z. goto_of c.args.tables.now (last_or 0 (over fewer states z)) left ≡ Some next) (sym c.deref.ensures.value) e))

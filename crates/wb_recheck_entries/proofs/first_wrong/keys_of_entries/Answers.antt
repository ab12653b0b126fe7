use Rattle.std.proofs.Common.{sym, ◌∙◌, subst, arith}
use Rattle.std.proofs.lemmas.Bool.{true≢false}
use Rattle.wb_recheck_entries.specs.Inner.Inserted.{IsInserted}
use Rattle.wb_recheck_entries.proofs.WrongLemmas.{first_wrong, keys_all, keys_more, keys_start, keys_whole}
use Rattle.wb_recheck_entries.proofs.first_wrong.keys_of_entries.Goals as goal

pub entries-init : goal.entries-init
entries-init c =
    keys_start c.args.reference.now.grammar.now c.args.reference.now.lines.now c.args.entries.now c.in_ok-keys.keys c.in_ok-keys.ensures

pub returns-then-not-is_right-clause-refused : goal.returns-then-not-is_right-clause-refused
returns-then-not-is_right-clause-refused c =
    first_wrong c.args.reference.now.grammar.now c.args.reference.now.lines.now c.args.entries.now c.entries.keys c.entries.place
    c.entry_at-entry.result c.entries.invariant c.entry_at-entry.ensures
    (λ r. true≢false (sym (c.is_right.ensures.1 r) ∙ c.if-not-is_right.true))

pub entries-preserved : goal.entries-preserved
entries-preserved c =
    keys_more c.args.reference.now.grammar.now c.args.reference.now.lines.now c.args.entries.now c.entries.keys c.entries.place
    c.entries.invariant c.entry_at-entry.result c.insert.new.self c.in_ok-insert.field-0 c.entry_at-entry.ensures
    (c.is_right.ensures.0 c.if-not-is_right.false)
    (subst (λ z. IsInserted c.entries.keys z c.insert.new.self c.in_ok-insert.field-0) c.key.ensures c.in_ok-insert.ensures)

pub returns-clause-right : goal.returns-clause-right
returns-clause-right c =
    keys_whole c.args.reference.now.grammar.now c.args.reference.now.lines.now c.args.entries.now c.entries.keys c.entries.place
    c.entries.invariant (let past = c.entries-test.false in omega (arith, past))

pub returns-clause-keys : goal.returns-clause-keys
returns-clause-keys c =
    keys_all c.args.reference.now.grammar.now c.args.reference.now.lines.now c.args.entries.now c.entries.keys c.entries.place
    c.entries.invariant (let past = c.entries-test.false in omega (arith, past))

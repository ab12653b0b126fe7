use Rattle.std.proofs.Common.{rules, get_or}
use Rattle.wb_certify_files.specs.Names.{lookahead_shown}
use Rattle.wb_explain_conflicts.proofs.WordLemmas.{all_words, no_words, one_word}
use Rattle.wb_explain_conflicts.proofs.shown.push_text.Goals as goal

pub terminals-init : goal.terminals-init
terminals-init c = no_words (lookahead_shown c.args.resolved.now) c.args.text.now c.args.out.now.items

pub terminals-preserved : goal.terminals-preserved
terminals-preserved c =
    one_word (lookahead_shown c.args.resolved.now) c.args.text.now c.args.out.now.items c.terminals.out.items c.push_piece.new.out.items
    c.terminals.terminal-index (get_or c.args.text.now c.terminals.terminal-index 0) c.terminals.invariant c.terminals-test.true
    (search rules) c.in_ok-column.ensures

pub returns : goal.returns
returns c =
    all_words (lookahead_shown c.args.resolved.now) c.args.text.now c.args.out.now.items c.terminals.out.items c.terminals.terminal-index
    c.terminals.invariant c.terminals-test.false

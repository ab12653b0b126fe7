-- The place of a token of the host's file, or of the file.
use Rattle.wb_explain_names.proofs.ShowLemmas.{host_more, own_more}
use Rattle.wb_explain_names.proofs.show.push_one.Goals as goal

pub returns-then-is_host : goal.returns-then-is_host
returns-then-is_host c = λ first says.
    host_more c.args.sides.now.own.file.now c.args.sides.now.own.text.now c.args.sides.now.host.file.now c.args.sides.now.host.text.now
    c.args.sides.now.name.now first c.args.out.now.items c.push_token.new.out.items c.in_ok-push_token.ensures says

pub returns : goal.returns
returns c = λ first says.
    own_more c.args.sides.now.own.file.now c.args.sides.now.own.text.now c.args.sides.now.host.file.now c.args.sides.now.host.text.now
    c.args.sides.now.name.now first c.args.out.now.items c.push_token-2.new.out.items c.in_ok-push_token-2.ensures says

use Rattle.std.proofs.Common.{◌≡◌, ◌-◌, length, take, subst, sym, ap, ◌∙◌, rules}
use Rattle.wb_lookahead.specs.Contents.{action_of}
use Rattle.wb_parser_states.proofs.StateLemmas.{top_pushed, top_set}
use Rattle.wb_parser.specs.Inner.Steps.{AreReduced}
use Rattle.wb_parser.proofs.BuiltLemmas.{kept_built}
use Rattle.wb_parser.proofs.reduce.reduce_chain.Goals as goal

pub returns-clause-reduced : goal.returns-clause-reduced
returns-clause-reduced c =
    let states = c.args.stack.now.states.items in
    let len_is : c.len-place.result ≡ length states = search rules in
    subst (λ ss. AreReduced c.args.language.now c.args.chain.start.terminal states c.args.stack.now.values c.args.store.now ss
    c.build_chain.new.values c.build_chain.new.store) (sym (top_set states c.len-place.result c.args.chain.target c.requires.states len_is))
    (kept_built c.args.language.now c.args.productions.now c.args.chain states c.args.stack.now.values c.args.store.now
    c.build_chain.new.values c.build_chain.new.store c.requires.chain c.requires.states c.requires.state c.requires.below c.requires.values
    c.in_ok-build_chain.ensures.built c.requires.sound)

pub returns-clause-action : goal.returns-clause-action
returns-clause-action c =
    let states = c.args.stack.now.states.items in
    let len_is : c.len-place.result ≡ length states = search rules in
    c.requires.chain.action ∙ ap (λ s. action_of c.args.language.now.tables s c.args.chain.start.terminal)
    (top_pushed (take (length states - 1) states) _ c.args.chain.target (top_set states c.len-place.result c.args.chain.target c.requires.states len_is))

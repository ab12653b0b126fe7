use Rattle.std.proofs.Common.{◌<◌, ◌≤◌, ◌≡◌, ◌-◌, ◌∙◌, ap, arith, length, rules, subst, sym, take}
use Rattle.std.specs.Prelude.{slice_index_or}
use Rattle.std.proofs.lemmas.List.{get_or_default}
use Rattle.std.proofs.lemmas.List.Elements.{All-take}
use Rattle.wb_lookahead.specs.Contents.{size_of}
use Rattle.wb_parser_states.specs.Stacks.{last_or}
use Rattle.wb_parser_states.proofs.StateLemmas.{last_below, top_is}
use Rattle.wb_parser_states.proofs.TableLemmas.{zero_below, action_below, IsActionBelow}
use Rattle.wb_parser.proofs.reduce.follow_chain.Goals as goal

pub index-requires : goal.index-requires
index-requires c =
    let g = c.args.language.now.language.grammar in
    let ts = c.args.language.now.tables in
    let below = subst (IsActionBelow g ts) (sym c.requires.action ∙ c.in-Reduce.is)
    (action_below c.requires.sound.tables_of (last_or 0 c.args.stack.now.states.items) c.args.terminal
    (last_below (size_of ts) 0 c.args.stack.now.states.items (zero_below c.requires.sound.tables_of) c.requires.sound.states_below)
    c.requires.terminal) in
    let within : c.in-Reduce.production < length c.args.reductions.now.rules.items =
    subst (λ k. c.in-Reduce.production < k) (sym c.requires.reductions.rules.count) below in
    search (rules, within)

pub chain_from-chain-requires-clause-start : goal.chain_from-chain-requires-clause-start
chain_from-chain-requires-clause-start c =
    let n = size_of c.args.language.now.tables in
    let items = c.args.stack.now.states.items in
    let len_is : c.len-place.result ≡ length items = search rules in
    let some : 1 ≤ length items = search rules in
    let zero = zero_below c.requires.sound.tables_of in
    record {
      below = subst (λ z. z < n) (sym (c.top.ensures ∙ ap (λ z. last_or 0 (take (c.len-place.result - 1) z)) c.deref.ensures.value))
          (last_below n 0 (take (c.len-place.result - 1) items) zero
          (All-take (λ s. s < n) (c.len-place.result - 1) items c.requires.sound.states_below));
      state = subst (λ z. z < n) (sym (c.index-2.ensures ∙ get_or_default items (c.len-place.result - 1) c.index-2.result.now 0
          (omega (arith, len_is, some)) ∙ ap (λ k. slice_index_or items (k - 1) 0) len_is ∙ top_is items)) (last_below n 0 items zero
          c.requires.sound.states_below);
      terminal = c.requires.terminal;
    }

pub reduce_chain-requires-clause-state : goal.reduce_chain-requires-clause-state
reduce_chain-requires-clause-state c =
    let items = c.args.stack.now.states.items in
    let len_is : c.len-place.result ≡ length items = search rules in
    let some : 1 ≤ length items = search rules in
    ap (λ s. s.state) c.chain_from-chain.ensures.start ∙ (c.index-2.ensures ∙ get_or_default items (c.len-place.result - 1) c.index-2.result.now 0
    (omega (arith, len_is, some)) ∙ ap (λ k. slice_index_or items (k - 1) 0) len_is ∙ top_is items)

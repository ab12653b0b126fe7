use Rattle.std.proofs.Common.{◌≡◌, ◌∙◌, ℕ, [], sym, subst}
use Rattle.std.specs.Prelude.{◌↔◌}
use Rattle.wb_base.specs.Grammar.{GrammarView}
use Rattle.wb_termset.specs.Sets.{IsMember}
use Rattle.wb_grammar_theory.specs.Items.{after_dot}
use Rattle.wb_grammar_theory.specs.Lookaheads.{IsLookahead}
use Rattle.wb_items.specs.Kernels.{prefix_of}
use Rattle.wb_items.proofs.CallerLemmas.{row_has, set_wide}
use Rattle.wb_lookahead.proofs.ValidLemmas.{meets_at, reductions_added}
use Rattle.wb_lookahead.proofs.valid.add_item.Goals as goal

pub of-requires-clause-item : goal.of-requires-clause-item
of-requires-clause-item c =
    row_has c.requires.kernels c.args.lookaheads.now c.requires.lookaheads.shape c.args.state c.args.item c.requires.state c.requires.item

pub returns-in_default-clause-apart : goal.returns-in_default-clause-apart
returns-in_default-clause-apart c is =
    let complete : after_dot c.args.kernels.now.grammar c.args.item ≡ [] = subst (λ (g : GrammarView). after_dot g c.args.item ≡ [])
    (sym c.requires.grammar) c.in_default.ensures.symbol in
    let exact : (t : ℕ) → IsMember c.of.result.now t ↔ IsLookahead c.args.kernels.now.grammar
    (prefix_of c.args.kernels.now c.args.state) c.args.item t =
    λ t. c.requires.lookaheads.exact c.args.state c.args.item c.of.result.now t c.requires.state c.of.ensures in
    reductions_added c.args.kernels.now c.args.state c.args.item c.args.sets.now c.of.result.now c.add_lookaheads.new.set complete exact
    (c.add_lookaheads.ensures.apart is)

pub returns-in_default-clause-meets : goal.returns-in_default-clause-meets
returns-in_default-clause-meets c is =
    let complete : after_dot c.args.kernels.now.grammar c.args.item ≡ [] = subst (λ (g : GrammarView). after_dot g c.args.item ≡ [])
    (sym c.requires.grammar) c.in_default.ensures.symbol in
    let exact : (t : ℕ) → IsMember c.of.result.now t ↔ IsLookahead c.args.kernels.now.grammar
    (prefix_of c.args.kernels.now c.args.state) c.args.item t =
    λ t. c.requires.lookaheads.exact c.args.state c.args.item c.of.result.now t c.requires.state c.of.ensures in
    meets_at c.args.kernels.now c.args.state c.args.item c.args.sets.now c.of.result.now complete exact (c.add_lookaheads.ensures.meets is)

pub add_lookaheads-requires : goal.add_lookaheads-requires
add_lookaheads-requires c =
    c.requires.reduced ∙
    sym (set_wide c.requires.kernels c.args.lookaheads.now c.requires.lookaheads.shape c.args.state c.args.item c.of.result.now c.of.ensures)

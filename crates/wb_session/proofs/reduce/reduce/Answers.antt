use Rattle.std.proofs.Common.{◌≡◌, ◌<◌, ◌^◌, ◌∷◌, [], ◌∙◌, refl, ap, arith, length, length-append, rules, subst, sym, take, Some}
use Rattle.std.specs.Prelude.{slice_index_or}
use Rattle.wb_lookahead.specs.Contents.{goto_of, size_of}
use Rattle.wb_values.specs.Tree.{node}
use Rattle.wb_values.specs.ValuesIn.{values_in}
use Rattle.wb_values.specs.declared.value.Value.TheVariants.{Tree as Stored}
use Rattle.wb_parser_states.proofs.RuleLemmas.{no_rule, rule_at}
use Rattle.wb_parser_states.proofs.TableLemmas.{zero_below}
use Rattle.wb_session.specs.Inner.Entries.{state_in}
use Rattle.wb_session.specs.Stacks.{roots_of}
use Rattle.wb_session.specs.Inner.Gathered.{AreGathered}
use Rattle.wb_session.specs.Inner.Nodes.{IsNode}
use Rattle.wb_session.proofs.GatherLemmas.{gathered_inside}
use Rattle.wb_session.proofs.StackLemmas.{grows_push, grows_trees, state_below}
use Rattle.wb_session.proofs.StepLemmas.{made}
use Rattle.wb_session.proofs.reduce.reduce.Goals as goal

pub state_after-state-requires-clause-state : goal.state_after-state-requires-clause-state
state_after-state-requires-clause-state c =
    subst (λ z. state_in z c.in_ok-below.below < size_of c.args.language.now.tables) (sym c.deref-2.ensures.value)
    (state_below c.args.language.now (roots_of c.args.stacks.now) c.in_ok-below.below c.requires.sound
    (zero_below c.tables-tables.ensures.of_grammar) (omega (arith, c.in_ok-below.ensures.below, c.requires.link)))

pub state_after-state-requires-clause-left : goal.state_after-state-requires-clause-left
state_after-state-requires-clause-left c =
    (rule_at c.args.language.now.language.grammar c.args.rules.now c.args.production no_rule c.requires.rules c.requires.production).below

pub node_of-requires : goal.node_of-requires
node_of-requires c =
    let width = (slice_index_or c.args.rules.now c.args.production no_rule).width in
    let children = c.gather.new.children.items in
    gathered_inside c.args.language.now (roots_of c.args.stacks.now) c.args.link width c.in_ok-below.below children c.requires.sound
    c.requires.link (subst (λ z. AreGathered z c.args.stacks.now.values c.args.link width c.in_ok-below.below children)
    c.deref.ensures.value c.in_ok-below.ensures.gathered)

pub returns-in_err-made-clause-grows : goal.returns-in_err-made-clause-grows
returns-in_err-made-clause-grows c =
    grows_trees c.args.language.now c.requires.sound c.in_err-made.ensures.err_entries c.in_err-made.ensures.err_values
    (ap (take (length c.args.stacks.now.store)) c.in_err-made.ensures.store ∙ c.in_ok-tree.ensures.store)

pub returns-in_err-tree-clause-grows : goal.returns-in_err-tree-clause-grows
returns-in_err-tree-clause-grows c = grows_trees c.args.language.now c.requires.sound refl refl c.in_err-tree.ensures.store

pub returns-clause-longer : goal.returns-clause-longer
returns-clause-longer c =
    let es = c.args.stacks.now.entries.items in
    let fits : c.in_ok-made.made < 2 ^ 64 = search rules in
    let size = ap length c.in_ok-made.ensures.entries ∙ length-append es (_ ∷ []) in
    (omega (arith, fits, c.in_ok-made.ensures.link), omega (arith, size))

pub returns-clause-made : goal.returns-clause-made
returns-clause-made c =
    let rule = slice_index_or c.args.rules.now c.args.production no_rule in
    let children = c.gather.new.children.items in
    let trees = c.args.stacks.now.store in
    made c.args.language.now c.args.production rule (roots_of c.args.stacks.now) (roots_of c.push_tree.new.stacks) c.args.link
    c.in_ok-made.made (record { state = c.state_after-state.result; below = c.in_ok-below.below; tree = c.in_ok-tree.tree.0 })
    c.in_ok-tree.tree children
    (rule_at c.args.language.now.language.grammar c.args.rules.now c.args.production no_rule c.requires.rules c.requires.production)
    c.requires.sound.same
    (subst (λ z. AreGathered z c.args.stacks.now.values c.args.link rule.width c.in_ok-below.below children) c.deref.ensures.value
    c.in_ok-below.ensures.gathered)
    (λ next at. c.state_after-state.ensures.goes next
    (subst (λ z. goto_of c.args.language.now.tables (state_in z c.in_ok-below.below) rule.left ≡ Some next)
    (sym c.deref-2.ensures.value) at))
    (subst (λ z. IsNode z c.args.production (values_in trees children) c.in_ok-tree.tree.0) (sym c.in_ok-made.ensures.store)
    c.in_ok-tree.ensures.node)
    (ap (take (length trees)) c.in_ok-made.ensures.store ∙ c.in_ok-tree.ensures.store)
    c.in_ok-made.ensures.entries c.in_ok-made.ensures.values c.in_ok-made.ensures.link

pub returns-clause-grows : goal.returns-clause-grows
returns-clause-grows c =
    let trees = c.args.stacks.now.store in
    let tree = c.in_ok-tree.tree in
    grows_push c.args.language.now (record { state = c.state_after-state.result; below = c.in_ok-below.below; tree = tree.0 }) (Stored tree)
    c.requires.sound c.in_ok-made.ensures.entries c.in_ok-made.ensures.values
    (ap (take (length trees)) c.in_ok-made.ensures.store ∙ c.in_ok-tree.ensures.store)
    (omega (arith, c.in_ok-below.ensures.below, c.requires.link)) c.state_after-state.ensures.below
    (subst (λ z. tree.0 < length z) (sym c.in_ok-made.ensures.store) c.in_ok-tree.ensures.node.held)

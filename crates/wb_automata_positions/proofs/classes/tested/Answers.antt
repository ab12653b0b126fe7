use Rattle.std.proofs.Common.{[], get_or, rules, subst, sym}
use Rattle.std.proofs.lemmas.Option.{slice_get-get_or}
use Rattle.wb_regex.specs.declared.node.RegexNode.TheVariants.{Set}
use Rattle.wb_automata_positions.specs.Classes.{AreClasses}
use Rattle.wb_automata_positions.proofs.ClassLemmas.{classes_stay, classes_step}
use Rattle.wb_automata_positions.proofs.classes.tested.Goals as goal
use Rattle.wb_automata_positions.proofs.classes.tested.Goals.{then-not-is_settled+in_ok-classes, else-not-is_settled}

pub loop-i-preserved : goal.loop-i-preserved
loop-i-preserved c = elim c.if-not-is_settled.branch [
  | then-not-is_settled+in_ok-classes w ↦ rw (w.classes-is) (classes_step c.args.nodes.now _ _ _ _ _ _
      (slice_get-get_or c.args.nodes.now c.loop-i.i _ (search rules))
      (subst (λ z. AreClasses c.args.nodes.now z c.loop-i.classes.firsts.items c.loop-i.i)
      (sym w.deref.ensures.value) c.loop-i.invariant) w.in_ok-classes.ensures)
  | else-not-is_settled w ↦ rw (w.classes-is) (classes_stay c.args.nodes.now (get_or c.args.nodes.now c.loop-i.i (Set [])) _ _ _
      (slice_get-get_or c.args.nodes.now c.loop-i.i (Set []) (search rules)) c.loop-i.invariant
      (c.is_settled.ensures w.if-not-is_settled.false (get_or c.args.nodes.now c.loop-i.i (Set []))
      (slice_get-get_or c.args.nodes.now c.loop-i.i (Set []) (search rules))))
]

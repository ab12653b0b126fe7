use Rattle.std.proofs.Common.{◌≡◌, ◌+◌, ◌++◌, ◌∷◌, [], List, Bool, length, sym, ap, ◌∙◌, subst}
use Rattle.std.specs.Prelude.{Contains}
use Rattle.std.proofs.lemmas.List.{append_assoc}
use Rattle.std.proofs.lemmas.List.Elements.{All-contains, Contains-append_right}
use Rattle.std.specs.Vec.Iter.{into_iter_items}
use Rattle.wb_lemmas.proofs.Members.{contains_first}
use Rattle.wb_items.proofs.PutLemmas.{added_shape}
use Rattle.wb_digraph.proofs.FillLemmas.{holds_more, holds_none}
use Rattle.wb_digraph.proofs.fill.with_sets.Goals as goal

pub loop-set-preserved : goal.loop-set-preserved
loop-set-preserved c =
    let step = c.in-Some.ensures.steps in
    let split : c.args.sets.items ≡ c.loop-set.yielded ++ c.in-Some.set ∷ into_iter_items c.next.new.self =
    c.loop-set.invariant.0 ∙ ap (λ rest. c.loop-set.yielded ++ rest) step.0 in
    let wide = All-contains (λ (s : List Bool). length s ≡ c.args.context.now.kernels.now.grammar.terminals + 1) c.args.sets.items
    c.in-Some.set c.requires.widths
    (subst (λ z. Contains z c.in-Some.set) (sym split)
    (Contains-append_right c.loop-set.yielded (c.in-Some.set ∷ into_iter_items c.next.new.self) c.in-Some.set
    (contains_first c.in-Some.set (into_iter_items c.next.new.self)))) in
    let shape = c.loop-set.invariant.1 in (
      split ∙ sym (append_assoc c.loop-set.yielded (c.in-Some.set ∷ []) (into_iter_items c.next.new.self)),
      added_shape shape.numbered c.in-Some.set c.in_ok-add_set.ensures.ok wide shape,
      holds_more c.loop-set.yielded c.in-Some.set c.loop-set.lookaheads c.add_set.new.self shape c.in_ok-add_set.ensures.ok
          c.loop-set.invariant.2,
    )

use Rattle.std.proofs.Common.{◌∷◌, [], ◌++◌, refl, sym, ◌∙◌, ap, subst, inl, inr}
use Rattle.std.specs.Prelude.{Contains}
use Rattle.wb_lookahead.specs.Inner.Waiting.{in_front, at_end, stays, AreMarked, IsMarked}
use Rattle.wb_lookahead.proofs.MarkLemmas.{marked_before, marked_more}
use Rattle.wb_lookahead.proofs.worklist.Worklist.add.Goals as goal

pub returns-then-is_marked : goal.returns-then-is_marked
returns-then-is_marked c =
    let marked : IsMarked c.self.inside.marks.items c.args.place.state c.args.place.at =
    subst (λ z. IsMarked z c.args.place.state c.args.place.at) c.deref.ensures.value (c.is_marked.ensures.0 c.if-is_marked.true) in
    let (item, there) = c.self.invariant c.args.place.state c.args.place.at marked in
    stays item refl (subst (λ z. Contains z (record {
      state = c.args.place.state;
      item = item;
      at =
          c.args.place.at;
    })) c.self.view_is there)

pub invariant_of-self-2 : goal.invariant_of-self-2
invariant_of-self-2 c = elim c.in_ok-put_place.ensures.ok [
  | inl is ↦ subst (λ z. AreMarked z c.put_mark.new.marks.items) (sym is)
      (marked_before c.self.inside.queue.items c.self.inside.marks.items c.put_mark.new.marks.items c.args.place c.self.invariant
      c.put_mark.ensures)
  | inr is ↦ subst (λ z. AreMarked z c.put_mark.new.marks.items) (sym is)
      (marked_more c.self.inside.queue.items c.self.inside.marks.items c.put_mark.new.marks.items c.args.place c.self.invariant
      c.put_mark.ensures)
]

pub returns : goal.returns
returns c = elim c.in_ok-put_place.ensures.ok [
  | inl is ↦ in_front (is ∙ ap (λ z. c.args.place ∷ z) c.self.view_is)
  | inr is ↦ at_end (is ∙ ap (λ z. z ++ c.args.place ∷ []) c.self.view_is)
]

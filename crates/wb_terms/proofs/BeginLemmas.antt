-- What a builder holds once a node is begun.
use Rattle.std.proofs.Common.{◌≡◌, ℕ, List, [], ◌∷◌, ◌++◌, Result, Ok, Err, length, reverse, sym, ap, ◌∙◌, subst}
use Rattle.std.specs.List.{AllZip}
use Rattle.std.specs.Result.{OnOk}
use Rattle.std.proofs.lemmas.List.{reverse-append}
use Rattle.wb_values.specs.Signature.{Signature}
use Rattle.wb_values.specs.Tree.{Tree}
use Rattle.wb_terms.specs.declared.event.Event.{Event}
use Rattle.wb_terms.specs.declared.event.Event.TheVariants.{Begin}
use Rattle.wb_terms.specs.declared.builder.Frame.{Frame}
use Rattle.wb_terms.specs.declared.builder.Builder.{Builder}
use Rattle.wb_terms.specs.Inner.Zipper.{zipper, all_met}
use Rattle.wb_terms.specs.Inner.Built.{IsNumberOf, IsStored, FindsUnknown, FindsWrong}
use Rattle.wb_terms.specs.Inner.Holding.{AreFrames, Holds}
use Rattle.wb_terms.proofs.HoldLemmas.{shape_of, shape_begun}

pub begun : {X E : Type 0} (ss : List Signature) (name : List ℕ) (at production start : ℕ) (b c : Builder) (r : Result X E)
    → c.values ≡ b.values → c.places ≡ b.places → c.faults ≡ b.faults → IsNumberOf ss name production → start ≡ length b.values.items
    → OnOk r (c.frames.items ≡ b.frames.items ++ record { production = production; at = at; start = start } ∷ [])
    → OnOk r ((ts : List Tree) (events : List Event) → Holds ss ts events b → Holds ss ts (Begin name at ∷ events) c)
begun ss name at production start b c (Err e) values places faults number from pushed = tt
begun ss name at production start b c (Ok x) values places faults number from pushed = λ ts events h.
    let f : Frame = record { production = production; at = at; start = start } in
    let s =
    shape_begun ss ts (zipper events) b.values.items b.places.items (reverse b.frames.items) name f
    (shape_of ss ts events b h) number from in
    let stack : reverse c.frames.items ≡ f ∷ reverse b.frames.items = ap reverse pushed ∙ reverse-append b.frames.items (f ∷ []) in
    record {
      frames = subst (λ l. AreFrames ss (zipper (Begin name at ∷ events)) l) (sym stack) s.framed;
      values = subst (λ v. AllZip (IsStored ss ts) (all_met (zipper (Begin name at ∷ events))) v.items) (sym values) s.valued;
      places = s.placed ∙ ap (λ v. v.items) (sym places);
      unknown = subst (λ f. FindsUnknown ss (Begin name at ∷ events) f.unknown) (sym faults) h.unknown;
      wrong = subst (λ f. FindsWrong ss (Begin name at ∷ events) f.wrong) (sym faults) h.wrong;
    }

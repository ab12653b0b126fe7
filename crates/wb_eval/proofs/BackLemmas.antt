-- The instance at work is left with its value, and the one that waited for it goes on.
use Rattle.std.proofs.Common.{◌≡◌, ◌≢◌, ◌⊎◌, ◌∙◌, ◌<◌, ◌-◌, ◌++◌, ℕ, zero, suc, List, [], ◌∷◌, Option, Result, Ok, Err, Some, None}
use Rattle.std.proofs.Common.{length}
use Rattle.std.proofs.Common.{slice_get, take, drop, map, refl, sym, ap, subst, arith}
use Rattle.std.specs.Prelude.{OnOk}
use Rattle.std.proofs.lemmas.List.{length-append, length-take-le, length-map}
use Rattle.wb_lemmas.proofs.Places.{at_within, append_keeps, push_last}
use Rattle.wb_operations.specs.Operations.{Operations}
use Rattle.wb_syntax_resolved.specs.declared.attribution.AttributionParts.{AttributionParts}
use Rattle.wb_values.specs.declared.value.Value.{Value}
use Rattle.wb_values.specs.Tree.{Tree, children_of}
use Rattle.wb_values.specs.ValuesIn.{tree_in, value_in, IsIn}
use Rattle.wb_eval_rules.specs.Code.{visit, does, instruction_of}
use Rattle.wb_eval_theory.specs.Walks.{done, value}
use Rattle.wb_eval.proofs.FrameLemmas.{moved, frames_less, frames_length, piled_more, piled_none, set_here}
use Rattle.wb_eval.proofs.LeaveLemmas.{left, tree_key, kept_synthesized, kept_inherited, kept_tree, is_tree, IsBackAt}
use Rattle.wb_eval.proofs.StartLemmas.{stack_some}
use Rattle.wb_eval.proofs.StepLemmas.{key_here, last_key}
use Rattle.wb_eval.proofs.VisitLemmas.{IsVisiting, read_known}
use Rattle.wb_eval.specs.Inner.Answering.{IsLeaving, IsPopped, with_answer}
use Rattle.wb_eval.specs.Inner.Fits.{stack_of, CodeFits}
use Rattle.wb_eval.specs.Inner.Going.{resume}
use Rattle.wb_eval.specs.Inner.Machines.{tree_value, named, known, IsKey, IsKeptIn, IsMachine, IsSuspended, Runs}
use Rattle.wb_eval.specs.Inner.Machines.{IsAttributeSet, IsSet, IsFor}
use Rattle.wb_eval.specs.Inner.Piles.{Wait, piled, code_left, AreWaits, IsWaitOf}
use Rattle.wb_eval.specs.Inner.Works.{IsGoing, GoesOnAt, IsTurn}
use Rattle.wb_eval.specs.declared.frame.Frame.{Frame}
use Rattle.wb_eval.specs.declared.machine.Key.{Key}
use Rattle.wb_eval.specs.declared.machine.Key.TheVariants as key
use Rattle.wb_eval.specs.declared.machine.Machine.{Machine}
use Rattle.wb_eval_memo.specs.Memos.{path_in, recall, IsWhole}
use Rattle.wb_eval_memo.specs.declared.memo.Memo.{Memo}

-- what is said of a call that keeps the value of an attribute
pub attribute_set : {T E : Type 0} (r : Result T E) (old new : Memo) (site x : ℕ) (v : Value) → OnOk r (IsWhole new)
    → OnOk r (new.sites ≡ old.sites) → OnOk r (new.trees ≡ old.trees) → OnOk r (recall new site x ≡ Some v)
    → OnOk r ((i other : ℕ) → (i ≢ site) ⊎ (other ≢ x) → recall new i other ≡ recall old i other)
    → OnOk r (IsAttributeSet old new site x v)
attribute_set (Ok y) old new site x v whole sites trees set kept =
    record { whole = whole; sites = sites; trees = trees; set = set; kept = kept }
attribute_set (Err e) old new site x v whole sites trees set kept = tt

-- what was kept is known
known_set : (old new : Memo) (k : Key) (v : Value) → IsWhole old → IsKey old k → IsSet old new k v → known new k ≡ Some v
known_set old new (key.Synthesized site x) v whole is_key s = s.set
known_set old new (key.Inherited site x) v whole is_key s = s.set
known_set old new (key.Tree site) v whole (le, path) s =
    let t = whole.trees in
    ap tree_value (ap (λ ts. slice_get ts site) s.set ∙ set_here old.trees.items site (Some s.id) (omega (arith, le, t)))
    ∙ ap Some (sym s.is)

-- a place behind which there is code is within
drop_within : {X : Type 0} (xs rest : List X) (n : ℕ) (x : X) → drop n xs ≡ x ∷ rest → n < length xs
drop_within [] rest zero x is = absurd (cc is)
drop_within [] rest (suc n) x is = absurd (cc is)
drop_within (y ∷ xs) rest zero x is = omega arith
drop_within (y ∷ xs) rest (suc n) x is = let h = drop_within xs rest n x is in omega (arith, h)

-- each but the last instance has a frame or none
pub frames_count : {a : AttributionParts} {operations : Operations} {trees : List Tree} {under : List Value} {m : Machine}
    → IsMachine a operations trees under m → suc (length m.frames.items) ≡ length m.stack.items
frames_count {m = m} r = let l = frames_length m.frames.items r.waits r.frames in let c = r.suspended.count in omega (arith, l, c)

module _ (a : AttributionParts) (operations : Operations) (trees : List Tree) {under : List Value} (m : Machine) (v : Value)
    (runs : Runs a operations trees under m (done (value (value_in trees v)))) (inside : IsIn (length trees) v) where
  its_kind : (k : Key) → slice_get m.stack.items (length m.stack.items - 1) ≡ Some k → IsFor k v
  its_kind (key.Synthesized site x) at = tt
  its_kind (key.Inherited site x) at = tt
  its_kind (key.Tree site) at =
      let (le, (q, made, path, this_is)) = tree_key a operations trees m runs.machine site at in
      is_tree a operations trees m v runs inside q made this_is

  pub leaving : IsLeaving m v
  leaving =
      let some = stack_some runs.machine in
      let (k, at) = at_within m.stack.items (length m.stack.items - 1) (omega (arith, some)) in
      record {
        key = k;
        last = at;
        whole = runs.machine.memo.whole;
        is_key = (key_here a operations trees m runs.machine k at).0;
        is_for = its_kind k at;
        frames = frames_count runs.machine;
      }

  kept_in : (new : Memo) (k : Key) → slice_get m.stack.items (length m.stack.items - 1) ≡ Some k → IsSet m.memo new k v
      → IsKeptIn a operations trees under m runs.machine new
  kept_in new (key.Synthesized site x) at s =
      let (le, this_is) = key_here a operations trees m runs.machine (key.Synthesized site x) at in
      kept_synthesized a operations trees m v runs inside new site x s.whole s.sites s.trees s.set s.kept le this_is
  kept_in new (key.Inherited site x) at s =
      let (le, this_is) = key_here a operations trees m runs.machine (key.Inherited site x) at in
      kept_inherited a operations trees m v runs inside new site x s.whole s.sites s.trees s.set s.kept le this_is
  kept_in new (key.Tree site) at s =
      let (le, (q, made, path, this_is)) = tree_key a operations trees m runs.machine site at in
      kept_tree a operations trees m v runs inside new site s.id q made s.sites s.slots s.set le path this_is s.is

  -- what waited, with the frame that was taken
  module _ (new : Machine) (frame : Option Frame) (after : List Value) (p : IsPopped m new under after v frame)
      (others : 1 < length m.stack.items) where
    abbrev front : List Key
    front = take (length m.stack.items - 1) m.stack.items

    keys_are : m.stack.items ≡ front ++ p.key ∷ []
    keys_are = sym (last_key m.stack.items p.key p.last)

    front_count : suc (length front) ≡ length m.stack.items
    front_count = let c = length-take-le (length m.stack.items - 1) m.stack.items (omega arith) in omega (arith, c, others)

    abbrev kept : IsKeptIn a operations trees under m runs.machine new.memo
    kept = kept_in new.memo p.key p.last p.set

    returns_to : (waits : List (Option Wait)) (its : Option Wait) (values : List Value) → runs.machine.waits ≡ waits ++ its ∷ []
        → AreWaits new.frames.items waits → values ≡ piled waits → IsBackAt a operations trees m v runs inside new values front
    returns_to waits its values waits_are are values_are =
        let c = front_count in
        left a operations trees m v runs inside new front p.key waits its values keys_are (omega (arith, c, others)) kept p.root p.attribute
        p.entered p.stack waits_are are values_are

    -- by its frame
    module _ (waits : List (Option Wait)) (w : Wait) (waits_are : runs.machine.waits ≡ waits ++ Some w ∷ [])
        (are : AreWaits new.frames.items waits) where
      under_is : under ≡ piled waits ++ w.values
      under_is = runs.machine.piled_is ∙ ap piled waits_are ∙ piled_more waits w

      waits_count : suc (length waits) ≡ length front
      waits_count =
          let c = runs.machine.suspended.count in
          let l = ap length waits_are in
          let k = length-append waits (Some w ∷ []) in
          let f = front_count in
          omega (arith, c, l, k, f)

      record IsWaiting : Type 0 where
        c : Key
        at : slice_get front (length front - 1) ≡ Some c
        is_next : IsKey m.memo p.key
        suspended : IsSuspended a operations trees runs.machine.top m.attribute runs.machine.all m.memo (named m.memo c)
            (named m.memo p.key) w.site w.code w.values

      waited : IsWaiting
      waited =
          let n = waits_count in
          let (c, at) = at_within front (length waits) (omega (arith, n)) in
          let last : length waits ≡ length front - 1 = omega (arith, n) in
          let at_c = ap (λ l. slice_get l (length waits)) keys_are ∙ append_keeps front (p.key ∷ []) (length waits) c at in
          let at_next = ap (λ l. slice_get l (suc (length waits))) keys_are ∙ ap (slice_get (front ++ p.key ∷ [])) n
          ∙ push_last front p.key in
          let at_wait = ap (λ l. slice_get l (length waits)) waits_are ∙ push_last waits (Some w) in
          let (is_c, is_next, s) = runs.machine.suspended.each (length waits) c p.key w at_c at_next at_wait in
          record { c = c; at = sym (ap (slice_get front) last) ∙ at; is_next = is_next; suspended = s }

      -- its expression is visited again, and what it reads is known
      goes_at : (f : Frame) → (w.site ≡ f.site) × (w.code ≡ code_left f) → GoesOnAt a operations trees new (under ++ v ∷ []) f
      unfolding resume
      goes_at f (site_is, code_is) =
          let i = waited in
          let s = i.suspended in
          let k = kept in
          let back = returns_to waits (Some w) (piled waits) waits_are are refl in
          let same_count = k.counts in
          let t = moved a operations trees runs.machine.top m.attribute runs.machine.all m.memo new.memo (named m.memo i.c)
          (named m.memo i.c)
          (named m.memo p.key) (named new.memo p.key) w.site w.code w.values s refl (sym (k.names p.key)) (k.paths w.site)
          (k.trees_kept w.site s.id s.has) (omega (arith, same_count)) in
          let on = back.1 i.c (resume operations (path_in new.memo w.site) (children_of (tree_in trees t.id.0)) w.code 0
          (stack_of trees w.values)) i.at t.come in
          let on_visit = subst (λ l. Runs a operations trees (piled waits) new
          (resume operations (path_in new.memo w.site) (children_of (tree_in trees t.id.0)) l 0 (stack_of trees w.values))) t.code_is on in
          let (its, typed, fits) = subst (λ l. CodeFits a operations t.production l 0 t.kinds) t.code_is t.code_fits in
          let view : IsVisiting a operations trees new w.site t.way t.rest under t.expression = record {
            id = t.id;
            has = t.has;
            there = t.there;
            production = t.production;
            is = t.is;
            under = piled waits;
            own = w.values;
            values_are = under_is;
            kinds = t.kinds;
            kind = its;
            typed = typed;
            inside = t.inside;
            values_fit = t.values_fit;
            way_fits = fits;
            runs = on_visit;
          } in
          let going = read_known a operations trees new w.site t.way t.rest under t.expression view p.key (k.keys p.key i.is_next) t.reads v
          (known_set m.memo new.memo p.key v runs.machine.memo.whole i.is_next p.set) in
          let left_is = sym code_is ∙ t.code_is in
          let len = length-map f.code.now instruction_of in
          let within = drop_within (map instruction_of f.code.now) t.rest f.at (does (visit t.expression) t.way) left_is in
          record {
            at_within = omega (arith, len, within);
            job = visit t.expression;
            way = t.way;
            rest = t.rest;
            left = left_is;
            going = subst (λ (n : ℕ). IsGoing a operations trees new n t.way t.rest (under ++ v ∷ [])) site_is going;
          }

    by_frame : (f : Option Frame) → AreWaits (new.frames.items ++ f ∷ []) runs.machine.waits
        → IsTurn a operations trees new (with_answer f under v) f
    by_frame f all = at_last f (frames_less new.frames.items f runs.machine.waits all) where
      at_last : (f : Option Frame) → (waits : List (Option Wait)) × (w : Option Wait) × (runs.machine.waits ≡ waits ++ w ∷ [])
          × AreWaits new.frames.items waits × IsWaitOf f w → IsTurn a operations trees new (with_answer f under v) f
      at_last None (waits, None, is, are, last) =
          (returns_to waits None under is are (runs.machine.piled_is ∙ ap piled is ∙ piled_none waits)).0
      at_last None (waits, Some w, is, are, last) = absurd last
      at_last (Some f) (waits, None, is, are, last) = absurd last
      at_last (Some f) (waits, Some w, is, are, last) = goes_at waits w is are f last

    pub back : IsTurn a operations trees new after frame
    back = subst (λ (vs : List Value). IsTurn a operations trees new vs frame) (sym p.values)
        (by_frame frame (subst (λ l. AreWaits l runs.machine.waits) p.frames runs.machine.frames))

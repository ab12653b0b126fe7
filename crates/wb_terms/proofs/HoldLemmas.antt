-- What a builder holds: how it goes on with each thing that is met.
use Rattle.std.proofs.Common.{◌≡◌, ◌+◌, ◌⊎◌, inr, ℕ, List, [], ◌∷◌, ◌++◌, Option, map, length, take, drop, reverse, refl, sym, ap, ◌∙◌}
use Rattle.std.proofs.Common.{subst, arith, append_assoc, append-nil, length-append}
use Rattle.std.specs.List.{AllZip}
use Rattle.std.proofs.Math.Seq.{take-append_seam, drop-append_seam, get_or-append_seam}
use Rattle.std.proofs.lemmas.List.{map-append, length-map}
use Rattle.std.proofs.lemmas.Slice.Zip.{AllZip-long, all_zipped_more}
use Rattle.wb_values.specs.Signature.{Signature}
use Rattle.wb_values.specs.Tree.{Tree, node, empty}
use Rattle.wb_values.specs.Tree as v
use Rattle.wb_values.specs.ValuesIn.{values_in, tree_in, IsIn}
use Rattle.wb_values.specs.declared.value.Value.{Value}
use Rattle.wb_values.specs.declared.value.Value.TheVariants.{Tree as Stored}
use Rattle.wb_values.specs.declared.value.TreeId.{TreeId}
use Rattle.wb_terms.specs.declared.event.Event.{Event}
use Rattle.wb_terms.specs.declared.event.Event.TheVariants as e
use Rattle.wb_terms.specs.declared.builder.Frame.{Frame}
use Rattle.wb_terms.specs.declared.builder.Builder.{Builder}
use Rattle.wb_terms.specs.Term.{Argument, named, term, place_of}
use Rattle.wb_terms.specs.Inner.Least.{FindsLeast}
use Rattle.wb_terms.specs.TreeOf.{IsUnknown, IsWrong}
use Rattle.wb_terms.specs.Inner.Zipper.{Zipper, outside, inside, with_argument, arguments_of, zipper, all_met, OfInnermost, SomeEnded}
use Rattle.wb_terms.specs.Inner.Zipper.{EachEnded}
use Rattle.wb_terms.specs.Inner.Smallest.{smaller_of}
use Rattle.wb_terms.specs.Inner.Built.{IsNumberOf, IsBuiltValue, AreBuilt, IsStored, IsKnown, FitsIfKnown, FindsUnknown, FindsWrong}
use Rattle.wb_terms.specs.Inner.Holding.{AreFrames, Holds, AddsValue}
use Rattle.wb_terms.proofs.LeastLemmas.{either, lesser_least, same_least}
use Rattle.wb_lemmas.proofs.Zips.{zip_weaker, zip_take, zip_drop}
use Rattle.wb_values.proofs.Grown.{value-stable}
use Rattle.wb_values.proofs.CallerLemmas.{is_in_more}

-- an argument's value stays so among more trees
stored_stable : (ss : List Signature) (ts r : List Tree) (a : Argument) (x : Value) → IsStored ss ts a x → IsStored ss (ts ++ r) a x
stored_stable ss ts r a x s = record {
  within = subst (λ n. IsIn n x) (sym (length-append ts r)) (is_in_more (length ts) (length ts + length r) x (omega arith) s.within);
  built = subst (λ y. IsBuiltValue ss a y) (sym (value-stable ts r x s.within)) s.built;
}

-- values of arguments are built
are_built : (ss : List Signature) (ts : List Tree) (arguments : List Argument) (xs : List Value) → AllZip (IsStored ss ts) arguments xs
    → AreBuilt ss (arguments_of arguments) (values_in ts xs)
are_built ss ts [] [] all = tt
are_built ss ts [] (x ∷ xs) all = absurd all
are_built ss ts (a ∷ arguments) [] all = absurd all
are_built ss ts (a ∷ arguments) (x ∷ xs) all = (all.0.built, are_built ss ts arguments xs all.1)

-- the values, their places and the frames are those of what was met
pub record Shape (ss : List Signature) (ts : List Tree) (z : Zipper) (values : List Value) (places : List ℕ)
    (frames : List Frame) : Type 0 where
  pub framed : AreFrames ss z frames
  pub valued : AllZip (IsStored ss ts) (all_met z) values
  pub placed : map place_of (all_met z) ≡ places

-- the frames don't see an argument more
frames_with : (ss : List Signature) (a : Argument) (z : Zipper) (fs : List Frame) → AreFrames ss z fs → AreFrames ss (with_argument a z) fs
frames_with ss a (outside met) [] h = tt
frames_with ss a (outside met) (f ∷ fs) h = absurd h
frames_with ss a (inside name place met outer) [] h = absurd h
frames_with ss a (inside name place met outer) (f ∷ fs) h = h

-- an argument more is the last
met_with : (a : Argument) (z : Zipper) → all_met (with_argument a z) ≡ all_met z ++ a ∷ []
met_with a (outside met) = refl
met_with a (inside name place met outer) = sym (append_assoc (all_met outer) met (a ∷ []))

-- an argument more
pub shape_with : (ss : List Signature) (ts : List Tree) (z : Zipper) (values : List Value) (places : List ℕ) (frames : List Frame)
    (a : Argument) (x : Value) (at : ℕ)
    → Shape ss ts z values places frames → IsStored ss ts a x → place_of a ≡ at
    → Shape ss ts (with_argument a z) (values ++ x ∷ []) (places ++ at ∷ []) frames
shape_with ss ts z values places frames a x at s stored here = record {
  framed = frames_with ss a z frames s.framed;
  valued =
      subst (λ met. AllZip (IsStored ss ts) met (values ++ x ∷ [])) (sym (met_with a z))
      (all_zipped_more (IsStored ss ts) (all_met z) values a x s.valued stored);
  placed =
      ap (map place_of) (met_with a z)
      ∙ (map-append place_of (all_met z) (a ∷ []) ∙ (ap (λ l. l ++ place_of a ∷ []) s.placed ∙ ap (λ n. places ++ n ∷ []) here));
}

-- a node is begun
pub shape_begun : (ss : List Signature) (ts : List Tree) (z : Zipper) (values : List Value) (places : List ℕ) (frames : List Frame)
    (name : List ℕ) (f : Frame)
    → Shape ss ts z values places frames → IsNumberOf ss name f.production → f.start ≡ length values
    → Shape ss ts (inside name f.at [] z) values places (f ∷ frames)
shape_begun ss ts z values places frames name f s number start = record {
  framed = (number, refl, start ∙ AllZip-long (IsStored ss ts) (all_met z) values s.valued, s.framed);
  valued = subst (λ met. AllZip (IsStored ss ts) met values) (sym (append-nil (all_met z))) s.valued;
  placed = ap (map place_of) (append-nil (all_met z)) ∙ s.placed;
}

-- the innermost node's own arguments
pub record Innermost (ss : List Signature) (ts : List Tree) (name : List ℕ) (place : ℕ) (met : List Argument) (values : List Value)
    (places : List ℕ) (f : Frame) : Type 0 where
  pub number : IsNumberOf ss name f.production
  pub here : f.at ≡ place
  pub valued : AllZip (IsStored ss ts) met (drop f.start values)
  pub placed : map place_of met ≡ drop f.start places

module _ (ss : List Signature) (ts : List Tree) (name : List ℕ) (place : ℕ) (met : List Argument) (outer : Zipper) (values : List Value)
    (places : List ℕ) (f : Frame) (frames : List Frame) (s : Shape ss ts (inside name place met outer) values places (f ∷ frames)) where
  start : f.start ≡ length (all_met outer)
  start = s.framed.2

  apart : map place_of (all_met outer) ++ map place_of met ≡ places
  apart = sym (map-append place_of (all_met outer) met) ∙ s.placed

  long : f.start ≡ length (map place_of (all_met outer))
  long = start ∙ sym (length-map (all_met outer) place_of)

  -- the innermost node
  pub innermost_shape : Innermost ss ts name place met values places f
  innermost_shape = record {
    number = s.framed.0;
    here = s.framed.1;
    valued =
        subst (λ n. AllZip (IsStored ss ts) met (drop n values)) (sym start)
        (zip_drop (IsStored ss ts) (all_met outer) met values s.valued);
    placed =
        subst (λ n. map place_of met ≡ drop n places) (sym long)
        (subst (λ l. map place_of met ≡ drop (length (map place_of (all_met outer))) l) apart
        (sym (drop-append_seam (map place_of (all_met outer)) (map place_of met))));
  }

  -- what is outside of it
  pub outer_shape : Shape ss ts outer (take f.start values) (take f.start places) frames
  outer_shape = record {
    framed = s.framed.3;
    valued =
        subst (λ n. AllZip (IsStored ss ts) (all_met outer) (take n values)) (sym start)
        (zip_take (IsStored ss ts) (all_met outer) met values s.valued);
    placed =
        subst (λ n. map place_of (all_met outer) ≡ take n places) (sym long)
        (subst (λ l. map place_of (all_met outer) ≡ take (length (map place_of (all_met outer))) l) apart
        (sym (take-append_seam (map place_of (all_met outer)) (map place_of met))));
  }

  -- the sizes
  pub start_within : f.start + length met ≡ length values
  start_within =
      omega (arith, start, AllZip-long (IsStored ss ts) (all_met outer ++ met) values s.valued, length-append (all_met outer) met)

  pub places_long : length places ≡ length values
  places_long =
      sym (ap length s.placed)
      ∙ (length-map (all_met outer ++ met) place_of ∙ sym (AllZip-long (IsStored ss ts) (all_met outer ++ met) values s.valued))

  -- the node is built over its values, and is one value more of the outer node
  pub shape_closed : (id : TreeId) → id.0 ≡ length ts
      → Shape ss (ts ++ node f.production (values_in ts (drop f.start values)) ∷ [])
      (with_argument (term (named name place (arguments_of met))) outer)
      (take f.start values ++ Stored id ∷ []) (take f.start places ++ f.at ∷ []) frames
  shape_closed id is =
      let tree = node f.production (values_in ts (drop f.start values)) in
      let ts' = ts ++ tree ∷ [] in
      let o = outer_shape in
      let i = innermost_shape in
      let kept : Shape ss ts' outer (take f.start values) (take f.start places) frames = record {
        framed = o.framed;
        valued =
            zip_weaker (IsStored ss ts) (IsStored ss ts') (λ a x st. stored_stable ss ts (tree ∷ []) a x st) (all_met outer)
            (take f.start values) o.valued;
        placed = o.placed;
      } in
      let at : tree_in ts' id.0 ≡ tree = ap (tree_in ts') is ∙ get_or-append_seam ts tree [] (node 0 empty) in
      let stored : IsStored ss ts' (term (named name place (arguments_of met))) (Stored id) = record {
        within = omega (arith, is, length-append ts (tree ∷ []));
        built =
            subst (λ t. IsBuiltValue ss (term (named name place (arguments_of met))) (v.tree t)) (sym at)
            (i.number, are_built ss ts met (drop f.start values) i.valued);
      } in
      shape_with ss ts' outer (take f.start values) (take f.start places) frames (term (named name place (arguments_of met)))
      (Stored id) f.at kept stored (sym i.here)

-- the faults once a node is ended
pub unknown_ended : (ss : List Signature) (events : List Event) (name : List ℕ) (place : ℕ) (met : List Argument) (outer : Zipper)
    (found o : Option ℕ)
    → zipper events ≡ inside name place met outer
    → FindsLeast (λ at. IsUnknown ss at name place met) (IsKnown ss name place met) found → FindsUnknown ss events o → FindsUnknown ss
    (e.End ∷ events) (smaller_of found o)
unknown_ended ss events name place met outer found o is here before =
    subst (λ z. FindsLeast (λ at. OfInnermost (IsUnknown ss at) z ⊥ ⊎ SomeEnded (IsUnknown ss at) events)
    (OfInnermost (IsKnown ss) z (Unit {0}) × EachEnded (IsKnown ss) events) (smaller_of found o)) (sym is)
    (lesser_least (λ at. SomeEnded (IsUnknown ss at) events) (λ at. IsUnknown ss at name place met) (EachEnded (IsKnown ss) events)
    (IsKnown ss name place met) found o here before)

pub wrong_ended : (ss : List Signature) (events : List Event) (name : List ℕ) (place : ℕ) (met : List Argument) (outer : Zipper)
    (found o : Option ℕ)
    → zipper events ≡ inside name place met outer
    → FindsLeast (λ at. IsWrong ss at name place met) (FitsIfKnown ss name place met) found → FindsWrong ss events o → FindsWrong ss
    (e.End ∷ events) (smaller_of found o)
wrong_ended ss events name place met outer found o is here before =
    subst (λ z. FindsLeast (λ at. OfInnermost (IsWrong ss at) z ⊥ ⊎ SomeEnded (IsWrong ss at) events)
    (OfInnermost (FitsIfKnown ss) z (Unit {0}) × EachEnded (FitsIfKnown ss) events) (smaller_of found o)) (sym is)
    (lesser_least (λ at. SomeEnded (IsWrong ss at) events) (λ at. IsWrong ss at name place met) (EachEnded (FitsIfKnown ss) events)
    (FitsIfKnown ss name place met) found o here before)

-- nothing was begun, so nothing ends
pub unknown_outside : (ss : List Signature) (events : List Event) (met : List Argument) (o : Option ℕ) → zipper events ≡ outside met
    → FindsUnknown ss events o → FindsUnknown ss (e.End ∷ events) o
unknown_outside ss events met o is before =
    subst (λ z. FindsLeast (λ at. OfInnermost (IsUnknown ss at) z ⊥ ⊎ SomeEnded (IsUnknown ss at) events)
    (OfInnermost (IsKnown ss) z (Unit {0}) × EachEnded (IsKnown ss) events) o) (sym is)
    (same_least (λ at. SomeEnded (IsUnknown ss at) events) (λ at. ⊥ ⊎ SomeEnded (IsUnknown ss at) events) (EachEnded (IsKnown ss) events)
    (Unit {0} × EachEnded (IsKnown ss) events) o (λ at s. inr s) (λ at s. either absurd (λ x. x) s) (λ x. (tt, x)) before)

pub wrong_outside : (ss : List Signature) (events : List Event) (met : List Argument) (o : Option ℕ) → zipper events ≡ outside met
    → FindsWrong ss events o → FindsWrong ss (e.End ∷ events) o
wrong_outside ss events met o is before =
    subst (λ z. FindsLeast (λ at. OfInnermost (IsWrong ss at) z ⊥ ⊎ SomeEnded (IsWrong ss at) events)
    (OfInnermost (FitsIfKnown ss) z (Unit {0}) × EachEnded (FitsIfKnown ss) events) o) (sym is)
    (same_least (λ at. SomeEnded (IsWrong ss at) events) (λ at. ⊥ ⊎ SomeEnded (IsWrong ss at) events) (EachEnded (FitsIfKnown ss) events)
    (Unit {0} × EachEnded (FitsIfKnown ss) events) o (λ at s. inr s) (λ at s. either absurd (λ x. x) s) (λ x. (tt, x)) before)

-- the shape of what a builder holds
pub shape_of : (ss : List Signature) (ts : List Tree) (events : List Event) (b : Builder) → Holds ss ts events b
    → Shape ss ts (zipper events) b.values.items b.places.items (reverse b.frames.items)
shape_of ss ts events b h = record { framed = h.frames; valued = h.values; placed = h.places }

-- a value more is held
pub holds_with : (ss : List Signature) (ts : List Tree) (events then : List Event) (a : Argument) (x : Value) (at : ℕ) (b c : Builder)
    → Holds ss ts events b → zipper then ≡ with_argument a (zipper events) → IsStored ss ts a x → place_of a ≡ at → AddsValue x at b c
    → FindsUnknown ss then b.faults.unknown → FindsWrong ss then b.faults.wrong → Holds ss ts then c
holds_with ss ts events then a x at b c h is stored here adds unknown wrong =
    let s =
    shape_with ss ts (zipper events) b.values.items b.places.items (reverse b.frames.items) a x at
    (shape_of ss ts events b h) stored here in
    record {
      frames =
          subst (λ fs. AreFrames ss (zipper then) (reverse fs.items)) (sym adds.frames)
          (subst (λ z. AreFrames ss z (reverse b.frames.items)) (sym is) s.framed);
      values =
          subst (λ xs. AllZip (IsStored ss ts) (all_met (zipper then)) xs) (sym adds.values)
          (subst (λ z. AllZip (IsStored ss ts) (all_met z) (b.values.items ++ x ∷ [])) (sym is) s.valued);
      places = subst (λ z. map place_of (all_met z) ≡ c.places.items) (sym is) (s.placed ∙ sym adds.places);
      unknown = subst (λ fs. FindsUnknown ss then fs.unknown) (sym adds.faults) unknown;
      wrong = subst (λ fs. FindsWrong ss then fs.wrong) (sym adds.faults) wrong;
    }

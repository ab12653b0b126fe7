-- What a builder holds once a node is ended.
use Rattle.std.proofs.Common.{◌≡◌, ◌+◌, ◌-◌, ◌≤◌, ℕ, List, [], ◌∷◌, ◌++◌, Result, Ok, Err, All, length, map, take, drop, reverse, refl, sym}
use Rattle.std.proofs.Common.{ap, ◌∙◌, subst, arith}
use Rattle.std.specs.List.{AllZip}
use Rattle.std.specs.Result.{OnOk}
use Rattle.std.proofs.lemmas.List.{reverse-append}
use Rattle.wb_values.specs.Signature.{Signature}
use Rattle.wb_values.specs.Tree.{Tree, node}
use Rattle.wb_values.specs.ValuesIn.{values_in, IsIn}
use Rattle.wb_values.specs.declared.value.Value.{Value}
use Rattle.wb_values.specs.declared.value.Value.TheVariants.{Tree as Stored}
use Rattle.wb_values.specs.declared.value.TreeId.{TreeId}
use Rattle.wb_terms.specs.declared.event.Event.{Event}
use Rattle.wb_terms.specs.declared.event.Event.TheVariants.{End}
use Rattle.wb_terms.specs.declared.builder.Frame.{Frame}
use Rattle.wb_terms.specs.declared.builder.Builder.{Builder}
use Rattle.wb_terms.specs.Term.{Argument, named, term, place_of}
use Rattle.wb_terms.specs.Inner.Zipper.{Zipper, outside, inside, with_argument, arguments_of, closed, zipper, all_met}
use Rattle.wb_terms.specs.Inner.Built.{IsNumberOf, IsStored, FindsUnknown, FindsWrong}
use Rattle.wb_terms.specs.Inner.Holding.{AreFrames, Holds, AddsValue}
use Rattle.wb_lemmas.proofs.Zips.{zip_all}
use Rattle.wb_terms.proofs.HoldLemmas.{Shape, shape_of, shape_closed, innermost_shape, start_within, places_long, unknown_outside}
use Rattle.wb_terms.proofs.HoldLemmas.{wrong_outside}

-- the node of the last frame
pub record Popped (ss : List Signature) (ts : List Tree) (events : List Event) (values : List Value) (places : List ℕ) (f : Frame)
    (fs : List Frame) : Type 0 where
  pub name : List ℕ
  pub place : ℕ
  pub met : List Argument
  pub outer : Zipper
  pub is : zipper events ≡ inside name place met outer
  pub shape : Shape ss ts (inside name place met outer) values places (f ∷ reverse fs)

popped_at : (ss : List Signature) (ts : List Tree) (events : List Event) (values : List Value) (places : List ℕ) (f : Frame)
    (fs : List Frame) (z : Zipper)
    → zipper events ≡ z → Shape ss ts z values places (f ∷ reverse fs) → Popped ss ts events values places f fs
popped_at ss ts events values places f fs (outside met) is s = absurd s.framed
popped_at ss ts events values places f fs (inside name place met outer) is s =
    record { name = name; place = place; met = met; outer = outer; is = is; shape = s }

pub popped : (ss : List Signature) (ts : List Tree) (events : List Event) (b : Builder) (f : Frame) (fs : List Frame)
    → b.frames.items ≡ fs ++ f ∷ [] → Holds ss ts events b → Popped ss ts events b.values.items b.places.items f fs
popped ss ts events b f fs e h =
    let stack : reverse b.frames.items ≡ f ∷ reverse fs = ap reverse e ∙ reverse-append fs (f ∷ []) in
    popped_at ss ts events b.values.items b.places.items f fs (zipper events) refl
    (subst (λ l. Shape ss ts (zipper events) b.values.items b.places.items l) stack (shape_of ss ts events b h))

-- no frame, so nothing was begun
pub none_begun : (ss : List Signature) (ts : List Tree) (events : List Event) (b c : Builder) → b.frames.items ≡ [] → c.frames.items ≡ []
    → c.values ≡ b.values → c.places ≡ b.places → c.faults ≡ b.faults → Holds ss ts events b → Holds ss ts (End ∷ events) c
none_begun ss ts events b c none still values places faults h =
    at (zipper events) refl (subst (λ l. AreFrames ss (zipper events) (reverse l)) none h.frames) where
      at : (z : Zipper) → zipper events ≡ z → AreFrames ss (zipper events) [] → Holds ss ts (End ∷ events) c
      at (inside name place met outer) is framed = absurd (subst (λ z. AreFrames ss z []) is framed)
      at (outside met) is framed =
          let same : zipper (End ∷ events) ≡ zipper events = ap closed is ∙ sym is in
          record {
            frames =
                subst (λ l. AreFrames ss (zipper (End ∷ events)) (reverse l)) (sym still)
                (subst (λ z. AreFrames ss z []) (sym same) framed);
            values =
                subst (λ v. AllZip (IsStored ss ts) (all_met (zipper (End ∷ events))) v.items) (sym values)
                (subst (λ z. AllZip (IsStored ss ts) (all_met z) b.values.items) (sym same) h.values);
            places = ap (λ z. map place_of (all_met z)) same ∙ (h.places ∙ ap (λ v. v.items) (sym places));
            unknown =
                subst (λ f. FindsUnknown ss (End ∷ events) f.unknown) (sym faults)
                (unknown_outside ss events met b.faults.unknown is h.unknown);
            wrong = subst (λ f. FindsWrong ss (End ∷ events) f.wrong) (sym faults) (wrong_outside ss events met b.faults.wrong is h.wrong);
          }

-- the values are trees of the store
pub all_within : (ss : List Signature) (ts : List Tree) (events : List Event) (b : Builder) → Holds ss ts events b
    → All (IsIn (length ts)) b.values.items
all_within ss ts events b h =
    zip_all (IsStored ss ts) (IsIn (length ts)) (λ a x s. s.within) (all_met (zipper events)) b.values.items h.values

-- the sizes
pub sizes : (ss : List Signature) (ts : List Tree) (events : List Event) (values : List Value) (places : List ℕ) (f : Frame)
    (fs : List Frame) (p : Popped ss ts events values places f fs)
    → (f.start + length p.met ≡ length values) × (length places ≡ length values)
sizes ss ts events values places f fs p = (
  start_within ss ts p.name p.place p.met p.outer values places f
      (reverse fs) p.shape,
  places_long ss ts p.name p.place p.met p.outer values places f (reverse fs) p.shape,
)

-- of all values the last so many
pub last_from : (n count : ℕ) (xs : List Value) → n ≤ length xs → count ≡ length xs - n → (length xs - count) ≡ n
last_from n count xs le e = omega (arith, le, e)

-- the node is built
pub ended : (ss : List Signature) (ts more : List Tree) (events : List Event) (b c d : Builder) (f : Frame) (fs : List Frame) (id : TreeId)
    (count : ℕ) (p : Popped ss ts events b.values.items b.places.items f fs)
    → count ≡ length b.values.items - f.start → id.0 ≡ length ts → more ≡ ts ++ node f.production
    (values_in ts (drop (length b.values.items - count) b.values.items)) ∷ []
    → c.values.items ≡ take (length b.values.items - count) b.values.items → c.places.items ≡ take f.start b.places.items
    → c.frames.items ≡ fs → AddsValue (Stored id) f.at c d
    → FindsUnknown ss (End ∷ events) c.faults.unknown → FindsWrong ss (End ∷ events) c.faults.wrong → Holds ss more (End ∷ events) d
ended ss ts more events b c d f fs id count p counted number grown values places frames adds unknown wrong =
    let xs = b.values.items in
    let z : length xs - count ≡ f.start =
    last_from f.start count xs (omega (arith, (sizes ss ts events xs b.places.items f fs p).0)) counted in
    let values' : c.values.items ≡ take f.start xs = values ∙ ap (λ n. take n xs) z in
    let grown' : more ≡ ts ++ node f.production (values_in ts (drop f.start xs)) ∷ [] =
    grown ∙ ap (λ n. ts ++ node f.production (values_in ts (drop n xs)) ∷ []) z in
    let s = shape_closed ss ts p.name p.place p.met p.outer xs b.places.items f (reverse fs) p.shape id number in
    let whole = with_argument (term (named p.name p.place (arguments_of p.met))) p.outer in
    let t : Shape ss more whole (take f.start xs ++ Stored id ∷ []) (take f.start b.places.items ++ f.at ∷ []) (reverse fs) =
    subst (λ m. Shape ss m whole (take f.start xs ++ Stored id ∷ []) (take f.start b.places.items ++ f.at ∷ []) (reverse fs))
    (sym grown') s in
    let is : zipper (End ∷ events) ≡ whole = ap closed p.is in
    record {
      frames =
          subst (λ l. AreFrames ss (zipper (End ∷ events)) (reverse l)) (sym frames ∙ ap (λ v. v.items) (sym adds.frames))
          (subst (λ w. AreFrames ss w (reverse fs)) (sym is) t.framed);
      values =
          subst (λ l. AllZip (IsStored ss more) (all_met (zipper (End ∷ events))) l)
          (sym (adds.values ∙ ap (λ l. l ++ Stored id ∷ []) values'))
          (subst (λ w. AllZip (IsStored ss more) (all_met w) (take f.start xs ++ Stored id ∷ [])) (sym is) t.valued);
      places = ap (λ w. map place_of (all_met w)) is ∙ (t.placed ∙ sym (adds.places ∙ ap (λ l. l ++ f.at ∷ []) places));
      unknown = subst (λ g. FindsUnknown ss (End ∷ events) g.unknown) (sym adds.faults) unknown;
      wrong = subst (λ g. FindsWrong ss (End ∷ events) g.wrong) (sym adds.faults) wrong;
    }

-- the children are trees of the store
pub children_within : (ss : List Signature) (ts : List Tree) (events : List Event) (values : List Value) (places : List ℕ) (f : Frame)
    (fs : List Frame) (count : ℕ)
    → Popped ss ts events values places f fs → count ≡ length values - f.start
    → All (IsIn (length ts)) (drop (length values - count) values)
children_within ss ts events values places f fs count p counted =
    let z : length values - count ≡ f.start =
    last_from f.start count values (omega (arith, (sizes ss ts events values places f fs p).0)) counted in
    let i = innermost_shape ss ts p.name p.place p.met p.outer values places f (reverse fs) p.shape in
    subst (λ n. All (IsIn (length ts)) (drop n values)) (sym z)
    (zip_all (IsStored ss ts) (IsIn (length ts)) (λ a x s. s.within) p.met (drop f.start values) i.valued)

-- the node is built, where there was memory
pub ended_ok : {X E : Type 0} (ss : List Signature) (ts more : List Tree) (b c d : Builder) (f : Frame) (fs : List Frame) (id : TreeId)
    (count : ℕ) (r : Result X E)
    → b.frames.items ≡ fs ++ f ∷ []
    → count ≡ length b.values.items - f.start → id.0 ≡ length ts → more ≡ ts ++ node f.production
    (values_in ts (drop (length b.values.items - count) b.values.items)) ∷ []
    → c.values.items ≡ take (length b.values.items - count) b.values.items → c.places.items ≡ take f.start b.places.items
    → c.frames.items ≡ fs → OnOk r (AddsValue (Stored id) f.at c d)
    → ((events : List Event) (name : List ℕ) (arguments : List Argument) (outer : Zipper)
    → zipper events ≡ inside name f.at arguments outer → IsNumberOf ss name f.production
    → AllZip (IsStored ss ts) arguments (drop f.start b.values.items) → map place_of arguments ≡ drop f.start b.places.items
    → FindsUnknown ss events b.faults.unknown → FindsWrong ss events b.faults.wrong
    → FindsUnknown ss (End ∷ events) c.faults.unknown × FindsWrong ss (End ∷ events) c.faults.wrong)
    → OnOk r ((events : List Event) → Holds ss ts events b → Holds ss more (End ∷ events) d)
ended_ok ss ts more b c d f fs id count (Err x) frame counted number grown values places frames adds faults = tt
ended_ok ss ts more b c d f fs id count (Ok x) frame counted number grown values places frames adds faults = λ events h.
    let p = popped ss ts events b f fs frame h in
    let i = innermost_shape ss ts p.name p.place p.met p.outer b.values.items b.places.items f (reverse fs) p.shape in
    let both =
    faults events p.name p.met p.outer (p.is ∙ ap (λ n. inside p.name n p.met p.outer)
    (sym i.here)) i.number i.valued i.placed h.unknown h.wrong in
    ended ss ts more events b c d f fs id count p counted number grown values places frames adds both.0 both.1

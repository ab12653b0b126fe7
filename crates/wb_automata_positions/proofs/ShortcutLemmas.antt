-- A machine whose steps are left out as entries say is one for the same expressions.
use Rattle.std.proofs.Common.{◌≡◌, ℕ, ◌+◌, ◌<◌, List, [], ◌∷◌, refl, sym, ◌∙◌, ap, subst, arith, inl, inr, Some, length}
use Rattle.std.proofs.Common.{get_or, Vec, Global}
use Rattle.std.specs.Prelude.{slice_get}
use Rattle.std.proofs.lemmas.Option.{same_Some, slice_get_within}
use Rattle.wb_lemmas.proofs.Places.{at_within}
use Rattle.wb_automata_positions.specs.declared.places.Place.{Place}
use Rattle.wb_automata_positions.specs.declared.places.Place.TheVariants as p
use Rattle.wb_automata_positions.specs.Places.{ArePlacesBelow, GoesBelow, GoesOn, ReadsTo, Runs, ended, moves, reads}
use Rattle.wb_automata_positions.specs.Inner.Machines.{AreNextBelow}
use Rattle.wb_automata_positions.specs.Inner.Shortcuts.{AreMoved, AreRetargeted, IsPrepared, IsShorter, Waits, retargeted}

-- where a step to an entry came from
goes_from : (entry : List ℕ) (place : Place) (q : ℕ) → GoesOn (retargeted entry place) q → (t : ℕ) × GoesOn place t × (q ≡ get_or entry t 0)
goes_from entry (p.Read words next) q h = absurd h
goes_from entry (p.Go next) q h = (next, refl, h)
goes_from entry (p.Fork next other) q (inl h) = (next, inl refl, h)
goes_from entry (p.Fork next other) q (inr h) = (other, inr refl, h)
goes_from entry (p.End number) q h = absurd h

reads_from : (entry : List ℕ) (place : Place) (b q : ℕ) → ReadsTo (retargeted entry place) b q
    → (t : ℕ) × ReadsTo place b t × (q ≡ get_or entry t 0)
reads_from entry (p.Read words next) b q (h, e) = (next, (h, refl), e)
reads_from entry (p.Go next) b q h = absurd h
reads_from entry (p.Fork next other) b q h = absurd h
reads_from entry (p.End number) b q h = absurd h

-- and where a step goes with entries
goes_to : (entry : List ℕ) (place : Place) (t : ℕ) → GoesOn place t → GoesOn (retargeted entry place) (get_or entry t 0)
goes_to entry (p.Read words next) t h = absurd h
goes_to entry (p.Go next) t h = ap (λ z. get_or entry z 0) h
goes_to entry (p.Fork next other) t (inl h) = inl (ap (λ z. get_or entry z 0) h)
goes_to entry (p.Fork next other) t (inr h) = inr (ap (λ z. get_or entry z 0) h)
goes_to entry (p.End number) t h = absurd h

reads_to : (entry : List ℕ) (place : Place) (b t : ℕ) → ReadsTo place b t → ReadsTo (retargeted entry place) b (get_or entry t 0)
reads_to entry (p.Read words next) b t (h, e) = (h, ap (λ z. get_or entry z 0) e)
reads_to entry (p.Go next) b t h = absurd h
reads_to entry (p.Fork next other) b t h = absurd h
reads_to entry (p.End number) b t h = absurd h

end_from : (entry : List ℕ) (place : Place) (k : ℕ) → retargeted entry place ≡ p.End k → place ≡ p.End k
end_from entry (p.Read words next) k e = absurd (differ e)
  where
    differ : p.Read words (get_or entry next 0) ≡ p.End k → ⊥
    differ e = cc
end_from entry (p.Go next) k e = absurd (differ e)
  where
    differ : p.Go (get_or entry next 0) ≡ p.End k → ⊥
    differ e = cc
end_from entry (p.Fork next other) k e = absurd (differ e)
  where
    differ : p.Fork (get_or entry next 0) (get_or entry other 0) ≡ p.End k → ⊥
    differ e = cc
end_from entry (p.End number) k e = e

reads_wait : (place : Place) (b q : ℕ) → ReadsTo place b q → Waits place
reads_wait (p.Read words next) b q h = tt
reads_wait (p.Go next) b q h = absurd h
reads_wait (p.Fork next other) b q h = absurd h
reads_wait (p.End number) b q h = absurd h

pub goes_on_below : (m : ℕ) (place : Place) (q : ℕ) → GoesBelow m place → GoesOn place q → q < m
goes_on_below m (p.Read words next) q lt h = absurd h
goes_on_below m (p.Go next) q lt h = omega arith
goes_on_below m (p.Fork next other) q (lt, lt') (inl h) = omega arith
goes_on_below m (p.Fork next other) q (lt, lt') (inr h) = omega arith
goes_on_below m (p.End number) q lt h = absurd h

reads_on_below : (m : ℕ) (place : Place) (b q : ℕ) → GoesBelow m place → ReadsTo place b q → q < m
reads_on_below m (p.Read words next) b q lt (h, e) = omega arith
reads_on_below m (p.Go next) b q lt h = absurd h
reads_on_below m (p.Fork next other) b q lt h = absurd h
reads_on_below m (p.End number) b q lt h = absurd h

retargeted_below : (m n : ℕ) (entry : List ℕ) (place : Place) → ((i : ℕ) → i < n → get_or entry i 0 < m) → GoesBelow n place
    → GoesBelow m (retargeted entry place)
retargeted_below m n entry (p.Read words next) below lt = below next lt
retargeted_below m n entry (p.Go next) below lt = below next lt
retargeted_below m n entry (p.Fork next other) below (lt, lt') = (below next lt, below other lt')
retargeted_below m n entry (p.End number) below lt = tt

module _ (old now new : List Place) (entry : List ℕ) (h : IsPrepared old now entry) (r : AreRetargeted now entry new (length now)) where
  abbrev e : ℕ → ℕ
  e i = get_or entry i 0

  -- what is at a place came from what was there
  pub record From (i : ℕ) (place : Place) : Type 0 where
    pub before : Place
    pub at : slice_get now i ≡ Some before
    pub is : retargeted entry before ≡ place

  from : (i : ℕ) (place : Place) → slice_get new i ≡ Some place → From i place
  from i place at =
      let lt : i < length now = omega (arith, slice_get_within new i place at, r.len) in
      let (before, was) = at_within now i lt in
      record { before = before; at = was; is = same_Some (retargeted entry before) place (sym (r.done i before lt was) ∙ at) }

  there : (i : ℕ) (place : Place) → slice_get now i ≡ Some place → slice_get new i ≡ Some (retargeted entry place)
  there i place at = r.done i place (slice_get_within now i place at) at

  pub below : ArePlacesBelow new
  below i place at =
      let f = from i place at in
      subst (GoesBelow (length new)) f.is
      (retargeted_below (length new) (length now) entry f.before
      (λ j lt. omega (arith, h.entry_below j (omega (arith, h.len)), h.len, r.len))
      (h.below i f.before f.at))

  end_before : (i k : ℕ) → slice_get new i ≡ Some (p.End k) → slice_get old i ≡ Some (p.End k)
  end_before i k at =
      let f = from i (p.End k) at in
      let was = end_from entry f.before k f.is in
      h.waits i (p.End k) (f.at ∙ ap Some was) tt

  -- a step of the new machine, by what led on in the old one
  move_back : (i q k : ℕ) (x : List ℕ) (place : Place) → slice_get new i ≡ Some place → GoesOn place q → Runs old q k x → Runs old i k x
  move_back i q k x place at goes run =
      let f = from i place at in
      let (t, on, same) = goes_from entry f.before q (subst (λ z. GoesOn z q) (sym f.is) goes) in
      let lt : t < length old = omega (arith, goes_on_below (length now) f.before t (h.below i f.before f.at) on, h.len) in
      h.moves i t (record { place = f.before; at = f.at; goes = on }) k x (h.same t lt k x (subst (λ z. Runs old z k x) same run))

  read_back : (i b q k : ℕ) (x : List ℕ) (place : Place) → slice_get new i ≡ Some place → ReadsTo place b q → Runs old q k x
      → Runs old i k (b ∷ x)
  read_back i b q k x place at goes run =
      let f = from i place at in
      let (t, on, same) = reads_from entry f.before b q (subst (λ z. ReadsTo z b q) (sym f.is) goes) in
      let lt : t < length old = omega (arith, reads_on_below (length now) f.before b t (h.below i f.before f.at) on, h.len) in
      reads f.before b t (h.waits i f.before f.at (reads_wait f.before b t on)) on
      (h.same t lt k x (subst (λ z. Runs old z k x) same run)) refl

  pub sound : {i k : ℕ} {x : List ℕ} → Runs new i k x → Runs old i k x
  sound {i} {k} {x} (ended at f) = ended (end_before i k at) f
  sound {i} {k} {x} (reads {rest = rest} place b q at goes run f) =
      subst (Runs old i k) (sym f) (read_back i b q k rest place at goes (sound run))
  sound {i} {k} {x} (moves place q at goes run) = move_back i q k x place at goes (sound run)

  end_on : (i k : ℕ) (x : List ℕ) → slice_get old i ≡ Some (p.End k) → x ≡ [] → Runs new (e i) k x
  end_on i k x at f =
      let (own, here) = h.kept i (p.End k) at tt in
      subst (λ z. Runs new z k x) (sym own) (ended (there i (p.End k) here) f)

  read_on : (i b q k : ℕ) (x rest : List ℕ) (place : Place) → slice_get old i ≡ Some place → ReadsTo place b q → Runs new (e q) k rest
      → x ≡ b ∷ rest → Runs new (e i) k x
  read_on i b q k x rest place at goes run f =
      let (own, here) = h.kept i place at (reads_wait place b q goes) in
      subst (λ z. Runs new z k x) (sym own)
      (reads (retargeted entry place) b (e q) (there i place here) (reads_to entry place b q goes) run f)

  move_on : (i q k : ℕ) (x : List ℕ) (place : Place) → slice_get old i ≡ Some place → GoesOn place q → Runs new (e q) k x
      → Runs new (e i) k x
  move_on i q k x place at goes run = elim (h.steps i q (record { place = place; at = at; goes = goes })) [
    | inl same ↦ subst (λ z. Runs new z k x) same run
    | inr m ↦ moves (retargeted entry m.place) (e q) (there (e i) m.place m.at) (goes_to entry m.place q m.goes) run
  ]

  pub complete : {i k : ℕ} {x : List ℕ} → Runs old i k x → Runs new (e i) k x
  complete {i} {k} {x} (ended at f) = end_on i k x at f
  complete {i} {k} {x} (reads {rest = rest} place b q at goes run f) = read_on i b q k x rest place at goes (complete run) f
  complete {i} {k} {x} (moves place q at goes run) = move_on i q k x place at goes (complete run)

-- the machine with other starts
pub shorter : (old : Vec Place Global) (now : List Place) (new : Vec Place Global) (entry : List ℕ) (starts starts' : Vec ℕ Global)
    → IsPrepared old.items now entry → AreRetargeted now entry new.items (length now)
    → AreMoved starts.items entry starts'.items (length starts.items) → IsShorter old starts new starts'
shorter old now new entry starts starts' h r s trees first_end m =
    let start : (k : ℕ) → k < length trees → get_or starts'.items k 0 ≡ get_or entry (get_or starts.items k 0) 0 =
    λ k lt. s.done k (omega (arith, m.starts_len)) in
    let back : (k l : ℕ) (x : List ℕ) → k < length trees → Runs new.items (get_or starts'.items k 0) l x
    → Runs old.items (get_or starts.items k 0) l x =
    λ k l x lt run. h.same (get_or starts.items k 0) (m.starts_below k lt) l x
    (sound old.items now new.items entry h r (subst (λ z. Runs new.items z l x) (start k lt) run)) in
    let long : length new.items ≡ length old.items = r.len ∙ h.len in
    record {
      below = below old.items now new.items entry h r;
      starts_len = s.len ∙ m.starts_len;
      starts_below = λ k lt. omega (arith, start k lt, h.entry_below (get_or starts.items k 0) (m.starts_below k lt), long);
      ends_fit = m.ends_fit ∙ sym long;
      ends = λ k lt. end_stays (first_end + k) k (m.ends k lt);
      only_ends = λ i k at. m.only_ends i k (end_before old.items now new.items entry h r i k at);
      own = λ k l x lt run. m.own k l x lt (back k l x lt run);
      sound = λ k tree x at run. m.sound k tree x at (back k k x (slice_get_within trees k tree at) run);
      complete = λ k tree x at match. let lt = slice_get_within trees k tree at in
          subst (λ z. Runs new.items z k x) (sym (start k lt)) (complete old.items now new.items entry h r (m.complete k tree x at match));
    }
  where
    end_stays : (i k : ℕ) → slice_get old.items i ≡ Some (p.End k) → slice_get new.items i ≡ Some (p.End k)
    end_stays i k at =
        let (own, here) = h.kept i (p.End k) at tt in r.done i (p.End k) (slice_get_within now i (p.End k) here) here

-- starts stay below the count
pub starts_stay : (m n : ℕ) (old entry new : List ℕ) → ((i : ℕ) → i < n → get_or entry i 0 < m) → AreNextBelow n old
    → AreMoved old entry new (length old) → AreNextBelow m new
starts_stay m n old entry new below starts s k lt =
    let lt' : k < length old = omega (arith, s.len) in
    omega (arith, s.done k lt', below (get_or old k 0) (starts k lt'))

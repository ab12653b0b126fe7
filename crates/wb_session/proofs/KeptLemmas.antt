-- Checkpoints that stay, over more entries and over an edit.
use Rattle.std.proofs.Common.{◌≡◌, ◌<◌, ◌≤◌, ◌+◌, ◌-◌, ℕ, List, [], ◌∷◌, ◌++◌, length, take, drop, refl, sym, ◌∙◌, ap, subst, inl}
use Rattle.std.proofs.Common.{inr, arith, length-append}
use Rattle.std.specs.Prelude.{Some, slice_get}
use Rattle.std.proofs.lemmas.List.{length-take-le, length-drop, take-append-le, take-take, take_all}
use Rattle.std.proofs.lemmas.Option.{slice_get_within, same_Some}
use Rattle.wb_lemmas.proofs.Places.{at_take, at_push, push_last, push_before, at_one}
use Rattle.wb_grammar_theory.specs.Trees.{nothing, leaves, symbols}
use Rattle.wb_values.specs.Tree.{Tree, empty, more, tree}
use Rattle.wb_values.specs.ValuesIn.{tree_in}
use Rattle.wb_values.proofs.CallerLemmas.{tree_in_more}
use Rattle.wb_scan_theory.specs.Languages.{LanguageView}
use Rattle.wb_scan_theory.specs.Facts.{IsLanguage}
use Rattle.wb_scan_theory.specs.Shown.{Shows, values_of}
use Rattle.wb_scan_theory.proofs.TextLemmas.{one_tree, one_stop, not_both}
use Rattle.wb_scan_theory.proofs.ShownLemmas.{tree_fits}
use Rattle.wb_scan.specs.Views.{LanguageParts}
use Rattle.wb_values.specs.declared.value.Value.{Value}
use Rattle.wb_session.specs.declared.stacks.Entry.{Entry}
use Rattle.wb_parser.specs.declared.parsed.Parsed.{Parsed}
use Rattle.wb_parser.specs.declared.parsed.Parsed.TheVariants as parsed
use Rattle.wb_parser.specs.Parses.{Extends, IsParsed, FitsSignatures}
use Rattle.wb_parser.proofs.ExtendLemmas.{extends_length}
use Rattle.wb_session_theory.specs.Edits.{edited}
use Rattle.wb_session_theory.specs.Runs.{stays}
use Rattle.wb_session_theory.proofs.ReadLemmas.{reads_kept}
use Rattle.wb_session_theory.proofs.SessionLemmas.{edit_before}
use Rattle.wb_session.specs.declared.checkpoint.Checkpoint.{Checkpoint}
use Rattle.wb_session.specs.declared.place.LeafPlace.{LeafPlace}
use Rattle.wb_session.specs.Places.{KeepsPlaces}
use Rattle.wb_session.specs.Sessions.{IsSameAnswer}
use Rattle.wb_session.specs.Stacks.{Roots, bottom, IsSound}
use Rattle.wb_session.specs.Kept.{IsKept, AreRising, AreCheckpoints}
use Rattle.wb_session.specs.Inner.Steps.{Grows}
use Rattle.wb_session.proofs.PlaceLemmas.{scanned_kept}
use Rattle.wb_session.proofs.StackLemmas.{cut_at, length_begins, sound_cut, stack_more, stack_cut, leads_within}

module _ (parts : LanguageParts) (source : List ℕ) where
  pub kept_more : {roots roots' : Roots} {places : List LeafPlace} → IsSound parts roots → Grows parts roots roots' →
      {point : Checkpoint} → IsKept parts source roots places point → IsKept parts source roots' places point
  kept_more sound grows k = record {
    stack = k.stack;
    is = stack_more parts sound grows k.is;
    reads = k.reads;
    laid = k.laid;
    before = k.before;
    within = k.within;
  }

  kept_cut : {roots : Roots} {places : List LeafPlace} (n : ℕ) {point : Checkpoint} → point.link ≤ n →
      IsKept parts source roots places point → IsKept parts source (cut_at n roots) places point
  kept_cut n le k = record {
    stack = k.stack;
    is = stack_cut parts n le k.is;
    reads = k.reads;
    laid = k.laid;
    before = k.before;
    within = k.within;
  }

  -- the link of a checkpoint is that of an entry
  pub kept_within : {roots : Roots} {places : List LeafPlace} {point : Checkpoint} → IsKept parts source roots places point →
      point.link ≤ length roots.entries
  kept_within k = leads_within k.is.leads

  -- more entries, values and trees
  pub checkpoints_more : {roots roots' : Roots} {places : List LeafPlace} {points : List Checkpoint} → IsSound parts roots →
      Grows parts roots roots' → AreCheckpoints parts source roots places points → AreCheckpoints parts source roots' places points
  checkpoints_more sound grows are = record {
    begins = are.begins;
    rising = are.rising;
    few = are.few;
    each = λ i point at. kept_more sound grows (are.each i point at);
  }

  -- the first checkpoint
  pub checkpoints_start : {roots : Roots} (places : List LeafPlace) (points : List Checkpoint) →
      points ≡ (record { at = 0; reach = 0; link = 0 }) ∷ [] → AreCheckpoints parts source roots places points
  checkpoints_start {roots} places points is = subst (AreCheckpoints parts source roots places) (sym is) (record {
    few = omega arith;
    begins = record { some = omega arith; first = λ point at. ap (λ (z : Checkpoint). z.reach) (sym (same_Some start point at)) };
    rising = λ i j x y le a b.
        (let p = (at_one start x i a).1 in
        let q = (at_one start y j b).1 in
        subst (λ (z : Checkpoint). (z.reach ≤ y.reach) × (z.link ≤ y.link)) p
        (subst (λ (z : Checkpoint). (0 ≤ z.reach) × (0 ≤ z.link)) q (omega arith, omega arith)));
    each = λ i point at. subst (λ n. IsKept parts source roots (take n places) point) (sym ((at_one start point i at).0))
        (subst (IsKept parts source roots []) ((at_one start point i at).1) (record {
          laid = (refl, refl);
          stack = nothing;
          is = record { states = []; vs = []; leads = bottom refl refl; states_are = tt; values_are = refl };
          reads = stays refl refl;
          before = omega arith;
          within = omega arith;
        }));
  })
    where
      start : Checkpoint
      start = record { at = 0; reach = 0; link = 0 }

  -- one more checkpoint
  pub checkpoints_push : {roots : Roots} {places places' : List LeafPlace} {points points' : List Checkpoint} (place : LeafPlace)
      (from next : Checkpoint) → places' ≡ places ++ place ∷ [] → points' ≡ points ++ next ∷ [] → length places + 1 ≡ length points →
      slice_get points (length points - 1) ≡ Some from → from.reach ≤ next.reach → from.link ≤ next.link →
      IsKept parts source roots (places ++ place ∷ []) next → AreCheckpoints parts source roots places points →
      AreCheckpoints parts source roots places' points'
  checkpoints_push {roots} {places} {places'} {points} {points'} place from next place_is is all last_is reach_le link_le k are =
      subst (λ z. AreCheckpoints parts source roots z points') (sym place_is)
      (subst (AreCheckpoints parts source roots (places ++ place ∷ [])) (sym is) (record {
        few = let h = length-append points (next ∷ []) in let h' = length-append places (place ∷ []) in omega (arith, h, h', all);
        begins = record {
          some = let h = length-append points (next ∷ []) in omega (arith, h);
          first = λ point at. are.begins.first point (sym (push_before points next 0 are.begins.some) ∙ at);
        };
        rising = rising;
        each = λ i point at. elim (at_push points next point i at) [
          | inl old ↦ (let lt : i < length points = slice_get_within points i point old in
              subst (λ z. IsKept parts source roots z point)
              (sym (take-append-le i places (place ∷ []) (omega (arith, lt, all)))) (are.each i point old))
          | inr (number, e) ↦ (let h = length-append places (place ∷ []) in
              subst (λ z. IsKept parts source roots z point) (sym (take_all i (places ++ place ∷ []) (omega (arith, h, all, number))))
              (subst (IsKept parts source roots (places ++ place ∷ [])) e k))
        ];
      }))
    where
      up : (i : ℕ) (x : Checkpoint) → slice_get points i ≡ Some x → (x.reach ≤ next.reach) × (x.link ≤ next.link)
      up i x a =
          let lt : i < length points = slice_get_within points i x a in
          let h = are.rising i (length points - 1) x from (omega arith) a last_is in
          let h0 : x.reach ≤ from.reach = h.0 in
          let h1 : x.link ≤ from.link = h.1 in (omega arith, omega arith)

      rising : AreRising (points ++ next ∷ [])
      rising i j x y le a b = elim (at_push points next y j b) [
        | inl b' ↦ (let lt : j < length points = slice_get_within points j y b' in
            are.rising i j x y le (sym (push_before points next i (omega arith)) ∙ a) b')
        | inr (place, e) ↦ elim (at_push points next x i a) [
          | inl a' ↦ subst (λ (z : Checkpoint). (x.reach ≤ z.reach) × (x.link ≤ z.link)) e (up i x a')
          | inr (place', e') ↦ subst (λ (z : Checkpoint). (x.reach ≤ z.reach) × (x.link ≤ z.link)) (sym e' ∙ e)
              (omega arith, omega arith)
        ]
      ]

  -- the checkpoints up to one of them, with the entries of its stack
  pub checkpoints_cut : {roots : Roots} {places : List LeafPlace} {points : List Checkpoint} (place : ℕ) (point : Checkpoint) →
      slice_get points place ≡ Some point → AreCheckpoints parts source roots places points →
      AreCheckpoints parts source (cut_at point.link roots) places (take (place + 1) points)
  checkpoints_cut {roots} {places} {points} place point here are =
      let lt : place < length points = slice_get_within points place point here in
      record {
        few = let h = length-take-le (place + 1) points (omega arith) in let few = are.few in omega (arith, h, few, lt);
        begins = record {
          some = let h = length-take-le (place + 1) points (omega arith) in omega (arith, h);
          first = λ x at. are.begins.first x ((at_take points (place + 1) 0 x at).1);
        };
        rising = λ i j x y le a b.
            are.rising i j x y le ((at_take points (place + 1) i x a).1) ((at_take points (place + 1) j y b).1);
        each = λ i x at.
            (let (below, at') = at_take points (place + 1) i x at in
            let le : i ≤ place = omega (arith, below) in
            kept_cut point.link ((are.rising i place x point le at' here).1) (are.each i x at'));
      }

-- the places of the leaves before the last checkpoint are enough
pub checkpoints_first : (parts : LanguageParts) (source : List ℕ) (roots : Roots) (places first : List LeafPlace)
    (points : List Checkpoint) → first ≡ take (length points - 1) places → AreCheckpoints parts source roots places points →
    AreCheckpoints parts source roots first points
checkpoints_first parts source roots places first points is are = subst (λ z. AreCheckpoints parts source roots z points) (sym is) (record {
  begins = are.begins;
  rising = are.rising;
  few = let few = are.few in let h = length-take-le (length points - 1) places (omega (arith, few)) in omega (arith, h);
  each = λ i point at.
      (let lt : i < length points = slice_get_within points i point at in
      subst (λ z. IsKept parts source roots z point) (sym (take-take i (length points - 1) places (omega (arith, lt))))
      (are.each i point at));
})

-- before an edit a checkpoint is one of the text after it
pub kept_edit : {parts : LanguageParts} {roots : Roots} {places : List LeafPlace} (text bytes : List ℕ) (from to : ℕ) → from ≤ to →
    to ≤ length text → {point : Checkpoint} → point.reach ≤ from → IsKept parts text roots places point →
    IsKept parts (edited text from to bytes) roots places point
kept_edit {parts} {places = places} text bytes from to order within {point} le k =
    let le' : point.at ≤ from = let h : point.at ≤ point.reach = k.before in omega (arith, h) in
    let a : length (take from text) ≡ from = length-take-le from text (omega arith) in
    let b = length-append (take from text ++ bytes) (drop to text) in
    let d = length-append (take from text) bytes in
    record {
      stack = k.stack;
      is = k.is;
      reads = reads_kept k.reads (edit_before text bytes from to order within point.reach le);
      laid = scanned_kept parts.language text (edited text from to bytes) point.reach (leaves [] k.stack) places [] (symbols k.stack) 0
          point.at
          (edit_before text bytes from to order within point.reach le) k.laid;
      before = k.before;
      within = omega (arith, a, b, d, le');
    }

pub checkpoints_edit : (parts : LanguageParts) (roots : Roots) (text bytes : List ℕ) (from to : ℕ) → from ≤ to → to ≤ length text →
    (places : List LeafPlace) (points : List Checkpoint) →
    ((i : ℕ) (point : Checkpoint) → slice_get points i ≡ Some point → point.reach ≤ from) →
    AreCheckpoints parts text roots places points → AreCheckpoints parts (edited text from to bytes) roots places points
checkpoints_edit parts roots text bytes from to order within places points before are = record {
  few = are.few;
  begins = are.begins;
  rising = are.rising;
  each = λ i point at. kept_edit text bytes from to order within (before i point at) (are.each i point at);
}

-- an answer stays so among more trees
pub parsed_more : (l : LanguageView) (source : List ℕ) (trees trees' : List Tree) (answer : Parsed) → Extends trees trees' →
    IsParsed l source trees answer → IsParsed l source trees' answer
parsed_more l source trees trees' (parsed.Tree id) extends is = record {
  held = let h = extends_length trees trees' extends in let g : id.0 < length trees = is.held in omega (arith, g, h);
  tree = is.tree;
  parses = is.parses;
  shows = subst (λ z. Shows z is.tree) (sym same) is.shows;
}
  where
    same : tree_in trees' id.0 ≡ tree_in trees id.0
    same = ap (λ z. tree_in z id.0) (sym (Rattle.std.proofs.lemmas.List.take-append-drop (length trees) trees')
        ∙ ap (λ z. z ++ drop (length trees) trees') extends) ∙ tree_in_more trees (drop (length trees) trees') id.0 is.held
parsed_more l source trees trees' (parsed.Stopped at kind) extends is = is

-- entries, values and trees, one by one
abbrev pub roots_with : List Entry → List Value → List Tree → Roots
roots_with es ws ts = record { entries = es; values = ws; trees = ts }

module _ (es : List Entry) (ws : List Value) (ts : List Tree) (points : List Checkpoint) (place : ℕ) (point : Checkpoint)
    (here : slice_get points place ≡ Some point) (es' : List Entry) (ws' : List Value) (ts' : List Tree) (points' : List Checkpoint)
    (points_are : points' ≡ take (place + 1) points) (es_are : es' ≡ take point.link es) (ws_are : ws' ≡ take point.link ws)
    (ts_are : ts' ≡ ts) where
  -- going back keeps the checkpoints up to that one
  pub went_back : (parts : LanguageParts) (source : List ℕ) (places : List LeafPlace) →
      AreCheckpoints parts source (roots_with es ws ts) places points → AreCheckpoints parts source (roots_with es' ws' ts') places points'
  went_back parts source places are =
      subst (AreCheckpoints parts source (roots_with es' ws' ts') places) (sym points_are)
      (subst (λ (r : Roots). AreCheckpoints parts source r places (take (place + 1) points))
      (λ k. roots_with (sym es_are k) (sym ws_are k) (sym ts_are k)) (checkpoints_cut parts source place point here are))

  pub sound_back : (parts : LanguageParts) → point.link ≤ length es → IsSound parts (roots_with es ws ts) →
      IsSound parts (roots_with es' ws' ts')
  sound_back parts le sound =
      subst (IsSound parts) (λ k. roots_with (sym es_are k) (sym ws_are k) (sym ts_are k)) (sound_cut parts point.link le sound)

  -- and for all of these nothing from the place on was looked at
  pub before_back : (from : ℕ) → AreRising points → point.reach ≤ from → (i : ℕ) (x : Checkpoint) → slice_get points' i ≡ Some x →
      x.reach ≤ from
  before_back from rising le i x at =
      let (below, at') = at_take points (place + 1) i x (subst (λ z. slice_get z i ≡ Some x) points_are at) in
      let h : x.reach ≤ point.reach = (rising i place x point (omega (arith, below)) at' here).0 in omega (arith, h, le)

-- the last checkpoint is one up to which nothing from the end on was looked at
pub last_kept : (parts : LanguageParts) (source : List ℕ) (roots : Roots) (places : List LeafPlace) (points : List Checkpoint)
    (point : Checkpoint) → length places + 1 ≡ length points → slice_get points (length points - 1) ≡ Some point →
    AreCheckpoints parts source roots places points → IsKept parts source roots places point
last_kept parts source roots places points point all at are =
    subst (λ z. IsKept parts source roots z point) (take_all (length points - 1) places (omega (arith, all)))
    (are.each (length points - 1) point at)

-- the checkpoint that was pushed is the last one
pub last_pushed : (points points' : List Checkpoint) (next : Checkpoint) → points' ≡ points ++ next ∷ [] →
    slice_get points' (length points' - 1) ≡ Some next
last_pushed points points' next is =
    let size : length points' - 1 ≡ length points = omega (arith, ap length is, length-append points (next ∷ [])) in
    subst (λ n. slice_get points' n ≡ Some next) (sym size)
    (subst (λ z. slice_get z (length points) ≡ Some next) (sym is) (push_last points next))

-- a tree that is the answer fits signatures that agree with the grammar
pub parsed_fits : (l : LanguageView) (source : List ℕ) (trees : List Tree) (answer : Parsed) → IsParsed l source trees answer →
    FitsSignatures l trees answer
parsed_fits l source trees (parsed.Tree id) is = λ signatures agrees.
    tree_fits signatures l.grammar agrees is.tree is.parses.is_tree (tree_in trees id.0) is.shows
parsed_fits l source trees (parsed.Stopped at kind) is = tt

-- a text has one answer
pub same_answer : (l : LanguageView) → IsLanguage l → (source : List ℕ) (trees trees' : List Tree) (answer answer' : Parsed) →
    IsParsed l source trees answer → IsParsed l source trees' answer' → IsSameAnswer trees answer trees' answer'
same_answer l ok source trees trees' (parsed.Tree id) (parsed.Tree id') one other =
    same_value (tree_in trees' id'.0) (tree_in trees id.0) (sym other.shows
    ∙ ap values_of (one_tree l ok source other.tree one.tree other.parses one.parses) ∙ one.shows)
  where
    same_value : (v w : Tree) → more (tree v) empty ≡ more (tree w) empty → v ≡ w
    same_value v w e = cc
same_answer l ok source trees trees' (parsed.Tree id) (parsed.Stopped at kind) one other =
    not_both l ok source one.tree at kind one.parses other
same_answer l ok source trees trees' (parsed.Stopped at kind) (parsed.Tree id) one other =
    not_both l ok source other.tree at kind other.parses one
same_answer l ok source trees trees' (parsed.Stopped at kind) (parsed.Stopped at' kind') one other =
    one_stop l ok source at' at kind' kind other one

-- the places that a longer list begins with
pub kept_places : (count : ℕ) (places first places' : List LeafPlace) → count ≤ length places → first ≡ take count places →
    take (length first) places' ≡ first → KeepsPlaces count places places'
kept_places count places first places' le is begins =
    let size : length first ≡ count = ap length is ∙ length-take-le count places le in
    record {
      before = le;
      after = let h = length_begins first places' begins in omega (arith, h, size);
      same = ap (λ n. take n places') (sym size) ∙ (begins ∙ is);
    }

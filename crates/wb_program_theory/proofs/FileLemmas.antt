-- Extensions that pass their checks in one order pass them in every other, with their values in that order.
use Rattle.std.proofs.Common.{◌≡◌, ◌≤◌, ◌∙◌, ◌++◌, ◌∷◌, [], ℕ, zero, suc, List, Option, Some, None, Contains, length, slice_get}
use Rattle.std.proofs.Common.{slice_index_or, ◌⊎◌, inl, inr, ap, sym, refl, subst, arith}
use Rattle.std.proofs.lemmas.List.{append_assoc, append-nil, length-map, map-append}
use Rattle.std.proofs.lemmas.Option.{same_Some, slice_get_within}
use Rattle.wb_base.specs.Different.{Differ}
use Rattle.wb_eval_theory.proofs.CountLemmas.{no_more}
use Rattle.wb_certify_files.specs.ExtensionContents.{IsExtensionText}
use Rattle.wb_compose_texts.specs.Written.{name_in}
use Rattle.wb_lemmas.proofs.Members.{contains_at, place_of}
use Rattle.wb_lemmas.proofs.Places.{append_keeps, append_seam, at_once, at_push, nothing_at}
use Rattle.wb_operations.specs.Operations.{OperationSignature}
use Rattle.wb_reader.proofs.OneText.{one_text as one_read}
use Rattle.wb_compose_theory_order.specs.Orders.{IsReordering}
use Rattle.wb_compose_theory_order.proofs.NumberLemmas.{reordering_map}
use Rattle.wb_syntax_resolved.specs.declared.resolved.ResolvedParts.{ResolvedParts}
use Rattle.wb_syntax.specs.SpecText.{SpecView}
use Rattle.wb_world.specs.Shelf.{Files}
use Rattle.wb_program.specs.Files.{FileIs}
use Rattle.wb_program.specs.SeveralChecks.{AreEach, HasName, IsNextText, names_of}

-- a fact of a file that another follows from
pub file_is : (file : Option (List ℕ)) (P Q : List ℕ → Type 0) → ((contents : List ℕ) → P contents → Q contents) → FileIs file P → FileIs file Q
file_is None P Q weaker p = absurd p
file_is (Some contents) P Q weaker p = weaker contents p

-- a fact that doesn't speak of the contents
file_says : (file : Option (List ℕ)) (P : List ℕ → Type 0) (Q : Type 0) → ((contents : List ℕ) → P contents → Q) → FileIs file P → Q
file_says None P Q says p = absurd p
file_says (Some contents) P Q says p = says contents p

-- a list whose elements differ and one more that it doesn't contain
different_push : {X : Type 0} (xs : List X) (x : X) → Differ xs → ¬ Contains xs x → Differ (xs ++ x ∷ [])
different_push {X} xs x different new y i j first second = cases (at_push xs x y i first) (at_push xs x y j second) where
  cases : (slice_get xs i ≡ Some y) ⊎ ((i ≡ length xs) × (x ≡ y)) → (slice_get xs j ≡ Some y) ⊎ ((j ≡ length xs) × (x ≡ y)) → i ≡ j
  cases (inl a) (inl b) = different y i j a b
  cases (inl a) (inr b) = absurd (new (subst (λ z. Contains xs z) (sym b.1) (contains_at xs y i a)))
  cases (inr a) (inl b) = absurd (new (subst (λ z. Contains xs z) (sym a.1) (contains_at xs y j b)))
  cases (inr a) (inr b) = a.0 ∙ sym b.0

-- names of joined lists
names_joined : (xs ys : List ResolvedParts) → names_of (xs ++ ys) ≡ names_of xs ++ names_of ys
names_joined xs ys = map-append name_in xs ys

module _ (operations : List OperationSignature) (files : Files) (host : ResolvedParts) where
  -- the contents are a certified extension of this value, and have its name
  record IsOf (value : ResolvedParts) (contents : List ℕ) : Type 0 where
    named : HasName host contents (name_in value)
    text : IsExtensionText host operations contents value

  -- the file is that
  abbrev Holds : List ℕ → ResolvedParts → Type 0
  Holds file value = FileIs (files file) (IsOf value)

  -- each file has its value
  abbrev Hold : List (List ℕ) → List ResolvedParts → Type 0
  Hold [] values = values ≡ []
  Hold (file ∷ left) [] = ⊥
  Hold (file ∷ left) (value ∷ values) = Holds file value × Hold left values

  -- what is next has the name of its value
  is_of : (before : List ResolvedParts) (value : ResolvedParts) (contents : List ℕ) → IsNextText operations host before contents value
      → IsOf value contents × (¬ Contains (names_of before) (name_in value))
  is_of before value contents next =
      let spec : SpecView = next.named.spec in
      let same : next.text.stands.spec ≡ spec =
      one_read contents next.text.stands.spec spec next.text.stands.accepted.1 next.named.is.accepted.1 in
      let one : value.attributes.extensions ≡ next.text.stands.spec.name ∷ [] = next.text.stands.names.value.extensions in
      let name : name_in value ≡ spec.name =
      ap (λ (names : List (List ℕ)). slice_index_or names 0 []) one ∙ ap (λ (x : SpecView). x.name) same in (
        record { named = record { spec = spec; is = next.named.is; named = sym name }; text = next.text },
        subst (λ (z : List ℕ). ¬ Contains (names_of before) z) (sym next.named.named ∙ sym name) next.new,
      )

  -- all that come after some, with different names
  record AreAll (left : List (List ℕ)) (before values : List ResolvedParts) : Type 0 where
    later : List ResolvedParts
    are : values ≡ before ++ later
    hold : Hold left later
    differ : Differ (names_of values)

  all_are : (left : List (List ℕ)) (before values : List ResolvedParts) → Differ (names_of before)
      → AreEach operations (Some files) host left before values → AreAll left before values
  all_are [] before values differ is = record {
    later = [];
    are = is ∙ sym (append-nil before);
    hold = refl;
    differ = subst (λ (z : List ResolvedParts). Differ (names_of z)) (sym is) differ;
  }
  all_are (file ∷ left) before values differ (v, next, each) =
      let new : ¬ Contains (names_of before) (name_in v) = file_says (files file) (λ contents. IsNextText operations host before contents v)
      (¬ Contains (names_of before) (name_in v)) (λ contents p. (is_of before v contents p).1) next in
      let more : Differ (names_of (before ++ v ∷ [])) = subst (λ (z : List (List ℕ)). Differ z) (sym (names_joined before (v ∷ [])))
      (different_push (names_of before) (name_in v) differ new) in
      let rest : AreAll left (before ++ v ∷ []) values = all_are left (before ++ v ∷ []) values more each in
      record {
        later = v ∷ rest.later;
        are = rest.are ∙ append_assoc before (v ∷ []) rest.later;
        hold = (
          file_is (files file) (λ contents. IsNextText operations host before contents v) (IsOf v)
              (λ contents p. (is_of before v contents p).0) next,
          rest.hold,
        );
        differ = rest.differ;
      }

  -- those of all files have different names
  pub all_differ : (all : List (List ℕ)) (values : List ResolvedParts) → AreEach operations (Some files) host all [] values
      → Differ (names_of values)
  all_differ all values are = (all_are all [] values (λ x i j one two. absurd (nothing_at x i one)) are).differ

  -- and back
  each_is : (left : List (List ℕ)) (before later : List ResolvedParts) → Hold left later → Differ (names_of (before ++ later))
      → AreEach operations (Some files) host left before (before ++ later)
  each_is [] before later hold differ = ap (λ (z : List ResolvedParts). before ++ z) hold ∙ append-nil before
  each_is (file ∷ left) before [] hold differ = absurd hold
  each_is (file ∷ left) before (v ∷ later) hold differ = (
    v,
    file_is (files file) (IsOf v) (λ contents. IsNextText operations host before contents v)
        (λ contents p. record { name = name_in v; named = p.named; new = new; text = p.text }) hold.0,
    subst (λ (z : List ResolvedParts). AreEach operations (Some files) host left (before ++ v ∷ []) z) joined
        (each_is left (before ++ v ∷ []) later hold.1 (subst (λ (z : List ResolvedParts). Differ (names_of z)) (sym joined) differ)),
  )
    where
      joined : (before ++ v ∷ []) ++ later ≡ before ++ v ∷ later
      joined = append_assoc before (v ∷ []) later

      new : ¬ Contains (names_of before) (name_in v)
      new has =
          let (i, at) = place_of (names_of before) (name_in v) has in
          let all : names_of (before ++ v ∷ later) ≡ names_of before ++ name_in v ∷ names_of later = names_joined before (v ∷ later) in
          let here = append_keeps (names_of before) (name_in v ∷ names_of later) i (name_in v) at in
          let there = append_seam (names_of before) (name_in v) (names_of later) in
          let same : i ≡ length (names_of before) = differ (name_in v) i (length (names_of before))
          (ap (λ z. slice_get z i) all ∙ here) (ap (λ z. slice_get z (length (names_of before))) all ∙ there) in
          let within = slice_get_within (names_of before) i (name_in v) at in
          omega (arith, same, within)

  -- the value of the file at a place
  held_at : (left : List (List ℕ)) (values : List ResolvedParts) (k : ℕ) (file : List ℕ) → Hold left values → slice_get left k ≡ Some file
      → (v : ResolvedParts) × (slice_get values k ≡ Some v) × Holds file v
  held_at [] values k file hold at = absurd (nothing_at file k at)
  held_at (first ∷ left) [] k file hold at = absurd hold
  held_at (first ∷ left) (v ∷ values) zero file hold at =
      (v, refl, subst (λ (z : List ℕ). Holds z v) (same_Some first file at) hold.0)
  held_at (first ∷ left) (v ∷ values) (suc k) file hold at = held_at left values k file hold.1 at

  -- the file of the value at a place
  file_at : (left : List (List ℕ)) (values : List ResolvedParts) (k : ℕ) (v : ResolvedParts) → Hold left values
      → slice_get values k ≡ Some v → (file : List ℕ) × (slice_get left k ≡ Some file)
  file_at [] values k v hold at = absurd (nothing_at v k (sym (ap (λ z. slice_get z k) hold) ∙ at))
  file_at (file ∷ left) [] k v hold at = absurd hold
  file_at (file ∷ left) (w ∷ values) zero v hold at = (file, refl)
  file_at (file ∷ left) (w ∷ values) (suc k) v hold at = file_at left values k v hold.1 at

  -- there are as many
  hold_len : (left : List (List ℕ)) (values : List ResolvedParts) → Hold left values → length values ≡ length left
  hold_len [] values hold = ap length hold
  hold_len (file ∷ left) [] hold = absurd hold
  hold_len (file ∷ left) (v ∷ values) hold = ap suc (hold_len left values hold.1)

  -- values by places of others
  record ArePicked (all : List ResolvedParts) (pick : ℕ → ℕ) (left : List (List ℕ)) : Type 0 where
    values : List ResolvedParts
    hold : Hold left values
    picked : (k : ℕ) (v : ResolvedParts) → slice_get values k ≡ Some v → slice_get all (pick k) ≡ Some v

  picked_more : (all values : List ResolvedParts) (pick : ℕ → ℕ) (first : ResolvedParts) → slice_get all (pick 0) ≡ Some first
      → ((k : ℕ) (v : ResolvedParts) → slice_get values k ≡ Some v → slice_get all (pick (suc k)) ≡ Some v) → (k : ℕ) (v : ResolvedParts)
      → slice_get (first ∷ values) k ≡ Some v → slice_get all (pick k) ≡ Some v
  picked_more all values pick first here later zero v at = here ∙ at
  picked_more all values pick first here later (suc k) v at = later k v at

  pick_each : (known : List (List ℕ)) (all : List ResolvedParts) → Hold known all → (left : List (List ℕ)) (pick : ℕ → ℕ)
      → ((k : ℕ) (file : List ℕ) → slice_get left k ≡ Some file → slice_get known (pick k) ≡ Some file) → ArePicked all pick left
  pick_each known all hold [] pick is = record { values = []; hold = refl; picked = λ k v at. absurd (nothing_at v k at) }
  pick_each known all hold (file ∷ left) pick is =
      let (v, at, holds) = held_at known all (pick 0) file hold (is 0 file refl) in
      let rest : ArePicked all (λ k. pick (suc k)) left = pick_each known all hold left (λ k. pick (suc k)) (λ k f at. is (suc k) f at) in
      record { values = v ∷ rest.values; hold = (holds, rest.hold); picked = picked_more all rest.values pick v at rest.picked }

  -- all in another order: they pass too, and their values are in that order; and there are no more
  pub record AreReordered (others : List (List ℕ)) (to from : ℕ → ℕ) (values : List ResolvedParts) : Type 0 where
    pub in_order : List ResolvedParts
    pub each : AreEach operations (Some files) host others [] in_order
    pub reordering : IsReordering to from values in_order

  module _ (all others : List (List ℕ)) (to from : ℕ → ℕ) (re : IsReordering to from all others) (values : List ResolvedParts)
      (are : AreEach operations (Some files) host all [] values) where
    ours : AreAll all [] values
    ours = all_are all [] values (λ x i j one two. absurd (nothing_at x i one)) are

    -- no two have one name
    pub names_differ : Differ (names_of values)
    names_differ = ours.differ

    mine : Hold all values
    mine = subst (λ (z : List ResolvedParts). Hold all z) (sym ours.are) ours.hold

    theirs : ArePicked values from others
    theirs = pick_each all values mine others from re.back

    there : (k : ℕ) (v : ResolvedParts) → slice_get values k ≡ Some v → slice_get theirs.values (to k) ≡ Some v
    there k v at =
        let (file, file_is_at) = file_at all values k v mine at in
        let (w, w_at, holds) = held_at others theirs.values (to k) file theirs.hold (re.there k file file_is_at) in
        let back : slice_get values k ≡ Some w = ap (slice_get values) (sym (re.undone k)) ∙ theirs.picked (to k) w w_at in
        w_at ∙ ap Some (at_once values k w v back at)

    values_re : IsReordering to from values theirs.values
    values_re = record { there = there; back = theirs.picked; undone = re.undone; redone = re.redone }

    names_re : IsReordering to from (names_of values) (names_of theirs.values)
    names_re = reordering_map name_in values_re

    differ : Differ (names_of theirs.values)
    differ x i j one two = sym (re.redone i)
        ∙ (ap to (ours.differ x (from i) (from j) (names_re.back i x one) (names_re.back j x two)) ∙ re.redone j)

    pub reordered_are : AreReordered others to from values
    reordered_are =
        record { in_order = theirs.values; each = each_is others [] theirs.values theirs.hold differ; reordering = values_re }

    -- there are as few
    pub no_fewer : length others ≤ length all
    no_fewer =
        let few = no_more (names_of theirs.values) (names_of values) differ (λ x has.
        let (i, at) = place_of (names_of theirs.values) x has in
        contains_at (names_of values) x (from i) (names_re.back i x at)) in
        let a = length-map theirs.values name_in in
        let b = length-map values name_in in
        let c = hold_len others theirs.values theirs.hold in
        let d = hold_len all values mine in
        omega (arith, few, a, b, c, d)

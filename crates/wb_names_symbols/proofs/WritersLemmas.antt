-- Places of the items that write on each production, with one item more.
use Rattle.std.proofs.Common.{◌≡◌, ◌≢◌, ◌<◌, ◌+◌, ◌++◌, ◌∷◌, inl, inr, [], ℕ, List, Option, Some, None, All, Contains, get_or, length}
use Rattle.std.proofs.Common.{map, set}
use Rattle.std.proofs.Common.{take, Vec, Global}
use Rattle.std.specs.Prelude.{option_map}
use Rattle.std.proofs.Common.{slice_get, ap, sym, refl, subst, ◌∙◌, arith, length-append, get_or-set_same, get_or-set_other}
use Rattle.std.proofs.lemmas.Bool.{cases_eq}
use Rattle.std.proofs.lemmas.List.{append-nil, length-map, length-set, get_or-map, map-append, map-set, take_more}
use Rattle.std.proofs.lemmas.List.Elements.{All-nil}
use Rattle.std.proofs.lemmas.Option.{slice_get_within, slice_get-get_or, slice_get-map, get_or_from_slice_get}
use Rattle.wb_lemmas.proofs.Elements.{all_from_contained, all_contained}
use Rattle.wb_lemmas.proofs.Members.{contains_at, contains_push, push_contains, push_contains_last}
use Rattle.wb_lemmas.proofs.Places.{at_once, nothing_at, push_before, push_last}
use Rattle.wb_lemmas.proofs.Places as spots
use Rattle.wb_base.specs.Different.{Differ}
use Rattle.wb_syntax.specs.declared.item.Item.{Item}
use Rattle.wb_syntax.specs.declared.pattern.Pattern.{Pattern}
use Rattle.wb_syntax.specs.Equations.{equations_of}
use Rattle.wb_names_theory.specs.Declarations.{Items}
use Rattle.wb_names_numbers_theory.specs.Files.{Block, block_of, equations_on}
use Rattle.wb_names_rows.specs.Blocks.{equations_at}
use Rattle.wb_names_symbols.specs.declared.writers.Writers.{Writers}
use Rattle.wb_names_symbols.specs.Writers.{lists_of, IsWrittenAt, AreWriters}
use Rattle.wb_names_symbols.specs.Inner.Writers.{AddsPlace, AddsBlock}
use Rattle.wb_names_symbols.proofs.WrittenLemmas.{on_push, block_on, block_same, block_other, equations_of_form, at_push}

-- the list at a place, with one element more
abbrev longer : List (List ℕ) → ℕ → ℕ → List ℕ
longer lists k place = get_or lists k [] ++ place ∷ []

module _ (all first : Items) (item : Item Pattern) where
  abbrev more : Items
  more = first ++ item ∷ []

  -- what is written on a production on which the item doesn't write
  unchanged : (name : List ℕ) → block_on name (block_of item.form) ≡ [] → equations_on name more ≡ equations_on name first
  unchanged name none =
      on_push name first item ∙ (ap (λ z. equations_on name first ++ z) none ∙ append-nil (equations_on name first))

  same_places : (name places : List ℕ) → block_on name (block_of item.form) ≡ [] → IsWrittenAt all first name places
      → IsWrittenAt all more name places
  same_places name places none is = record { within = is.within; equations = is.equations ∙ sym (unchanged name none) }

  -- an item that writes on no production
  pub no_block : (w : Writers) → block_of item.form ≡ None → AreWriters all first w → AreWriters all more w
  no_block w none are =
      let nothing : (name : List ℕ) → block_on name (block_of item.form) ≡ [] = λ name. ap (block_on name) none in
      record {
        len = are.len;
        differ = are.differ;
        listed = λ k name places at there. same_places name places (nothing name) (are.listed k name places at there);
        others = λ name new. unchanged name (nothing name) ∙ are.others name new;
      }

  module _ (place : ℕ) (b : Block) (at_place : slice_get all place ≡ Some item) (is : block_of item.form ≡ Some b) where
    other_block : (name : List ℕ) → name ≢ b.name → block_on name (block_of item.form) ≡ []
    other_block name other = ap (block_on name) is ∙ block_other name b (λ e. other (sym e))

    -- one place more for the name of the block
    one_more : (places : List ℕ) → All (λ (z : ℕ). z < length all) places → equations_at all places ≡ equations_on b.name first
        → IsWrittenAt all more b.name (places ++ place ∷ [])
    one_more places within so_far =
        let here : block_on b.name (block_of item.form) ≡ equations_of item.form =
        ap (block_on b.name) is ∙ (block_same b.name b refl ∙ sym (equations_of_form item.form b is)) in
        record {
          within = all_from_contained (λ (z : ℕ). z < length all) (places ++ place ∷ []) (λ z has. elim (contains_push places place z has) [
            | inl old ↦ all_contained (λ (z : ℕ). z < length all) places z within old
            | inr last ↦ subst (λ (z : ℕ). z < length all) last (slice_get_within all place item at_place)
          ]);
          equations = at_push all places place item at_place
              ∙ (ap (λ z. z ++ equations_of item.form) so_far
              ∙ (ap (λ z. equations_on b.name first ++ z) (sym here) ∙ sym (on_push b.name first item)));
        }

    differ_push : (names : List (List ℕ)) (name : List ℕ) → Differ names → ¬ Contains names name → Differ (names ++ name ∷ [])
    differ_push names name differ new x i j a c =
        elim (spots.at_push names name x i a) [
          | inl old ↦ elim (spots.at_push names name x j c) [
            | inl too ↦ differ x i j old too
            | inr last ↦ absurd (new (subst (Contains names) (sym last.1) (contains_at names x i old)))
          ]
          | inr last ↦ elim (spots.at_push names name x j c) [
            | inl too ↦ absurd (new (subst (Contains names) (sym last.1) (contains_at names x j too)))
            | inr same ↦ last.0 ∙ sym same.0
          ]
        ]

    count_lists : (w : Writers) → length (lists_of w) ≡ length w.places.items
    count_lists w = length-map w.places.items (λ row. row.items)

    -- the first place of a new name
    new_name : (old new : Writers) → AreWriters all first old → ¬ Contains old.names b.name → new.names ≡ old.names ++ b.name ∷ []
        → lists_of new ≡ lists_of old ++ (place ∷ []) ∷ [] → AreWriters all more new
    new_name old new are fresh names lists =
        let m = ap length names in
        let n = length-append old.names (b.name ∷ []) in
        let p = ap length lists in
        let q = length-append (lists_of old) ((place ∷ []) ∷ []) in
        let u = count_lists old in
        let v = count_lists new in
        record {
          len = omega (arith, m, n, p, q, u, v, are.len);
          differ = subst Differ (sym names) (differ_push old.names b.name are.differ fresh);
          listed = λ k name places at there.
              elim (spots.at_push old.names b.name name k (subst (λ z. slice_get z k ≡ Some name) names at)) [
                | inl before ↦ from_old k name places before (subst (λ z. slice_get z k ≡ Some places) lists there)
                | inr last ↦ from_new k name places last.0 last.1 (subst (λ z. slice_get z k ≡ Some places) lists there)
              ];
          others = λ name absent.
              let not_old : ¬ Contains old.names name =
              λ has. absent (subst (λ z. Contains z name) (sym names) (push_contains old.names b.name name has)) in
              let not_new : name ≢ b.name =
              λ e. absent (subst (λ z. Contains z name) (sym names) (subst (Contains (old.names ++ b.name ∷ [])) (sym e)
              (push_contains_last old.names b.name))) in
              unchanged name (other_block name not_new) ∙ are.others name not_old;
        } where
          from_old : (k : ℕ) (name places : List ℕ) → slice_get old.names k ≡ Some name
              → slice_get (lists_of old ++ (place ∷ []) ∷ []) k ≡ Some places → IsWrittenAt all more name places
          from_old k name places at there =
              let within : k < length (lists_of old) =
              let w = slice_get_within old.names k name at in let u = count_lists old in omega (arith, w, u, are.len) in
              same_places name places (other_block name (λ e. fresh (subst (Contains old.names) e (contains_at old.names name k at))))
              (are.listed k name places at (sym (push_before (lists_of old) (place ∷ []) k within) ∙ there))

          from_new : (k : ℕ) (name places : List ℕ) → k ≡ length old.names → b.name ≡ name
              → slice_get (lists_of old ++ (place ∷ []) ∷ []) k ≡ Some places → IsWrittenAt all more name places
          from_new k name places last e there =
              let place_is : k ≡ length (lists_of old) = last ∙ (sym are.len ∙ sym (count_lists old)) in
              let both : place ∷ [] ≡ places =
              at_once (lists_of old ++ (place ∷ []) ∷ []) k (place ∷ []) places
              (ap (slice_get (lists_of old ++ (place ∷ []) ∷ [])) place_is ∙ push_last (lists_of old) (place ∷ [])) there in
              subst (λ z. IsWrittenAt all more z places) e (subst (IsWrittenAt all more b.name) both
              (one_more [] (All-nil (λ (z : ℕ). z < length all)) (sym (are.others b.name fresh))))

    -- a further place of a name that is there
    known_name : (old new : Writers) (k : ℕ) → AreWriters all first old → slice_get old.names k ≡ Some b.name → new.names ≡ old.names
        → lists_of new ≡ set (lists_of old) k (longer (lists_of old) k place) → AreWriters all more new
    known_name old new k are at_name names lists =
        let m = ap length names in
        let p = ap length lists in
        let q = length-set (lists_of old) k (longer (lists_of old) k place) in
        let u = count_lists old in
        let v = count_lists new in
        record {
          len = omega (arith, m, p, q, u, v, are.len);
          differ = subst Differ (sym names) are.differ;
          listed = λ j name places at there.
              let named : slice_get old.names j ≡ Some name = subst (λ z. slice_get z j ≡ Some name) names at in
              let listed : slice_get (set (lists_of old) k (longer (lists_of old) k place)) j ≡ Some places =
              subst (λ z. slice_get z j ≡ Some places) lists there in
              elim (cases_eq j k) [
                | inl same ↦ here j name places same named listed
                | inr other ↦ elsewhere j name places other named listed
              ];
          others = λ name absent.
              let not_old : ¬ Contains old.names name = λ has. absent (subst (λ z. Contains z name) (sym names) has) in
              let not_here : name ≢ b.name =
              λ e. not_old (subst (Contains old.names) (sym e) (contains_at old.names b.name k at_name)) in
              unchanged name (other_block name not_here) ∙ are.others name not_old;
        } where
          within_k : k < length (lists_of old)
          within_k = let w = slice_get_within old.names k b.name at_name in let u = count_lists old in omega (arith, w, u, are.len)

          here : (j : ℕ) (name places : List ℕ) → j ≡ k → slice_get old.names j ≡ Some name
              → slice_get (set (lists_of old) k (longer (lists_of old) k place)) j ≡ Some places → IsWrittenAt all more name places
          here j name places same at there =
              let e : name ≡ b.name = at_once old.names k name b.name (subst (λ z. slice_get old.names z ≡ Some name) same at) at_name in
              let value : get_or (set (lists_of old) k (longer (lists_of old) k place)) k [] ≡ longer (lists_of old) k place =
              get_or-set_same (lists_of old) k (longer (lists_of old) k place) [] within_k in
              let list : longer (lists_of old) k place ≡ places =
              sym value ∙ (ap (λ z. get_or (set (lists_of old) k (longer (lists_of old) k place)) z []) (sym same)
              ∙ get_or_from_slice_get (set (lists_of old) k (longer (lists_of old) k place)) j places [] there) in
              let before = are.listed k b.name (get_or (lists_of old) k []) at_name (slice_get-get_or (lists_of old) k [] within_k) in
              subst (λ z. IsWrittenAt all more z places) (sym e) (subst (IsWrittenAt all more b.name) list
              (one_more (get_or (lists_of old) k []) before.within before.equations))

          elsewhere : (j : ℕ) (name places : List ℕ) → j ≢ k → slice_get old.names j ≡ Some name
              → slice_get (set (lists_of old) k (longer (lists_of old) k place)) j ≡ Some places → IsWrittenAt all more name places
          elsewhere j name places other at there =
              let within : j < length (lists_of old) =
              let w = slice_get_within old.names j name at in let u = count_lists old in omega (arith, w, u, are.len) in
              let value : get_or (lists_of old) j [] ≡ places =
              sym (get_or-set_other (lists_of old) k j (longer (lists_of old) k place) [] other)
              ∙ get_or_from_slice_get (set (lists_of old) k (longer (lists_of old) k place)) j places [] there in
              same_places name places (other_block name (λ e. other (are.differ name j k at (at_name ∙ ap Some (sym e)))))
              (are.listed j name places at (slice_get-get_or (lists_of old) j [] within ∙ ap Some value))

    pub one_place : (old new : Writers) → AreWriters all first old → AddsPlace b.name place old new → AreWriters all more new
    one_place old new are (inl added) = new_name old new are added.0 added.1 added.2
    one_place old new are (inr added) = known_name old new added.0 are added.1 added.2 added.3

  -- the next item
  pub one_item : (place : ℕ) → slice_get all place ≡ Some item → (old new : Writers) → AreWriters all first old
      → AddsBlock (block_of item.form) place old new → AreWriters all more new
  one_item place at old new are adds = from (block_of item.form) refl adds where
    from : (o : Option Block) → block_of item.form ≡ o → AddsBlock o place old new → AreWriters all more new
    from None none same = subst (AreWriters all more) (sym same) (no_block old none are)
    from (Some b) some added = one_place place b at some old new are added

-- no items
pub no_items : (all : Items) (w : Writers) → w.names ≡ [] → w.places.items ≡ [] → AreWriters all [] w
no_items all w names places = record {
  len = ap length places ∙ sym (ap length names);
  differ = subst Differ (sym names) (λ x i j a c. absurd (nothing_at x i a));
  listed = λ k name list at there. absurd (nothing_at name k (subst (λ z. slice_get z k ≡ Some name) names at));
  others = λ name absent. refl;
}

-- the places that are found
pub found_places : (items : Items) (w : Writers) → AreWriters items items w → (k : ℕ) (name places : List ℕ) (row : Vec ℕ Global)
    → slice_get w.names k ≡ Some name → row ≡ get_or w.places.items k row → places ≡ row.items → IsWrittenAt items items name places
found_places items w are k name places row at is same =
    let within : k < length w.places.items = let i = slice_get_within w.names k name at in omega (arith, i, are.len) in
    let list : Vec ℕ Global → List ℕ = λ row. row.items in
    let there : slice_get (lists_of w) k ≡ Some row.items =
    slice_get-map list w.places.items k
    ∙ ap (option_map list) (slice_get-get_or w.places.items k row within ∙ ap Some (sym is)) in
    subst (IsWrittenAt items items name) (sym same) (are.listed k name row.items at there)

-- a list of one place more
pub more_lists : (rows added : List (Vec ℕ Global)) (k : ℕ) (row : Vec ℕ Global) → row.items ≡ k ∷ [] → added ≡ rows ++ row ∷ []
    → map (λ (z : Vec ℕ Global). z.items) added ≡ map (λ (z : Vec ℕ Global). z.items) rows ++ (k ∷ []) ∷ []
more_lists rows added k row one is =
    ap (map (λ (z : Vec ℕ Global). z.items)) is
    ∙ (map-append (λ (z : Vec ℕ Global). z.items) rows (row ∷ []) ∙ ap (λ z. map (λ (y : Vec ℕ Global). y.items) rows ++ z ∷ []) one)

-- one place more in a list
pub longer_lists : (rows : List (Vec ℕ Global)) (n k : ℕ) (row new : Vec ℕ Global) → n < length rows → row ≡ get_or rows n row
    → new.items ≡ row.items ++ k ∷ [] → map (λ (z : Vec ℕ Global). z.items) (set rows n new)
    ≡ set (map (λ (z : Vec ℕ Global). z.items) rows) n (get_or (map (λ (z : Vec ℕ Global). z.items) rows) n [] ++ k ∷ [])
longer_lists rows n k row new within there is =
    let lists = map (λ (z : Vec ℕ Global). z.items) rows in
    let at : get_or lists n [] ≡ row.items =
    get_or-map (λ (z : Vec ℕ Global). z.items) rows n row [] within ∙ ap (λ (z : Vec ℕ Global). z.items) (sym there) in
    map-set (λ (z : Vec ℕ Global). z.items) rows n new ∙ ap (λ z. set lists n z) (is ∙ ap (λ z. z ++ k ∷ []) (sym at))

-- the next item of a slice
pub next_item : (items : Items) (place : ℕ) (item : Item Pattern) (old new : Writers) → AreWriters items (take place items) old
    → place < length items → item ≡ get_or items place item → AddsBlock (block_of item.form) place old new
    → AreWriters items (take (place + 1) items) new
next_item items place item old new are within is adds =
    subst (λ z. AreWriters items z new) (sym (take_more items place item within ∙ ap (λ z. take place items ++ z ∷ []) (sym is)))
    (one_item items (take place items) item place (slice_get-get_or items place item within ∙ ap Some (sym is)) old new are adds)

-- A memo after a value or a site is added.
use Rattle.std.proofs.Common.{◌≡◌, ◌∙◌, ◌≤◌, ◌<◌, ◌++◌, inl, inr, ℕ, suc, List, [], ◌∷◌, Option, Some, None, length, refl}
use Rattle.std.proofs.Common.{sym}
use Rattle.std.proofs.Common.{ap}
use Rattle.std.proofs.Common.{subst, arith, slice_get, length-append, Vec, Global}
use Rattle.std.proofs.lemmas.Option.{slice_get_within}
use Rattle.wb_lemmas.proofs.Places.{push_before, push_last, at_push}
use Rattle.wb_values.specs.declared.value.TreeId.{TreeId}
use Rattle.wb_eval_theory.specs.Instances.{Path, down}
use Rattle.wb_eval_memo.proofs.SitesLemmas.{site_path, kept_path}
use Rattle.wb_eval_memo.proofs.SlotLemmas.{slot_past}
use Rattle.wb_eval_memo.specs.Memos.{count, path_in, recall, IsWhole, IsGrown, IsBelow}
use Rattle.wb_eval_memo.specs.Sites.{step_of, link, path_at, paths_of, IsSites}
use Rattle.wb_eval_memo.specs.Slots.{slot_value, AreSlots}
use Rattle.wb_eval_memo.specs.declared.memo.Memo.{Memo}
use Rattle.wb_eval_memo.specs.declared.sites.Origin.{Origin}
use Rattle.wb_eval_memo.specs.declared.sites.Sites.{Sites}
use Rattle.wb_eval_memo.specs.declared.sites.Step.{Step}
use Rattle.wb_eval_memo.specs.declared.slots.Slots.{Slots}

-- with other values at the same sites
pub slots_whole : (old : Memo) (slots : Slots) → IsWhole old → AreSlots (suc (count old)) slots
    → IsWhole (record { sites = old.sites; trees = old.trees; slots = slots })
slots_whole old slots whole are = record { sites = whole.sites; trees = whole.trees; slots = are }

-- nothing is known of a site that isn't there
pub nothing_past : (m : Memo) (i x : ℕ) → IsWhole m → count m < i → recall m i x ≡ None
nothing_past m i x whole lt = slot_past m.slots (suc (count m)) whole.slots i x (omega (arith, lt))

module _ (old : Memo) (parent : ℕ) (step : Step) (tree : Option TreeId) (whole : IsWhole old) where
  -- a site that is there
  pub below_found : (k : ℕ) → link old.sites parent step ≡ suc k → k < count old → IsBelow old old parent step tree (suc k)
  below_found k linked within = record {
    there = omega (arith, within);
    path = site_path old.sites k (record { parent = parent; step = step }) whole.sites (whole.sites.to parent step k linked);
    fresh = λ i after before. absurd (omega (arith, after, before));
    from = λ j o after at. absurd (let h = slice_get_within old.sites.origins.items j o at in omega (arith, after, h));
  }

  pub grown_same : IsGrown old old
  grown_same = record { more = omega arith; paths = λ i le. refl; recalls = λ i x. refl; trees = λ i le. refl; origins = λ k o lt at. at }

  module _ (sites : Sites) (trees : Vec (Option TreeId) Global) (slots : Slots) (there : parent ≤ count old)
      (origins : sites.origins.items ≡ old.sites.origins.items ++ record { parent = parent; step = step } ∷ []) (is : IsSites sites)
      (pushed : trees.items ≡ old.trees.items ++ tree ∷ []) (more : (n : ℕ) → AreSlots n old.slots → AreSlots (suc n) slots)
      (same : (i x : ℕ) → slot_value slots i x ≡ slot_value old.slots i x) where
    abbrev pub with_site : Memo
    with_site = record { sites = sites; trees = trees; slots = slots }

    abbrev o : Origin
    o = record { parent = parent; step = step }

    count_after : count with_site ≡ suc (count old)
    count_after = ap length origins ∙ (let l = length-append old.sites.origins.items (o ∷ []) in omega (arith, l))

    pub site_whole : IsWhole with_site
    site_whole = record {
      sites = is;
      trees = ap length pushed ∙ (let l = length-append old.trees.items (tree ∷ []) in omega (arith, l, whole.trees, count_after));
      slots = subst (λ (n : ℕ). AreSlots (suc n) slots) (sym count_after) (more (suc (count old)) whole.slots);
    }

    path_after : (i : ℕ) → i ≤ count old → path_in with_site i ≡ path_in old i
    path_after i le = ap (λ (os : List Origin). path_at (paths_of os) i) origins ∙ kept_path old.sites.origins.items o i le

    pub site_grown : IsGrown old with_site
    site_grown = record {
      more = omega (arith, count_after);
      paths = path_after;
      recalls = same;
      trees = λ i le.
          ap (λ (l : List (Option TreeId)). slice_get l i) pushed
          ∙ push_before old.trees.items tree i (let t = whole.trees in omega (arith, t, le));
      origins = λ k u lt at.
          sym (push_before old.sites.origins.items o k lt) ∙ sym (ap (λ (os : List Origin). slice_get os k) origins) ∙ at;
    }

    new_path : path_in with_site (suc (count old)) ≡ down (path_in old parent) (step_of step)
    new_path =
        let here = ap (λ (os : List Origin). slice_get os (count old)) origins ∙ push_last old.sites.origins.items o in
        site_path sites (count old) o is here ∙ ap (λ (q : Path). down q (step_of step)) (path_after parent there)

    pub site_below : IsBelow old with_site parent step tree (suc (count old))
    site_below = record {
      there = omega (arith, count_after);
      path = new_path;
      fresh = λ i after before.
          let e : suc (count old) ≡ i = omega (arith, after, before, count_after) in
          let t : length old.trees.items ≡ i = whole.trees ∙ e in (
            ap (λ (l : List (Option TreeId)). slice_get l i) pushed
                ∙ subst (λ (n : ℕ). slice_get (old.trees.items ++ tree ∷ []) n ≡ Some tree) t (push_last old.trees.items tree),
            subst (λ (n : ℕ). path_in with_site n ≡ down (path_in old parent) (step_of step)) e new_path,
          );
      from = λ k u after at. elim (at_push old.sites.origins.items o u k (sym (ap (λ (os : List Origin). slice_get os k) origins) ∙ at)) [
        | inl before ↦ absurd (let h = slice_get_within old.sites.origins.items k u before in omega (arith, after, h))
        | inr (k_is, same) ↦ ap (λ (z : Origin). z.parent) (sym same)
      ];
    }

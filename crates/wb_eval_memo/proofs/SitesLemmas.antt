-- Sites are found by their origins, and have different paths.
use Rattle.std.proofs.Common.{◌≡◌, ◌≢◌, ◌∙◌, ◌⊎◌, ◌≤◌, ◌<◌, ◌+◌, ◌++◌, inl, inr, ℕ, zero, suc, List, [], ◌∷◌, Some, length, refl, sym, ap}
use Rattle.std.proofs.Common.{subst, arith}
use Rattle.std.proofs.Common.{slice_get, get_or, length-append}
use Rattle.std.specs.Prelude.{true, false, nat_eq, if◌then◌else◌, Option, None}
use Rattle.std.proofs.lemmas.Bool.{and_from, and_parts, cases_eq, cases_lt, cond-false, cond-true, eq-eqb, eqb-true}
use Rattle.std.proofs.lemmas.Bool.{false_from_ne_true}
use Rattle.std.proofs.lemmas.List.{get_or_append_left}
use Rattle.std.proofs.lemmas.Option.{slice_get_within}
use Rattle.wb_lemmas.proofs.Places.{at_push, push_before, push_keeps, push_last, at_within, default_at}
use Rattle.wb_eval_theory.specs.Instances.{Path, root, down}
use Rattle.wb_eval_memo.specs.Inner.Steps.{IsOther}
use Rattle.wb_eval_memo.specs.Sites.{step_of, link, link_in_rows, is_step, is_next, path_at, paths_from, paths_of, AreFound, IsSites}
use Rattle.wb_eval_memo.specs.declared.sites.Origin.{Origin}
use Rattle.wb_eval_memo.specs.declared.sites.Sites.{Sites}
use Rattle.wb_eval_memo.specs.declared.sites.Step.{Step}
use Rattle.wb_eval_memo.specs.declared.sites.Step.TheVariants as step

-- steps are one or differ
same_step : (s t : Step) → (s ≡ t) ⊎ (s ≢ t)
same_step (step.Child k) (step.Child l) = elim (cases_eq k l) [ inl e ↦ inl (ap step.Child e) | inr d ↦ inr (λ e. d (cc e)) ]
same_step (step.Local k) (step.Local l) = elim (cases_eq k l) [ inl e ↦ inl (ap step.Local e) | inr d ↦ inr (λ e. d (cc e)) ]
same_step step.Forward step.Forward = inl refl
same_step (step.Child k) (step.Local l) = inr (λ e. cc e)
same_step (step.Child k) step.Forward = inr (λ e. cc e)
same_step (step.Local k) (step.Child l) = inr (λ e. cc e)
same_step (step.Local k) step.Forward = inr (λ e. cc e)
same_step step.Forward (step.Child l) = inr (λ e. cc e)
same_step step.Forward (step.Local l) = inr (λ e. cc e)

pub one_step : (s t : Step) → step_of s ≡ step_of t → s ≡ t
one_step (step.Child k) (step.Child l) e = ap step.Child (cc e)
one_step (step.Local k) (step.Local l) e = ap step.Local (cc e)
one_step step.Forward step.Forward e = refl
one_step (step.Child k) (step.Local l) e = absurd (cc e)
one_step (step.Child k) step.Forward e = absurd (cc e)
one_step (step.Local k) (step.Child l) e = absurd (cc e)
one_step (step.Local k) step.Forward e = absurd (cc e)
one_step step.Forward (step.Child l) e = absurd (cc e)
one_step step.Forward (step.Local l) e = absurd (cc e)

abbrev origin : ℕ → Step → Origin
origin i t = record { parent = i; step = t }

same_origin : (i parent : ℕ) (t s : Step) → ((i ≡ parent) × (t ≡ s)) ⊎ IsOther parent s i t
same_origin i parent t s = elim (cases_eq i parent) [
  | inl e ↦ elim (same_step t s) [ inl f ↦ inl (e, f) | inr d ↦ inr (inr d) ]
  | inr d ↦ inr (inl d)
]

-- a step is the one that it is found to be
step_is : (s t : Step) → is_step s t ≡ true → s ≡ t
step_is (step.Child k) (step.Child l) e = ap step.Child (eqb-true k l e)
step_is (step.Local k) (step.Local l) e = ap step.Local (eqb-true k l e)
step_is step.Forward step.Forward e = refl
step_is (step.Child k) (step.Local l) e = absurd (cc e)
step_is (step.Child k) step.Forward e = absurd (cc e)
step_is (step.Local k) (step.Child l) e = absurd (cc e)
step_is (step.Local k) step.Forward e = absurd (cc e)
step_is step.Forward (step.Child l) e = absurd (cc e)
step_is step.Forward (step.Local l) e = absurd (cc e)

is_itself : (s : Step) → is_step s s ≡ true
is_itself (step.Child k) = eq-eqb k k refl
is_itself (step.Local k) = eq-eqb k k refl
is_itself step.Forward = refl

-- the site after another is one step down from it where its origin says so
next_is : (o : Option Origin) (i : ℕ) (t : Step) → is_next o i t ≡ true → o ≡ Some (origin i t)
next_is None i t e = absurd (cc e)
next_is (Some o) i t e =
    let (parents, steps) = and_parts (nat_eq o.parent i) (is_step o.step t) e in
    ap Some (ap (λ (z : ℕ). origin z o.step) (eqb-true o.parent i parents) ∙ ap (origin i) (step_is o.step t steps))

next_itself : (i : ℕ) (t : Step) → is_next (Some (origin i t)) i t ≡ true
next_itself i t = and_from (nat_eq i i) (is_step t t) (eq-eqb i i refl) (is_itself t)

-- the link where the site after another is the one, and where it isn't
link_next : (s : Sites) (i : ℕ) (t : Step) → slice_get s.origins.items i ≡ Some (origin i t) → link s i t ≡ suc i
link_next s i t at =
    cond-true (is_next (slice_get s.origins.items i) i t) (suc i) (link_in_rows s i t)
    (ap (λ (o : Option Origin). is_next o i t) at ∙ next_itself i t)

link_row : (s : Sites) (i : ℕ) (t : Step) → is_next (slice_get s.origins.items i) i t ≡ false → link s i t ≡ link_in_rows s i t
link_row s i t not = cond-false (is_next (slice_get s.origins.items i) i t) (suc i) (link_in_rows s i t) not

-- no site
pub none_linked : (s : Sites) → s.origins.items ≡ [] → ((i : ℕ) (t : Step) → link_in_rows s i t ≡ 0) → (i : ℕ) (t : Step) → link s i t ≡ 0
none_linked s empty rows i t =
    link_row s i t (ap (λ (l : List Origin). is_next (slice_get l i) i t) empty) ∙ rows i t

module _ (old new : Sites) (parent : ℕ) (s : Step) (pushed : new.origins.items ≡ old.origins.items ++ origin parent s ∷ []) where
  at_after : (i : ℕ) → slice_get new.origins.items i ≡ slice_get (old.origins.items ++ origin parent s ∷ []) i
  at_after i = ap (λ (l : List Origin). slice_get l i) pushed

  -- the site that was added is found
  pub set_linked : parent ≤ length old.origins.items → link old parent s ≡ 0
      → (suc (length old.origins.items) ≡ suc parent) ⊎ (link_in_rows new parent s ≡ suc (length old.origins.items))
      → link new parent s ≡ suc (length old.origins.items)
  set_linked there fresh set =
      let xs = old.origins.items in
      elim (cases_eq (length xs) parent) [
        | inl e ↦
            let at = at_after parent ∙ subst (λ (z : ℕ). slice_get (xs ++ origin parent s ∷ []) z ≡ Some (origin parent s)) e
            (push_last xs (origin parent s)) in
            link_next new parent s at ∙ ap suc (sym e)
        | inr d ↦
            let same : slice_get new.origins.items parent ≡ slice_get xs parent =
            at_after parent ∙ push_before xs (origin parent s) parent
            (elim (cases_lt parent (length xs)) [ inl lt ↦ lt | inr ge ↦ absurd (d (omega (arith, ge, there))) ]) in
            let no : is_next (slice_get xs parent) parent s ≡ false =
            false_from_ne_true (is_next (slice_get xs parent) parent s)
            (λ yes. let h = sym fresh ∙ link_next old parent s (next_is (slice_get xs parent) parent s yes) in omega (arith, h)) in
            let row = link_row new parent s (ap (λ (o : Option Origin). is_next o parent s) same ∙ no) in
            elim set [
              | inl e ↦ absurd (d (cc e))
              | inr r ↦ row ∙ r
            ]
      ]

  -- and so are those that were there
  pub kept_linked : ((i : ℕ) (t : Step) → IsOther parent s i t → link_in_rows new i t ≡ link_in_rows old i t)
      → (i : ℕ) (t : Step) → IsOther parent s i t → link new i t ≡ link old i t
  kept_linked kept i t other =
      let xs = old.origins.items in
      elim (cases_lt i (length xs)) [
        | inl lt ↦
            let same : slice_get new.origins.items i ≡ slice_get xs i = at_after i ∙ push_before xs (origin parent s) i lt in
            ap (λ (o : Option Origin). if is_next o i t then suc i else link_in_rows new i t) same
            ∙ ap (λ (n : ℕ). if is_next (slice_get xs i) i t then suc i else n) (kept i t other)
        | inr ge ↦
            let before : is_next (slice_get xs i) i t ≡ false =
            false_from_ne_true (is_next (slice_get xs i) i t)
            (λ yes. let h = slice_get_within xs i (origin i t) (next_is (slice_get xs i) i t yes) in omega (arith, h, ge)) in
            let after : is_next (slice_get new.origins.items i) i t ≡ false =
            false_from_ne_true (is_next (slice_get new.origins.items i) i t)
            (λ yes. elim
            (at_push xs (origin parent s) (origin i t) i (sym (at_after i) ∙ next_is (slice_get new.origins.items i) i t yes)) [
              | inl at ↦ let h = slice_get_within xs i (origin i t) at in omega (arith, h, ge)
              | inr (k_is, same) ↦ elim other [
                | inl d ↦ d (sym (ap (λ (z : Origin). z.parent) same))
                | inr d ↦ d (sym (ap (λ (z : Origin). z.step) same))
              ]
            ]) in
            link_row new i t after ∙ kept i t other ∙ sym (link_row old i t before)
      ]

-- a site more
pub added : (old new : Sites) (parent : ℕ) (s : Step) → IsSites old → parent ≤ length old.origins.items → link old parent s ≡ 0
    → new.origins.items ≡ old.origins.items ++ origin parent s ∷ []
    → link new parent s ≡ suc (length old.origins.items) → ((i : ℕ) (t : Step) → IsOther parent s i t → link new i t ≡ link old i t)
    → AreFound new → IsSites new
added old new parent s is there fresh pushed set kept found =
    let xs = old.origins.items in
    let last = push_last xs (origin parent s) in
    let count : length new.origins.items ≡ suc (length xs) =
    ap length pushed ∙ (let l = length-append xs (origin parent s ∷ []) in omega (arith, l)) in
    record {
      found = found;
      to = λ i t k linked. elim (same_origin i parent t s) [
        | inl (e, f) ↦
            let h : link new i t ≡ suc (length xs) = ap (λ (z : ℕ). link new z t) e ∙ ap (link new parent) f ∙ set in
            let k_is : length xs ≡ k = let g = sym h ∙ linked in omega (arith, g) in
            ap (λ (l : List Origin). slice_get l k) pushed
            ∙ subst (λ (z : ℕ). slice_get (xs ++ origin parent s ∷ []) z ≡ Some (origin parent s)) k_is last
            ∙ ap Some (ap (λ (z : ℕ). origin z s) (sym e) ∙ ap (origin i) (sym f))
        | inr other ↦
            ap (λ (l : List Origin). slice_get l k) pushed
            ∙ push_keeps xs (origin parent s) k (origin i t) (is.to i t k (sym (kept i t other) ∙ linked))
      ];
      from = λ k o at. elim (at_push xs (origin parent s) o k (sym (ap (λ (l : List Origin). slice_get l k) pushed) ∙ at)) [
        | inl before ↦
            let linked = is.from k o before in
            elim (same_origin o.parent parent o.step s) [
              | inl (e, f) ↦
                  let h : link old o.parent o.step ≡ 0 = ap (λ (z : ℕ). link old z o.step) e ∙ ap (link old parent) f ∙ fresh in
                  absurd (let g = sym h ∙ linked in omega (arith, g))
              | inr other ↦ kept o.parent o.step other ∙ linked
            ]
        | inr (k_is, same) ↦
            ap (λ (z : Origin). link new z.parent z.step) (sym same) ∙ set ∙ ap suc (sym k_is)
      ];
      order = λ k o at. elim (at_push xs (origin parent s) o k (sym (ap (λ (l : List Origin). slice_get l k) pushed) ∙ at)) [
        | inl before ↦ is.order k o before
        | inr (k_is, same) ↦ let e = ap (λ (z : Origin). z.parent) same in omega (arith, e, k_is, there)
      ];
    }

-- paths
pub paths_push : (paths : List Path) (origins : List Origin) (o : Origin)
    → paths_from paths (origins ++ o ∷ [])
    ≡ paths_from paths origins ++ down (path_at (paths_from paths origins) o.parent) (step_of o.step) ∷ []
unfolding paths_from
paths_push paths [] o = refl
paths_push paths (p ∷ origins) o = paths_push (paths ++ down (path_at paths p.parent) (step_of p.step) ∷ []) origins o

pub paths_length : (paths : List Path) (origins : List Origin) → length (paths_from paths origins) ≡ length paths + length origins
unfolding paths_from
paths_length paths [] = omega arith
paths_length paths (p ∷ origins) =
    let x = down (path_at paths p.parent) (step_of p.step) in
    let l = length-append paths (x ∷ []) in
    let r = paths_length (paths ++ x ∷ []) origins in
    omega (arith, l, r)

paths_prefix : (paths : List Path) (origins : List Origin) (i : ℕ) → i < length paths
    → path_at (paths_from paths origins) i ≡ path_at paths i
unfolding paths_from
paths_prefix paths [] i lt = refl
paths_prefix paths (p ∷ origins) i lt =
    let x = down (path_at paths p.parent) (step_of p.step) in
    let l = length-append paths (x ∷ []) in
    paths_prefix (paths ++ x ∷ []) origins i (omega (arith, l, lt)) ∙ get_or_append_left paths (x ∷ []) root i lt

path_from : (paths : List Path) (origins : List Origin) (k : ℕ) (o : Origin) → slice_get origins k ≡ Some o → o.parent < length paths + k
    → path_at (paths_from paths origins) (length paths + k) ≡ down (path_at (paths_from paths origins) o.parent) (step_of o.step)
unfolding paths_from
path_from paths [] k o at lt = absurd (cc at)
path_from paths (p ∷ origins) zero o at lt =
    let same : p ≡ o = cc at in
    let x = down (path_at paths p.parent) (step_of p.step) in
    let l = length-append paths (x ∷ []) in
    let e : length paths + 0 ≡ length paths = omega arith in
    let up : path_at (paths_from (paths ++ x ∷ []) origins) o.parent ≡ path_at paths o.parent =
    paths_prefix (paths ++ x ∷ []) origins o.parent (omega (arith, l, lt))
    ∙ get_or_append_left paths (x ∷ []) root o.parent (omega (arith, lt)) in
    ap (path_at (paths_from (paths ++ x ∷ []) origins)) e
    ∙ paths_prefix (paths ++ x ∷ []) origins (length paths) (omega (arith, l))
    ∙ (let h = push_last paths x in
    let g : get_or (paths ++ x ∷ []) (length paths) root ≡ x = default_at (paths ++ x ∷ []) (length paths) root x h in g)
    ∙ ap (λ (z : Origin). down (path_at paths z.parent) (step_of z.step)) same
    ∙ ap (λ (q : Path). down q (step_of o.step)) (sym up)
path_from paths (p ∷ origins) (suc k) o at lt =
    let x = down (path_at paths p.parent) (step_of p.step) in
    let l = length-append paths (x ∷ []) in
    let e : length paths + suc k ≡ length (paths ++ x ∷ []) + k = omega (arith, l) in
    ap (path_at (paths_from (paths ++ x ∷ []) origins)) e ∙ path_from (paths ++ x ∷ []) origins k o at (omega (arith, l, lt))

pub root_path : (origins : List Origin) → path_at (paths_of origins) 0 ≡ root
root_path origins = paths_prefix (root ∷ []) origins 0 (omega arith)

-- the path of a site is a step down from that of its parent
pub site_path : (s : Sites) (k : ℕ) (o : Origin) → IsSites s → slice_get s.origins.items k ≡ Some o
    → path_at (paths_of s.origins.items) (suc k) ≡ down (path_at (paths_of s.origins.items) o.parent) (step_of o.step)
site_path s k o is at =
    let before = is.order k o at in
    let e : suc k ≡ length (root ∷ []) + k = omega arith in
    ap (path_at (paths_of s.origins.items)) e ∙ path_from (root ∷ []) s.origins.items k o at (omega (arith, before))

-- the paths of the sites that are there stay
pub kept_path : (origins : List Origin) (o : Origin) (i : ℕ) → i ≤ length origins
    → path_at (paths_of (origins ++ o ∷ [])) i ≡ path_at (paths_of origins) i
kept_path origins o i le =
    let l = paths_length (root ∷ []) origins in
    ap (λ (ps : List Path). path_at ps i) (paths_push (root ∷ []) origins o)
    ∙ get_or_append_left (paths_of origins) (down (path_at (paths_of origins) o.parent) (step_of o.step) ∷ []) root i (omega (arith, l, le))

-- one site has a path
pub one_site : (s : Sites) → IsSites s → (q : Path) (i j : ℕ) → i ≤ length s.origins.items → j ≤ length s.origins.items
    → path_at (paths_of s.origins.items) i ≡ q → path_at (paths_of s.origins.items) j ≡ q → i ≡ j
one_site s is q zero zero p r e f = refl
one_site s is root zero (suc j) p r e f =
    let (o, at) = at_within s.origins.items j (omega (arith, r)) in
    let h = sym (site_path s j o is at) ∙ f in absurd (cc h)
one_site s is root (suc i) j p r e f =
    let (o, at) = at_within s.origins.items i (omega (arith, p)) in
    let h = sym (site_path s i o is at) ∙ e in absurd (cc h)
one_site s is (down q t) zero (suc j) p r e f = let h = sym (root_path s.origins.items) ∙ e in absurd (cc h)
one_site s is (down q t) (suc i) zero p r e f = let h = sym (root_path s.origins.items) ∙ f in absurd (cc h)
one_site s is (down q t) (suc i) (suc j) p r e f =
    let xs = s.origins.items in
    let (o, at) = at_within xs i (omega (arith, p)) in
    let (u, there) = at_within xs j (omega (arith, r)) in
    let first = sym (site_path s i o is at) ∙ e in
    let second = sym (site_path s j u is there) ∙ f in
    let up_o : path_at (paths_of xs) o.parent ≡ q = cc first in
    let up_u : path_at (paths_of xs) u.parent ≡ q = cc second in
    let step_o : step_of o.step ≡ t = cc first in
    let step_u : step_of u.step ≡ t = cc second in
    let order_o = is.order i o at in
    let order_u = is.order j u there in
    let parents : o.parent ≡ u.parent =
    one_site s is q o.parent u.parent (omega (arith, p, order_o)) (omega (arith, r, order_u)) up_o up_u in
    let steps : o.step ≡ u.step = one_step o.step u.step (step_o ∙ sym step_u) in
    sym (is.from i o at) ∙ ap (λ (z : ℕ). link s z o.step) parents ∙ ap (link s u.parent) steps ∙ is.from j u there

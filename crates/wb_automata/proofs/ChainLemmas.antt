-- The lists of links: each is an earlier one with a leaf after it.
use Rattle.std.proofs.Common.{◌≡◌, ℕ, zero, suc, ◌+◌, ◌-◌, ◌≤◌, ◌<◌, List, [], ◌∷◌, ◌++◌, refl, sym, ◌∙◌, ap, subst, arith, Some, length, get_or}
use Rattle.std.proofs.Common.{length-append, append_assoc, reverse, inl, inr}
use Rattle.std.proofs.lemmas.List.{reverse-append}
use Rattle.std.specs.Prelude.{slice_get}
use Rattle.std.proofs.lemmas.Option.{slice_get-get_or, slice_get_within, same_Some}
use Rattle.wb_lemmas.proofs.Places.{append_keeps, at_push, default_at}
use Rattle.wb_automata_positions.specs.Rows.{row}
use Rattle.wb_automata.specs.declared.chains.Link.{Link}
use Rattle.wb_automata.specs.Inner.Chains.{AreLinks, IsGone, lengthened, list_by, lists_of}
use Rattle.wb_automata.proofs.PlaceLemmas.{pushed_at}

lengthened_more : (lists : List (List ℕ)) (links : List Link) (link : Link) → lengthened lists (links ++ link ∷ []) ≡
    lengthened lists links ++ list_by (lengthened lists links) link ∷ []
lengthened_more lists [] link = refl
lengthened_more lists (l ∷ links) link = lengthened_more (lists ++ list_by lists l ∷ []) links link

-- the lists after one more link
pub lists_more : (links : List Link) (link : Link) → lists_of (links ++ link ∷ []) ≡ lists_of links ++ list_by (lists_of links) link ∷ []
unfolding lists_of
lists_more links link = lengthened_more ([] ∷ []) links link

pub lists_none : lists_of [] ≡ [] ∷ []
unfolding lists_of
lists_none = refl

abbrev pub alone : List (List ℕ)
alone = [] ∷ []

pub one_alone : length alone ≡ 1
one_alone = refl

pub lists_len : (links : List Link) → length (lists_of links) ≡ length links + 1
unfolding lists_of
lists_len links = (let e = grown_len ([] ∷ []) links in let f = one_alone in omega arith)
  where
    grown_len : (lists : List (List ℕ)) (links : List Link) → length (lengthened lists links) ≡ length lists + length links
    grown_len lists [] = omega arith
    grown_len lists (l ∷ links) = omega (arith, grown_len (lists ++ list_by lists l ∷ []) links, length-append lists (list_by lists l ∷ []))

keeps : (lists : List (List ℕ)) (links : List Link) (k : ℕ) (x : List ℕ) → slice_get lists k ≡ Some x → slice_get
    (lengthened lists links) k ≡ Some x
keeps lists [] k x e = e
keeps lists (l ∷ links) k x e = keeps (lists ++ list_by lists l ∷ []) links k x (append_keeps lists (list_by lists l ∷ []) k x e)

-- the lists before a place, and the list there
record Entry (lists : List (List ℕ)) (links : List Link) (link : Link) (place : ℕ) : Type 0 where
  pub earlier : List (List ℕ)
  pub len : length earlier ≡ place
  pub keeps : (k : ℕ) (x : List ℕ) → slice_get earlier k ≡ Some x → slice_get (lengthened lists links) k ≡ Some x
  pub is : slice_get (lengthened lists links) place ≡ Some (list_by earlier link)

entry : (lists : List (List ℕ)) (links : List Link) (j : ℕ) (link : Link) (place : ℕ) → place ≡ length lists + j
    → slice_get links j ≡ Some link → Entry lists links link place
entry lists [] j link place e at = cc
entry lists (l ∷ links) zero link place e at =
    let same : l ≡ link = same_Some l link at in
    let more : List (List ℕ) = lists ++ list_by lists l ∷ [] in
    record {
      earlier = lists;
      len = omega arith;
      keeps = λ k x h. keeps more links k x (append_keeps lists (list_by lists l ∷ []) k x h);
      is = keeps more links place (list_by lists link) (subst (λ z. slice_get more place ≡ Some (list_by lists z)) same
          (pushed_at lists (list_by lists l) place (omega arith)));
    }
entry lists (l ∷ links) (suc j) link place e at =
    let more : List (List ℕ) = lists ++ list_by lists l ∷ [] in
    let r = entry more links j link place (omega (arith, length-append lists (list_by lists l ∷ []))) at in
    record { earlier = r.earlier; len = r.len; keeps = r.keeps; is = r.is }

-- the list of a link is that of an earlier one with its leaf
pub list_at : (links : List Link) (j : ℕ) (link : Link) → AreLinks links → slice_get links j ≡ Some link → slice_get
    (lists_of links) (j + 1) ≡ Some (list_by (lists_of links) link)
unfolding lists_of
list_at links j link are at =
    let r = entry ([] ∷ []) links j link (j + 1) (let f = one_alone in omega arith) at in
    let le = are j link at in
    let h : slice_get r.earlier link.before ≡ Some (row r.earlier link.before) = slice_get-get_or r.earlier link.before []
    (omega (arith, r.len)) in
    r.is ∙ ap (λ z. Some (z ++ link.leaf ∷ []))
    (sym (default_at (lengthened ([] ∷ []) links) link.before [] (row r.earlier link.before) (r.keeps link.before _ h)))

pub links_more : (links : List Link) (link : Link) → link.before < length (lists_of links) → AreLinks links → AreLinks (links ++ link ∷ [])
links_more links link lt are j l at = elim (at_push links link l j at) [
  | inl old ↦ are j l old
  | inr (last, same) ↦ subst (λ (z : Link). z.before ≤ j) same (let e = lists_len links in omega arith)
]

pub no_links : AreLinks []
no_links j link at = cc

-- a list more
pub gone_more : (links : List Link) (link : Link) (number : ℕ) → number ≡ length links + 1
    → IsGone (lists_of links) link.before link.leaf (lists_of (links ++ link ∷ [])) number
gone_more links link number e = rw (lists_more links link) (record {
  here = pushed_at (lists_of links) (list_by (lists_of links) link) number (let f = lists_len links in omega arith);
  keeps = λ j list at. append_keeps (lists_of links) (list_by (lists_of links) link ∷ []) j list at;
})

-- the list that a link of these parts has made
pub found_at : (links : List Link) (j before leaf : ℕ) → AreLinks links → j < length links →
    ((link : Link) → slice_get links j ≡ Some link → (link.before ≡ before) × (link.leaf ≡ leaf))
    → slice_get (lists_of links) (j + 1) ≡ Some (row (lists_of links) before ++ leaf ∷ [])
found_at links j before leaf are lt is =
    let d : Link = record { before = 0; leaf = 0 } in
    let link : Link = get_or links j d in
    let at : slice_get links j ≡ Some link = slice_get-get_or links j d lt in
    let (e, f) = is link at in
    list_at links j link are at ∙ ap (λ z. Some (row (lists_of links) z ++ link.leaf ∷ [])) e
    ∙ ap (λ z. Some (row (lists_of links) before ++ z ∷ [])) f

-- what is read back of a list so far
abbrev pub IsReadOff : List (List ℕ) → ℕ → ℕ → List ℕ → Type 0
IsReadOff lists number at all = (at < length lists) × ((u v : List ℕ) → slice_get lists number ≡ Some u → slice_get lists at ≡ Some v
    → u ≡ v ++ reverse all)

pub off_begin : (lists : List (List ℕ)) (number : ℕ) → number < length lists → IsReadOff lists number number []
off_begin lists number lt = (lt, λ u v is is_v. same_Some u v (sym is ∙ is_v) ∙ nothing v)
  where
    nothing : (xs : List ℕ) → xs ≡ xs ++ []
    nothing [] = refl
    nothing (x ∷ xs) = ap (λ z. x ∷ z) (nothing xs)

-- one leaf more is read back
pub off_more : (links : List Link) (number at : ℕ) (all new : List ℕ) (link : Link) → AreLinks links → 0 < at
    → slice_get links (at - 1) ≡ Some link → new ≡ all ++ link.leaf ∷ [] → IsReadOff (lists_of links) number at all
    → (link.before < at) × IsReadOff (lists_of links) number link.before new
off_more links number at all new link are some here e (within, before) =
    let lists : List (List ℕ) = lists_of links in
    let le = are (at - 1) link here in
    let back : at - 1 + 1 ≡ at = omega arith in
    let own : slice_get lists at ≡ Some (list_by lists link) = subst (λ z. slice_get lists z ≡ Some (list_by lists link)) back
    (list_at links (at - 1) link are here) in (
      omega arith,
      (
        omega arith,
        λ u v is is_v.
            before u (list_by lists link) is own ∙ ap (λ z. z ++ link.leaf ∷ [] ++ reverse all) (default_at lists link.before [] v is_v)
            ∙ append_assoc v (link.leaf ∷ []) (reverse all)
            ∙ sym (ap (λ z. v ++ reverse z) e ∙ ap (λ z. v ++ z) (reverse-append all (link.leaf ∷ []))),
      ),
    )

-- all is read back
pub off_end : (links : List Link) (number at : ℕ) (all new : List ℕ) → at ≡ 0 → new ≡ reverse all
    → IsReadOff (lists_of links) number at all → number < length (lists_of links) → slice_get (lists_of links) number ≡ Some new
unfolding lists_of
off_end links number at all new none e (within, before) lt =
    let lists : List (List ℕ) = lists_of links in
    let u : List ℕ = get_or lists number [] in
    let is : slice_get lists number ≡ Some u = slice_get-get_or lists number [] lt in
    let first : slice_get lists 0 ≡ Some [] = keeps ([] ∷ []) links 0 [] refl in
    is ∙ ap Some (before u [] is (subst (λ z. slice_get lists z ≡ Some []) (sym none) first) ∙ sym e)

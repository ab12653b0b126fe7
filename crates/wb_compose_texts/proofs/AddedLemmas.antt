-- Expressions of rows, one more and all.
use Rattle.std.proofs.Common.{◌≡◌, ◌<◌, ◌≤◌, ◌+◌, ◌-◌, ◌++◌, ◌∷◌, ◌∙◌, [], ℕ, List, Option, None, Some, drop, get_or, length, map}
use Rattle.std.proofs.Common.{slice_get, slice_index_or, take, ap, refl, subst, sym, arith}
use Rattle.std.specs.List.{AllZip}
use Rattle.std.proofs.lemmas.List.{append-nil, drop-drop, length-take-le, map-append, take_all}
use Rattle.std.proofs.lemmas.Option.{slice_get_read}
use Rattle.wb_compose.specs.Kept.{ExtensionView}
use Rattle.wb_lemmas.proofs.Parts.{append_assoc}
use Rattle.wb_lemmas.proofs.Places.{at_take, at_within}
use Rattle.wb_regex.specs.Tree.{Tree}
use Rattle.wb_reading.specs.OrderedNames.{all_of}
use Rattle.wb_syntax_resolved.specs.declared.resolved.ResolvedParts.{ResolvedParts}
use Rattle.wb_syntax_resolved.specs.declared.terminal.Terminal.{Terminal}
use Rattle.wb_certify_shown.specs.Names.{terminals_in}
use Rattle.wb_compose_texts.specs.Unions.{all_resolved}
use Rattle.wb_compose_texts.specs.Expressions.{AreUnitedExpressions, IsExpressionOf, Row, added_layouts, added_rows, layouts_past, rows_of}
use Rattle.wb_compose_texts.specs.Inner.Added.{AreAdded}
use Rattle.wb_compose_texts.proofs.TableLemmas.{all_next, part_all, part_next, take_next}

-- a pair of related elements more
zip_push : {A B : Type 0} (R : A → B → Type 0) (xs : List A) (ys : List B) (x : A) (y : B) → AllZip R xs ys → R x y →
    AllZip R (xs ++ x ∷ []) (ys ++ y ∷ [])
zip_push R [] [] x y all more = (more, tt)
zip_push R [] (b ∷ ys) x y all more = absurd all
zip_push R (a ∷ xs) [] x y all more = absurd all
zip_push R (a ∷ xs) (b ∷ ys) x y all more = (all.0, zip_push R xs ys x y all.1 more)

-- no row, one more, and more after others
none_added : (old : List Tree) → AreAdded [] old old
none_added old before zip = subst (λ z. AllZip IsExpressionOf z old) (sym (append-nil before)) zip

pub added_next : (rows longer : List Row) (row : Row) (old now new : List Tree) (made : Tree) → longer ≡ rows ++ row ∷ [] →
    AreAdded rows old now → IsExpressionOf row made → new ≡ now ++ made ∷ [] → AreAdded longer old new
added_next rows longer row old now new made more was is pushed before zip =
    let next = zip_push IsExpressionOf (before ++ rows) now row made (was before zip) is in
    let all : before ++ longer ≡ before ++ rows ++ row ∷ [] =
    ap (λ z. before ++ z) more ∙ sym (append_assoc before rows (row ∷ [])) in
    subst (λ z. AllZip IsExpressionOf z new) (sym all) (subst (λ z. AllZip IsExpressionOf (before ++ rows ++ row ∷ []) z) (sym pushed) next)

pub added_both : (a b : List Row) (old mid new : List Tree) → AreAdded a old mid → AreAdded b mid new → AreAdded (a ++ b) old new
added_both a b old mid new first second before zip =
    subst (λ z. AllZip IsExpressionOf z new) (append_assoc before a b) (second (before ++ a) (first before zip))

module _ (name : Option (List ℕ)) (from to : ℕ) (rows : List Terminal) where
  -- the rows as far as they were read
  abbrev pub read_rows : ℕ → List Row
  read_rows k = map (λ (row : Terminal). (name, row)) (take (k - from) (drop from (take to rows)))

  pub begun : (old : List Tree) → AreAdded (read_rows from) old old
  begun old =
      let zero_is : from - from ≡ 0 = omega arith in
      subst (λ (n : ℕ). AreAdded (map (λ (row : Terminal). (name, row)) (take n (drop from (take to rows)))) old old) (sym zero_is)
      (none_added old)

  module _ (inside : to ≤ length rows) where
    pub read_next : (k : ℕ) (row : Terminal) (old now new : List Tree) (made : Tree) → from ≤ k → k < to →
        row ≡ get_or rows k row → AreAdded (read_rows k) old now → IsExpressionOf (name, row) made → new ≡ now ++ made ∷ [] →
        AreAdded (read_rows (k + 1)) old new
    read_next k row old now new made above below at was is pushed =
        let len = length-take-le to rows inside in
        let here = slice_get_read rows (length rows) k row refl (omega (arith, below, inside)) at in
        let (other, there) = at_within (take to rows) k (omega (arith, below, len)) in
        let row_is = (at_take rows to k other there).1 in
        let same : slice_get (take to rows) k ≡ Some row = there ∙ (sym row_is ∙ here) in
        let longer = ap (map (λ (row : Terminal). (name, row))) (part_next (take to rows) from k row above same) ∙
        map-append (λ (row : Terminal). (name, row)) (take (k - from) (drop from (take to rows))) (row ∷ []) in
        added_next (read_rows k) (read_rows (k + 1)) (name, row) old now new made longer was is pushed

    pub read_all : (k : ℕ) (old new : List Tree) → to ≤ k → AreAdded (read_rows k) old new → AreAdded (rows_of name from to rows) old new
    read_all k old new past was =
        subst (λ z. AreAdded (map (λ (row : Terminal). (name, row)) z) old new)
        (part_all (take to rows) from k to (length-take-le to rows inside) past) was

-- one extension more, of each of which there are such rows
module _ (rows_in : ResolvedParts → List Row) (es : List ExtensionView) where
  abbrev pub blocks_to : ℕ → List Row
  blocks_to i = all_of (map rows_in (all_resolved (take i es)))

  pub blocks_begun : (old : List Tree) → AreAdded (blocks_to 0) old old
  blocks_begun old = none_added old

  pub block_next : (i : ℕ) (e : ExtensionView) (old now new : List Tree) → i < length es → e ≡ get_or es i e →
      AreAdded (blocks_to i) old now → AreAdded (rows_in e.resolved) now new → AreAdded (blocks_to (i + 1)) old new
  block_next i e old now new less is was more =
      let at = slice_get_read es (length es) i e refl less is in
      let rs = all_resolved (take i es) in
      let resolved : all_resolved (take (i + 1) es) ≡ rs ++ e.resolved ∷ [] =
      ap all_resolved (take_next es i e at) ∙ map-append (λ (e : ExtensionView). e.resolved) (take i es) (e ∷ []) in
      let blocks : map rows_in (all_resolved (take (i + 1) es)) ≡ map rows_in rs ++ rows_in e.resolved ∷ [] =
      ap (map rows_in) resolved ∙ map-append rows_in rs (e.resolved ∷ []) in
      subst (λ z. AreAdded z old new) (sym (ap all_of blocks ∙ all_next (map rows_in rs) (rows_in e.resolved)))
      (added_both (blocks_to i) (rows_in e.resolved) old now new was more)

-- the rows that an extension of this name adds
pub added_is : (host r : ResolvedParts) (name : List ℕ) (own count : ℕ) (rows : List Terminal) → r.attributes.extensions ≡ name ∷ [] →
    own ≡ terminals_in host.grammar → count ≡ terminals_in r.grammar → rows ≡ r.terminals →
    rows_of (Some name) own count rows ≡ added_rows host r
added_is host r name own count rows one own_is count_is rows_are =
    let named : name ≡ slice_index_or r.attributes.extensions 0 [] = sym (ap (λ xs. slice_index_or xs 0 []) one) in
    λ z. rows_of (Some (named z)) (own_is z) (count_is z) (rows_are z)

-- the layouts of an extension of this name after its terminals and so many others
pub layouts_are : (r : ResolvedParts) (name : List ℕ) (terminals count size : ℕ) (rows past left : List Terminal) →
    r.attributes.extensions ≡ name ∷ [] →
    terminals ≡ terminals_in r.grammar → rows ≡ r.terminals → past ≡ drop terminals rows → left ≡ drop count past → size ≡ length left →
    rows_of (Some name) 0 size left ≡ layouts_past count r
layouts_are r name terminals count size rows past left one terminals_are rows_are past_is left_is size_is =
    let named : name ≡ slice_index_or r.attributes.extensions 0 [] = sym (ap (λ xs. slice_index_or xs 0 []) one) in
    let all : take size left ≡ left = take_all size left (omega (arith, size_is)) in
    let whole : take (length r.terminals) r.terminals ≡ r.terminals = take_all (length r.terminals) r.terminals (omega arith) in
    let dropped : left ≡ drop (terminals + count) rows =
    left_is ∙ (ap (drop count) past_is ∙ drop-drop count terminals rows) in
    let same : take size left ≡ drop (terminals_in r.grammar + count) (take (length r.terminals) r.terminals) =
    all ∙ (dropped ∙ ((λ z. drop (terminals_are z + count) (rows_are z)) ∙ ap (drop (terminals_in r.grammar + count)) (sym whole))) in
    λ z. map (λ (row : Terminal). (Some (named z), row)) (same z)

-- all of a union
pub united : (host given : ResolvedParts) (es : List ExtensionView) (start own more behind made : List Tree) → host ≡ given → start ≡ [] →
    AreAdded (rows_of None 0 (terminals_in host.grammar) host.terminals) start own →
    AreAdded (all_of (map (added_rows host) (all_resolved es))) own more →
    AreAdded (rows_of None (terminals_in host.grammar) (length host.terminals) host.terminals) more behind →
    AreAdded (all_of (map (added_layouts host) (all_resolved es))) behind made →
    AreUnitedExpressions given (all_resolved es) made
united host given es start own more behind made same empty first second third fourth =
    let terminals = rows_of None 0 (terminals_in host.grammar) host.terminals in
    let added = all_of (map (added_rows host) (all_resolved es)) in
    let layouts = rows_of None (terminals_in host.grammar) (length host.terminals) host.terminals in
    let last = all_of (map (added_layouts host) (all_resolved es)) in
    let both = added_both terminals added start own more first second in
    let three = added_both (terminals ++ added) layouts start more behind both third in
    let whole = added_both (terminals ++ added ++ layouts) last start behind made three fourth in
    let of_host : AreUnitedExpressions host (all_resolved es) made =
    whole [] (subst (λ (z : List Tree). AllZip IsExpressionOf [] z) (sym empty) tt) in
    subst (λ z. AreUnitedExpressions z (all_resolved es) made) same of_host

-- A token of an older run that is next in the new text, and the stacks after it.
use Rattle.std.proofs.Common.{◌≡◌, ◌<◌, ◌≤◌, ◌+◌, ◌-◌, ℕ, zero, suc, List, [], ◌∷◌, ◌++◌, length, take, refl, sym, ◌∙◌, ap, subst, arith}
use Rattle.std.proofs.Common.{append_assoc, length-append}
use Rattle.std.specs.Prelude.{Some, slice_get}
use Rattle.std.proofs.lemmas.Option.{same_Some}
use Rattle.wb_lemmas.proofs.Places.{at_once}
use Rattle.wb_base.specs.declared.symbol.Symbol.{Symbol}
use Rattle.wb_base.specs.declared.symbol.Symbol.TheVariants.{Terminal}
use Rattle.wb_grammar_theory.specs.Trees.{Forest, nothing, leaf, symbols, Leaf, leaves}
use Rattle.wb_scan_theory.specs.Examined.{Scans}
use Rattle.wb_scan_theory.specs.Facts.{IsLanguage}
use Rattle.wb_scan_theory.specs.Languages.{LanguageView}
use Rattle.wb_scan_theory.specs.Tokens.{token}
use Rattle.wb_scan_theory.proofs.ForestLemmas.{append_nil}
use Rattle.wb_scan_theory.proofs.SeenLemmas.{scan_next}
use Rattle.wb_scan_theory.proofs.StepLemmas.{leaf_of, leaves_shifted}
use Rattle.wb_scan.specs.Views.{LanguageParts}
use Rattle.wb_parser_states.specs.Stacks.{AreStates}
use Rattle.wb_session_theory.specs.Runs.{Reads, stays, shifts}
use Rattle.wb_session_theory.proofs.FrameLemmas.{filled_symbols}
use Rattle.wb_session_theory.proofs.NumberLemmas.{states_symbols}
use Rattle.wb_session_theory.proofs.ReadLemmas.{reads_between, reads_once}
use Rattle.wb_session_theory.proofs.RejoinLemmas.{moved_token}
use Rattle.wb_session_theory.proofs.ScanLemmas.{scan_moved}
use Rattle.wb_session_theory.proofs.SessionLemmas.{later_stack}
use Rattle.wb_session.specs.declared.checkpoint.Checkpoint.{Checkpoint}
use Rattle.wb_session.specs.declared.older.Ahead.{Ahead}
use Rattle.wb_session.specs.declared.older.Older.{Older}
use Rattle.wb_session.specs.declared.place.LeafPlace.{LeafPlace}
use Rattle.wb_session.specs.Stacks.{Roots, LeadsTo}
use Rattle.wb_session.specs.Kept.{AreScanned, IsKept}
use Rattle.wb_session.specs.Inner.Older.{IsOlder}
use Rattle.wb_session.specs.Inner.Rounds.{IsTokenAt}
use Rattle.wb_session.specs.Inner.Standing.{HaveSameStates, IsAhead, IsAt}
use Rattle.wb_session.proofs.PlaceLemmas.{leaves_after, stands_of}

-- the leaves of a stack are the first of each later one
pub leaves_read : {l : LanguageView} {text : List ℕ} {e at at' : ℕ} {stack stack' : Forest} → Reads l text e [] stack at stack' at' →
    (more : List Leaf) × (leaves [] stack' ≡ leaves [] stack ++ more)
leaves_read {stack = stack} (stays same at_same) = ([], ap (leaves []) (sym same) ∙ sym (append_nil (leaves [] stack)))
leaves_read {stack = stack} (shifts begin t lexeme after reduced scan red can rest) =
    let (more, is) = leaves_read rest in (
      leaf_of reduced t lexeme ∷ more,
      is ∙ ap (λ z. z ++ more) (leaves_shifted reduced t lexeme ∙ ap (λ z. z ++ leaf_of reduced t lexeme ∷ []) (leaves_after red))
          ∙ append_assoc (leaves [] stack) (leaf_of reduced t lexeme ∷ []) more,
    )

-- there are as many places as leaves
pub scanned_size : (l : LanguageView) (text : List ℕ) (e : ℕ) (xs : List Leaf) (ps : List LeafPlace) (h a : List Symbol) (at i : ℕ) →
    AreScanned l text e h at xs ps a i → length xs ≡ length ps
scanned_size l text e [] [] h a at i is = refl
scanned_size l text e [] (p ∷ ps) h a at i is = absurd is
scanned_size l text e (x ∷ xs) [] h a at i is = absurd is
scanned_size l text e (x ∷ xs) (p ∷ ps) h a at i (scan, of, size, rest) =
    ap suc (scanned_size l text e xs ps (x.context ++ Terminal x.terminal ∷ []) a p.end i rest)

-- the last leaf is next where the others end
pub record IsLast (l : LanguageView) (text : List ℕ) (e : ℕ) (x : Leaf) (p : LeafPlace) (prefix : List Symbol) (at : ℕ) : Type 0 where
  pub scan : Scans l text prefix e at (token p.begin x.terminal x.text p.end)
  pub of : p.terminal ≡ x.terminal
  pub size : p.lexeme + length x.text ≡ p.end

pub last_scanned : (l : LanguageView) (text : List ℕ) (e d : ℕ) (xs : List Leaf) (ps : List LeafPlace) (x : Leaf) (p : LeafPlace)
    (h a b : List Symbol) (at i j : ℕ) → AreScanned l text e h at (xs ++ x ∷ []) (ps ++ p ∷ []) a i → AreScanned l text d h at xs ps b j →
    IsLast l text e x p b j
last_scanned l text e d [] [] x p h a b at i j (scan, of, size, rest) (same, same_at) = record {
  scan = subst (λ z. Scans l text z e j (token p.begin x.terminal x.text p.end)) same
      (subst (λ n. Scans l text h e n (token p.begin x.terminal x.text p.end)) same_at scan);
  of = of;
  size = size;
}
last_scanned l text e d [] (q ∷ qs) x p h a b at i j is none = absurd none
last_scanned l text e d (y ∷ ys) [] x p h a b at i j is none = absurd none
last_scanned l text e d (y ∷ ys) (q ∷ qs) x p h a b at i j (scan, of, size, rest) (scan', of', size', rest') =
    last_scanned l text e d ys qs x p (y.context ++ Terminal y.terminal ∷ []) a b q.end i j rest rest'

take_suc : {X : Type 0} (n : ℕ) (xs : List X) (x : X) → slice_get xs n ≡ Some x → take (suc n) xs ≡ take n xs ++ x ∷ []
take_suc n [] x at = absurd (Rattle.wb_lemmas.proofs.Places.nothing_at x n at)
take_suc zero (y ∷ xs) x at = ap (λ z. z ∷ []) (same_Some y x at)
take_suc (suc n) (y ∷ xs) x at = ap (λ z. y ∷ z) (take_suc n xs x at)

-- one more of the first elements
pub take_more : {X : Type 0} (n : ℕ) (xs : List X) (x : X) → slice_get xs n ≡ Some x → take (n + 1) xs ≡ take n xs ++ x ∷ []
take_more n xs x at = let next : n + 1 ≡ suc n = omega arith in ap (λ k. take k xs) next ∙ take_suc n xs x at

one_leaf : (xs : List Leaf) → length xs ≡ 1 → (x : Leaf) × (xs ≡ x ∷ [])
one_leaf [] size = absurd (omega (arith, size))
one_leaf (x ∷ []) size = (x, refl)
one_leaf (x ∷ y ∷ ys) size = absurd (omega (arith, size))

module _ (parts : LanguageParts) (ok : IsLanguage parts.language) (text : List ℕ) (older : Older) (o : IsOlder parts text older) where
  -- the last leaf before a checkpoint of the older run
  old_last : (from : Checkpoint) (number : ℕ) (ahead : Ahead) (is : IsAhead older from number ahead) (at : IsAt older number from.at) →
      (x : Leaf) × IsLast parts.language o.old is.next.reach x is.place (symbols (o.each number at.point at.is).stack) at.point.at
  old_last from number ahead is at =
      let l = parts.language in
      let old = o.old in
      let ps = older.places.now in
      let one = o.each number at.point at.is in
      let two = o.each (number + 1) is.next is.next_is in
      let first = take number ps in
      let before = leaves [] one.stack in
      let last_is : is.last ≡ at.point = at_once older.checkpoints.now number is.last at.point is.last_is at.is in
      let on : at.point.at ≤ is.next.at = subst (λ (z : Checkpoint). z.at ≤ is.next.at) last_is is.order.on in
      let run : Reads l old is.next.reach [] one.stack at.point.at two.stack is.next.at =
      reads_between l ok old one.reads two.reads refl refl on in
      let (more, leaves_are) = leaves_read run in
      let size_one = scanned_size l old at.point.reach before first [] (symbols one.stack) 0 at.point.at one.laid in
      let size_two = scanned_size l old is.next.reach (leaves [] two.stack) (take (number + 1) ps) [] (symbols two.stack) 0 is.next.at
      two.laid in
      let places_are = take_more number ps is.place is.place_is in
      let whole = ap length leaves_are ∙ length-append before more in
      let whole' = ap length places_are ∙ length-append first (is.place ∷ []) in
      let more_size : length more ≡ 1 = omega (arith, size_one, size_two, whole, whole') in
      let (x, more_is) = one_leaf more more_size in (
        x,
        last_scanned l old is.next.reach at.point.reach before first x is.place [] (symbols two.stack) (symbols one.stack) 0 is.next.at
            at.point.at
            (subst (λ z. AreScanned l old is.next.reach [] 0 z (first ++ is.place ∷ []) (symbols two.stack) is.next.at)
            (leaves_are ∙ ap (λ z. before ++ z) more_is)
            (subst (λ z. AreScanned l old is.next.reach [] 0 (leaves [] two.stack) z (symbols two.stack) is.next.at) places_are two.laid))
            one.laid,
      )

  -- the token of the older run is next where the parser stands as it stood there
  pub known_token : (roots : Roots) (places : List LeafPlace) (from : Checkpoint) (number : ℕ) (ahead : Ahead) →
      (is : IsAhead older from number ahead) (at : IsAt older number from.at) (k : IsKept parts text roots places from) →
      symbols (o.each number at.point at.is).stack ≡ symbols k.stack → IsTokenAt parts.language text (symbols k.stack) from.at ahead
  known_token roots places from number ahead is at k same =
      let l = parts.language in
      let one = o.each number at.point at.is in
      let (x, last) = old_last from number ahead is at in
      let e : ℕ = is.next.reach - older.to in
      let behind : older.to ≤ is.place.begin = is.order.behind in
      let begins : is.place.begin ≤ is.place.lexeme = is.order.begins in
      let ends : is.place.lexeme ≤ is.place.end = is.order.ends in
      let reaches : is.place.end ≤ is.next.reach = is.order.reaches in
      let reach_is : is.next.reach ≡ older.to + e = omega (arith, behind, begins, ends, reaches) in
      let (next', moved_is, scan') = scan_moved o.rest e last.scan reach_is at.further at.old_at in
      let m = moved_token moved_is refl in
      let begin_is : older.moved + m.i ≡ ahead.place.begin = omega (arith, is.begin, m.begin_is) in
      let end_is : older.moved + m.j ≡ ahead.place.end = omega (arith, is.end, m.after_is) in
      let reach_there : older.moved + e ≡ ahead.reach = omega (arith, is.reach, reach_is) in
      let size : ahead.place.lexeme + length x.text ≡ ahead.place.end =
      omega (arith, is.lexeme, is.end, last.size, behind, begins, ends) in
      let scan : Scans l text (symbols k.stack) ahead.reach from.at (token ahead.place.begin x.terminal x.text ahead.place.end) =
      subst (λ z. Scans l text z ahead.reach from.at (token ahead.place.begin x.terminal x.text ahead.place.end)) same
      (subst (λ z. Scans l text (symbols one.stack) z from.at (token ahead.place.begin x.terminal x.text ahead.place.end)) reach_there
      (subst (λ z. Scans l text (symbols one.stack) (older.moved + e) z (token ahead.place.begin x.terminal x.text ahead.place.end))
      (sym at.new_at)
      (subst (Scans l text (symbols one.stack) (older.moved + e) (older.moved + at.further))
      (m.next_is ∙ (λ t. token (begin_is t) x.terminal x.text (end_is t))) scan'))) in
      let terminal_is : ahead.place.terminal ≡ x.terminal = is.terminal ∙ last.of in
      let stands = stands_of ok.written (scan_next scan) x ahead.place refl terminal_is size in
      subst (Scans l text (symbols k.stack) ahead.reach from.at)
      (λ t. token ahead.place.begin (sym terminal_is t) (sym stands.lexeme t) ahead.place.end) scan

  -- the parser stands on the symbols of the older run's stack at a later place, too
  pub same_later : (roots roots' : Roots) (places places' : List LeafPlace) (from next : Checkpoint) (number number' : ℕ)
      (at : IsAt older number from.at) (at' : IsAt older number' next.at) (k : IsKept parts text roots places from)
      (k' : IsKept parts text roots' places' next) → from.at < next.at →
      symbols (o.each number at.point at.is).stack ≡ symbols k.stack →
      symbols (o.each number' at'.point at'.is).stack ≡ symbols k'.stack
  same_later roots roots' places places' from next number number' at at' k k' further same =
      let l = parts.language in
      let one = o.each number at.point at.is in
      let two = o.each number' at'.point at'.is in
      let e : ℕ = at'.point.reach - older.to in
      let reached : at'.point.at ≤ at'.point.reach = two.before in
      let reach_is : at'.point.reach ≡ older.to + e = omega (arith, reached, at'.old_at) in
      let on : at.point.at ≤ at'.point.at = omega (arith, at.old_at, at.new_at, at'.old_at, at'.new_at, further) in
      let run : Reads l o.old (older.to + e) [] one.stack (older.to + at.further) two.stack at'.point.at =
      subst (λ z. Reads l o.old z [] one.stack (older.to + at.further) two.stack at'.point.at) reach_is
      (subst (λ z. Reads l o.old at'.point.reach [] one.stack z two.stack at'.point.at) at.old_at
      (reads_between l ok o.old one.reads two.reads refl refl on)) in
      let c = later_stack l ok o.rest e at.further run
      (subst (λ z. Reads l text from.reach [] nothing 0 k.stack z) at.new_at k.reads) same in
      let place : older.moved + c.further ≡ next.at = omega (arith, c.at_is, at'.old_at, at'.new_at) in
      ap symbols c.is ∙ filled_symbols c.frame one.stack k.stack same ∙ ap symbols (reads_once l ok text c.reads k'.reads refl refl place)

  -- and where the links lead to the same states
  pub same_found : (roots : Roots) (places : List LeafPlace) (from : Checkpoint) (number : ℕ) (at : IsAt older number from.at)
      (k : IsKept parts text roots places from) → take older.shared roots.entries ≡ take older.shared older.entries.now →
      HaveSameStates older roots.entries from.link number → symbols (o.each number at.point at.is).stack ≡ symbols k.stack
  same_found roots places from number at k shares have =
      let one = o.each number at.point at.is in
      let states_are : k.is.states ≡ one.is.states =
      have shares at.point at.is roots.values o.roots.values k.is.states one.is.states k.is.vs one.is.vs k.is.leads
      (subst (λ z. LeadsTo z o.roots.values at.point.link one.is.states one.is.vs) o.entries one.is.leads) in
      states_symbols parts.tables ok.deterministic.in_range [] [] one.is.states one.stack k.stack one.is.states_are
      (subst (λ z. AreStates parts.language.grammar parts.tables [] z k.stack) states_are k.is.states_are)

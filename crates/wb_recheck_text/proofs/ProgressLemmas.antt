-- How a reading goes on by lines and entries, where it halts, and what it has at the end.
use Rattle.std.proofs.Common.{◌≡◌, ◌≢◌, ◌<◌, ◌≤◌, ◌+◌, ◌-◌, ℕ, suc, List, [], ◌∷◌}
use Rattle.std.proofs.Common.{◌++◌, All, length, length-append, refl, sym, ap, ◌∙◌, subst, arith, drop, get_or}
use Rattle.std.specs.Prelude.{codes, Result, Ok, Err, IfOk, IfErr}
use Rattle.std.specs.List.{flat_map}
use Rattle.std.proofs.lemmas.List.Elements.{All-nil, All-cons, All-push, All-append}
use Rattle.wb_lemmas.proofs.Parts.{append_assoc, joined}
use Rattle.wb_lemmas.proofs.Elements.{all_left, all_right}
use Rattle.wb_recheck_theory.specs.declared.line.Line.{Line}
use Rattle.wb_recheck_theory.specs.declared.entry.Entry.{Entry}
use Rattle.wb_recheck_text.specs.Text.{body_text, certificate_text, entry_text, head_text, line_text}
use Rattle.wb_recheck_text.specs.Faults.{AreNames, CanGoOn, IsEntrySmall, IsFirstFault, IsLineSmall, IsStuck, IsTextOf, IsWritable}
use Rattle.wb_recheck_text.specs.Inner.Parts.{Begins, IsStop, Texts}
use Rattle.wb_recheck_text.specs.Inner.Progress.{GoesOn, HasRead, IsFaultAt, top_text}
use Rattle.wb_recheck_text.specs.declared.certificate.Certificate.{Certificate}
use Rattle.wb_recheck_text.specs.declared.certificate.Head.{Head}
use Rattle.wb_recheck_text.proofs.StopLemmas.{append_none, stop_over}
use Rattle.wb_recheck_text.proofs.HeadLemmas.{top_unique}
use Rattle.wb_recheck_text.proofs.LineLemmas.{line_unique}
use Rattle.wb_recheck_text.proofs.EntryLemmas.{entry_unique}

abbrev pub certificate_of : Head → List Line → List Entry → Certificate
certificate_of head lines entries = record { head = head; lines = lines; entries = entries }

-- a certificate's text is that of its head and of its lines and entries
pub certificate_parts : (c : Certificate) → certificate_text c ≡ top_text c.head ++ body_text c.lines c.entries
certificate_parts c = sym (append_assoc (codes "certificate 1\n") (head_text c.head) (body_text c.lines c.entries))

-- after the head
module _ (head : Head) (names : AreNames head) where
  head_there : (l : List ℕ) (c : Certificate) → IsTextOf (top_text head ++ l) c → GoesOn head [] [] l c
  head_there l c t =
      let whole : top_text head ++ l ≡ top_text c.head ++ body_text c.lines c.entries = t.is ∙ certificate_parts c in
      let both = top_unique head c.head l (body_text c.lines c.entries) names t.writable.names whole in
      record {
        names = names;
        more_lines = c.lines;
        more_entries = c.entries;
        in_order = λ some. absurd (some refl);
        lines_small = t.writable.lines;
        entries_small = t.writable.entries;
        is = ap (λ h. certificate_of h c.lines c.entries) (sym both.0);
        text = both.1;
      }

  head_back : (l : List ℕ) (c : Certificate) → GoesOn head [] [] l c → IsTextOf (top_text head ++ l) c
  head_back l c on =
      let made : IsTextOf (top_text head ++ l) (certificate_of head on.more_lines on.more_entries) = record {
        writable = record { names = names; lines = on.lines_small; entries = on.entries_small };
        is = ap (λ z. top_text head ++ z) on.text ∙ sym (certificate_parts (certificate_of head on.more_lines on.more_entries));
      } in
      subst (IsTextOf (top_text head ++ l)) (sym on.is) made

  pub head_has_read : (text rest : List ℕ) → text ≡ top_text head ++ rest → HasRead text rest head [] []
  head_has_read text rest is = record {
    front = top_text head;
    split = is;
    names = names;
    lines_small = All-nil IsLineSmall;
    entries_small = All-nil IsEntrySmall;
    there = head_there;
    back = head_back;
  }

pub head_begun : (text rest : List ℕ) (head : Head) → Begins AreNames top_text text head rest → HasRead text rest head [] []
head_begun text rest head (names, is) = head_has_read head names text rest is

-- what begins with the line of a kernel, and what doesn't
entries_no_line : (x : Line) (l : List ℕ) (entries : List Entry) → line_text x ++ l ≡ flat_map entry_text entries → ⊥
entries_no_line x l [] e = cc
entries_no_line x l (y ∷ entries) e = let f : 107 ≡ 108 = ap (λ z. get_or z 0 0) e in omega (arith, f)

lines_no_entry : (x : Entry) (l : List ℕ) (y : Line) (rest : List ℕ) → entry_text x ++ l ≡ line_text y ++ rest → ⊥
lines_no_entry x l y rest e = let f : 108 ≡ 107 = ap (λ z. get_or z 0 0) e in omega (arith, f)

-- one line more
module _ (head : Head) (lines : List Line) (x : Line) (small : IsLineSmall x) where
  line_there : (l : List ℕ) (c : Certificate) → GoesOn head lines [] (line_text x ++ l) c → GoesOn head (lines ++ x ∷ []) [] l c
  line_there l c on = cases on.more_lines refl on.text where
    cases : (more : List Line) → on.more_lines ≡ more → line_text x ++ l ≡ body_text more on.more_entries →
        GoesOn head (lines ++ x ∷ []) [] l c
    cases [] same e = absurd (entries_no_line x l on.more_entries e)
    cases (y ∷ more) same e =
        let all : All IsLineSmall (lines ++ y ∷ more) = subst (λ z. All IsLineSmall (lines ++ z)) same on.lines_small in
        let y_small = (all_right IsLineSmall lines (y ∷ more) all) 0 y (omega arith) in
        let both = line_unique x y l (body_text more on.more_entries) small y_small
        (e ∙ append_assoc (line_text y) (flat_map line_text more) (flat_map entry_text on.more_entries)) in
        let moved : lines ++ y ∷ more ≡ (lines ++ x ∷ []) ++ more =
        ap (λ z. lines ++ z ∷ more) (sym both.0) ∙ sym (append_assoc lines (x ∷ []) more) in
        record {
          names = on.names;
          more_lines = more;
          more_entries = on.more_entries;
          in_order = λ some. absurd (some refl);
          lines_small = subst (All IsLineSmall) moved all;
          entries_small = on.entries_small;
          is = on.is ∙ ap (λ z. certificate_of head z on.more_entries) (ap (λ z. lines ++ z) same ∙ moved);
          text = both.1;
        }

  line_back : (l : List ℕ) (c : Certificate) → GoesOn head (lines ++ x ∷ []) [] l c → GoesOn head lines [] (line_text x ++ l) c
  line_back l c on =
      let moved : (lines ++ x ∷ []) ++ on.more_lines ≡ lines ++ x ∷ on.more_lines = append_assoc lines (x ∷ []) on.more_lines in
      record {
        names = on.names;
        more_lines = x ∷ on.more_lines;
        more_entries = on.more_entries;
        in_order = λ some. absurd (some refl);
        lines_small = subst (All IsLineSmall) moved on.lines_small;
        entries_small = on.entries_small;
        is = on.is ∙ ap (λ z. certificate_of head z on.more_entries) moved;
        text = ap (λ z. line_text x ++ z) on.text
            ∙ sym (append_assoc (line_text x) (flat_map line_text on.more_lines) (flat_map entry_text on.more_entries));
      }

pub line_has_read : (text rest after : List ℕ) (head : Head) (lines : List Line) (x : Line) → Begins IsLineSmall line_text rest x after →
    HasRead text rest head lines [] → HasRead text after head (lines ++ x ∷ []) []
line_has_read text rest after head lines x (small, is) read = record {
  front = read.front ++ line_text x;
  split = joined read.front rest (line_text x) after text read.split is;
  names = read.names;
  lines_small = All-push IsLineSmall lines x read.lines_small small;
  entries_small = read.entries_small;
  there = λ l c t. line_there head lines x small l c
      (read.there (line_text x ++ l) c (subst (λ z. IsTextOf z c) (append_assoc read.front (line_text x) l) t));
  back = λ l c on. subst (λ z. IsTextOf z c) (sym (append_assoc read.front (line_text x) l))
      (read.back (line_text x ++ l) c (line_back head lines x small l c on));
}

-- one entry more
not_none : {X : Type 0} (xs : List X) (x : X) → xs ++ x ∷ [] ≢ []
not_none [] x e = cc
not_none (y ∷ xs) x e = cc

module _ (head : Head) (lines : List Line) (entries : List Entry) (x : Entry) (small : IsEntrySmall x) where
  entry_there : (l : List ℕ) (c : Certificate) → GoesOn head lines entries (entry_text x ++ l) c → GoesOn head lines (entries ++ x ∷ []) l c
  entry_there l c on = cases on.more_lines refl on.more_entries refl on.text where
    cases : (more : List Line) → on.more_lines ≡ more → (later : List Entry) → on.more_entries ≡ later →
        entry_text x ++ l ≡ body_text more later → GoesOn head lines (entries ++ x ∷ []) l c
    cases (y ∷ more) same later same' e =
        absurd (lines_no_entry x l y (flat_map line_text more ++ flat_map entry_text later)
        (e ∙ append_assoc (line_text y) (flat_map line_text more) (flat_map entry_text later)))
    cases [] same [] same' e = cc
    cases [] same (y ∷ later) same' e =
        let all : All IsEntrySmall (entries ++ y ∷ later) = subst (λ z. All IsEntrySmall (entries ++ z)) same' on.entries_small in
        let y_small = (all_right IsEntrySmall entries (y ∷ later) all) 0 y (omega arith) in
        let both = entry_unique x y l (flat_map entry_text later) small y_small e in
        let moved : entries ++ y ∷ later ≡ (entries ++ x ∷ []) ++ later =
        ap (λ z. entries ++ z ∷ later) (sym both.0) ∙ sym (append_assoc entries (x ∷ []) later) in
        record {
          names = on.names;
          more_lines = [];
          more_entries = later;
          in_order = λ some. refl;
          lines_small = subst (λ z. All IsLineSmall (lines ++ z)) same on.lines_small;
          entries_small = subst (All IsEntrySmall) moved all;
          is = on.is ∙ (ap (λ z. certificate_of head (lines ++ z) (entries ++ on.more_entries)) same
              ∙ ap (λ z. certificate_of head (lines ++ []) z) (ap (λ z. entries ++ z) same' ∙ moved));
          text = both.1;
        }

  entry_back : (l : List ℕ) (c : Certificate) → GoesOn head lines (entries ++ x ∷ []) l c → GoesOn head lines entries (entry_text x ++ l) c
  entry_back l c on =
      let moved : (entries ++ x ∷ []) ++ on.more_entries ≡ entries ++ x ∷ on.more_entries = append_assoc entries (x ∷ []) on.more_entries in
      let none : on.more_lines ≡ [] = on.in_order (not_none entries x) in
      record {
        names = on.names;
        more_lines = [];
        more_entries = x ∷ on.more_entries;
        in_order = λ some. refl;
        lines_small = subst (λ z. All IsLineSmall (lines ++ z)) none on.lines_small;
        entries_small = subst (All IsEntrySmall) moved on.entries_small;
        is = on.is ∙ (ap (λ z. certificate_of head (lines ++ z) ((entries ++ x ∷ []) ++ on.more_entries)) none
            ∙ ap (λ z. certificate_of head (lines ++ []) z) moved);
        text = ap (λ z. entry_text x ++ z) (on.text ∙ ap (λ z. body_text z on.more_entries) none);
      }

pub entry_has_read : (text rest after : List ℕ) (head : Head) (lines : List Line) (entries : List Entry) (x : Entry) →
    Begins IsEntrySmall entry_text rest x after → HasRead text rest head lines entries → HasRead text after head lines (entries ++ x ∷ [])
entry_has_read text rest after head lines entries x (small, is) read = record {
  front = read.front ++ entry_text x;
  split = joined read.front rest (entry_text x) after text read.split is;
  names = read.names;
  lines_small = read.lines_small;
  entries_small = All-push IsEntrySmall entries x read.entries_small small;
  there = λ l c t. entry_there head lines entries x small l c
      (read.there (entry_text x ++ l) c (subst (λ z. IsTextOf z c) (append_assoc read.front (entry_text x) l) t));
  back = λ l c on. subst (λ z. IsTextOf z c) (sym (append_assoc read.front (entry_text x) l))
      (read.back (entry_text x ++ l) c (entry_back head lines entries x small l c on));
}

-- what has been read is a certificate's text where it ends there
pub read_ended : {text rest : List ℕ} {head : Head} {lines : List Line} {entries : List Entry} (read : HasRead text rest head lines entries) →
    IsTextOf (read.front ++ []) (certificate_of head lines entries)
read_ended {head = head} {lines = lines} {entries = entries} read =
    read.back [] (certificate_of head lines entries) (record {
      names = read.names;
      more_lines = [];
      more_entries = [];
      in_order = λ some. refl;
      lines_small = subst (All IsLineSmall) (sym (append_none lines)) read.lines_small;
      entries_small = subst (All IsEntrySmall) (sym (append_none entries)) read.entries_small;
      is = ap (λ z. certificate_of head z entries) (sym (append_none lines))
          ∙ ap (λ z. certificate_of head (lines ++ []) z) (sym (append_none entries));
      text = refl;
    })

pub read_whole : (text : List ℕ) (head : Head) (lines : List Line) (entries : List Entry) → HasRead text [] head lines entries →
    IsTextOf text (certificate_of head lines entries)
read_whole text head lines entries read = subst (λ z. IsTextOf z (certificate_of head lines entries)) (sym read.split) (read_ended read)

-- and of no other
pub read_only : (text : List ℕ) (head : Head) (lines : List Line) (entries : List Entry) → HasRead text [] head lines entries →
    (other : Certificate) → IsTextOf text other → other ≡ certificate_of head lines entries
read_only text head lines entries read other t =
    let on = read.there [] other (subst (λ z. IsTextOf z other) read.split t) in
    cases on on.more_lines refl on.more_entries refl on.text
  where
    cases : (on : GoesOn head lines entries [] other) (more : List Line) → on.more_lines ≡ more → (later : List Entry) →
        on.more_entries ≡ later → [] ≡ body_text more later → other ≡ certificate_of head lines entries
    cases on (y ∷ more) same later same' e = cc
    cases on [] same (y ∷ later) same' e = cc
    cases on [] same [] same' e =
        on.is ∙ (ap (λ z. certificate_of head z (entries ++ on.more_entries)) (ap (λ z. lines ++ z) same ∙ append_none lines)
        ∙ ap (λ z. certificate_of head lines z) (ap (λ z. entries ++ z) same' ∙ append_none entries))

-- where the rest begins with the line of no kernel and of no entry
pub read_stuck : (text rest : List ℕ) (head : Head) (lines : List Line) (entries : List Entry) → rest ≢ [] →
    ((after : List ℕ) → rest ≢ 108 ∷ after) → (entries ≡ [] → (after : List ℕ) → rest ≢ 107 ∷ after) →
    HasRead text rest head lines entries → IsFaultAt text rest
read_stuck text rest head lines entries some no_entry no_line read = record {
  front = read.front;
  split = read.split;
  before = ([], certificate_of head lines entries, read_ended read);
  stuck = stuck rest some no_entry no_line;
}
  where
    none : (b : ℕ) (after tail : List ℕ) (c : Certificate) → ((l : List ℕ) → b ∷ after ≢ 108 ∷ l) →
        (entries ≡ [] → (l : List ℕ) → b ∷ after ≢ 107 ∷ l) → (on : GoesOn head lines entries (b ∷ tail) c) → (more : List Line) →
        on.more_lines ≡ more → (later : List Entry) → b ∷ tail ≡ body_text more later → ⊥
    none b after tail c no_l no_k on [] same [] e = cc
    none b after tail c no_l no_k on [] same (y ∷ later) e = no_l after (let first : b ≡ 108 = cc in ap (λ z. z ∷ after) first)
    none b after tail c no_l no_k on (y ∷ more) same later e =
        let first : b ≡ 107 = cc in
        by_entries entries refl (ap (λ z. z ∷ after) first)
      where
        by_entries : (list : List Entry) → entries ≡ list → b ∷ after ≡ 107 ∷ after → ⊥
        by_entries [] is k = no_k is after k
        by_entries (z ∷ list) is k =
            let empty : on.more_lines ≡ [] = on.in_order (λ zero. (let f : z ∷ list ≡ [] = sym is ∙ zero in cc)) in
            let other : y ∷ more ≡ [] = sym same ∙ empty in
            cc

    stuck : (l : List ℕ) → l ≢ [] → ((after : List ℕ) → l ≢ 108 ∷ after) → (entries ≡ [] → (after : List ℕ) → l ≢ 107 ∷ after) →
        IsStuck read.front l
    stuck [] nonempty no_l no_k = absurd (nonempty refl)
    stuck (b ∷ after) nonempty no_l no_k = λ (tail, c, t).
        (let on = read.there (b ∷ tail) c (subst (λ z. IsTextOf z c) (append_assoc read.front (b ∷ []) tail) t) in
        none b after tail c no_l no_k on on.more_lines refl on.more_entries on.text)

-- where the line of a kernel begins and stops
module _ (text rest stop : List ℕ) (head : Head) (lines : List Line) (begun : rest ≡ 107 ∷ drop 1 rest)
    (s : IsStop (Texts IsLineSmall line_text) rest stop) (read : HasRead text rest head lines []) where
  -- what goes on so begins with a line
  line_begins : (l : List ℕ) (c : Certificate) (tail : List ℕ) → l ≡ 107 ∷ tail → (on : GoesOn head lines [] l c) →
      (y : Line) × (z : List ℕ) × IsLineSmall y × (l ≡ line_text y ++ z)
  line_begins l c tail first on = cases on.more_lines refl on.more_entries on.text where
    cases : (more : List Line) → on.more_lines ≡ more → (later : List Entry) → l ≡ body_text more later →
        (y : Line) × (z : List ℕ) × IsLineSmall y × (l ≡ line_text y ++ z)
    cases [] same [] e = let f : 107 ∷ tail ≡ [] = sym first ∙ e in cc
    cases [] same (x ∷ later) e = let f : 107 ≡ 108 = ap (λ z. get_or z 0 0) (sym first ∙ e) in absurd (omega (arith, f))
    cases (y ∷ more) same later e =
        let all : All IsLineSmall (lines ++ y ∷ more) = subst (λ z. All IsLineSmall (lines ++ z)) same on.lines_small in
        let y_small = (all_right IsLineSmall lines (y ∷ more) all) 0 y (omega arith) in (
          y,
          flat_map line_text more ++ flat_map entry_text later,
          y_small,
          e ∙ append_assoc (line_text y) (flat_map line_text more) (flat_map entry_text later),
        )

  -- the first byte is there in either part
  first_byte : (front : List ℕ) (b : ℕ) (after tail : List ℕ) → rest ≡ front ++ b ∷ after → (t : List ℕ) × (front ++ b ∷ tail ≡ 107 ∷ t)
  first_byte [] b after tail is = let same : b ≡ 107 = (let e : b ∷ after ≡ 107 ∷ drop 1 rest = sym is ∙ begun in cc) in
      (tail, ap (λ z. z ∷ tail) same)
  first_byte (d ∷ front) b after tail is =
      let same : d ≡ 107 = (let e : d ∷ (front ++ b ∷ after) ≡ 107 ∷ drop 1 rest = sym is ∙ begun in cc) in
      (front ++ b ∷ tail, ap (λ z. z ∷ (front ++ b ∷ tail)) same)

  line_stuck : (l : List ℕ) → stop ≡ l → IsStuck (read.front ++ s.front) l
  line_stuck [] is = λ c t.
      (let whole : s.front ≡ rest = sym (append_none s.front) ∙ (ap (λ z. s.front ++ z) (sym is) ∙ sym s.split) in
      let on = read.there rest c (subst (λ z. IsTextOf z c) (ap (λ z. read.front ++ z) whole) t) in
      let (y, z, y_small, e) = line_begins rest c (drop 1 rest) begun on in
      s.no_whole (line_text y) z (y, y_small, refl) e)
  line_stuck (b ∷ after) is = λ (tail, c, t).
      (let at : ((read.front ++ s.front) ++ b ∷ []) ++ tail ≡ read.front ++ (s.front ++ b ∷ tail) =
      append_assoc (read.front ++ s.front) (b ∷ []) tail ∙ append_assoc read.front s.front (b ∷ tail) in
      let on = read.there (s.front ++ b ∷ tail) c (subst (λ z. IsTextOf z c) at t) in
      let (u, first) = first_byte s.front b after tail (s.split ∙ ap (λ z. s.front ++ z) is) in
      let (y, z, y_small, e) = line_begins (s.front ++ b ∷ tail) c u first on in
      stop_over s b after tail (line_text y) z is (y, y_small, refl) e)

  line_can : CanGoOn (read.front ++ s.front)
  line_can =
      let (y, y_small, e) = s.begins in
      let more = line_has_read (read.front ++ line_text y) (line_text y) [] head lines y
      (y_small, sym (append_none (line_text y)))
      (record {
        front = read.front;
        split = refl;
        names = read.names;
        lines_small = read.lines_small;
        entries_small = read.entries_small;
        there = read.there;
        back = read.back;
      }) in
      let whole = read_whole (read.front ++ line_text y) head (lines ++ y ∷ []) [] more in (
        s.more,
        certificate_of head (lines ++ y ∷ []) [],
        subst (λ z. IsTextOf z (certificate_of head (lines ++ y ∷ []) []))
            (ap (λ z. read.front ++ z) (sym e) ∙ sym (append_assoc read.front s.front s.more)) whole,
      )

  pub line_halts : IsFaultAt text stop
  line_halts = record {
    front = read.front ++ s.front;
    split = joined read.front rest s.front stop text read.split s.split;
    before = line_can;
    stuck = line_stuck stop refl;
  }

-- where the line of an entry begins and stops
module _ (text rest stop : List ℕ) (head : Head) (lines : List Line) (entries : List Entry) (begun : rest ≡ 108 ∷ drop 1 rest)
    (s : IsStop (Texts IsEntrySmall entry_text) rest stop) (read : HasRead text rest head lines entries) where
  entry_begins : (l : List ℕ) (c : Certificate) (tail : List ℕ) → l ≡ 108 ∷ tail → (on : GoesOn head lines entries l c) →
      (y : Entry) × (z : List ℕ) × IsEntrySmall y × (l ≡ entry_text y ++ z)
  entry_begins l c tail first on = cases on.more_lines on.more_entries refl on.text where
    cases : (more : List Line) (later : List Entry) → on.more_entries ≡ later → l ≡ body_text more later →
        (y : Entry) × (z : List ℕ) × IsEntrySmall y × (l ≡ entry_text y ++ z)
    cases [] [] same e = let f : 108 ∷ tail ≡ [] = sym first ∙ e in cc
    cases (x ∷ more) later same e =
        let f : 108 ≡ 107 = ap (λ z. get_or z 0 0) (sym first ∙ e) in absurd (omega (arith, f))
    cases [] (y ∷ later) same e =
        let all : All IsEntrySmall (entries ++ y ∷ later) = subst (λ z. All IsEntrySmall (entries ++ z)) same on.entries_small in
        let y_small = (all_right IsEntrySmall entries (y ∷ later) all) 0 y (omega arith) in
        (y, flat_map entry_text later, y_small, e)

  first_letter : (front : List ℕ) (b : ℕ) (after tail : List ℕ) → rest ≡ front ++ b ∷ after → (t : List ℕ) × (front ++ b ∷ tail ≡ 108 ∷ t)
  first_letter [] b after tail is = let same : b ≡ 108 = (let e : b ∷ after ≡ 108 ∷ drop 1 rest = sym is ∙ begun in cc) in
      (tail, ap (λ z. z ∷ tail) same)
  first_letter (d ∷ front) b after tail is =
      let same : d ≡ 108 = (let e : d ∷ (front ++ b ∷ after) ≡ 108 ∷ drop 1 rest = sym is ∙ begun in cc) in
      (front ++ b ∷ tail, ap (λ z. z ∷ (front ++ b ∷ tail)) same)

  entry_stuck : (l : List ℕ) → stop ≡ l → IsStuck (read.front ++ s.front) l
  entry_stuck [] is = λ c t.
      (let whole : s.front ≡ rest = sym (append_none s.front) ∙ (ap (λ z. s.front ++ z) (sym is) ∙ sym s.split) in
      let on = read.there rest c (subst (λ z. IsTextOf z c) (ap (λ z. read.front ++ z) whole) t) in
      let (y, z, y_small, e) = entry_begins rest c (drop 1 rest) begun on in
      s.no_whole (entry_text y) z (y, y_small, refl) e)
  entry_stuck (b ∷ after) is = λ (tail, c, t).
      (let at : ((read.front ++ s.front) ++ b ∷ []) ++ tail ≡ read.front ++ (s.front ++ b ∷ tail) =
      append_assoc (read.front ++ s.front) (b ∷ []) tail ∙ append_assoc read.front s.front (b ∷ tail) in
      let on = read.there (s.front ++ b ∷ tail) c (subst (λ z. IsTextOf z c) at t) in
      let (u, first) = first_letter s.front b after tail (s.split ∙ ap (λ z. s.front ++ z) is) in
      let (y, z, y_small, e) = entry_begins (s.front ++ b ∷ tail) c u first on in
      stop_over s b after tail (entry_text y) z is (y, y_small, refl) e)

  entry_can : CanGoOn (read.front ++ s.front)
  entry_can =
      let (y, y_small, e) = s.begins in
      let more = entry_has_read (read.front ++ entry_text y) (entry_text y) [] head lines entries y
      (y_small, sym (append_none (entry_text y)))
      (record {
        front = read.front;
        split = refl;
        names = read.names;
        lines_small = read.lines_small;
        entries_small = read.entries_small;
        there = read.there;
        back = read.back;
      }) in
      let whole = read_whole (read.front ++ entry_text y) head lines (entries ++ y ∷ []) more in (
        s.more,
        certificate_of head lines (entries ++ y ∷ []),
        subst (λ z. IsTextOf z (certificate_of head lines (entries ++ y ∷ [])))
            (ap (λ z. read.front ++ z) (sym e) ∙ sym (append_assoc read.front s.front s.more)) whole,
      )

  pub entry_halts : IsFaultAt text stop
  entry_halts = record {
    front = read.front ++ s.front;
    split = joined read.front rest s.front stop text read.split s.split;
    before = entry_can;
    stuck = entry_stuck stop refl;
  }

-- the first fault by its place
pub fault_place : (text rest : List ℕ) (at : ℕ) → at ≡ length text - length rest → IsFaultAt text rest → IsFirstFault text at
fault_place text rest at is fault = record {
  front = fault.front;
  rest = rest;
  split = fault.split;
  place = (
      let long = ap length fault.split in
      let parts = length-append fault.front rest in
      omega (arith, is, long, parts)
      );
  before = fault.before;
  stuck = fault.stuck;
}

-- the rest is no longer than the text
pub fault_within : (text rest : List ℕ) → IsFaultAt text rest → length rest ≤ length text
fault_within text rest fault =
    let long = ap length fault.split in
    let parts = length-append fault.front rest in
    omega (arith, long, parts)

-- a stop in the lines at the beginning is a first fault
module _ (text stop : List ℕ) (s : IsStop (Texts AreNames top_text) text stop) where
  top_whole : (l : List ℕ) (c : Certificate) → IsTextOf l c → (z : List ℕ) × (Texts AreNames top_text (top_text c.head)) ×
      (l ≡ top_text c.head ++ z)
  top_whole l c t = (body_text c.lines c.entries, (c.head, t.writable.names, refl), t.is ∙ certificate_parts c)

  top_stuck : (l : List ℕ) → stop ≡ l → IsStuck s.front l
  top_stuck [] is = λ c t.
      (let whole : s.front ≡ text = sym (append_none s.front) ∙ (ap (λ z. s.front ++ z) (sym is) ∙ sym s.split) in
      let (z, top, e) = top_whole s.front c t in
      s.no_whole (top_text c.head) z top (sym whole ∙ e))
  top_stuck (b ∷ after) is = λ (tail, c, t).
      (let (z, top, e) = top_whole ((s.front ++ b ∷ []) ++ tail) c t in
      stop_over s b after tail (top_text c.head) z is top (sym (append_assoc s.front (b ∷ []) tail) ∙ e))

  top_can : CanGoOn s.front
  top_can =
      let (head, names, e) = s.begins in
      let read = head_has_read head names (top_text head) [] (sym (append_none (top_text head))) in (
        s.more,
        certificate_of head [] [],
        subst (λ z. IsTextOf z (certificate_of head [] [])) (sym e) (read_whole (top_text head) head [] [] read),
      )

  pub top_halts : IsFaultAt text stop
  top_halts = record { front = s.front; split = s.split; before = top_can; stuck = top_stuck stop refl }

-- an answer that says more
pub ok_then : {X E : Type 0} (r : Result X E) {P Q : X → Type 0} → IfOk r P → ((x : X) → P x → Q x) → IfOk r Q
ok_then (Ok x) p weaker = weaker x p
ok_then (Err e) p weaker = tt

pub err_then : {X E : Type 0} (r : Result X E) {P Q : E → Type 0} → IfErr r P → ((e : E) → P e → Q e) → IfErr r Q
err_then (Ok x) p weaker = tt
err_then (Err e) p weaker = weaker e p

-- the rest of a stop at the beginning is no longer than the text
pub top_within : (text stop : List ℕ) → IsStop (Texts AreNames top_text) text stop → length stop ≤ length text
top_within text stop s = fault_within text stop (top_halts text stop s)

-- and its place is the first fault
pub top_place : (text stop : List ℕ) (at : ℕ) → at ≡ length text - length stop → IsStop (Texts AreNames top_text) text stop →
    IsFirstFault text at
top_place text stop at is s = fault_place text stop at is (top_halts text stop s)

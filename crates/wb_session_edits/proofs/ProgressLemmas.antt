-- How a reading goes on by lines, where it halts, and what it has at the end.
use Rattle.std.proofs.Common.{◌≡◌, ◌≢◌, ◌<◌, ◌≤◌, ◌+◌, ◌-◌, ℕ, List, [], ◌∷◌, ◌++◌, length, refl, sym, ap, ◌∙◌, subst, arith}
use Rattle.wb_lemmas.proofs.Parts.{append_assoc}
use Rattle.wb_text_parts.specs.Faults.{CanGoOn, IsFaultAt, IsFirstFault, IsStuck}
use Rattle.wb_text_parts.specs.Parts.{IsStop}
use Rattle.wb_text_parts.proofs.FaultLemmas.{fault_place, fault_within}
use Rattle.wb_text_parts.proofs.StopLemmas.{append_cancel, append_none, stop_over}
use Rattle.wb_session_edits.specs.Edits.{IsLineOf, IsList, IsListOf, IsRefused}
use Rattle.wb_session_edits.specs.Inner.Progress.{BeginsLine, HaltsIn, HasRead, IsHalt, Lines}
use Rattle.wb_session_edits.specs.declared.edit.Edit.{Edit}
use Rattle.wb_session_edits.specs.declared.line.Halt.{Halt}
use Rattle.wb_session_edits.specs.declared.line.Halt.TheVariants.{At, NoMemory}
use Rattle.wb_session_edits.proofs.LineLemmas.{line_some, line_unique}

-- one list after another
list_append : {a b : List ℕ} {es fs : List Edit} → IsListOf a es → IsListOf b fs → IsListOf (a ++ b) (es ++ fs)
list_append {b = b} {es = es} {fs = fs} (IsListOf.none e f) more =
    subst (λ z. IsListOf (z ++ b) (es ++ fs)) (sym e) (subst (λ z. IsListOf b (z ++ fs)) (sym f) more)
list_append {b = b} {fs = fs} (IsListOf.next {line = line} {rest = rest} {edit = edit} {edits = edits} is list e f) more =
    IsListOf.next is (list_append list more) (ap (λ z. z ++ b) e ∙ append_assoc line rest b) (ap (λ z. z ++ fs) f)

one_line : (l : List ℕ) (e : Edit) → IsLineOf l e → IsListOf l (e ∷ [])
one_line l e line = IsListOf.next line (IsListOf.none refl refl) (sym (append_none l)) refl

no_text : (x y : List ℕ) → [] ≡ x ++ y → 0 < length x → ⊥
no_text [] y same some = omega (arith, some)
no_text (c ∷ x) y same some = cc

-- the first line of a list, and what is left after it
line_rest : (b : List ℕ) (gs : List Edit) (line rest : List ℕ) (edit : Edit) (edits es : List Edit) → IsLineOf line edit →
    es ≡ edit ∷ edits → ((hs : List Edit) → IsListOf (rest ++ b) hs → (fs : List Edit) × IsListOf b fs × (hs ≡ edits ++ fs)) →
    IsListOf (line ++ (rest ++ b)) gs → (fs : List Edit) × IsListOf b fs × (gs ≡ es ++ fs)
line_rest b gs line rest edit edits es is f more (IsListOf.none g h) =
    absurd (no_text line (rest ++ b) (sym g) (line_some line edit is))
line_rest b gs line rest edit edits es is f more
    (IsListOf.next {line = line'} {rest = rest'} {edit = edit'} {edits = edits'} is' more' g h) =
    let same = line_unique line line' (rest ++ b) rest' edit edit' is is' g in
    let (fs, list_of, gs_is) = more edits' (subst (λ z. IsListOf z edits') (sym same.1) more') in
    (fs, list_of, h ∙ (ap (λ z. z ∷ edits') (sym same.0) ∙ (ap (λ z. edit ∷ z) gs_is ∙ ap (λ z. z ++ fs) (sym f))))

-- what is left of a list after some of its lines is one
list_rest : {a : List ℕ} {es : List Edit} (b : List ℕ) (gs : List Edit) → IsListOf a es → IsListOf (a ++ b) gs →
    (fs : List Edit) × IsListOf b fs × (gs ≡ es ++ fs)
list_rest b gs (IsListOf.none e f) list =
    (gs, subst (λ z. IsListOf (z ++ b) gs) e list, ap (λ z. z ++ gs) (sym f))
list_rest {es = es} b gs (IsListOf.next {line = line} {rest = rest} {edit = edit} {edits = edits} is more e f) list =
    line_rest b gs line rest edit edits es is f (λ hs left. list_rest b hs more left)
    (subst (λ z. IsListOf z gs) (ap (λ z. z ++ b) e ∙ append_assoc line rest b) list)

-- a list is that of its edits alone
list_none : (es : List Edit) → IsListOf [] es → es ≡ []
list_none es (IsListOf.none e f) = f
list_none es (IsListOf.next {line = line} {rest = rest} {edit = edit} is list e f) =
    absurd (no_text line rest e (line_some line edit is))

pub one_list : (text : List ℕ) (es fs : List Edit) → IsListOf text es → IsListOf text fs → es ≡ fs
one_list text es fs one two =
    let (gs, list, is) = list_rest [] fs one (subst (λ z. IsListOf z fs) (sym (append_none text)) two) in
    sym (is ∙ (ap (λ z. es ++ z) (list_none gs list) ∙ append_none es))

-- a reading begins, goes on by a line, and ends
pub begun : (text : List ℕ) (es : List Edit) → es ≡ [] → HasRead text text es
begun text es none = ([], IsListOf.none refl none, refl)

pub line_has_read : (whole text after : List ℕ) (es : List Edit) (e : Edit) → BeginsLine text e after → HasRead whole text es →
    HasRead whole after (es ++ e ∷ [])
line_has_read whole text after es e (line, is_line, is) (front, list, split) =
    (front ++ line, list_append list (one_line line e is_line), split ∙ (ap (λ z. front ++ z) is ∙ sym (append_assoc front line after)))

pub read_whole : (text : List ℕ) (es : List Edit) → HasRead text [] es → IsListOf text es
read_whole text es (front, list, split) = subst (λ z. IsListOf z es) (sym (split ∙ append_none front)) list

-- where no line goes on, no list does
module _ (whole text rest : List ℕ) (es : List Edit) (some : text ≢ []) (read : HasRead whole text es) (s : IsStop Lines text rest) where
  stuck_at : (more : List ℕ) (fs : List Edit) → IsListOf more fs → more ≢ [] → ((l x : List ℕ) (e : Edit) → IsLineOf l e → more ≡ l ++ x → ⊥) →
      ⊥
  stuck_at more fs (IsListOf.none e f) some none = some e
  stuck_at more fs (IsListOf.next {line = line} {rest = x} {edit = edit} is list e f) some none = none line x edit is e

  ends : (front : List ℕ) → whole ≡ front ++ text → (es : List Edit) → IsListOf front es → (fs : List Edit) →
      IsListOf whole fs → ⊥
  ends front split es list fs all =
      let (gs, left, is) = list_rest text fs list (subst (λ z. IsListOf z fs) split all) in
      stuck_at text gs left some (λ l x e line there. s.no_whole l x (e, line) there)

  goes_on : (front : List ℕ) (es : List Edit) → IsListOf front es → (b : ℕ) (after more : List ℕ) → rest ≡ b ∷ after → (fs : List Edit) →
      IsListOf (((front ++ s.front) ++ b ∷ []) ++ more) fs → ⊥
  goes_on front es list b after more there fs all =
      let moved : ((front ++ s.front) ++ b ∷ []) ++ more ≡ front ++ (s.front ++ b ∷ more) =
      append_assoc (front ++ s.front) (b ∷ []) more ∙ append_assoc front s.front (b ∷ more) in
      let (gs, left, is) = list_rest (s.front ++ b ∷ more) fs list (subst (λ z. IsListOf z fs) moved all) in
      stuck_at (s.front ++ b ∷ more) gs left (filled s.front b more)
      (λ l x e line same. stop_over s b after more l x there (e, line) same)
    where
      filled : (x : List ℕ) (b : ℕ) (y : List ℕ) → x ++ b ∷ y ≢ []
      filled [] b y e = cc
      filled (c ∷ x) b y e = cc

  stuck : (front : List ℕ) (es : List Edit) → IsListOf front es → whole ≡ front ++ text → (left : List ℕ) → left ≡ rest →
      IsStuck IsList (front ++ s.front) left
  stuck front es list split [] none = λ (fs, all).
      let whole_is : whole ≡ front ++ s.front =
      split ∙ ap (λ z. front ++ z) (s.split ∙ (ap (λ z. s.front ++ z) (sym none) ∙ append_none s.front)) in
      ends front split es list fs (subst (λ z. IsListOf z fs) (sym whole_is) all)
  stuck front es list split (b ∷ after) there = λ (more, (fs, all)). goes_on front es list b after more (sym there) fs all

  pub line_halts : IsFaultAt IsList whole rest
  line_halts =
      let (front, list, split) = read in
      let (e, line) = s.begins in
      record {
        front = front ++ s.front;
        split = split ∙ (ap (λ z. front ++ z) s.split ∙ sym (append_assoc front s.front rest));
        before = (
          s.more,
          (
            es ++ e ∷ [],
            subst (λ z. IsListOf z (es ++ e ∷ [])) (sym (append_assoc front s.front s.more))
                (list_append list (one_line (s.front ++ s.more) e line)),
          ),
        );
        stuck = stuck front es list split rest refl;
      }

pub halts : (whole text : List ℕ) (es : List Edit) (halt : Halt) → text ≢ [] → HasRead whole text es → HaltsIn Lines text halt →
    IsHalt whole halt
halts whole text es (At rest) some read s = line_halts whole text rest.now es some read s
halts whole text es (NoMemory error) some read s = tt

-- the place of a halt
pub halt_within : (text rest : List ℕ) → IsFaultAt IsList text rest → length rest ≤ length text
halt_within text rest fault = fault_within text rest fault

pub halt_place : (text rest : List ℕ) (at : ℕ) → at ≡ length text - length rest → IsFaultAt IsList text rest → IsFirstFault IsList text at
halt_place text rest at is fault =
    let within = fault_within text rest fault in fault_place text rest at (omega (arith, is, within)) fault

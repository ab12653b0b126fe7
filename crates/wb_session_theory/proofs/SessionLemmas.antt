-- Edits, kept stacks, and the answer after rejoining.
use Rattle.std.proofs.Common.{◌≡◌, ◌≤◌, ◌+◌, ◌-◌, ℕ, List, [], ◌++◌, length, drop, take, refl, sym, ◌∙◌, ap, subst}
use Rattle.std.proofs.Common.{inl, inr, arith, append_assoc, length-append}
use Rattle.std.specs.Prelude.{max}
use Rattle.std.proofs.lemmas.Bool.{cases_order}
use Rattle.std.proofs.lemmas.List.{length-take-le, take-append-drop}
use Rattle.wb_lemmas.proofs.Parts.{drop_append}
use Rattle.wb_base.specs.declared.symbol.Symbol.{Symbol}
use Rattle.wb_grammar_theory.specs.Trees.{Forest, nothing, symbols}
use Rattle.wb_grammar_theory.specs.Items.{SameKernel}
use Rattle.wb_grammar_theory.proofs.FlowLemmas.{same_itself}
use Rattle.wb_scan_theory.specs.Languages.{LanguageView}
use Rattle.wb_scan_theory.specs.Facts.{IsLanguage}
use Rattle.wb_scan_theory.specs.Machine.{joined}
use Rattle.wb_scan_theory.proofs.FactLemmas.{parsable}
use Rattle.wb_scan_theory.proofs.ForestLemmas.{joined_none}
use Rattle.wb_scan_theory.specs.Examined.{HasSameFront}
use Rattle.wb_session_theory.specs.Inner.Agreeing.{AgreeUpTo, equal, in_front}
use Rattle.wb_session_theory.specs.Rests.{SameRest}
use Rattle.wb_session_theory.specs.Edits.{edited}
use Rattle.wb_scan_theory.proofs.TextLemmas.{one_tree, one_stop, not_both}
use Rattle.wb_session_theory.specs.Runs.{Reads, Answer, a_tree, a_stop, IsAnswer, Ends}
use Rattle.wb_session_theory.specs.Frames.{Frame, roots, filled, IsSpine, Outcome, shown, HasSpine}
use Rattle.wb_session_theory.specs.Inner.Linked.{IsWithin, row}
use Rattle.wb_session_theory.proofs.FrameLemmas.{whole_row, row_within, roots_symbols}
use Rattle.wb_session_theory.proofs.SpineLemmas.{spine_row}
use Rattle.wb_session_theory.proofs.RejoinLemmas.{reread, reend}
use Rattle.wb_session_theory.proofs.ReadLemmas.{reads_kept, ends_kept, reads_more, reads_then, reads_above, first_read, ends_answer}
use Rattle.wb_session_theory.proofs.ScanLemmas.{rest_at, rest_size}

-- the first bytes alone
pub agrees : {e : ℕ} {text other : List ℕ} → HasSameFront e text other → AgreeUpTo e text other
agrees {e} {text} {other} h = elim (cases_order (length text) e) [
  | inr (inl lt) ↦ equal (h.whole lt)
  | inl is ↦ front (omega arith)
  | inr (inr gt) ↦ front (omega arith)
]
  where
    front : e ≤ length text → AgreeUpTo e text other
    front le =
        let size : length (take e text) ≡ e = length-take-le e text le in
        in_front (take e text) (drop e text) (drop e other) (sym (take-append-drop e text))
        (sym (take-append-drop e other) ∙ ap (λ z. z ++ drop e other) (sym h.front)) (omega arith)

module _ (text bytes : List ℕ) (from to : ℕ) (first : from ≤ to) (within : to ≤ length text) where
  front_size : length (take from text) ≡ from
  front_size = length-take-le from text (omega arith)

  -- before an edit the texts agree
  pub edit_before : (e : ℕ) → e ≤ from → AgreeUpTo e text (edited text from to bytes)
  edit_before e le =
      let size : length (take from text) ≡ from = front_size in
      in_front (take from text) (drop from text) (bytes ++ drop to text) (sym (take-append-drop from text))
      (append_assoc (take from text) bytes (drop to text)) (omega arith)

  -- behind an edit they have the same rest
  pub edit_behind : SameRest text to (edited text from to bytes) (from + length bytes)
  edit_behind =
      let size : length (take from text) ≡ from = front_size in
      let front : length (take from text ++ bytes) ≡ from + length bytes =
      length-append (take from text) bytes ∙ ap (λ z. z + length bytes) size in
      let whole : length (edited text from to bytes) ≡ length (take from text ++ bytes) + length (drop to text) =
      length-append (take from text ++ bytes) (drop to text) in
      record {
        one = within;
        other = omega arith;
        same = sym (drop_append (from + length bytes) (take from text ++ bytes) (drop to text) front);
      }

-- the rest of a run, over any stack of the same symbols
pub record Carried (l : LanguageView) (a : ℕ) (y : List ℕ) (b : ℕ) (prefix : List Symbol) (base : Forest) (e : ℕ) (stack : Forest)
    (at k : ℕ) : Type 0 where
  pub frame : Frame
  pub within : IsWithin (roots base) frame
  pub spine : IsSpine (roots base) 0 frame
  pub is : stack ≡ filled frame base
  pub further : ℕ
  pub at_is : at ≡ a + further
  pub again : (prefix' : List Symbol) (other : Forest) → SameKernel l.grammar prefix prefix' → symbols base ≡ symbols other →
      Reads l y (b + e) prefix' other (b + k) (filled frame other) (b + further)

other_row : (base other : Forest) → symbols base ≡ symbols other → filled (row 0 (roots base)) other ≡ other
other_row base other e =
    ap (λ z. filled (row 0 z) other) (roots_symbols base ∙ (ap length e ∙ sym (roots_symbols other))) ∙ whole_row other

pub carried : (l : LanguageView) → IsLanguage l → {x y : List ℕ} {a b : ℕ} → SameRest x a y b → (e k : ℕ) {at : ℕ} {prefix : List Symbol}
    {base stack : Forest} → Reads l x (a + e) prefix base (a + k) stack at → Carried l a y b prefix base e stack at k
carried l ok {x} {y} {a} {b} s e k {at} {prefix} {base} {stack} reads =
    let r = reread (parsable l.grammar ok.deterministic).live s e reads refl base (row 0 (roots base))
    (row_within (roots base) 0 (roots base) (omega arith)) (sym (whole_row base)) k refl in
    record {
      frame = r.later;
      within = r.within;
      spine = r.spine (spine_row (roots base) 0 (roots base) (omega arith));
      is = r.is;
      further = r.further;
      at_is = r.at_is;
      again = λ prefix' other same e'.
          subst (λ z. Reads l y (b + e) prefix' z (b + k) (filled r.later other) (b + r.further)) (other_row base other e')
          (r.again prefix' other same e');
    }

-- what was read above a part of the stack that wasn't taken apart is read above any other with the same kernel
pub record OnTop (l : LanguageView) (a : ℕ) (y : List ℕ) (b e k : ℕ) (base other low' : Forest) (stack : Forest) (at : ℕ) : Type 0 where
  pub frame : Frame
  pub spine : IsSpine (roots base) 0 frame
  pub is : stack ≡ filled frame base
  pub further : ℕ
  pub at_is : at ≡ a + further
  pub reads : Reads l y (b + e) [] (joined low' other) (b + k) (joined low' (filled frame other)) (b + further)

pub on_top : (l : LanguageView) → IsLanguage l → {x y : List ℕ} {a b : ℕ} → SameRest x a y b → (e k : ℕ) {at : ℕ}
    (low : Forest) {base stack : Forest} → Reads l x (a + e) (symbols low) base (a + k) stack at → (low' other : Forest) →
    SameKernel l.grammar (symbols low) (symbols low') → symbols base ≡ symbols other → OnTop l a y b e k base other low' stack at
on_top l ok s e k low reads low' other same e' =
    let c = carried l ok s e k reads in
    record {
      frame = c.frame;
      spine = c.spine;
      is = c.is;
      further = c.further;
      at_is = c.at_is;
      reads = reads_above low' (c.again
          (symbols low') other same e');
    }

-- what was read above a part of the stack and became these trees becomes the same trees above any other with the same kernel
pub reused : (l : LanguageView) → IsLanguage l → {x y : List ℕ} {a b : ℕ} → SameRest x a y b → (e k : ℕ) {at : ℕ}
    (low : Forest) {piece : Forest} → Reads l x (a + e) (symbols low) nothing (a + k) piece at → (low' : Forest) →
    SameKernel l.grammar (symbols low) (symbols low') →
    (further : ℕ) × (at ≡ a + further) × Reads l y (b + e) [] low' (b + k) (joined low' piece) (b + further)
reused l ok {x} {y} {a} {b} s e k {at} low {piece} reads low' same =
    let c = carried l ok s e k reads in
    let piece_is : filled c.frame nothing ≡ piece = sym c.is in (
      c.further,
      c.at_is,
      subst (λ z. Reads l y (b + e) [] z (b + k) (joined low' piece) (b + c.further)) (joined_none low')
          (subst (λ z. Reads l y (b + e) [] (joined low' nothing) (b + k) (joined low' z) (b + c.further)) piece_is
          (reads_above low' (c.again (symbols low') nothing same refl))),
    )

-- a run to its end, after which another text is read to the same symbols
pub record Rejoined (l : LanguageView) (x : List ℕ) (a : ℕ) (y : List ℕ) (b : ℕ) (base other : Forest) (answer : Answer) : Type 0 where
  pub outcome : Outcome
  pub spine : HasSpine (roots base) outcome
  pub is : answer ≡ shown a base outcome
  pub of_old : IsAnswer l x answer
  pub of_new : IsAnswer l y (shown b other outcome)

pub rejoined : (l : LanguageView) → IsLanguage l → {x y : List ℕ} {a b : ℕ} → SameRest x a y b → (e k : ℕ) {d f at : ℕ}
    {base other stack : Forest} {answer : Answer} → Reads l x d [] nothing 0 base (a + k) →
    Reads l x (a + e) [] base (a + k) stack at → Ends l x (a + e) stack at answer → Reads l y f [] nothing 0 other (b + k) →
    symbols base ≡ symbols other → Rejoined l x a y b base other answer
rejoined l ok {x} {y} {a} {b} s e k {d} {f} {at} {base} {other} {stack} {answer} first rest end new symbols_are =
    let live = (parsable l.grammar ok.deterministic).live in
    let c = carried l ok s e k rest in
    let r = reend live s e end refl base c.frame c.within c.is c.further c.at_is in
    let there = c.again [] other (same_itself l.grammar []) symbols_are in
    let both : Reads l y (f + (b + e)) [] nothing 0 (filled c.frame other) (b + c.further) =
    reads_then (reads_more (omega arith) new) (reads_more (omega arith) there) in
    let old : Reads l x (d + (a + e)) [] nothing 0 stack at = reads_then (reads_more (omega arith) first) (reads_more (omega arith) rest) in
    record {
      outcome = r.outcome;
      spine = r.spine c.spine;
      is = r.is;
      of_old = ends_answer l ok x end (first_read l ok x old);
      of_new = ends_answer l ok y (r.again other symbols_are) (first_read l ok y both);
    }

-- one rest after another
pub rest_then : {x y z : List ℕ} {a b c : ℕ} → SameRest x a y b → SameRest y b z c → SameRest x a z c
rest_then s t = record { one = s.one; other = t.other; same = s.same ∙ t.same }

-- a rest that is the same from a place on is the same from later places on
pub rest_later : {x y : List ℕ} {a b : ℕ} → SameRest x a y b → (k : ℕ) → a + k ≤ length x → SameRest x (a + k) y (b + k)
rest_later {x} {y} {a} {b} s k within =
    let size : length x - a ≡ length y - b = rest_size s in
    let one : a ≤ length x = s.one in
    let other : b ≤ length y = s.other in
    record { one = within; other = omega arith; same = rest_at s k }

-- an answer that is found before what is edited stays
pub answer_kept : (l : LanguageView) → IsLanguage l → {text other : List ℕ} {e at : ℕ} {stack : Forest} {answer : Answer} →
    AgreeUpTo e text other → Reads l text e [] nothing 0 stack at → Ends l text e stack at answer → IsAnswer l other answer
answer_kept l ok {other = other} agree reads ends =
    ends_answer l ok other (ends_kept ends agree) (first_read l ok other (reads_kept reads agree))

-- a text has one answer
pub one_answer : (l : LanguageView) → IsLanguage l → (text : List ℕ) (one other : Answer) → IsAnswer l text one → IsAnswer l text other →
    one ≡ other
one_answer l ok text (a_tree t) (a_tree u) a b = ap a_tree (one_tree l ok text t u a b)
one_answer l ok text (a_tree t) (a_stop place kind) a b = absurd (not_both l ok text t place kind a b)
one_answer l ok text (a_stop place kind) (a_tree t) a b = absurd (not_both l ok text t place kind b a)
one_answer l ok text (a_stop place kind) (a_stop place' kind') a b =
    let (p, k) = one_stop l ok text place place' kind kind' a b in (λ i. a_stop (p i) (k i))

-- each kept stack before a later token of the old text, over the new text
pub record Later (l : LanguageView) (a : ℕ) (y : List ℕ) (b f e : ℕ) (base other stack : Forest) (at : ℕ) : Type 0 where
  pub frame : Frame
  pub spine : IsSpine (roots base) 0 frame
  pub is : stack ≡ filled frame base
  pub further : ℕ
  pub at_is : at ≡ a + further
  pub reads : Reads l y (max f (b + e)) [] nothing 0 (filled frame other) (b + further)

pub later_stack : (l : LanguageView) → IsLanguage l → {x y : List ℕ} {a b : ℕ} → SameRest x a y b → (e k : ℕ) {f at : ℕ}
    {base other stack : Forest} → Reads l x (a + e) [] base (a + k) stack at → Reads l y f [] nothing 0 other (b + k) →
    symbols base ≡ symbols other → Later l a y b f e base other stack at
later_stack l ok s e k {other = other} rest new symbols_are =
    let c = carried l ok s e k rest in
    record {
      frame = c.frame;
      spine = c.spine;
      is = c.is;
      further = c.further;
      at_is = c.at_is;
      reads = reads_then (reads_more (omega arith) new) (reads_more (omega arith) (c.again [] other (same_itself l.grammar [])
          symbols_are));
    }

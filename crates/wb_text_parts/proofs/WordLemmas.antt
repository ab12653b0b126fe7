-- How far two texts are the same, and what that says of a text that is to begin with the other.
use Rattle.std.proofs.Common.{◌≡◌, ◌≢◌, ◌<◌, ◌≤◌, ◌+◌, ℕ, zero, suc, List, [], ◌∷◌}
use Rattle.std.proofs.Common.{◌++◌, length, take, drop, get_or, refl, sym, ap, ◌∙◌, subst, arith}
use Rattle.std.proofs.lemmas.List.{take-append-drop, take_more, length-drop}
use Rattle.wb_lemmas.proofs.Parts.{append_assoc, drop_from, drop_past, no_elements}
use Rattle.wb_text_parts.specs.Parts.{Exactly, IsStop}
use Rattle.wb_text_parts.specs.Inner.Lengths.{AreSameUpTo}
use Rattle.wb_text_parts.proofs.StopLemmas.{append_cancel, append_none}

-- two texts are the same so far, by one byte more
pub same_more : (text bytes : List ℕ) (at : ℕ) → at < length text → at < length bytes → get_or text at 0 ≡ get_or bytes at 0 →
    text ≡ take at bytes ++ drop at text → text ≡ take (at + 1) bytes ++ drop (at + 1) text
same_more text bytes at in_text in_bytes same split =
    let cut : drop at text ≡ get_or text at 0 ∷ drop (at + 1) text = drop_from text at (get_or text at 0) in_text (reading text at in_text) in
    split ∙ (ap (λ l. take at bytes ++ l) (cut ∙ ap (λ b. b ∷ drop (at + 1) text) same)
    ∙ (sym (append_assoc (take at bytes) (get_or bytes at 0 ∷ []) (drop (at + 1) text))
    ∙ ap (λ l. l ++ drop (at + 1) text) (sym (take_more bytes at 0 in_bytes))))
  where
    reading : (l : List ℕ) (i : ℕ) → i < length l → get_or l i 0 ≡ get_or l i (get_or l i 0)
    reading [] i lt = absurd (omega (arith, lt))
    reading (x ∷ l) zero lt = refl
    reading (x ∷ l) (suc i) lt = reading l i (omega (arith, lt))

-- what is at a place that isn't past the end
pub head_at : (l : List ℕ) (at b : ℕ) (after : List ℕ) → drop at l ≡ b ∷ after → get_or l at 0 ≡ b
head_at [] zero b after is = cc
head_at [] (suc at) b after is = cc
head_at (x ∷ l) zero b after is = cc
head_at (x ∷ l) (suc at) b after is = head_at l at b after is

pub some_at : (l : List ℕ) (at : ℕ) → at < length l → (b : ℕ) × (after : List ℕ) × (drop at l ≡ b ∷ after)
some_at [] at lt = absurd (omega (arith, lt))
some_at (x ∷ l) zero lt = (x, l, refl)
some_at (x ∷ l) (suc at) lt = some_at l at (omega (arith, lt))

pub none_at : (l : List ℕ) (at b : ℕ) (after : List ℕ) → length l ≤ at → drop at l ≡ b ∷ after → ⊥
none_at [] zero b after le is = cc
none_at [] (suc at) b after le is = cc
none_at (x ∷ l) zero b after le is = absurd (omega (arith, le))
none_at (x ∷ l) (suc at) b after le is = none_at l at b after (omega (arith, le)) is

-- at the end of one of them
pub same_to_end : (text bytes : List ℕ) (at : ℕ) → at ≤ length bytes → at ≤ length text → (at < length bytes → at < length text → ⊥) →
    text ≡ take at bytes ++ drop at text → AreSameUpTo text bytes at
same_to_end text bytes at within inside over split = record {
  within = within;
  inside = inside;
  split = split;
  differ = λ b c after more is other same. over (lt bytes at c more other) (lt text at b after is);
}
  where
    lt : (l : List ℕ) (i c : ℕ) (more : List ℕ) → drop i l ≡ c ∷ more → i < length l
    lt [] zero c more is = cc
    lt [] (suc i) c more is = cc
    lt (x ∷ l) zero c more is = omega arith
    lt (x ∷ l) (suc i) c more is = let below = lt l i c more is in omega (arith, below)

-- where they differ
pub same_to_other : (text bytes : List ℕ) (at : ℕ) → at ≤ length bytes → at ≤ length text → get_or text at 0 ≢ get_or bytes at 0 →
    text ≡ take at bytes ++ drop at text → AreSameUpTo text bytes at
same_to_other text bytes at within inside other split = record {
  within = within;
  inside = inside;
  split = split;
  differ = λ b c after more is there same. other (head_at text at b after is ∙ (same ∙ sym (head_at bytes at c more there)));
}

-- a text that is the same to the end of the bytes begins with them
pub word_read : (text bytes : List ℕ) (at : ℕ) → AreSameUpTo text bytes at → length bytes ≤ at → text ≡ bytes ++ drop at text
word_read text bytes at same past =
    same.split ∙ ap (λ l. l ++ drop at text)
    (sym (append_none (take at bytes)) ∙ (ap (λ l. take at bytes ++ l) (sym (drop_past bytes at past)) ∙ take-append-drop at bytes))

-- a text that isn't stops there
pub word_stopped : (text bytes : List ℕ) (at : ℕ) → AreSameUpTo text bytes at → at < length bytes →
    IsStop (Exactly bytes) text (drop at text)
word_stopped text bytes at same before = record {
  front = take at bytes;
  split = same.split;
  more = drop at bytes;
  begins = take-append-drop at bytes;
  no_further = λ b after tail is e.
      same.differ b b after tail is (append_cancel (take at bytes) (drop at bytes) (b ∷ tail) (take-append-drop at bytes ∙ sym e)) refl;
  no_whole = λ part after e is. whole part after e is (some_at bytes at before);
}
  where
    whole : (part after : List ℕ) → part ≡ bytes → text ≡ part ++ after → (c : ℕ) × (more : List ℕ) × (drop at bytes ≡ c ∷ more) → ⊥
    whole part after e is (c, more, there) =
        let parts : bytes ≡ take at bytes ++ c ∷ more = sym (take-append-drop at bytes) ∙ ap (λ l. take at bytes ++ l) there in
        let joined : take at bytes ++ drop at text ≡ take at bytes ++ (c ∷ more ++ after) =
        sym same.split ∙ (is ∙ (ap (λ l. l ++ after) (e ∙ parts) ∙ append_assoc (take at bytes) (c ∷ more) after)) in
        same.differ c c (more ++ after) more (append_cancel (take at bytes) (drop at text) (c ∷ (more ++ after)) joined) there refl

pub word_stopped_at : (text bytes rest : List ℕ) (at : ℕ) → rest ≡ drop at text → AreSameUpTo text bytes at → at < length bytes →
    IsStop (Exactly bytes) text rest
word_stopped_at text bytes rest at is same before = subst (IsStop (Exactly bytes) text) (sym is) (word_stopped text bytes at same before)

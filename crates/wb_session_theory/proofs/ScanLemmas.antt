-- What a scan doesn't look at doesn't matter.
use Rattle.std.proofs.Common.{◌≡◌, ◌<◌, ◌≤◌, ◌+◌, ◌-◌, ℕ, List, ◌++◌, length, drop, refl, sym, ◌∙◌, ap}
use Rattle.std.proofs.Common.{subst, inl, inr, arith, length-append}
use Rattle.std.proofs.lemmas.List.{length-drop, drop-drop}
use Rattle.wb_base.specs.declared.symbol.Symbol.{Symbol}
use Rattle.wb_grammar_theory.specs.Items.{SameKernel}
use Rattle.wb_grammar_theory.specs.Shape.{IsLive}
use Rattle.wb_grammar_theory.proofs.FlowLemmas.{same_back}
use Rattle.wb_automata.specs.Automata.{IsMatch}
use Rattle.wb_scan_theory.specs.Languages.{LanguageView}
use Rattle.wb_scan_theory.specs.Winners.{IsConsideredForm, MatchesAt, Wins}
use Rattle.wb_scan_theory.specs.Tokens.{Next, token, over, missing, NextToken, skipped, wins, ends, fails}
use Rattle.wb_scan_theory.specs.Facts.{IsWritten}
use Rattle.wb_scan_theory.proofs.PartLemmas.{considered_same}
use Rattle.wb_scan_theory.proofs.TokenLemmas.{piece_some}
use Rattle.wb_scan_theory.specs.Examined.{IsLooked, up_to, to_end, Scans, skips, takes, finishes, misses}
use Rattle.wb_session_theory.specs.Inner.Agreeing.{AgreeUpTo, equal, in_front}
use Rattle.wb_session_theory.specs.Rests.{SameRest, IsMoved, a_token, an_end, a_gap}
use Rattle.wb_session_theory.proofs.FrontLemmas.{fronts, kept_front}

-- texts that agree so far, in the other order, and less far
pub agree_back : {e : ℕ} {text other : List ℕ} → AgreeUpTo e text other → AgreeUpTo e other text
agree_back (equal is) = equal (sym is)
agree_back (in_front c r r' is is' le) = in_front c r' r is' is le

pub agree_less : {e d : ℕ} {text other : List ℕ} → d ≤ e → AgreeUpTo e text other → AgreeUpTo d text other
agree_less less (equal is) = equal is
agree_less less (in_front c r r' is is' le) = in_front c r r' is is' (omega arith)

same_end : {text other : List ℕ} {e : ℕ} → length text < e → AgreeUpTo e text other → text ≡ other
same_end lt (equal is) = is
same_end {text} lt (in_front c r r' is is' le) =
    let size : length text ≡ length c + length r = ap length is ∙ length-append c r in absurd (omega arith)

module _ {l : LanguageView} {prefix : List Symbol} where
  -- what matches at a place matches there on each text that agrees with what is looked at
  pub match_kept : {text other : List ℕ} {at e p : ℕ} {x : List ℕ} → IsLooked l text prefix at e → AgreeUpTo e text other →
      MatchesAt l prefix text at p x → MatchesAt l prefix other at p x
  match_kept {text} {other} {at} {e} {p} {x} looked (equal is) m = subst (λ z. MatchesAt l prefix z at p x) is m
  match_kept {text} {other} {at} {e} {p} {x} (up_to piece rest here some dead e_is) (in_front c r r' is is' le) m =
      elim (fronts x piece m.rest rest (sym m.here ∙ here)) [
        | inl (more, x_is) ↦ absurd (dead p more m.considered (subst (IsMatch l.expressions p) x_is m.is))
        | inr (more, piece_is) ↦ go more piece_is
      ]
    where
      go : (more : List ℕ) → piece ≡ x ++ more → MatchesAt l prefix other at p x
      go more piece_is =
          let size : length piece ≡ length x + length more = ap length piece_is ∙ length-append x more in
          let (rest', k) = kept_front c r r' at x m.rest (ap (drop at) (sym is) ∙ m.here) (omega arith) in
          record { considered = m.considered; is = m.is; rest = rest'; here = ap (drop at) is' ∙ k }
  match_kept {text} (to_end within e_is) (in_front c r r' is is' le) m =
      let size : length text ≡ length c + length r = ap length is ∙ length-append c r in absurd (omega arith)

  pub looked_kept : {text other : List ℕ} {at e : ℕ} → IsLooked l text prefix at e → AgreeUpTo e text other → IsLooked l other prefix at e
  looked_kept {text} {other} {at} {e} looked (equal is) = subst (λ z. IsLooked l z prefix at e) is looked
  looked_kept {text} {other} {at} {e} (up_to piece rest here some dead e_is) (in_front c r r' is is' le) =
      let (rest', k) = kept_front c r r' at piece rest (ap (drop at) (sym is) ∙ here) (omega arith) in
      up_to piece rest' (ap (drop at) is' ∙ k) some dead e_is
  looked_kept {text} (to_end within e_is) (in_front c r r' is is' le) =
      let size : length text ≡ length c + length r = ap length is ∙ length-append c r in absurd (omega arith)

  pub wins_kept : {text other : List ℕ} {at e p : ℕ} {x : List ℕ} → IsLooked l text prefix at e → AgreeUpTo e text other →
      Wins l prefix text at p x → Wins l prefix other at p x
  wins_kept looked agree w =
      let back = looked_kept looked agree in
      record {
        matches = match_kept looked agree w.matches;
        longest = λ q y m. w.longest q y (match_kept back (agree_back agree) m);
        beats = λ q y m same ne. w.beats q y (match_kept back (agree_back agree) m) same ne;
      }

  more_text : {text other : List ℕ} {at e : ℕ} → IsLooked l text prefix at e → AgreeUpTo e text other → at < length text →
      at < length other
  more_text {text} {other} {at} looked (equal is) lt = subst (λ z. at < length z) is lt
  more_text {other = other} {at} (up_to piece rest here some dead e_is) (in_front c r r' is is' le) lt =
      let size : length other ≡ length c + length r' = ap length is' ∙ length-append c r' in omega arith
  more_text {text} (to_end within e_is) (in_front c r r' is is' le) lt =
      let size : length text ≡ length c + length r = ap length is ∙ length-append c r in absurd (omega arith)

  -- a scan gives the same on each text that agrees with what it looked at
  pub scan_kept : {text other : List ℕ} {e at : ℕ} {next : Next} → Scans l text prefix e at next → AgreeUpTo e text other →
      Scans l other prefix e at next
  scan_kept (skips p here x looked le is w more) agree =
      let near = agree_less le agree in
      skips p here x (looked_kept looked near) le is (wins_kept looked near w) (scan_kept more agree)
  scan_kept (takes p here form x lexeme looked le at_form w is found) agree =
      let near = agree_less le agree in
      takes p here form x lexeme (looked_kept looked near) le at_form (wins_kept looked near w) is found
  scan_kept {e = e} {at} (finishes is lt found) agree =
      let same = same_end lt agree in
      finishes (subst (λ z. at ≡ length z) same is) (subst (λ z. length z < e) same lt) found
  scan_kept (misses here looked le lt out found) agree =
      let near = agree_less le agree in
      let back = looked_kept looked near in
      misses here back le (more_text looked near lt) (λ q y v. out q y (wins_kept back (agree_back near) v)) found

  looked_on : {text : List ℕ} {at e : ℕ} → IsLooked l text prefix at e → at < e
  looked_on (up_to piece rest here some dead is) = omega arith
  looked_on (to_end within is) = omega arith

  -- a scan looks at something
  pub scan_on : {text : List ℕ} {e at : ℕ} {next : Next} → Scans l text prefix e at next → at < e
  scan_on {e = e} {at} (skips p here x looked le is w more) = let h : at < here = looked_on looked in omega arith
  scan_on {e = e} {at} (takes p here form x lexeme looked le at_form w is found) = let h : at < here = looked_on looked in omega arith
  scan_on (finishes is lt found) = omega arith
  scan_on {e = e} {at} (misses here looked le lt out found) = let h : at < here = looked_on looked in omega arith

  -- looking further does no harm
  pub scan_more : {text : List ℕ} {e d at : ℕ} {next : Next} → e ≤ d → Scans l text prefix e at next → Scans l text prefix d at next
  scan_more less (skips p here x looked le is w more) = skips p here x looked (omega arith) is w (scan_more less more)
  scan_more less (takes p here form x lexeme looked le at_form w is found) =
      takes p here form x lexeme looked (omega arith) at_form w is found
  scan_more less (finishes is lt found) = finishes is (omega arith) found
  scan_more less (misses here looked le lt out found) = misses here looked (omega arith) lt out found

  -- what is next is given by some scan: by one that looks at the whole text and its end
  pub next_scan : {text : List ℕ} {at : ℕ} {next : Next} → IsWritten l → NextToken l text prefix at next →
      Scans l text prefix (length text + 1) at next
  next_scan {text} {at} written (skipped p x is w more) =
      let h : at + length x ≤ length text = (piece_some written w.matches).1 in
      skips p (length text + 1) x (to_end (omega arith) refl) (omega arith) is w (next_scan written more)
  next_scan {text} {at} written (wins p form x lexeme at_form w is found) =
      let h : at + length x ≤ length text = (piece_some written w.matches).1 in
      takes p (length text + 1) form x lexeme (to_end (omega arith) refl) (omega arith) at_form w is found
  next_scan written (ends is found) = finishes is (omega arith) found
  next_scan {text} written (fails lt out found) = misses (length text + 1) (to_end (omega arith) refl) (omega arith) lt out found

-- the same rest
pub rest_back : {x y : List ℕ} {a b : ℕ} → SameRest x a y b → SameRest y b x a
rest_back s = record { one = s.other; other = s.one; same = sym s.same }

module _ {x y : List ℕ} {a b : ℕ} (s : SameRest x a y b) where
  pub rest_at : (k : ℕ) → drop (a + k) x ≡ drop (b + k) y
  rest_at k = sym (drop-drop k a x) ∙ ap (drop k) s.same ∙ drop-drop k b y

  pub rest_size : length x - a ≡ length y - b
  rest_size = sym (length-drop a x) ∙ ap length s.same ∙ length-drop b y

module _ {l : LanguageView} {prefix : List Symbol} where
  pub match_moved : {x y : List ℕ} {a b : ℕ} → SameRest x a y b → (k p : ℕ) (piece : List ℕ) → MatchesAt l prefix x (a + k) p piece →
      MatchesAt l prefix y (b + k) p piece
  match_moved s k p piece m = record { considered = m.considered; is = m.is; rest = m.rest; here = sym (rest_at s k) ∙ m.here }

  pub wins_moved : {x y : List ℕ} {a b : ℕ} → SameRest x a y b → (k p : ℕ) (piece : List ℕ) → Wins l prefix x (a + k) p piece →
      Wins l prefix y (b + k) p piece
  wins_moved s k p piece w = record {
    matches = match_moved s k p piece w.matches;
    longest = λ q z m. w.longest q z (match_moved (rest_back s) k q z m);
    beats = λ q z m same ne. w.beats q z (match_moved (rest_back s) k q z m) same ne;
  }

  pub looked_moved : {x y : List ℕ} {a b : ℕ} → SameRest x a y b → (k h e : ℕ) → IsLooked l x prefix (a + k) h → h ≤ a + e →
      (h' : ℕ) × IsLooked l y prefix (b + k) h' × (h' ≤ b + e)
  looked_moved {x} {y} {a} {b} s k h e (up_to piece rest here some dead h_is) le =
      (b + k + length piece, up_to piece rest (sym (rest_at s k) ∙ here) some dead refl, omega arith)
  looked_moved {x} {y} {a} {b} s k h e (to_end within h_is) le =
      let size : length x - a ≡ length y - b = rest_size s in
      let one : a ≤ length x = s.one in
      let other : b ≤ length y = s.other in
      (length y + 1, to_end (omega arith) refl, omega arith)

  -- a scan of the same rest gives the same, as far behind the one place as behind the other
  pub scan_moved : {x y : List ℕ} {a b : ℕ} → SameRest x a y b → (e : ℕ) {d at : ℕ} {next : Next} → Scans l x prefix d at next → d ≡ a + e →
      (k : ℕ) → at ≡ a + k → (next' : Next) × IsMoved a b next next' × Scans l y prefix (b + e) (b + k) next'
  scan_moved {x} {y} {a} {b} s e {d} {at} {next} (skips p here piece looked le is w more) d_is k at_is =
      let (here', looked', le') = looked_moved s k here e (subst (λ z. IsLooked l x prefix z here) at_is looked) (omega arith) in
      let (next', moved, more') = scan_moved s e more d_is (k + length piece) (omega arith) in (
        next',
        moved,
        skips p here' piece looked' le' is (wins_moved s k p piece (subst (λ z. Wins l prefix x z p piece) at_is w))
            (subst (λ z. Scans l y prefix (b + e) z next') (omega arith) more'),
      )
  scan_moved {x} {y} {a} {b} s e {d} {at} {next} (takes p here form piece lexeme looked le at_form w is found) d_is k at_is =
      let (here', looked', le') = looked_moved s k here e (subst (λ z. IsLooked l x prefix z here) at_is looked) (omega arith) in (
        token (b + k) form.terminal lexeme (b + (k + length piece)),
        a_token k (k + length piece) form.terminal lexeme
            (found ∙ ap (λ z. token z form.terminal lexeme (z + length piece)) at_is
            ∙ ap (token (a + k) form.terminal lexeme) (let h : a + k + length piece ≡ a + (k + length piece) = omega arith in h)) refl,
        takes p here' form piece lexeme looked' le' at_form
            (wins_moved s k p piece (subst (λ z. Wins l prefix x z p piece) at_is w)) is
            (ap (token (b + k) form.terminal lexeme) (let h : b + (k + length piece) ≡ b + k + length piece = omega arith in h)),
      )
  scan_moved {x} {y} {a} {b} s e {d} {at} {next} (finishes is lt found) d_is k at_is =
      let size : length x - a ≡ length y - b = rest_size s in
      let one : a ≤ length x = s.one in
      let other : b ≤ length y = s.other in
      (over (b + k), an_end k (found ∙ ap over at_is) refl, finishes (omega arith) (omega arith) refl)
  scan_moved {x} {y} {a} {b} s e {d} {at} {next} (misses here looked le lt out found) d_is k at_is =
      let size : length x - a ≡ length y - b = rest_size s in
      let one : a ≤ length x = s.one in
      let other : b ≤ length y = s.other in
      let (here', looked', le') = looked_moved s k here e (subst (λ z. IsLooked l x prefix z here) at_is looked) (omega arith) in (
        missing (b + k),
        a_gap k (found ∙ ap missing at_is) refl,
        misses here' looked' le' (omega arith)
            (λ q z v. out q z (subst (λ i. Wins l prefix x i q z) (sym at_is) (wins_moved (rest_back s) k q z v))) refl,
      )

-- what is next depends on the kernel of the prefix alone
module _ {l : LanguageView} (live : IsLive l.grammar) {prefix other : List Symbol} (same : SameKernel l.grammar prefix other) where
  considered_there : (p : ℕ) → IsConsideredForm l prefix p → IsConsideredForm l other p
  considered_there = considered_same live same

  considered_back : (p : ℕ) → IsConsideredForm l other p → IsConsideredForm l prefix p
  considered_back = considered_same live (same_back same)

  match_there : {text : List ℕ} {at p : ℕ} {x : List ℕ} → MatchesAt l prefix text at p x → MatchesAt l other text at p x
  match_there {p = p} m = record { considered = considered_there p m.considered; is = m.is; rest = m.rest; here = m.here }

  match_back : {text : List ℕ} {at p : ℕ} {x : List ℕ} → MatchesAt l other text at p x → MatchesAt l prefix text at p x
  match_back {p = p} m = record { considered = considered_back p m.considered; is = m.is; rest = m.rest; here = m.here }

  wins_there : {text : List ℕ} {at p : ℕ} {x : List ℕ} → Wins l prefix text at p x → Wins l other text at p x
  wins_there w = record {
    matches = match_there w.matches;
    longest = λ q y m. w.longest q y (match_back m);
    beats = λ q y m is ne. w.beats q y (match_back m) is ne;
  }

  wins_back : {text : List ℕ} {at p : ℕ} {x : List ℕ} → Wins l other text at p x → Wins l prefix text at p x
  wins_back w = record {
    matches = match_back w.matches;
    longest = λ q y m. w.longest q y (match_there m);
    beats = λ q y m is ne. w.beats q y (match_there m) is ne;
  }

  looked_there : {text : List ℕ} {at e : ℕ} → IsLooked l text prefix at e → IsLooked l text other at e
  looked_there (up_to piece rest here some dead is) = up_to piece rest here some (λ p more c. dead p more (considered_back p c)) is
  looked_there (to_end within is) = to_end within is

  pub scan_there : {text : List ℕ} {e at : ℕ} {next : Next} → Scans l text prefix e at next → Scans l text other e at next
  scan_there (skips p here x looked le is w more) = skips p here x (looked_there looked) le is (wins_there w) (scan_there more)
  scan_there (takes p here form x lexeme looked le at_form w is found) =
      takes p here form x lexeme (looked_there looked) le at_form (wins_there w) is found
  scan_there (finishes is lt found) = finishes is lt found
  scan_there (misses here looked le lt out found) = misses here (looked_there looked) le lt (λ q y v. out q y (wins_back v)) found

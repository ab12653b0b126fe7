-- What the machine reads: on texts that agree, further, one after another, and once.
use Rattle.std.proofs.Common.{◌≡◌, ◌⊎◌, ◌<◌, ◌≤◌, ℕ, List, [], ◌∷◌, ◌++◌, refl, sym, ◌∙◌, ap, subst, inl, inr}
use Rattle.std.proofs.Common.{arith, append_assoc}
use Rattle.wb_base.specs.declared.symbol.Symbol.{Symbol}
use Rattle.wb_base.specs.declared.symbol.Symbol.TheVariants.{Nonterminal}
use Rattle.wb_base.specs.Grammar.{GrammarView}
use Rattle.wb_grammar_theory.specs.Productions.{IsProduction, end_of, top_of}
use Rattle.wb_grammar_theory.specs.Trees.{Forest, nothing, leaf, node, symbols}
use Rattle.wb_grammar_theory.specs.Lookaheads.{CanShift, CanReduce, HasNoConflict}
use Rattle.wb_grammar_theory.proofs.ProductionLemmas.{production_once}
use Rattle.wb_scan_theory.specs.Languages.{LanguageView}
use Rattle.wb_scan_theory.specs.Tokens.{Next, token, NextToken}
use Rattle.wb_scan_theory.specs.Readings.{Gives}
use Rattle.wb_scan_theory.specs.Machine.{joined, Keeps}
use Rattle.wb_scan_theory.specs.Facts.{IsLanguage}
use Rattle.wb_scan_theory.proofs.AgreeLemmas.{not_top, no_shift, one_reduction, one_rule, one_below}
use Rattle.wb_scan_theory.proofs.BackLemmas.{Reduced, reduction_finds}
use Rattle.wb_scan_theory.proofs.StepLemmas.{first_keeps, shift_keeps, reduce_keeps, accept_gives, nothing_stops, no_action_stops}
use Rattle.wb_scan_theory.proofs.FactLemmas.{parsable}
use Rattle.wb_scan_theory.proofs.ForestLemmas.{joined_split, joined_assoc, symbols_joined}
use Rattle.wb_scan_theory.proofs.TextLemmas.{is_one}
use Rattle.wb_scan_theory.proofs.TokenLemmas.{taken}
use Rattle.wb_scan_theory.proofs.UniqueLemmas.{same_token}
use Rattle.wb_scan_theory.specs.Examined.{Scans}
use Rattle.wb_session_theory.specs.Inner.Agreeing.{AgreeUpTo}
use Rattle.wb_session_theory.specs.Runs.{Reduces, rests, reduces, Reads, stays, shifts, Answer, a_tree, IsAnswer, Ends, accepts, no_token}
use Rattle.wb_session_theory.specs.Runs.{unexpected}
use Rattle.wb_scan_theory.proofs.SeenLemmas.{scan_next}
use Rattle.wb_session_theory.proofs.ScanLemmas.{scan_kept, scan_more}

-- the same is read on each text that agrees with what was looked at
pub reads_kept : {l : LanguageView} {text other : List ℕ} {e : ℕ} {prefix : List Symbol} {at at' : ℕ} {stack stack' : Forest} →
    Reads l text e prefix stack at stack' at' → AgreeUpTo e text other → Reads l other e prefix stack at stack' at'
reads_kept (stays same at_same) agree = stays same at_same
reads_kept (shifts begin t lexeme after reduced scan red can more) agree =
    shifts begin t lexeme after reduced (scan_kept scan agree) red can (reads_kept more agree)

pub ends_kept : {l : LanguageView} {text other : List ℕ} {e at : ℕ} {stack : Forest} {answer : Answer} → Ends l text e stack at answer →
    AgreeUpTo e text other → Ends l other e stack at answer
ends_kept (accepts place reduced scan red can is) agree = accepts place reduced (scan_kept scan agree) red can is
ends_kept (no_token place scan is) agree = no_token place (scan_kept scan agree) is
ends_kept (unexpected next t place reduced scan gives red no_s no_r is) agree =
    unexpected next t place reduced (scan_kept scan agree) gives red no_s no_r is

pub reads_more : {l : LanguageView} {text : List ℕ} {e d : ℕ} {prefix : List Symbol} {at at' : ℕ} {stack stack' : Forest} → e ≤ d →
    Reads l text e prefix stack at stack' at' → Reads l text d prefix stack at stack' at'
reads_more less (stays same at_same) = stays same at_same
reads_more less (shifts begin t lexeme after reduced scan red can more) =
    shifts begin t lexeme after reduced (scan_more less scan) red can (reads_more less more)

pub ends_more : {l : LanguageView} {text : List ℕ} {e d at : ℕ} {stack : Forest} {answer : Answer} → e ≤ d →
    Ends l text e stack at answer → Ends l text d stack at answer
ends_more less (accepts place reduced scan red can is) = accepts place reduced (scan_more less scan) red can is
ends_more less (no_token place scan is) = no_token place (scan_more less scan) is
ends_more less (unexpected next t place reduced scan gives red no_s no_r is) =
    unexpected next t place reduced (scan_more less scan) gives red no_s no_r is

-- one after the other
pub reads_then : {l : LanguageView} {text : List ℕ} {e : ℕ} {prefix : List Symbol} {at mid at' : ℕ} {stack through stack' : Forest} →
    Reads l text e prefix stack at through mid → Reads l text e prefix through mid stack' at' → Reads l text e prefix stack at stack' at'
reads_then {l} {text} {e} {prefix} {at} {mid} {at'} {stack} {through} {stack'} (stays same at_same) more =
    subst (λ z. Reads l text e prefix z at stack' at') (sym same)
    (subst (λ z. Reads l text e prefix through z stack' at') (sym at_same) more)
reads_then (shifts begin t lexeme after reduced scan red can rest) more =
    shifts begin t lexeme after reduced scan red can (reads_then rest more)

-- above more
joined_reduces : {g : GrammarView} {prefix : List Symbol} {t : ℕ} (below : Forest) {stack stack' : Forest} →
    Reduces g (prefix ++ symbols below) t stack stack' → Reduces g prefix t (joined below stack) (joined below stack')
joined_reduces below (rests e) = rests (ap (joined below) e)
joined_reduces {g} {prefix} {t} below (reduces p a lower children {stack} {stack'} e rule can more) =
    reduces p a (joined below lower) children (ap (joined below) e ∙ sym (joined_assoc below lower children)) rule
    (subst (λ z. CanReduce g z p t)
    (append_assoc prefix (symbols below) (symbols stack) ∙ ap (λ z. prefix ++ z) (sym (symbols_joined below stack))) can)
    (subst (λ z. Reduces g prefix t z (joined below stack')) (sym (joined_assoc below lower (node p a children nothing)))
    (joined_reduces below more))

-- what is read above a prefix is read above any stack of its symbols
pub reads_above : {l : LanguageView} {text : List ℕ} {e : ℕ} {prefix : List Symbol} (below : Forest) {at at' : ℕ} {stack stack' : Forest} →
    Reads l text e (prefix ++ symbols below) stack at stack' at' →
    Reads l text e prefix (joined below stack) at (joined below stack') at'
reads_above below (stays same at_same) = stays (ap (joined below) same) at_same
reads_above {l} {text} {e} {prefix} below (shifts begin t lexeme after reduced {stack} {stack'} {at} {at'} scan red can more) =
    shifts begin t lexeme after (joined below reduced)
    (subst (λ z. Scans l text z e at (token begin t lexeme after))
    (append_assoc prefix (symbols below) (symbols stack) ∙ ap (λ z. prefix ++ z) (sym (symbols_joined below stack))) scan)
    (joined_reduces below red)
    (subst (λ z. CanShift l.grammar z t)
    (append_assoc prefix (symbols below) (symbols reduced) ∙ ap (λ z. prefix ++ z) (sym (symbols_joined below reduced))) can)
    (subst (λ z. Reads l text e prefix z after (joined below stack') at') (sym (joined_assoc below reduced (leaf t lexeme nothing)))
    (reads_above below more))

-- what the machine keeps
module _ (l : LanguageView) (ok : IsLanguage l) (text : List ℕ) where
  one_split : {p a t : ℕ} (below children stack : Forest) → stack ≡ joined below children → IsProduction l.grammar p a (symbols children) →
      CanReduce l.grammar (symbols stack) p t → (r : Reduced l.grammar stack p) →
      joined r.below (node p r.left r.children nothing) ≡ joined below (node p a children nothing)
  one_split {p} {a} below children stack e rule can r =
      let rules = production_once l.grammar p r.left a (symbols r.children) (symbols children) r.rule rule in
      let both : joined r.below r.children ≡ joined below children = sym r.is ∙ e in
      let lower : symbols r.below ≡ symbols below = one_below r.below r.children below children (ap symbols both) rules.1 in
      let parts = joined_split r.below below r.children children lower both in
      (λ i. joined (parts.0 i) (node p (rules.0 i) (parts.1 i) nothing))

  reduces_keeps : {prefix : List Symbol} {at u : ℕ} (place : ℕ) {s : Next} {stack stack' : Forest} → Reduces l.grammar [] u stack stack' →
      NextToken l text prefix at s → Gives l.grammar s u place → Keeps l.grammar (NextToken l text) stack prefix at →
      Keeps l.grammar (NextToken l text) stack' prefix at
  reduces_keeps {prefix} {at} place (rests e) n gives k = subst (λ z. Keeps l.grammar (NextToken l text) z prefix at) e k
  reduces_keeps {prefix} {at} {u} place {s} (reduces p a below children {stack} {stack'} e rule can more) n gives k =
      go (λ k'. reduces_keeps place more n gives k') (reduction_finds l.grammar (parsable l.grammar ok.deterministic).live stack p u can)
    where
      go : (Keeps l.grammar (NextToken l text) (joined below (node p a children nothing)) prefix at →
          Keeps l.grammar (NextToken l text) stack' prefix at) → ((p ≡ top_of l.grammar) × (u ≡ end_of l.grammar) ×
          (symbols stack ≡ Nonterminal l.grammar.start ∷ [])) ⊎
          Reduced l.grammar stack p → Keeps l.grammar (NextToken l text) stack' prefix at
      go again (inl (top, is_end, root)) = absurd (not_top l.grammar p a (symbols children) rule (sym top))
      go again (inr r) = again
          (subst (λ z. Keeps l.grammar (NextToken l text) z prefix at) (one_split below children stack e rule can r)
          (reduce_keeps l.grammar ok.deterministic.no_conflict (NextToken l text) (is_one l ok text) stack prefix at k p s u place n gives
          can r))

  -- what is read is kept, up to the symbols of the stack and the place
  pub reads_keeps : {e : ℕ} {at at' : ℕ} {stack stack' : Forest} → Reads l text e [] stack at stack' at' →
      Keeps l.grammar (NextToken l text) stack (symbols stack) at → Keeps l.grammar (NextToken l text) stack' (symbols stack') at'
  reads_keeps {at = at} {at'} {stack} {stack'} (stays same at_same) k =
      subst (λ z. Keeps l.grammar (NextToken l text) z (symbols z) at') same
      (subst (Keeps l.grammar (NextToken l text) stack (symbols stack)) at_same k)
  reads_keeps {at = at} {at'} {stack} {stack'} (shifts begin t lexeme after reduced scan red can more) k =
      let n = scan_next scan in
      let k' = reduces_keeps begin red n (refl, refl) k in
      let new : Forest = joined reduced (leaf t lexeme nothing) in
      reads_keeps more
      (subst (λ z. Keeps l.grammar (NextToken l text) new z after) (sym (symbols_joined reduced (leaf t lexeme nothing)))
      (shift_keeps l.grammar ok.deterministic.no_conflict (NextToken l text) reduced (symbols stack) at k' begin t lexeme after n can))

  pub first_read : {e at : ℕ} {stack : Forest} → Reads l text e [] nothing 0 stack at →
      Keeps l.grammar (NextToken l text) stack (symbols stack) at
  first_read reads = reads_keeps reads (first_keeps l.grammar (NextToken l text))

  -- what the machine ends with is the answer of the text
  pub ends_answer : {e at : ℕ} {stack : Forest} {answer : Answer} → Ends l text e stack at answer →
      Keeps l.grammar (NextToken l text) stack (symbols stack) at → IsAnswer l text answer
  ends_answer {at = at} {stack} {answer} (accepts place reduced scan red can is) k =
      let n = scan_next scan in
      let k' = reduces_keeps place red n (refl, refl) k in
      subst (IsAnswer l text) (sym is) (go k' (reduction_finds l.grammar (parsable l.grammar ok.deterministic).live reduced
      (top_of l.grammar) (end_of l.grammar) can))
    where
      go : Keeps l.grammar (NextToken l text) reduced (symbols stack) at →
          ((top_of l.grammar ≡ top_of l.grammar) × (end_of l.grammar ≡ end_of l.grammar) ×
          (symbols reduced ≡ Nonterminal l.grammar.start ∷ [])) ⊎ Reduced l.grammar reduced (top_of l.grammar) →
          IsAnswer l text (a_tree reduced)
      go k' (inl (_, _, root)) = accept_gives l.grammar (NextToken l text) reduced (symbols stack) at place k' (scan_next scan) root
      go k' (inr r) = absurd (not_top l.grammar (top_of l.grammar) r.left (symbols r.children) r.rule refl)
  ends_answer {at = at} {stack} (no_token place scan is) k =
      subst (IsAnswer l text) (sym is)
      (nothing_stops l.grammar (parsable l.grammar ok.deterministic).productive (NextToken l text) stack (symbols stack) at place k
      (scan_next scan))
  ends_answer {at = at} {stack} (unexpected next t place reduced scan gives red no_s no_r is) k =
      let n = scan_next scan in
      subst (IsAnswer l text) (sym is)
      (no_action_stops l.grammar (parsable l.grammar ok.deterministic).productive (NextToken l text) reduced (symbols stack) at t place
      (reduces_keeps place red n gives k) next n gives no_s no_r)

-- the machine has one way
reduces_once : (g : GrammarView) → HasNoConflict g → {prefix : List Symbol} {t : ℕ} {stack one other : Forest} →
    Reduces g prefix t stack one → {stack' : Forest} → Reduces g prefix t stack' other → stack ≡ stack' →
    CanShift g (prefix ++ symbols one) t →
    CanShift g (prefix ++ symbols other) t → one ≡ other
reduces_once g free (rests e) (rests f) same a b = sym e ∙ same ∙ f
reduces_once g free {prefix} {t} (rests {stack} {stack' = one} e) (reduces p c below children {stack = stack'} f rule can more) same a b =
    absurd (no_shift g free (prefix ++ symbols one) (prefix ++ symbols stack') t t p
    (ap (λ z. prefix ++ symbols z) (sym e ∙ same)) refl a can)
reduces_once g free {prefix} {t} (reduces p c below children {stack} f rule can more) (rests {stack' = other} e) same a b =
    absurd (no_shift g free (prefix ++ symbols other) (prefix ++ symbols stack) t t p
    (ap (λ z. prefix ++ symbols z) (sym e ∙ sym same)) refl b can)
reduces_once g free {prefix} {t} (reduces p c below children {stack} f rule can more)
    (reduces q d below' children' {stack = stack'} f' rule' can' more') same a b =
    let one = one_reduction g free (prefix ++ symbols stack) (prefix ++ symbols stack') t t p q (ap (λ z. prefix ++ symbols z) same)
    refl can
    can' in
    let rules = one_rule g p q c d (symbols children) (symbols children') one rule rule' in
    let both : joined below children ≡ joined below' children' = sym f ∙ same ∙ f' in
    let lower : symbols below ≡ symbols below' = one_below below children below' children' (ap symbols both) rules.1 in
    let parts = joined_split below below' children children' lower both in
    reduces_once g free more more' (λ i. joined (parts.0 i) (node (one i) (rules.0 i) (parts.1 i) nothing)) a b

module _ (l : LanguageView) (ok : IsLanguage l) (text : List ℕ) where
  pub reads_on : {e : ℕ} {prefix : List Symbol} {at at' : ℕ} {stack stack' : Forest} → Reads l text e prefix stack at stack' at' → at ≤ at'
  reads_on {at = at} (stays same at_same) = omega arith
  reads_on {at = at} {at'} (shifts begin t lexeme after reduced scan red can more) =
      let a : at < after = (taken ok.written (scan_next scan) begin t lexeme after refl).1 in
      let b : after ≤ at' = reads_on more in omega arith

  -- the stack before the token at a place is one
  pub reads_once : {e d : ℕ} {prefix : List Symbol} {at at' : ℕ} {stack one other : Forest} → Reads l text e prefix stack at one at' →
      {stack' : Forest} {also end : ℕ} → Reads l text d prefix stack' also other end → stack ≡ stack' → at ≡ also → at' ≡ end → one ≡ other
  reads_once (stays e f) (stays e' f') same at_same end_same = sym e ∙ same ∙ e'
  reads_once {at = at} {at'} (stays e f) {also = also} {end = end} (shifts begin t lexeme after reduced scan red can more) same at_same
      end_same =
      let a : also < after = (taken ok.written (scan_next scan) begin t lexeme after refl).1 in
      let b : after ≤ end = reads_on more in absurd (omega arith)
  reads_once {at = at} {at'} (shifts begin t lexeme after reduced scan red can more) {also = also} {end = end} (stays e f) same at_same
      end_same =
      let a : at < after = (taken ok.written (scan_next scan) begin t lexeme after refl).1 in
      let b : after ≤ at' = reads_on more in absurd (omega arith)
  reads_once {prefix = prefix} {at} {at'} {stack} (shifts begin t lexeme after reduced scan red can more) {stack'} {also} {end}
      (shifts begin' t' lexeme' after' reduced' scan' red' can' more') same at_same end_same =
      let n : NextToken l text (prefix ++ symbols stack) at (token begin' t' lexeme' after') =
      subst (λ z. NextToken l text (prefix ++ symbols z) at (token begin' t' lexeme' after')) (sym same)
      (subst (λ z. NextToken l text (prefix ++ symbols stack') z (token begin' t' lexeme' after')) (sym at_same) (scan_next scan')) in
      let k = same_token begin begin' t t' lexeme lexeme' after after'
      (is_one l ok text (prefix ++ symbols stack) at (token begin t lexeme after) (token begin' t' lexeme' after') (scan_next scan) n) in
      let reduced_is : reduced ≡ reduced' =
      reduces_once l.grammar ok.deterministic.no_conflict red
      (subst (λ z. Reduces l.grammar prefix z stack' reduced') (sym k.terminals) red') same can
      (subst (CanShift l.grammar (prefix ++ symbols reduced')) (sym k.terminals) can') in
      reads_once more more' (λ i. joined (reduced_is i) (leaf (k.terminals i) (k.lexemes i) nothing)) k.ends end_same

  -- of two runs from one stack and place the longer goes on from where the other ends
  pub reads_between : {e d : ℕ} {prefix : List Symbol} {at at' : ℕ} {stack one other : Forest} → Reads l text e prefix stack at one at' →
      {stack' : Forest} {also end : ℕ} → Reads l text d prefix stack' also other end → stack ≡ stack' → at ≡ also → at' ≤ end →
      Reads l text d prefix one at' other end
  reads_between {d = d} {prefix} {at} {at'} {stack} {one} {other} (stays e f) {stack'} {also} {end} more same at_same le =
      subst (λ z. Reads l text d prefix z at' other end) (sym same ∙ e)
      (subst (λ z. Reads l text d prefix stack' z other end) (sym at_same ∙ f) more)
  reads_between {at = at} {at'} (shifts begin t lexeme after reduced scan red can more) {also = also} {end = end} (stays e f) same at_same
      le =
      let a : at < after = (taken ok.written (scan_next scan) begin t lexeme after refl).1 in
      let b : after ≤ at' = reads_on more in absurd (omega arith)
  reads_between {d = d} {prefix} {at} {at'} {stack} (shifts begin t lexeme after reduced scan red can more) {stack'} {also} {end}
      (shifts begin' t' lexeme' after' reduced' scan' red' can' more') same at_same le =
      let n : NextToken l text (prefix ++ symbols stack) at (token begin' t' lexeme' after') =
      subst (λ z. NextToken l text (prefix ++ symbols z) at (token begin' t' lexeme' after')) (sym same)
      (subst (λ z. NextToken l text (prefix ++ symbols stack') z (token begin' t' lexeme' after')) (sym at_same) (scan_next scan')) in
      let k = same_token begin begin' t t' lexeme lexeme' after after'
      (is_one l ok text (prefix ++ symbols stack) at (token begin t lexeme after) (token begin' t' lexeme' after') (scan_next scan) n) in
      let reduced_is : reduced ≡ reduced' =
      reduces_once l.grammar ok.deterministic.no_conflict red
      (subst (λ z. Reduces l.grammar prefix z stack' reduced') (sym k.terminals) red') same can
      (subst (CanShift l.grammar (prefix ++ symbols reduced')) (sym k.terminals) can') in
      reads_between more more' (λ i. joined (reduced_is i) (leaf (k.terminals i) (k.lexemes i) nothing)) k.ends le

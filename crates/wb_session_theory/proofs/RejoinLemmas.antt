-- The same steps above another stack and before the same rest of another text.
use Rattle.std.proofs.Common.{◌≡◌, ◌+◌, ℕ, List, [], ◌∷◌, ◌++◌, refl, sym, ◌∙◌, ap, subst}
use Rattle.std.proofs.Common.{append_assoc}
use Rattle.wb_base.specs.declared.symbol.Symbol.{Symbol}
use Rattle.wb_base.specs.Grammar.{GrammarView}
use Rattle.wb_grammar_theory.specs.Productions.{IsProduction, end_of, top_of}
use Rattle.wb_grammar_theory.specs.Trees.{Forest, nothing, leaf, node, symbols}
use Rattle.wb_grammar_theory.specs.Items.{SameKernel}
use Rattle.wb_grammar_theory.specs.Shape.{IsLive}
use Rattle.wb_grammar_theory.specs.Lookaheads.{CanShift, CanReduce}
use Rattle.wb_grammar_theory.proofs.KernelLemmas.{same_move}
use Rattle.wb_grammar_theory.proofs.FlowLemmas.{same_itself}
use Rattle.wb_scan_theory.specs.declared.stop_kind.StopKind.TheVariants.{NoToken, Unexpected}
use Rattle.wb_scan_theory.specs.Languages.{LanguageView}
use Rattle.wb_scan_theory.specs.Tokens.{Next, token, over, missing}
use Rattle.wb_scan_theory.specs.Readings.{Gives}
use Rattle.wb_scan_theory.specs.Machine.{joined}
use Rattle.wb_scan_theory.proofs.FactLemmas.{shift_at, reduce_at}
use Rattle.wb_scan_theory.proofs.ForestLemmas.{append_nil}
use Rattle.wb_scan_theory.specs.Examined.{Scans}
use Rattle.wb_session_theory.specs.Rests.{SameRest, IsMoved, a_token, an_end, a_gap}
use Rattle.wb_session_theory.specs.Runs.{Reduces, rests, reduces, Reads, stays, shifts, Answer, a_tree}
use Rattle.wb_session_theory.specs.Runs.{a_stop, Ends, accepts, no_token, unexpected}
use Rattle.wb_session_theory.specs.Frames.{Frame, bare, twig, branch, roots, filled, IsSpine}
use Rattle.wb_session_theory.specs.Inner.Linked.{IsWithin, linked}
use Rattle.wb_session_theory.specs.Frames.{Outcome, whole, halts, shown, HasSpine}
use Rattle.wb_session_theory.proofs.ScanLemmas.{scan_moved, scan_there}
use Rattle.wb_session_theory.proofs.FrameLemmas.{cut, filled_linked, within_linked, filled_symbols}
use Rattle.wb_session_theory.proofs.SpineLemmas.{spine_grown, spine_more}

-- prefixes with the same kernel have the same kernels after more symbols
pub same_after : {g : GrammarView} → IsLive g → (a b w : List Symbol) → SameKernel g a b → SameKernel g (a ++ w) (b ++ w)
same_after {g} live a b [] same =
    subst (λ z. SameKernel g z (b ++ [])) (sym (append_nil a)) (subst (λ z. SameKernel g a z) (sym (append_nil b)) same)
same_after {g} live a b (x ∷ w) same =
    subst (λ z. SameKernel g z (b ++ x ∷ w)) (append_assoc a (x ∷ []) w)
    (subst (λ z. SameKernel g ((a ++ x ∷ []) ++ w) z) (append_assoc b (x ∷ []) w)
    (same_after live (a ++ x ∷ []) (b ++ x ∷ []) w (same_move live a b x same)))

-- a filled frame over other prefixes and stacks has the same kernel
pub kernels : {g : GrammarView} → IsLive g → (prefix prefix' : List Symbol) (frame : Frame) (base other : Forest) →
    SameKernel g prefix prefix' → symbols base ≡ symbols other →
    SameKernel g (prefix ++ symbols (filled frame base)) (prefix' ++ symbols (filled frame other))
kernels {g} live prefix prefix' frame base other same e =
    subst (λ z. SameKernel g (prefix ++ symbols (filled frame base)) (prefix' ++ z)) (filled_symbols frame base other e)
    (same_after live prefix prefix' (symbols (filled frame base)) same)

-- reductions as they are done over any stack of these symbols
pub record Redone (g : GrammarView) (prefix : List Symbol) (t : ℕ) (base stack' : Forest) (frame : Frame) : Type 0 where
  pub later : Frame
  pub within : IsWithin (roots base) later
  pub spine : IsSpine (roots base) 0 frame → IsSpine (roots base) 0 later
  pub is : stack' ≡ filled later base
  pub again : (prefix' : List Symbol) (other : Forest) → SameKernel g prefix prefix' → symbols base ≡ symbols other →
      Reduces g prefix' t (filled frame other) (filled later other)

pub redo : {g : GrammarView} → IsLive g → {prefix : List Symbol} {t : ℕ} {stack stack' : Forest} → Reduces g prefix t stack stack' →
    (base : Forest) (frame : Frame) → IsWithin (roots base) frame → stack ≡ filled frame base → Redone g prefix t base stack' frame
redo live (rests e) base frame within is =
    record { later = frame; within = within; spine = λ s. s; is = sym e ∙ is; again = λ prefix' other same symbols_are. rests refl }
redo {g} live {prefix} {t} (reduces p a below children {stack} {stack'} e rule can more) base frame within is =
    let c = cut base below children frame within (sym is ∙ e) in
    let grown : Frame = linked c.one (branch p a c.two bare) in
    let grown_is : joined below (node p a children nothing) ≡ filled grown base =
    (λ i. joined (sym c.one_is i) (node p a (sym c.two_is i) nothing)) ∙ sym (filled_linked c.one (branch p a c.two bare) base) in
    let r = redo live more base grown
    (within_linked (roots base) c.one (branch p a c.two bare) c.one_within (c.two_within, tt)) grown_is in
    record {
      later = r.later;
      within = r.within;
      spine = λ s. r.spine (spine_grown c.one c.two (roots base) 0 p a (subst (IsSpine (roots base) 0) c.is s));
      is = r.is;
      again = λ prefix' other same e'.
          reduces p a (filled c.one other) (filled c.two other) (ap (λ z. filled z other) c.is ∙ filled_linked c.one c.two other)
          (subst (IsProduction g p a) (ap symbols (sym c.two_is) ∙ filled_symbols c.two base other e') rule)
          (reduce_at live (prefix ++ symbols (filled frame base)) (prefix' ++ symbols (filled frame other))
          (kernels live prefix prefix' frame base other same e') p t (subst (λ z. CanReduce g (prefix ++ symbols z) p t) is can))
          (subst (λ z. Reduces g prefix' t z (filled r.later other)) (filled_linked c.one (branch p a c.two bare) other)
          (r.again prefix' other same e'));
    }

-- a token that moved
pub record MovedToken (a b begin t : ℕ) (lexeme : List ℕ) (after : ℕ) (next' : Next) : Type 0 where
  pub i : ℕ
  pub j : ℕ
  pub begin_is : begin ≡ a + i
  pub after_is : after ≡ a + j
  pub next_is : next' ≡ token (b + i) t lexeme (b + j)

pub moved_token : {a b begin t : ℕ} {lexeme : List ℕ} {after : ℕ} {next next' : Next} → IsMoved a b next next' →
    next ≡ token begin t lexeme after → MovedToken a b begin t lexeme after next'
moved_token {a} {b} {begin} {t} {lexeme} {after} (a_token i j u x is is') e =
    let h : token begin t lexeme after ≡ token (a + i) u x (a + j) = sym e ∙ is in
    let t_is : u ≡ t = cc in
    let x_is : x ≡ lexeme = cc in
    record {
      i = i;
      j = j;
      begin_is = (cc);
      after_is = (cc);
      next_is = is' ∙ (λ k. token (b + i) (t_is k) (x_is k) (b + j));
    }
moved_token {a} {begin = begin} {t} {lexeme} {after} (an_end i is is') e =
    let h : token begin t lexeme after ≡ over (a + i) = sym e ∙ is in cc
moved_token {a} {begin = begin} {t} {lexeme} {after} (a_gap i is is') e =
    let h : token begin t lexeme after ≡ missing (a + i) = sym e ∙ is in cc

-- tokens as they are read over any stack of these symbols
pub record Reread (l : LanguageView) (a : ℕ) (y : List ℕ) (b : ℕ) (prefix : List Symbol) (base : Forest) (e : ℕ) (stack' : Forest)
    (at' : ℕ) (frame : Frame) (k : ℕ) : Type 0 where
  pub later : Frame
  pub within : IsWithin (roots base) later
  pub spine : IsSpine (roots base) 0 frame → IsSpine (roots base) 0 later
  pub is : stack' ≡ filled later base
  pub further : ℕ
  pub at_is : at' ≡ a + further
  pub again : (prefix' : List Symbol) (other : Forest) → SameKernel l.grammar prefix prefix' → symbols base ≡ symbols other →
      Reads l y (b + e) prefix' (filled frame other) (b + k) (filled later other) (b + further)

pub reread : {l : LanguageView} → IsLive l.grammar → {x y : List ℕ} {a b : ℕ} → SameRest x a y b → (e : ℕ) {d : ℕ}
    {prefix : List Symbol} {at at' : ℕ} {stack stack' : Forest} → Reads l x d prefix stack at stack' at' → d ≡ a + e →
    (base : Forest) (frame : Frame) → IsWithin (roots base) frame → stack ≡ filled frame base → (k : ℕ) → at ≡ a + k →
    Reread l a y b prefix base e stack' at' frame k
reread live s e (stays same at_same) d_is base frame within is k at_is = record {
  later = frame;
  within = within;
  spine = λ h. h;
  is = sym same ∙ is;
  further = k;
  at_is = sym at_same ∙ at_is;
  again = λ prefix' other same_kernel symbols_are. stays refl refl;
}
reread {l} live {x} {y} {a} {b} s e {d} {prefix} {at} {at'} {stack} {stack'} (shifts begin t lexeme after reduced scan red can more) d_is
    base frame within is k at_is =
    let (next', moved, scan') = scan_moved s e scan d_is k at_is in
    let m = moved_token moved refl in
    let r = redo live red base frame within is in
    let grown : Frame = linked r.later (twig t lexeme bare) in
    let grown_is : joined reduced (leaf t lexeme nothing) ≡ filled grown base =
    ap (λ z. joined z (leaf t lexeme nothing)) r.is ∙ sym (filled_linked r.later (twig t lexeme bare) base) in
    let rest = reread live s e more d_is base grown (within_linked (roots base) r.later (twig t lexeme bare) r.within tt) grown_is m.j
    m.after_is in
    record {
      later = rest.later;
      within = rest.within;
      spine = λ h. rest.spine (spine_more (twig t lexeme bare) refl (r.spine h));
      is = rest.is;
      further = rest.further;
      at_is = rest.at_is;
      again = λ prefix' other same e'.
          shifts (b + m.i) t lexeme (b + m.j) (filled r.later other)
          (scan_there live (kernels live prefix prefix' frame base other same e')
          (subst (λ z. Scans l y (prefix ++ symbols z) (b + e) (b + k) (token (b + m.i) t lexeme (b + m.j))) is
          (subst (Scans l y (prefix ++ symbols stack) (b + e) (b + k)) m.next_is scan')))
          (r.again prefix' other same e')
          (shift_at live (prefix ++ symbols (filled r.later base)) (prefix' ++ symbols (filled r.later other))
          (kernels live prefix prefix' r.later base other same e') t (subst (λ z. CanShift l.grammar (prefix ++ symbols z) t) r.is can))
          (subst (λ z. Reads l y (b + e) prefix' z (b + m.j) (filled rest.later other) (b + rest.further))
          (filled_linked r.later (twig t lexeme bare) other) (rest.again prefix' other same e'));
    }

-- an end as it comes over any stack of these symbols
pub record Reended (l : LanguageView) (a : ℕ) (y : List ℕ) (b : ℕ) (base : Forest) (e : ℕ) (answer : Answer) (frame : Frame) (k : ℕ) :
    Type 0 where
  pub outcome : Outcome
  pub spine : IsSpine (roots base) 0 frame → HasSpine (roots base) outcome
  pub is : answer ≡ shown a base outcome
  pub again : (other : Forest) → symbols base ≡ symbols other → Ends l y (b + e) (filled frame other) (b + k) (shown b other outcome)

over_moved : {a b place : ℕ} {next next' : Next} → IsMoved a b next next' → next ≡ over place →
    (i : ℕ) × (place ≡ a + i) × (next' ≡ over (b + i))
over_moved {a} {place = place} (a_token i j u x is is') e = let h : over place ≡ token (a + i) u x (a + j) = sym e ∙ is in cc
over_moved {a} {place = place} (an_end i is is') e = let h : over place ≡ over (a + i) = sym e ∙ is in (i, (cc), is')
over_moved {a} {place = place} (a_gap i is is') e = let h : over place ≡ missing (a + i) = sym e ∙ is in cc

missing_moved : {a b place : ℕ} {next next' : Next} → IsMoved a b next next' → next ≡ missing place →
    (i : ℕ) × (place ≡ a + i) × (next' ≡ missing (b + i))
missing_moved {a} {place = place} (a_token i j u x is is') e = let h : missing place ≡ token (a + i) u x (a + j) = sym e ∙ is in cc
missing_moved {a} {place = place} (an_end i is is') e = let h : missing place ≡ over (a + i) = sym e ∙ is in cc
missing_moved {a} {place = place} (a_gap i is is') e = let h : missing place ≡ missing (a + i) = sym e ∙ is in (i, (cc), is')

gives_moved : (g : GrammarView) {a b : ℕ} (t : ℕ) {place : ℕ} {next next' : Next} → IsMoved a b next next' → Gives g next t place →
    (i : ℕ) × (place ≡ a + i) × Gives g next' t (b + i)
gives_moved g {a} {b} t {place} (a_token i j u x is is') gives =
    let h : (u ≡ t) × (a + i ≡ place) = subst (λ z. Gives g z t place) is gives in
    (i, sym h.1, subst (λ z. Gives g z t (b + i)) (sym is') (h.0, refl))
gives_moved g {a} {b} t {place} (an_end i is is') gives =
    let h : (end_of g ≡ t) × (a + i ≡ place) = subst (λ z. Gives g z t place) is gives in
    (i, sym h.1, subst (λ z. Gives g z t (b + i)) (sym is') (h.0, refl))
gives_moved g {a} {b} t {place} (a_gap i is is') gives =
    let h : ⊥ = subst (λ z. Gives g z t place) is gives in absurd h

pub reend : {l : LanguageView} → IsLive l.grammar → {x y : List ℕ} {a b : ℕ} → SameRest x a y b → (e : ℕ) {d at : ℕ} {stack : Forest}
    {answer : Answer} → Ends l x d stack at answer → d ≡ a + e → (base : Forest) (frame : Frame) → IsWithin (roots base) frame →
    stack ≡ filled frame base → (k : ℕ) → at ≡ a + k → Reended l a y b base e answer frame k
reend {l} live {x} {y} {a} {b} s e {d} {at} {stack} (accepts place reduced scan red can shown_is) d_is base frame within is k at_is =
    let (next', moved, scan') = scan_moved s e scan d_is k at_is in
    let (i, place_is, next_is) = over_moved moved refl in
    let r = redo live red base frame within is in
    record {
      outcome = whole r.later;
      spine = λ h. r.spine h;
      is = shown_is ∙ ap a_tree r.is;
      again = λ other e'. accepts (b + i) (filled r.later other)
          (subst (λ z. Scans l y z (b + e) (b + k) (over (b + i))) (ap symbols is ∙ filled_symbols frame base other e')
          (subst (Scans l y (symbols stack) (b + e) (b + k)) next_is scan'))
          (r.again [] other (same_itself l.grammar []) e')
          (subst (λ z. CanReduce l.grammar z (top_of l.grammar) (end_of l.grammar))
          (ap symbols r.is ∙ filled_symbols r.later base other e') can)
          refl;
    }
reend {l} live {x} {y} {a} {b} s e {d} {at} {stack} (no_token place scan shown_is) d_is base frame within is k at_is =
    let (next', moved, scan') = scan_moved s e scan d_is k at_is in
    let (i, place_is, next_is) = missing_moved moved refl in
    record {
      outcome = halts i NoToken;
      spine = λ h. tt;
      is = shown_is ∙ ap (λ z. a_stop z NoToken) place_is;
      again = λ other e'. no_token (b + i)
          (subst (λ z. Scans l y z (b + e) (b + k) (missing (b + i))) (ap symbols is ∙ filled_symbols frame base other e')
          (subst (Scans l y (symbols stack) (b + e) (b + k)) next_is scan'))
          refl;
    }
reend {l} live {x} {y} {a} {b} s e {d} {at} {stack} (unexpected next t place reduced scan gives red no_shift no_reduce shown_is) d_is base
    frame within is k at_is =
    let (next', moved, scan') = scan_moved s e scan d_is k at_is in
    let (i, place_is, gives') = gives_moved l.grammar t moved gives in
    let r = redo live red base frame within is in
    record {
      outcome = halts i (Unexpected t);
      spine = λ h. tt;
      is = shown_is ∙ ap (λ z. a_stop z (Unexpected t)) place_is;
      again = λ other e'.
          let there : symbols (filled r.later other) ≡ symbols reduced =
          sym (filled_symbols r.later base other e') ∙ ap symbols (sym r.is) in
          unexpected next' t (b + i) (filled r.later other)
          (subst (λ z. Scans l y z (b + e) (b + k) next') (ap symbols is ∙ filled_symbols frame base other e') scan')
          gives' (r.again [] other (same_itself l.grammar []) e')
          (λ can. no_shift (subst (λ z. CanShift l.grammar z t) there can))
          (λ p can. no_reduce p (subst (λ z. CanReduce l.grammar z p t) there can)) refl;
    }

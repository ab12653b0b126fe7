-- What tests show of the sets.
use Rattle.std.proofs.Common.{◌≡◌, ◌+◌, ◌<◌, ◌∙◌, ◌∷◌, ◌++◌, [], Bool, List, ℕ, Some, drop, length, sym, ap, subst, inl, inr}
use Rattle.std.proofs.Common.{arith}
use Rattle.std.specs.Prelude.{Contains, IfSome, IsTrue, None, Option, slice_get, slice_index_or}
use Rattle.std.proofs.lemmas.Bool.{cases_lt}
use Rattle.std.proofs.lemmas.List.{get_or_past}
use Rattle.std.proofs.lemmas.Option.{slice_get_within}
use Rattle.wb_lemmas.proofs.Members.{nothing_in}
use Rattle.wb_lemmas.proofs.Places.{at_default, at_once, at_within}
use Rattle.wb_base.specs.declared.symbol.Symbol.{Symbol}
use Rattle.wb_base.specs.declared.symbol.Symbol.TheVariants.{Terminal, Nonterminal}
use Rattle.wb_base.specs.Grammar.{GrammarView}
use Rattle.wb_termset.specs.Sets.{IsMember}
use Rattle.wb_termset.proofs.CallerLemmas.{has_below}
use Rattle.wb_grammar_theory.specs.declared.item.Item.{Item}
use Rattle.wb_grammar_theory.specs.Derives.{IsFirst}
use Rattle.wb_grammar_theory.specs.Items.{advance, after_dot, initial_item}
use Rattle.wb_grammar_theory.specs.Productions.{IsProduction}
use Rattle.wb_grammar_theory.proofs.DotLemmas.{after_advance, after_initial}
use Rattle.wb_grammar_theory.proofs.FlowLemmas.{same_back, same_then}
use Rattle.wb_items.specs.declared.transitions.Move.{Move}
use Rattle.wb_items.specs.Kernels.{prefix_of}
use Rattle.wb_items.specs.Lookaheads.{IsSetOf}
use Rattle.wb_items.specs.Table.{AreProductions}
use Rattle.wb_lookahead.proofs.PassLemmas.{first_then}
use Rattle.wb_compose_theory.specs.Renamings.{renamed_item}
use Rattle.wb_determinism_theory.specs.Beside.{IsKnown, itself}
use Rattle.wb_determinism_lookaheads.specs.declared.context.Context.{Context}
use Rattle.wb_determinism_lookaheads.specs.declared.rests.Rest.{Rest}
use Rattle.wb_determinism_lookaheads.specs.Inner.Rests.{AreRests, IsRest}
use Rattle.wb_determinism_lookaheads.specs.Inner.Spreading.{AreTrue, Arrives, IsAllPassed, IsContext, IsLifted, IsMovedOn, IsOpened}
use Rattle.wb_determinism_lookaheads.specs.Inner.Spreading.{IsPassedOn}
use Rattle.wb_determinism_lookaheads.specs.Inner.Spreading.{IsProductionOf, IsSlot, IsSlotPassed, IsTogetherPassed, LeadsIn, both_of}
use Rattle.wb_determinism_lookaheads.specs.Inner.Spreading.{host_of}
use Rattle.wb_determinism_lookaheads.specs.Inner.Spreading.{image_of, own_of, up_of, with_sets}
use Rattle.wb_determinism_lookaheads.specs.NewLookaheads.{AreNewLookaheads}
use Rattle.wb_determinism_lookaheads.proofs.ArriveLemmas.{listed_exact, listed_keeps}
use Rattle.wb_determinism_lookaheads.proofs.TogetherLemmas.{together}

-- the rest after the symbol after a dot
pub rest_at : (g : GrammarView) (rests : List (List Rest)) → AreRests g rests → (item : Item) (row : List Rest) (rest : Rest) →
    slice_get rests item.production ≡ Some row → slice_get row item.dot ≡ Some rest → (x : Symbol) (more : List Symbol) →
    after_dot g item ≡ x ∷ more → IsRest g more rest
rest_at g rests are item row rest there here x more is =
    let lt : item.production < length g.productions = (let w = slice_get_within rests item.production row there in let e = are.len in
    omega (arith, w, e)) in
    let ((a, right), rule) = at_within g.productions item.production lt in
    let e : drop (item.dot + 1) right ≡ more =
    ap (drop (item.dot + 1)) (sym (after_initial g item.production a right rule)) ∙ after_advance g item x more is in
    subst (λ w. IsRest g w rest) e ((are.each item.production a right row there rule).each item.dot rest here)

-- a number of a row
pub first_rule : (g : GrammarView) (rules : List (List ℕ)) → AreProductions g rules → (b p : ℕ) → Contains (slice_index_or rules b []) p →
    IsProductionOf g b p
first_rule g rules are b p has = elim (cases_lt b (length rules)) [
  | inl lt ↦ (are.each b (slice_index_or rules b []) (at_default rules b [] lt)).sound p has
  | inr past ↦ absurd (nothing_in p (subst (λ (z : List ℕ). Contains z p) (get_or_past rules b [] past) has))
]

-- where a row of moves leads
pub leads_by : {c : Context} → IsContext c → (i : ℕ) (row : List Move) (x : Symbol) (found : Option ℕ) →
    slice_get c.new.now.moves i ≡ Some row → IfSome found (λ n. Contains row (record { symbol = x; state = n })) →
    IfSome found (LeadsIn c (own_of c + i) x)
leads_by ok i row x None at h = h
leads_by ok i row x (Some n) at h = (ok.new.moves i row at x n).0 h

module _ (c : Context) (sets : List (List (List Bool))) (i : ℕ) where
  -- what opens a nonterminal is listed at its initial items
  pub opened_listed : (item : Item) (b p j : ℕ) (set : List Bool) (rest : List Symbol) (r : Rest) →
      after_dot (both_of c) item ≡ Nonterminal b ∷ rest → IsProductionOf (both_of c) b p → IsSlot c i j (initial_item p) →
      IsRest (both_of c) rest r →
      ((t : ℕ) → IsMember r.set t → IsMember (slice_index_or (slice_index_or sets i []) j []) t) →
      (IsTrue r.empty → (t : ℕ) → IsMember set t → IsMember (slice_index_or (slice_index_or sets i []) j []) t) → IsOpened c sets i item set
  opened_listed item b p j set rest r is of slot begins within passed = λ a q t u more right is' rule has first.
      let e : Nonterminal b ∷ rest ≡ Nonterminal a ∷ more = sym is ∙ is' in
      let b_is : b ≡ a = cc in
      let rest_is : rest ≡ more = cc in
      let other : IsProductionOf (both_of c) b q = (right, subst (λ z. IsProduction (both_of c) q z right) (sym b_is) rule) in
      let belong = together (both_of c) b p q of other in
      elim (first_then rest t u (subst (λ z. IsFirst (both_of c) (z ++ Terminal t ∷ []) u) (sym rest_is) first)) [
        | inl here ↦ (j, initial_item p, slot, belong, within u ((begins.first u).1 here))
        | inr (empty, same) ↦ (
          j,
          initial_item p,
          slot,
          belong,
          subst (IsMember (slice_index_or (slice_index_or sets i []) j [])) same
              (passed (begins.empty.1 empty) t has),
        )
      ]

  -- an item with nothing after its dot passes nothing on
  pub passed_none : (item : Item) (set : List Bool) → after_dot (both_of c) item ≡ [] → IsPassedOn c sets i item set
  passed_none item set none = record {
    opens = λ b q t u rest right is rule has first. (let e : [] ≡ Nonterminal b ∷ rest = sym none ∙ is in cc);
    moves = λ x rest next t is leads has. (let e : [] ≡ x ∷ rest = sym none ∙ is in cc);
  }

  -- what is at a slot
  pub slot_passed : (j : ℕ) (one : Item) (set : List Bool) → IsSlot c i j one → set ≡ slice_index_or (slice_index_or sets i []) j [] →
      IsTogetherPassed c sets i one set → IsSlotPassed c sets i j
  slot_passed j one set slot is passed = λ other there.
      subst (λ z. IsTogetherPassed c sets i z (slice_index_or (slice_index_or sets i []) j []))
      (at_once (slice_index_or c.slots.now i []) j one other slot there) (subst (IsTogetherPassed c sets i one) is passed)

  -- what arrives where the symbol leads
  pub moved_passed : IsContext c → (item : Item) (x : Symbol) (rest : List Symbol) (set : List Bool) (next : ℕ) →
      after_dot (both_of c) item ≡ x ∷ rest → LeadsIn c (own_of c + i) x next →
      ((t : ℕ) → IsMember set t → Arrives c sets next (advance item) t) → IsMovedOn c sets i item set
  moved_passed ok item x rest set next is leads arrives = λ y more other t is' leads' has.
      let e : x ∷ rest ≡ y ∷ more = sym is ∙ is' in
      let x_is : x ≡ y = cc in
      let there : LeadsIn c (own_of c + i) x other = subst (λ z. LeadsIn c (own_of c + i) z other) (sym x_is) leads' in
      let same : next ≡ other = ok.new.states.each_once next other (leads.1) (there.1) (same_then leads.3 (same_back there.3)) in
      subst (λ z. Arrives c sets z (advance item) t) same (arrives t has)

-- what is known at a number of the host
pub known_by : {c : Context} → IsContext c → (s : ℕ) → s < own_of c → (item own : Item) → item ≡ renamed_item (up_of c) own →
    (set allowed : List Bool) → IsSetOf c.known.now s own set → IsLifted c set allowed → (t : ℕ) → IsMember allowed t →
    IsKnown (host_of c).grammar (both_of c) (up_of c) (image_of c) (prefix_of (host_of c) s) item t
known_by {c} ok s lt item own is set allowed there l t has =
    let (u, up_is, member) = l.only t has in
    record {
      named = (let w = has_below allowed t has in let e = l.len in omega (arith, w, e));
      own = own;
      stands = itself is;
      u = u;
      is = up_is;
      lookahead = (ok.known.exact s own set u lt there).0 member;
    }

-- each set is of numbers below the width
abbrev pub HaveWidth : ℕ → List (List (List Bool)) → Type 0
HaveWidth width sets = (i j : ℕ) (set : List Bool) → slice_get (slice_index_or sets i []) j ≡ Some set → length set ≡ width

-- all of it
pub whole : {c : Context} → IsContext c → (sets : List (List (List Bool))) (width : ℕ) →
    length c.slots.now ≡ length c.new.now.index.kernels →
    width ≡ (both_of c).terminals + 1 →
    HaveWidth width sets → AreTrue c sets → IsAllPassed c sets →
    AreNewLookaheads (host_of c) (both_of c) c.beside.now.numbers.now c.beside.now.images.now c.new.now (with_sets c sets)
whole ok sets width slots is wide true passed = record {
  len = slots;
  widths = λ i j set at. wide i j set at ∙ is;
  exact = listed_exact ok true passed;
  rule = listed_keeps ok true passed;
}

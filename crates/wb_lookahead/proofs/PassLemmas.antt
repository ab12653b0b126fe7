-- How what is listed at an item is passed on.
use Rattle.std.proofs.Common.{◌≡◌, ℕ, ◌+◌, ◌-◌, ◌<◌, ◌≤◌, ◌⊎◌, Bool, true, false, List, [], ◌∷◌, ◌++◌, length, get_or, take, drop}
use Rattle.std.proofs.Common.{replicate, set, Some, refl, sym, ◌∙◌, ap, subst, inl, inr, arith, length-drop}
use Rattle.std.specs.Prelude.{IfSome, slice_get, option_map}
use Rattle.std.proofs.lemmas.Bool.{cases_eq}
use Rattle.std.proofs.lemmas.List.{take_all, length-map}
use Rattle.std.proofs.lemmas.Option.{slice_get-map, slice_get-get_or, slice_get_within, get_or_from_slice_get, same_Some}
use Rattle.wb_base.specs.declared.symbol.Symbol.{Symbol}
use Rattle.wb_base.specs.declared.symbol.Symbol.TheVariants.{Terminal, Nonterminal}
use Rattle.wb_base.specs.Grammar.{GrammarView, Production}
use Rattle.wb_termset.specs.Sets.{IsMember}
use Rattle.wb_termset.proofs.CallerLemmas.{IsEmpty-replicate, IsMember-insert}
use Rattle.wb_grammar_theory.specs.declared.item.Item.{Item}
use Rattle.wb_grammar_theory.specs.Productions.{IsProduction, right_of, end_of}
use Rattle.wb_grammar_theory.specs.Derives.{Derives, keep, IsFirst}
use Rattle.wb_grammar_theory.proofs.DerivesLemmas.{First-append, Derives-same}
use Rattle.wb_grammar_theory.proofs.ProductionLemmas.{production_once}
use Rattle.wb_grammar_theory.specs.Items.{after_dot, advance, initial_item, HasItem, start_item}
use Rattle.wb_grammar_theory.specs.Items as valid
use Rattle.wb_grammar_theory.specs.States.{close}
use Rattle.wb_grammar_theory.proofs.DotLemmas.{after_initial, after_advance}
use Rattle.wb_grammar_theory.proofs.FlowLemmas.{zero_state}
use Rattle.wb_items.specs.declared.item_lookahead.ItemLookahead.{ItemLookahead}
use Rattle.wb_items.specs.Kernels.{KernelsView, AreKernels, LeadsTo, closure_of, count_of, prefix_of}
use Rattle.wb_items.specs.Apart.{BelongTogether, Opens}
use Rattle.wb_items.specs.Lookaheads.{AreLookaheadsOf, IsSetOf, Lists, LookaheadsView, row_of}
use Rattle.wb_items.proofs.SymbolLemmas.{symbol_last, symbol_end, symbol_none}
use Rattle.wb_lookahead.specs.declared.worklist.Place.{Place}
use Rattle.wb_lookahead.specs.Inner.Rests.{Repeats}
use Rattle.wb_lookahead.specs.Inner.Spreading.{AreSound, FlowsTo, IsItemPassed, IsPassedOn, IsProductionOf, Keeps}
use Rattle.wb_lookahead.proofs.StepLemmas.{initial_has}
use Rattle.wb_lookahead.proofs.OpenedLemmas.{initial_is, item_flows}
use Rattle.wb_items.proofs.CallerLemmas.{lists_together, number_of, row_items}
use Rattle.wb_items.proofs.RowLemmas.{row_len}

right_is : (g : GrammarView) (p : ℕ) (right : List Symbol) → p < length g.productions →
    IfSome (slice_get g.productions p) (λ r. right ≡ r.1) → right_of g p ≡ right
right_is g p right lt e =
    let d : Production = (0, []) in
    let r : Production = get_or g.productions p d in
    let at : slice_get g.productions p ≡ Some r = slice_get-get_or g.productions p d lt in
    let is : right ≡ r.1 = subst (λ o. IfSome o (λ z. right ≡ z.1)) at e in
    after_initial g p r.0 r.1 at ∙ sym is

pub rest_within : (g : GrammarView) (item : Item) (right : List Symbol) → item.production < length g.productions →
    IfSome (slice_get g.productions item.production) (λ r. right ≡ r.1) → (x : Symbol) (rest : List Symbol) → after_dot g item ≡ x ∷ rest →
    take (length right - (item.dot + 1)) (drop (item.dot + 1) right) ≡ rest
rest_within g item right lt e x rest is =
    take_all (length right - (item.dot + 1)) (drop (item.dot + 1) right) (omega (arith, length-drop (item.dot + 1) right))
    ∙ ap (drop (item.dot + 1)) (sym (right_is g item.production right lt e)) ∙ after_advance g item x rest is

pub rest_past : (g : GrammarView) (item : Item) → length g.productions ≤ item.production → (x : Symbol) (rest : List Symbol) →
    after_dot g item ≡ x ∷ rest → ◌≡◌ {A = List Symbol} [] rest
rest_past g item le x rest is = elim (cases_eq item.production (length g.productions)) [
  | inl last ↦ elim (cases_eq item.dot 0) [
    | inl left ↦ (let e = symbol_last g item last left in cc)
    | inr other ↦ (let e = symbol_end g item last other in cc)
  ]
  | inr past ↦ (let e = symbol_none g item (omega arith) in cc)
]

-- the start item is at the kernel of the empty prefix
pub start_has : {kernels : KernelsView} → AreKernels kernels → HasItem kernels.grammar (prefix_of kernels 0) (start_item kernels.grammar)
start_has {kernels} h = subst (λ z. HasItem kernels.grammar z (start_item kernels.grammar)) (sym h.states.first)
    (end_of kernels.grammar, valid.start)

pub first_within : {kernels : KernelsView} → AreKernels kernels → 0 < count_of kernels
first_within {kernels} h = zero_state (prefix_of kernels) h.states

pub one_member : (n k : ℕ) (empty one : List Bool) → empty ≡ replicate n false → one ≡ set empty k true → (t : ℕ) → IsMember one t → t ≡ k
one_member n k empty one e f t has = elim (IsMember-insert empty k t (subst (λ z. IsMember z t) f has)) [
  | inl before ↦ absurd (IsEmpty-replicate n t (subst (λ z. IsMember z t) e before))
  | inr same ↦ same
]

-- what begins the symbols after a nonterminal flows to its initial items
pub open_flows : {kernels : KernelsView} {g : GrammarView} → AreKernels kernels → kernels.grammar ≡ g → (s : ℕ) → s < count_of kernels →
    (item : Item) →
    HasItem kernels.grammar (prefix_of kernels s) item → (b p : ℕ) (rest : List Symbol) → after_dot g item ≡ Nonterminal b ∷ rest →
    IsProductionOf g b p →
    (u : ℕ) → IsFirst g rest u → FlowsTo kernels s (initial_item p) u
open_flows {kernels} h same s lt item has b p rest is first u begins =
    let (t, f) = item_flows h s lt item has in
    let here = ap (λ z. after_dot z item) same ∙ is in
    let rule = subst (λ z. IsProduction z p b first.0) (sym same) first.1 in
    close item t b rest p u first.0 f here rule
    ((First-append kernels.grammar rest (Terminal t ∷ []) u).1 (inl (subst (λ z. IsFirst z rest u) (sym same) begins)))

-- so does what the nonterminal repeats
pub opening_flows : {kernels : KernelsView} {g : GrammarView} → AreKernels kernels → kernels.grammar ≡ g → (s : ℕ) → s < count_of kernels →
    (item : Item) → HasItem kernels.grammar (prefix_of kernels s) item → (b p : ℕ) (rest : List Symbol) →
    after_dot g item ≡ Nonterminal b ∷ rest → IsProductionOf g b p → (u : ℕ) →
    IsFirst g rest u ⊎ ((a : ℕ) × (Nonterminal b ≡ Nonterminal a) × Repeats g a u) → FlowsTo kernels s (initial_item p) u
opening_flows h same s lt item has b p rest is first u (inl begins) = open_flows h same s lt item has b p rest is first u begins
opening_flows {kernels} {g} h same s lt item has b p rest is first u (inr (a, name, r)) =
    let one : b ≡ a = (let e : Nonterminal b ≡ Nonterminal a = name in cc) in
    let rule : IsProduction g r.q b (Nonterminal b ∷ r.rest) = subst (λ z. IsProduction g r.q z (Nonterminal z ∷ r.rest))
    (sym one) r.production in
    let there = initial_has h s b item rest r.q (Nonterminal b ∷ r.rest) has (ap (λ z. after_dot z item) same ∙ is)
    (subst (λ z. IsProduction z r.q b (Nonterminal b ∷ r.rest)) (sym same) rule) in
    open_flows h same s lt (initial_item r.q) there b p r.rest (after_initial g r.q b (Nonterminal b ∷ r.rest) rule) first u r.first

-- and where these symbols derive the empty text, what flows to the item does
pub open_flows_on : (kernels : KernelsView) {g : GrammarView} → kernels.grammar ≡ g → (s : ℕ) (item : Item) (b p : ℕ) (rest : List Symbol) →
    after_dot g item ≡ Nonterminal b ∷ rest → IsProductionOf g b p → Derives g rest [] → (t : ℕ) → FlowsTo kernels s item t →
    FlowsTo kernels s (initial_item p) t
open_flows_on kernels same s item b p rest is first empty t f =
    let here = ap (λ z. after_dot z item) same ∙ is in
    let rule = subst (λ z. IsProduction z p b first.0) (sym same) first.1 in
    close item t b rest p t first.0 f here rule
    ((First-append kernels.grammar rest (Terminal t ∷ []) t).1
    (inr (subst (λ z. Derives z rest []) (sym same) empty, ([], Derives-same kernels.grammar (Terminal t ∷ [])))))

-- what begins these symbols with a terminal after them begins these, or is the terminal
pub first_then : {g : GrammarView} (rest : List Symbol) (t u : ℕ) → IsFirst g (rest ++ Terminal t ∷ []) u →
    IsFirst g rest u ⊎ (Derives g rest [] × (t ≡ u))
first_then {g} rest t u f = elim ((First-append g rest (Terminal t ∷ []) u).0 f) [
  | inl here ↦ inl here
  | inr (empty, (v, r)) ↦ inr (empty, alone r refl)
]
  where
    alone : {x : List Symbol} {v : List Symbol} → Derives g (Terminal t ∷ []) x → x ≡ Terminal u ∷ v → t ≡ u
    alone (keep y r) e = cc

-- the initial item is there
pub open_has : {kernels : KernelsView} {g : GrammarView} → AreKernels kernels → kernels.grammar ≡ g → (s : ℕ) (item : Item) →
    HasItem kernels.grammar (prefix_of kernels s) item → (b p : ℕ) (rest : List Symbol) → after_dot g item ≡ Nonterminal b ∷ rest →
    IsProductionOf g b p →
    HasItem kernels.grammar (prefix_of kernels s) (initial_item p)
open_has {kernels} h same s item has b p rest is first =
    initial_has h s b item rest p first.0 has (ap (λ z. after_dot z item) same ∙ is)
    (subst (λ z. IsProduction z p b first.0) (sym same) first.1)

-- what is listed at one of the initial items that were opened is listed at each
pub opened_together : {kernels : KernelsView} {g : GrammarView} → AreKernels kernels → kernels.grammar ≡ g → (lookaheads : LookaheadsView)
    {waiting : List Place} → AreSound kernels lookaheads waiting → (s : ℕ) → s < count_of kernels → (item : Item) →
    HasItem kernels.grammar (prefix_of kernels s) item → (b p : ℕ) (rest : List Symbol) → after_dot g item ≡ Nonterminal b ∷ rest →
    IsProductionOf g b p → (q : ℕ) → IsProductionOf g b q → (u : ℕ) → Lists lookaheads s (initial_item p) u →
    Lists lookaheads s (initial_item q) u
opened_together {kernels} {g} h same lookaheads sound s lt item has b p rest is one q other u lists =
    let there = open_has h same s item has b q rest is other in
    let (n, number) = number_of h lookaheads sound.shape s (initial_item q) lt there in
    let (v, p_rule) = subst (λ z. IsProductionOf z b p) (sym same) one in
    let (w, q_rule) = subst (λ z. IsProductionOf z b q) (sym same) other in
    lists_together kernels.grammar lookaheads (initial_item p) (initial_item q) sound.apart
    (inr (b, (refl, v, p_rule), (refl, w, q_rule))) s n number u lists

-- what moved on and what was opened is all that is passed on
pub item_passed : (kernels : KernelsView) {g : GrammarView} (old : LookaheadsView) {new : LookaheadsView} →
    kernels.grammar ≡ g → (s : ℕ) (item : Item)
    (x : Symbol) (rest : List Symbol) → after_dot g item ≡ x ∷ rest → (t : ℕ) → Keeps old new →
    ((next : ℕ) → LeadsTo kernels s x next → Lists old next (advance item) t) →
    ((u b p : ℕ) (more : List Symbol) → after_dot g item ≡ Nonterminal b ∷ more → IsProductionOf g b p →
    IsFirst g (more ++ Terminal t ∷ []) u → Lists new s (initial_item p) u) →
    IsItemPassed kernels new s item t
item_passed kernels {g} old same s item x rest is t keeps moves opens = record {
  moves = λ y more next here leads.
      let there : x ∷ rest ≡ y ∷ more = sym is ∙ sym (ap (λ z. after_dot z item) same) ∙ here in
      let first : y ≡ x = cc in
      keeps next (advance item) t (moves next (subst (λ z. LeadsTo kernels s z next) first leads));
  opens = λ b more p u here first begins.
      opens u b p more (sym (ap (λ z. after_dot z item) same) ∙ here) (subst (λ z. IsProductionOf z b p) same first)
      (subst (λ z. IsFirst z (more ++ Terminal t ∷ []) u) same begins);
}

-- nothing flows on from a complete item
pub complete_passed : (kernels : KernelsView) {g : GrammarView} {new : LookaheadsView} → kernels.grammar ≡ g →
    (s : ℕ) (item : Item) → after_dot g item ≡ [] → (t : ℕ) →
    IsItemPassed kernels new s item t
complete_passed kernels same s item none t = record {
  moves = λ x rest next is leads. absurd (no_symbol x rest (sym (ap (λ z. after_dot z item) same ∙ none) ∙ is));
  opens = λ b rest p u is first begins. absurd (no_symbol (Nonterminal b) rest (sym (ap (λ z. after_dot z item) same ∙ none) ∙ is));
}
  where
    no_symbol : (x : Symbol) (rest : List Symbol) → [] ≡ x ∷ rest → ⊥
    no_symbol x rest e = cc

pub passed_kept : {kernels : KernelsView}
    (old : LookaheadsView) {new : LookaheadsView} {s : ℕ} {item : Item} {t : ℕ} → Keeps old new →
    IsItemPassed kernels old s item t → IsItemPassed kernels new s item t
passed_kept old {s = s} {item} {t} keeps p = record {
  moves = λ x rest next is leads. keeps next (advance item) t (p.moves x rest next is leads);
  opens = λ b rest p' u is first begins. keeps s (initial_item p') u (p.opens b rest p' u is first begins);
}

-- an item that no nonterminal opens belongs with itself alone
pub alone_passed : {kernels : KernelsView} {new : LookaheadsView} {s : ℕ} {one : Item} {t : ℕ} →
    ((b : ℕ) → ¬ Opens kernels.grammar b one) → IsItemPassed kernels new s one t → IsPassedOn kernels new s one t
alone_passed {kernels} {new} {s} {one} {t} none passed item (inl same) = subst (λ z. IsItemPassed kernels new s z t) same passed
alone_passed none passed item (inr (b, opens, _)) = absurd (none b opens)

-- an initial item belongs with those of its nonterminal
pub initial_passed : {kernels : KernelsView} {new : LookaheadsView} {s : ℕ} {one : Item} {t : ℕ} (b p : ℕ) (w : List Symbol) →
    IsProduction kernels.grammar p b w → one ≡ initial_item p →
    ((q : ℕ) (right : List Symbol) → IsProduction kernels.grammar q b right → IsItemPassed kernels new s (initial_item q) t) →
    IsPassedOn kernels new s one t
initial_passed {kernels} {new} {s} {one} {t} b p w rule is passed item (inl same) =
    subst (λ z. IsItemPassed kernels new s z t) (sym is ∙ same) (passed p w rule)
initial_passed {kernels} {new} {s} {one} {t} b p w rule is passed item (inr (c, (_, v, here), (dot, right, there))) =
    let one_is : one.production ≡ p = ap (λ (i : Item). i.production) is in
    let left : c ≡ b = (production_once kernels.grammar p c b v w (subst (λ n. IsProduction kernels.grammar n c v) one_is here) rule).0 in
    subst (λ z. IsItemPassed kernels new s z t) (sym (initial_is item (omega (arith, dot))))
    (passed item.production right (subst (λ z. IsProduction kernels.grammar item.production z right) left there))

-- the set at a place is that of its item
pub set_at : {kernels : KernelsView} → AreKernels kernels → (lookaheads : LookaheadsView) → AreLookaheadsOf kernels lookaheads →
    (s : ℕ) → s < count_of kernels →
    (item : Item) (at : ℕ) → slice_get (closure_of kernels s) at ≡ Some item → (looks : ItemLookahead) →
    slice_get (row_of lookaheads s) at ≡ Some looks →
    IsSetOf lookaheads s item looks.set
set_at {kernels} h lookaheads shape s lt item at here looks there =
    let items = row_items h lookaheads shape s in
    let listed : slice_get (closure_of kernels s) at ≡ Some looks.item =
    ap (λ z. slice_get z at) (sym items) ∙ slice_get-map (λ (z : ItemLookahead). z.item) (row_of lookaheads s) at ∙
    ap (option_map (λ (z : ItemLookahead). z.item)) there in
    let is : looks.item ≡ item = same_Some looks.item item (sym listed ∙ here) in
    subst (λ z. IsSetOf lookaheads s z looks.set) is (
      at,
      slice_get_within (row_of lookaheads s) at looks there,
      get_or_from_slice_get
          (row_of lookaheads s) at looks looks there,
    )

-- a place of a closure is one of the row
pub place_in_row : {kernels : KernelsView} → AreKernels kernels → (lookaheads : LookaheadsView) →
    AreLookaheadsOf kernels lookaheads → (s : ℕ) → s < count_of kernels →
    (item : Item) (at : ℕ) → slice_get (closure_of kernels s) at ≡ Some item → at < length (row_of lookaheads s)
place_in_row {kernels} h lookaheads shape s lt item at here =
    let items = row_items h lookaheads shape s in
    let w = slice_get_within (closure_of kernels s) at item here in
    let len = length-map (row_of lookaheads s) (λ (z : ItemLookahead). z.item) in
    omega (arith, w, len, ap (λ (z : List Item). length z) items)

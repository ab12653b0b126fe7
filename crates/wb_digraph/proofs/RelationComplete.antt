-- Each lookahead is brought by the relations.
use Rattle.std.proofs.Common.{◌≡◌, ℕ, ◌+◌, ◌<◌, List, [], ◌∷◌, ◌++◌, length, length-append, refl, sym, ◌∙◌, ap, subst, append_assoc, arith}
use Rattle.std.specs.Prelude.{◌↔◌}
use Rattle.wb_base.specs.declared.symbol.Symbol.{Symbol}
use Rattle.wb_base.specs.declared.symbol.Symbol.TheVariants.{Terminal, Nonterminal}
use Rattle.wb_grammar_theory.specs.declared.item.Item.{Item}
use Rattle.wb_base.specs.Grammar.{GrammarView}
use Rattle.wb_grammar_theory.specs.Productions.{end_of}
use Rattle.wb_grammar_theory.specs.Derives.{Derives, done, keep, expand}
use Rattle.wb_grammar_theory.specs.Items.{HasItem, after_dot, advance, initial_item}
use Rattle.wb_grammar_theory.specs.Lookaheads.{IsLookahead}
use Rattle.wb_grammar_theory.specs.Items as valid
use Rattle.wb_grammar_theory.specs.Shape.{IsLive}
use Rattle.wb_grammar_theory.specs.States.{AreStates, Flows}
use Rattle.wb_grammar_theory.specs.States as flows
use Rattle.wb_digraph.specs.Relations.{Path, here, step, shifts, at_end, LooksBack, IsRead, direct, later, IsFollow, read, above}
use Rattle.wb_digraph.specs.Relations.{IsLookaheadByRelations, whole, back}
use Rattle.wb_grammar_theory.proofs.FlowLemmas.{flows_exact, flows_sound, flows_complete, flows_has, flows_within, onward, same_itself}
use Rattle.wb_grammar_theory.proofs.DotLemmas.{after_initial, after_advance, start_rest, Begun, begun, within, behind}
use Rattle.wb_digraph.proofs.RelationSound.{look_sound, came_from, along}

pub path_more : {Next : ℕ → Symbol → ℕ → Type 0} {s s' to : ℕ} {w : List Symbol} → Path Next s s' w → (x : Symbol) → Next s x to →
    Path Next to s' (w ++ x ∷ [])
path_more {Next} {to = to} (here e) x next = step x to (subst (λ z. Next z x to) (sym e) next) (here refl)
path_more (step y s'' n p) x next = step y s'' n (path_more p x next)

module _ {g : GrammarView} {count : ℕ} (prefix_of : ℕ → List Symbol) {Next : ℕ → Symbol → ℕ →
    Type 0} (live : IsLive g) (h : AreStates g count prefix_of Next) where
  -- what the symbols behind a dot can begin with is read by each move that leads there
  pub reads_of : {w x : List Symbol} → Derives g w x → (t : ℕ) (text : List Symbol) → x ≡ Terminal t ∷ text → (s a s' : ℕ) →
      Next s (Nonterminal a) s' → (item : Item) → HasItem g (prefix_of s') item → after_dot g item ≡ w → IsRead g Next s a t
  reads_of done t text e s a s' next item has is = cc
  reads_of (keep (Terminal u) {w = w} d) t text e s a s' next item has is =
      let f : u ≡ t = cc in
      let on = onward prefix_of live h s' (((h.next s (Nonterminal a) s').0 next).1) item (Terminal t) w has (is ∙
      ap (λ z. Terminal z ∷ w) f) in
      direct (shifts s' on.to next on.next)
  reads_of (keep (Nonterminal b) d) t text e s a s' next item has is = cc
  reads_of (expand p c right [] v {w = w} rule r d e') t text e s a s' next item has is =
      let lt' : s' < count = ((h.next s (Nonterminal a) s').0 next).1 in
      let on = onward prefix_of live h s' lt' item (Nonterminal c) w has is in
      later s' c
      (record { moves = next; on = (on.to, on.next); empty = expand p c right [] [] rule r done refl })
      (reads_of d t text (sym e' ∙ e) s' c on.to on.next (advance item) on.has (after_advance g item (Nonterminal c) w is))
  reads_of (expand p c right (y ∷ u) v {w = w} rule r d e') t text e s a s' next item has is =
      let lt' : s' < count = ((h.next s (Nonterminal a) s').0 next).1 in
      let (k, valid_item) = has in
      let (m, f) = live item (Nonterminal c) w is k in
      let same : y ∷ u ≡ Terminal t ∷ u = cc in
      reads_of r t u same s a s' next (initial_item p) (m, valid.close item k c w p m right valid_item is rule f)
      (after_initial g p c right rule)

  -- where an item's lookahead comes from, by the relations
  pub data Stands (s : ℕ) (item : Item) (t : ℕ) : Type 0 where
    of_top : item.production ≡ length g.productions → t ≡ end_of g → (item.dot ≡ 0 → s ≡ 0) → Stands s item t
    of_back : (s' a : ℕ) → LooksBack g Next s item s' a → IsFollow g Next s' a t → Stands s item t

  -- a lookahead of an item with its dot before a nonterminal goes on to that nonterminal's initial items
  follow_of : (s b t u : ℕ) (item : Item) (rest : List Symbol) (to : ℕ) → Next s (Nonterminal b) to →
      HasItem g (prefix_of to) (advance item) → after_dot g item ≡ Nonterminal b ∷ rest → Begun g rest t u → Stands s item t →
      IsFollow g Next s b u
  follow_of s b t u item rest to next has is (within text d) st =
      read (reads_of d u text refl s b to next (advance item) has (after_advance g item (Nonterminal b) rest is))
  follow_of s b t u item rest to next has is (behind empty same) (of_top top at zero_dot) =
      let (d, start, nothing) = start_rest g item b rest top is in
      read (direct (at_end (zero_dot d) start (same ∙ at)))
  follow_of s b t u item rest to next has is (behind empty same) (of_back s' a l f) =
      subst (λ z. IsFollow g Next s b z) (sym same)
      (above s' a (record {
        moves = (to, next);
        above = l.moves;
        production = item.production;
        right = l.right;
        before = l.before;
        behind =
            rest;
        rule = l.rule;
        parts = l.parts ∙ ap (λ z. l.before ++ z) is;
        empty = empty;
        path = l.path;
      }) f)

  -- it goes with the item over the symbol after its dot
  stands_moved : (s : ℕ) (item : Item) (x : Symbol) (rest : List Symbol) (t to : ℕ) (moved : Item) → Next s x to →
      after_dot g item ≡ x ∷ rest → moved ≡ advance item → Stands s item t → Stands to moved t
  stands_moved s item x rest t to moved next is moved_is (of_top top at zero_dot) =
      of_top (ap (λ i. i.production) moved_is ∙ top) at (λ z. let f : moved.dot ≡ item.dot + 1 = ap (λ i. i.dot) moved_is in omega arith)
  stands_moved s item x rest t to moved next is moved_is (of_back s' a l f) =
      subst (λ z. Stands to z t) (sym moved_is)
      (of_back s' a
      (record {
        moves = l.moves;
        right = l.right;
        before = l.before ++ x ∷ [];
        rule = l.rule;
        parts = l.parts ∙ (ap (λ z. l.before ++ z) (is ∙ ap (λ z. x ∷ z) (sym (after_advance g item x rest is))) ∙
            sym (append_assoc l.before (x ∷ []) (after_dot g (advance item))));
        dot = (let e : length (l.before ++ x ∷ []) ≡ length l.before + 1 = length-append l.before (x ∷ []) in
            let e' : length l.before ≡ item.dot = l.dot in omega arith);
        path = path_more l.path x next;
      }) f)

  pub stands : {s : ℕ} {item : Item} {t : ℕ} → Flows g Next s item t → Stands s item t
  stands flows.start = of_top refl refl (λ z. refl)
  stands {s} (flows.close item t b rest q u right f is rule first) =
      let on = onward prefix_of live h s (flows_within prefix_of h f) item (Nonterminal b) rest (flows_has prefix_of live h f) is in
      of_back s b
      (record {
        moves = (on.to, on.next);
        right = right;
        before = [];
        rule = rule;
        parts = sym (after_initial g q b right rule);
        dot =
            refl;
        path = here refl;
      })
      (follow_of s b t u item rest on.to on.next on.has is (begun g rest t u first) (stands f))
  stands (flows.move item x rest s {t} {s'} {moved} f is next moved_is) =
      stands_moved s item x rest t s' moved next is moved_is (stands f)

  pub look_of : {s : ℕ} {item : Item} {t : ℕ} → HasItem g (prefix_of s) item → Stands s item t →
      IsLookaheadByRelations g prefix_of Next s item t
  look_of has (of_top top at zero_dot) = whole has top at
  look_of has (of_back s' a l f) = back s' a l f

-- the lookaheads by relations are the lookaheads
pub relations_exact : (g : GrammarView) (count : ℕ) (prefix_of : ℕ → List Symbol) (Next : ℕ → Symbol → ℕ → Type 0) → IsLive g →
    AreStates g count prefix_of Next → (s : ℕ) → s < count → (item : Item) (t : ℕ) →
    IsLookaheadByRelations g prefix_of Next s item t ↔ IsLookahead g (prefix_of s) item t
relations_exact g count prefix_of Next live h s lt item t = (
  λ l. flows_sound prefix_of live h (look_sound prefix_of live h lt l),
  λ l. let f = (flows_exact g count prefix_of Next live h s lt item t).1 l in
      look_of prefix_of live h (flows_has prefix_of live h f) (stands prefix_of live h f),
)

-- an item that looks back to a move is there
pub back_has : {g : GrammarView} {count : ℕ} (prefix_of : ℕ → List Symbol) {Next : ℕ → Symbol → ℕ → Type 0} → IsLive g →
    AreStates g count prefix_of Next → (s : ℕ) (item : Item) (s' a : ℕ) → LooksBack g Next s item s' a → HasItem g (prefix_of s) item
back_has {g} prefix_of {Next} live h s item s' a l =
    let (to, next) = l.moves in
    let (other, u, v) = ((h.next s' (Nonterminal a) to).0 next).2 in
    let c = came_from v (prefix_of s') (Nonterminal a) refl in
    let (k, w) = c.has in
    let (m, f) = live c.item (Nonterminal a) c.rest c.before_dot k in
    let flow = flows_complete prefix_of live h w s' ((h.next s' (Nonterminal a) to).0 next).0 (same_itself g (prefix_of s')) in
    let open_flow = flows.close c.item k a c.rest item.production m l.right flow c.before_dot l.rule f in
    let w = along l.path (initial_item item.production) m (after_dot g item) open_flow (after_initial g item.production a l.right l.rule ∙
    l.parts) in
    let d : w.item.dot ≡ item.dot = (let e : w.item.dot ≡ 0 + length l.before = w.dot in let e' : length l.before ≡ item.dot = l.dot in
    omega arith) in
    let p : w.item.production ≡ item.production = w.production in
    let same : w.item ≡ item = λ j. record { production = p j; dot = d j } in
    subst (λ z. HasItem g (prefix_of s) z) same (flows_has prefix_of live h w.flows)

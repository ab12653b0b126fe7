-- What the relations bring is a lookahead.
use Rattle.std.proofs.Common.{◌≡◌, ℕ, ◌+◌, ◌<◌, List, [], ◌∷◌, ◌++◌, length, refl, sym, ◌∙◌, ap, subst, inl, inr, arith}
use Rattle.wb_base.specs.declared.symbol.Symbol.{Symbol}
use Rattle.wb_base.specs.declared.symbol.Symbol.TheVariants.{Terminal, Nonterminal}
use Rattle.wb_grammar_theory.specs.declared.item.Item.{Item}
use Rattle.wb_base.specs.Grammar.{GrammarView}
use Rattle.wb_grammar_theory.specs.Productions.{IsProduction, end_of}
use Rattle.wb_grammar_theory.specs.Derives.{Derives, expand, IsFirst}
use Rattle.wb_grammar_theory.specs.Items.{IsValidItem, HasItem, IsKernelItem, start_item, after_dot, advance, initial_item}
use Rattle.wb_grammar_theory.specs.Items as valid
use Rattle.wb_grammar_theory.specs.Shape.{IsLive}
use Rattle.wb_grammar_theory.specs.States.{AreStates, Flows}
use Rattle.wb_grammar_theory.specs.States as flows
use Rattle.wb_digraph.specs.Relations.{Path, here, step, shifts, at_end, IsRead, direct, later, IsFollow, read, above}
use Rattle.wb_digraph.specs.Relations.{IsLookaheadByRelations, whole, back}
use Rattle.wb_grammar_theory.proofs.DerivesLemmas.{Derives-same, Derives-append}
use Rattle.wb_grammar_theory.proofs.KernelLemmas.{kernel_decides, snoc_parts, snoc_not_nil}
use Rattle.wb_grammar_theory.proofs.FlowLemmas.{flows_complete, same_itself}
use Rattle.wb_grammar_theory.proofs.DotLemmas.{top_no_production, after_initial, after_start, after_advance}

-- an item of the prefix has its dot before x, and behind it t can come
pub record Behind (g : GrammarView) (prefix : List Symbol) (x : Symbol) (t : ℕ) : Type 0 where
  pub item : Item
  pub rest : List Symbol
  pub text : List Symbol
  pub has : HasItem g prefix item
  pub before_dot : after_dot g item ≡ x ∷ rest
  pub derives : Derives g rest (Terminal t ∷ text)

-- what an item of a longer prefix can come to stood behind the last symbol
pub behind_it : {g : GrammarView} {longer : List Symbol} {item : Item} {u : ℕ} → IsValidItem g longer item u →
    (prefix : List Symbol) (x : Symbol) → longer ≡ prefix ++ x ∷ [] → (t : ℕ) (text : List Symbol) →
    Derives g (after_dot g item) (Terminal t ∷ text) → Behind g prefix x t
behind_it valid.start prefix x e t text d = absurd (snoc_not_nil prefix x (sym e))
behind_it {g} (valid.close item u b rest q w right v is rule f) prefix x e t text d =
    let r : Derives g right (Terminal t ∷ text) = subst (λ z. Derives g z (Terminal t ∷ text)) (after_initial g q b right rule) d in
    let m : Derives g (Nonterminal b ∷ rest) (Terminal t ∷ (text ++ rest)) =
    expand q b right (Terminal t ∷ text) rest rule r (Derives-same g rest) refl in
    behind_it v prefix x e t (text ++ rest) (subst (λ z. Derives g z (Terminal t ∷ (text ++ rest))) (sym is) m)
behind_it {g} (valid.move item y rest shorter {t = u} {moved = moved} v is longer_is moved_is) prefix x e t text d =
    let p = snoc_parts shorter prefix y x (sym longer_is ∙ e) in
    record {
      item = item;
      rest = rest;
      text = text;
      has = (u, subst (λ z. IsValidItem g z item u) p.0 v);
      before_dot = subst (λ z. after_dot g item ≡ z ∷ rest) p.1 is;
      derives = subst (λ z. Derives g z (Terminal t ∷ text)) (ap (after_dot g) moved_is ∙ after_advance g item y rest is) d;
    }

-- where a longer prefix came from, whatever item it has
pub record Came (g : GrammarView) (prefix : List Symbol) (x : Symbol) : Type 0 where
  pub item : Item
  pub rest : List Symbol
  pub has : HasItem g prefix item
  pub before_dot : after_dot g item ≡ x ∷ rest

pub came_from : {g : GrammarView} {longer : List Symbol} {item : Item} {u : ℕ} → IsValidItem g longer item u →
    (prefix : List Symbol) (x : Symbol) → longer ≡ prefix ++ x ∷ [] → Came g prefix x
came_from valid.start prefix x e = absurd (snoc_not_nil prefix x (sym e))
came_from (valid.close item u b rest q w right v is rule f) prefix x e = came_from v prefix x e
came_from {g} (valid.move item y rest shorter {t = u} v is longer_is moved_is) prefix x e =
    let p = snoc_parts shorter prefix y x (sym longer_is ∙ e) in
    record {
      item = item;
      rest = rest;
      has = (u, subst (λ z. IsValidItem g z item u) p.0 v);
      before_dot =
          subst (λ z. after_dot g item ≡ z ∷ rest) p.1 is;
    }

-- where the symbols of a path lead, an item goes
pub record Along (g : GrammarView) (Next : ℕ → Symbol → ℕ → Type 0) (s : ℕ) (from : Item) (n : ℕ) (rest : List Symbol) (t : ℕ) : Type 0
  where
    pub item : Item
    pub flows : Flows g Next s item t
    pub production : item.production ≡ from.production
    pub dot : item.dot ≡ from.dot + n
    pub after : after_dot g item ≡ rest

pub along : {g : GrammarView} {Next : ℕ → Symbol → ℕ → Type 0} {s s' : ℕ} {w : List Symbol} → Path Next s s' w →
    (item : Item) (t : ℕ) (rest : List Symbol) → Flows g Next s' item t → after_dot g item ≡ w ++ rest →
    Along g Next s item (length w) rest t
along {g} {Next} (here e) item t rest f is = record {
  item = item;
  flows = subst (λ z. Flows g Next z item t) e f;
  production = refl;
  dot =
      omega arith;
  after = is;
}
along {g} {s' = s'} (step x s'' {w = w} next p) item t rest f is =
    let a = along p (advance item) t rest (flows.move item x (w ++ rest) s' f is next refl) (after_advance g item x (w ++ rest) is) in
    record {
      item = a.item;
      flows = a.flows;
      production = a.production;
      dot = (let e : a.item.dot ≡ (item.dot + 1) + length w = a.dot in
          omega arith);
      after = a.after;
    }

module _ {g : GrammarView} {count : ℕ} (prefix_of : ℕ → List Symbol) {Next : ℕ → Symbol → ℕ →
    Type 0} (live : IsLive g) (h : AreStates g count prefix_of Next) where
  pub data ReadAt (s a t : ℕ) : Type 0 where
    inside : s < count → Behind g (prefix_of s) (Nonterminal a) t → ReadAt s a t
    outside : s ≡ 0 → a ≡ g.start → t ≡ end_of g → ReadAt s a t

  -- through a move
  through : (s : ℕ) (x : Symbol) (s' : ℕ) → Next s x s' → (item : Item) → HasItem g (prefix_of s') item → (t : ℕ) (text : List Symbol) →
      Derives g (after_dot g item) (Terminal t ∷ text) → Behind g (prefix_of s) x t
  through s x s' next item (u, v) t text d =
      let (u', v') = kernel_decides live v (prefix_of s ++ x ∷ []) (((h.next s x s').0 next).3) in
      behind_it v' (prefix_of s) x refl t text d

  pub not_first : (s : ℕ) (x : Symbol) (s' : ℕ) → Next s x s' → s' ≡ 0 → ⊥
  not_first s x s' next e = go ((((h.next s x s').0 next).3 (start_item g)).0 (
    (
      end_of g,
      subst (λ z. IsValidItem g z (start_item g) (end_of g)) (sym f) valid.start,
    ),
    inr (refl, f),
  ))
    where
      f : prefix_of s' ≡ []
      f = ap prefix_of e ∙ h.first

      go : IsKernelItem g (prefix_of s ++ x ∷ []) (start_item g) → ⊥
      go (has, inl ne) = ne refl
      go (has, inr (is, empty)) = snoc_not_nil (prefix_of s) x empty

  pub read_sound : {s a t : ℕ} → IsRead g Next s a t → ReadAt s a t
  read_sound {s} {a} {t} (direct (shifts s' s'' next next')) =
      let (item, u, v) = ((h.next s' (Terminal t) s'').0 next').2 in
      let c = came_from v (prefix_of s') (Terminal t) refl in
      inside ((h.next s (Nonterminal a) s').0 next).0 (through s (Nonterminal a) s' next c.item c.has t c.rest (subst (λ z.
      Derives g z (Terminal t ∷ c.rest)) (sym c.before_dot) (Derives-same g (Terminal t ∷ c.rest))))
  read_sound (direct (at_end p q r)) = outside p q r
  read_sound {s} {a} {t} (later s' c r i) = go (read_sound i)
    where
      go : ReadAt s' c t → ReadAt s a t
      go (inside lt b) =
          inside ((h.next s (Nonterminal a) s').0 r.moves).0
          (through s (Nonterminal a) s' r.moves b.item b.has t b.text (subst (λ z. Derives g z (Terminal t ∷ b.text)) (sym b.before_dot)
          (Derives-append r.empty b.derives)))
      go (outside p q e) = absurd (not_first s (Nonterminal a) s' r.moves p)

  -- t can follow the move
  pub record FollowAt (s a t : ℕ) : Type 0 where
    pub item : Item
    pub rest : List Symbol
    pub look : ℕ
    pub flows : Flows g Next s item look
    pub before_dot : after_dot g item ≡ Nonterminal a ∷ rest
    pub first : IsFirst g (rest ++ Terminal look ∷ []) t

  follow_read : (s a t : ℕ) → ReadAt s a t → FollowAt s a t
  follow_read s a t (inside lt b) =
      let (u, v) = b.has in
      record {
        item = b.item;
        rest = b.rest;
        look = u;
        flows =
            flows_complete prefix_of live h v s lt (same_itself g (prefix_of s));
        before_dot = b.before_dot;
        first =
            (b.text ++ Terminal u ∷ [], Derives-append b.derives (Derives-same g (Terminal u ∷ [])));
      }
  follow_read s a t (outside p q e) =
      record {
        item = start_item g;
        rest = [];
        look = end_of g;
        flows = subst (λ z. Flows g Next z (start_item g) (end_of g)) (sym p) flows.start;
        before_dot = after_start g ∙ ap (λ z. Nonterminal z ∷ []) (sym q);
        first = (
          [],
          subst (λ z. Derives g (Terminal (end_of g) ∷ []) (Terminal z ∷ [])) (sym e)
              (Derives-same g (Terminal (end_of g) ∷ [])),
        );
      }

  opened : (s a t q : ℕ) (right : List Symbol) → IsProduction g q a right → FollowAt s a t → Flows g Next s (initial_item q) t
  opened s a t q right rule f = flows.close f.item f.look a f.rest q t right f.flows f.before_dot rule f.first

  pub follow_sound : {s a t : ℕ} → IsFollow g Next s a t → FollowAt s a t
  follow_sound {s} {a} {t} (read r) = follow_read s a t (read_sound r)
  follow_sound {s} {a} {t} (above s' b i f) =
      let o = opened s' b t i.production i.right i.rule (follow_sound f) in
      let w = along i.path (initial_item i.production) t (Nonterminal a ∷ i.behind) o (after_initial g i.production b i.right i.rule ∙
      i.parts) in
      record {
        item = w.item;
        rest = i.behind;
        look = t;
        flows = w.flows;
        before_dot = w.after;
        first =
            ([], Derives-append i.empty (Derives-same g (Terminal t ∷ [])));
      }

  -- S' has the lookahead `end` alone
  pub top_end : {s : ℕ} {item : Item} {t : ℕ} → Flows g Next s item t → item.production ≡ length g.productions → t ≡ end_of g
  top_end flows.start e = refl
  top_end (flows.close item t b rest q u right f is rule first) e = absurd (top_no_production g q b right rule e)
  top_end (flows.move item x rest s f is next moved_is) e = top_end f (sym (ap (λ i. i.production) moved_is) ∙ e)

  pub look_sound : {s : ℕ} {item : Item} {t : ℕ} → s < count → IsLookaheadByRelations g prefix_of Next s item t → Flows g Next s item t
  look_sound {s} {item} {t} lt (whole (u, v) top is) =
      let f = flows_complete prefix_of live h v s lt (same_itself g (prefix_of s)) in
      subst (λ z. Flows g Next s item z) (top_end f top ∙ sym is) f
  look_sound {s} {item} {t} lt (back s' a l f) =
      let o = opened s' a t item.production l.right l.rule (follow_sound f) in
      let w = along l.path (initial_item item.production) t (after_dot g item) o (after_initial g item.production a l.right l.rule ∙
      l.parts) in
      let d : w.item.dot ≡ item.dot = (let e : w.item.dot ≡ 0 + length l.before = w.dot in let e' : length l.before ≡ item.dot = l.dot in
      omega arith) in
      let p : w.item.production ≡ item.production = w.production in
      let same : w.item ≡ item = λ j. record { production = p j; dot = d j } in
      subst (λ z. Flows g Next s z t) same w.flows

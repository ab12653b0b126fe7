-- Where items are valid in the host of chains with its extension and holes, and what comes of it.
use Rattle.std.proofs.Common.{◌≡◌, ◌≤◌, ◌+◌, ◌∙◌, ◌⊎◌, ◌∷◌, ◌++◌, [], ℕ, zero, suc, List, drop, length, take, refl, sym, ap}
use Rattle.std.proofs.Common.{subst, inl, inr, arith}
use Rattle.std.proofs.lemmas.List.{append_assoc, append-nil}
use Rattle.std.proofs.lemmas.Option.{same_Some}
use Rattle.wb_lemmas.proofs.Places.{nothing_at}
use Rattle.wb_base.specs.declared.symbol.Symbol.{Symbol}
use Rattle.wb_base.specs.declared.symbol.Symbol.TheVariants.{Terminal, Nonterminal}
use Rattle.wb_base.specs.Grammar.{Production}
use Rattle.wb_grammar_theory.specs.declared.item.Item.{Item}
use Rattle.wb_grammar_theory.specs.Derives.{Derives, done, expand, keep}
use Rattle.wb_grammar_theory.specs.Items.{IsValidItem, after_dot, close, initial_item, move, start}
use Rattle.wb_grammar_theory.specs.Productions.{IsProduction, right_of}
use Rattle.wb_compose_theory_grammar.specs.ChainExample.{chain_both_holes}

-- the productions: `S -> A S`, `S -> c y`, `A -> c`, `S -> m A S`, that of the hole, and `S' -> S`
pub data Rule : Type 0 where
  chain : Rule
  last : Rule
  one : Rule
  marked : Rule
  holed : Rule
  top : Rule

abbrev pub number : Rule → ℕ
number chain = 0
number last = 1
number one = 2
number marked = 3
number holed = 4
number top = 5

abbrev pub right : Rule → List Symbol
right chain = Nonterminal 1 ∷ Nonterminal 0 ∷ []
right last = Terminal 0 ∷ Terminal 1 ∷ []
right one = Terminal 0 ∷ []
right marked = Terminal 2 ∷ Nonterminal 1 ∷ Nonterminal 0 ∷ []
right holed = Terminal 3 ∷ []
right top = Nonterminal 0 ∷ []

right_is : (k : Rule) → right_of chain_both_holes (number k) ≡ right k
right_is chain = refl
right_is last = refl
right_is one = refl
right_is marked = refl
right_is holed = refl
right_is top = refl

-- S begins where nothing is or after A
abbrev pub Opens : List Symbol → Type 0
Opens before = (before ≡ []) ⊎ ((s : List Symbol) × (before ≡ s ++ Nonterminal 1 ∷ []))

-- A begins there and after m
abbrev pub OpensA : List Symbol → Type 0
OpensA before = Opens before ⊎ ((s : List Symbol) × (before ≡ s ++ Terminal 2 ∷ []))

-- where a production begins
abbrev pub Starts : Rule → List Symbol → Type 0
Starts one before = OpensA before
Starts top before = before ≡ []
Starts other before = Opens before

-- what may come after A: c, m and the hole
abbrev pub AfterA : ℕ → Type 0
AfterA t = (t ≡ 0) ⊎ (t ≡ 2) ⊎ (t ≡ 3)

-- what comes after a production
abbrev pub Looks : Rule → ℕ → Type 0
Looks one t = AfterA t
Looks other t = t ≡ 4

-- where an item is valid
pub record Place (prefix : List Symbol) (item : Item) (t : ℕ) : Type 0 where
  pub rule : Rule
  pub begins : List Symbol
  pub number_is : item.production ≡ number rule
  pub within : item.dot ≤ length (right rule)
  pub prefix_is : prefix ≡ begins ++ take item.dot (right rule)
  pub starts : Starts rule begins
  pub looks : Looks rule t

-- what is after its dot
pub after_is : {prefix : List Symbol} {item : Item} {t : ℕ} (p : Place prefix item t) →
    after_dot chain_both_holes item ≡ drop item.dot (right p.rule)
after_is {prefix} {item} p =
    ap (λ n. drop item.dot (right_of chain_both_holes n)) p.number_is ∙ ap (drop item.dot) (right_is p.rule)

-- a production that isn't `S' -> S`
pub data IsRule (q b : ℕ) : Type 0 where
  of_s : (k : Rule) → q ≡ number k → b ≡ 0 → ((s : List Symbol) → Opens s → Starts k s) → Looks k 4 → IsRule q b
  of_a : q ≡ 2 → b ≡ 1 → IsRule q b

pub rule_is : (q b : ℕ) (w : List Symbol) → IsProduction chain_both_holes q b w → IsRule q b
rule_is zero b w rule = of_s chain refl (ap (λ (z : Production). z.0) (sym (same_Some (0, right chain) (b, w) rule))) (λ s o. o) refl
rule_is (suc zero) b w rule = of_s last refl (ap (λ (z : Production). z.0) (sym (same_Some (0, right last) (b, w) rule))) (λ s o. o) refl
rule_is (suc (suc zero)) b w rule = of_a refl (ap (λ (z : Production). z.0) (sym (same_Some (1, right one) (b, w) rule)))
rule_is (suc (suc (suc zero))) b w rule =
    of_s marked refl (ap (λ (z : Production). z.0) (sym (same_Some (0, right marked) (b, w) rule))) (λ s o. o) refl
rule_is (suc (suc (suc (suc zero)))) b w rule =
    of_s holed refl (ap (λ (z : Production). z.0) (sym (same_Some (0, right holed) (b, w) rule))) (λ s o. o) refl
rule_is (suc (suc (suc (suc (suc q))))) b w rule = absurd (nothing_at (b, w) q rule)

-- what a list begins with, where something is derived from it
pub data Head (x : Symbol) (y : Symbol) : Type 0 where
  same : y ≡ x → Head x y
  of_one : x ≡ Nonterminal 1 → y ≡ Terminal 0 → Head x y
  in_s : x ≡ Nonterminal 0 → (y ≡ Nonterminal 1) ⊎ ((t : ℕ) × (y ≡ Terminal t) × AfterA t) → Head x y

-- the first symbol of what is derived
pub record Begins (x : Symbol) (v : List Symbol) : Type 0 where
  pub first : Symbol
  pub rest : List Symbol
  pub is : v ≡ first ∷ rest
  pub head : Head x first

-- a terminal stays
pub terminal_head : (t : ℕ) (y : Symbol) → Head (Terminal t) y → y ≡ Terminal t
terminal_head t y (same e) = e
terminal_head t y (of_one e f) = absurd (cc e)
terminal_head t y (in_s e f) = absurd (cc e)

-- after a production of S or A
under : (q a : ℕ) (w : List Symbol) → IsProduction chain_both_holes q a w → (u : List Symbol) →
    ((x : Symbol) (z : List Symbol) → w ≡ x ∷ z → Begins x u) → Begins (Nonterminal a) u
under zero a w rule u each =
    let is = same_Some (0, right chain) (a, w) rule in
    let b = each (Nonterminal 1) (Nonterminal 0 ∷ []) (ap (λ (z : Production). z.1) (sym is)) in
    record { first = b.first; rest = b.rest; is = b.is; head = in_s (ap (λ (z : Production). Nonterminal z.0) (sym is)) (go b.first b.head) }
  where
    go : (y : Symbol) → Head (Nonterminal 1) y → (y ≡ Nonterminal 1) ⊎ ((t : ℕ) × (y ≡ Terminal t) × AfterA t)
    go y (same e) = inl e
    go y (of_one e f) = inr (0, f, inl refl)
    go y (in_s e f) = absurd (cc e)
under (suc zero) a w rule u each =
    let is = same_Some (0, right last) (a, w) rule in
    let b = each (Terminal 0) (Terminal 1 ∷ []) (ap (λ (z : Production). z.1) (sym is)) in
    record {
      first = b.first;
      rest = b.rest;
      is = b.is;
      head = in_s (ap (λ (z : Production). Nonterminal z.0) (sym is)) (inr (0, terminal_head 0 b.first b.head, inl refl));
    }
under (suc (suc zero)) a w rule u each =
    let is = same_Some (1, right one) (a, w) rule in
    let b = each (Terminal 0) [] (ap (λ (z : Production). z.1) (sym is)) in
    record {
      first = b.first;
      rest = b.rest;
      is = b.is;
      head = of_one (ap (λ (z : Production). Nonterminal z.0) (sym is)) (terminal_head 0 b.first b.head);
    }
under (suc (suc (suc zero))) a w rule u each =
    let is = same_Some (0, right marked) (a, w) rule in
    let b = each (Terminal 2) (Nonterminal 1 ∷ Nonterminal 0 ∷ []) (ap (λ (z : Production). z.1) (sym is)) in
    record {
      first = b.first;
      rest = b.rest;
      is = b.is;
      head = in_s (ap (λ (z : Production). Nonterminal z.0) (sym is)) (inr (2, terminal_head 2 b.first b.head, inr (inl refl)));
    }
under (suc (suc (suc (suc zero)))) a w rule u each =
    let is = same_Some (0, right holed) (a, w) rule in
    let b = each (Terminal 3) [] (ap (λ (z : Production). z.1) (sym is)) in
    record {
      first = b.first;
      rest = b.rest;
      is = b.is;
      head = in_s (ap (λ (z : Production). Nonterminal z.0) (sym is)) (inr (3, terminal_head 3 b.first b.head, inr (inr refl)));
    }
under (suc (suc (suc (suc (suc q))))) a w rule u each = absurd (nothing_at (a, w) q rule)

-- what is derived of a list begins so
pub derived : {v w : List Symbol} → Derives chain_both_holes w v → (x : Symbol) (z : List Symbol) → w ≡ x ∷ z → Begins x v
derived done x z e = absurd (cc e)
derived (keep y {w} {v} r) x z e = record { first = y; rest = v; is = refl; head = same (let f : y ≡ x = cc in f) }
derived (expand p a w u v {x = all} rule r s is) x z e =
    let b = under p a w rule u (λ y more f. derived r y more f) in
    let f : Nonterminal a ≡ x = cc in
    record {
      first = b.first;
      rest = b.rest ++ v;
      is = is ∙ ap (λ k. k ++ v) b.is;
      head = subst (λ k. Head k b.first) f b.head;
    }

-- what begins what is after S
pub first_of_s : (w : List Symbol) (u : ℕ) (v : List Symbol) → Derives chain_both_holes (Nonterminal 0 ∷ w) (Terminal u ∷ v) → AfterA u
first_of_s w u v d =
    let b = derived d (Nonterminal 0) w refl in go b.first b.head (let f : Terminal u ≡ b.first = cc in f)
  where
    go : (y : Symbol) → Head (Nonterminal 0) y → Terminal u ≡ y → AfterA u
    go y (same e) f = absurd (cc (f ∙ e))
    go y (of_one e g) f = absurd (cc e)
    go y (in_s e (inl g)) f = absurd (cc (f ∙ g))
    go y (in_s e (inr (t, g, h))) f = subst AfterA (let k : t ≡ u = cc in k) h

-- what begins what is after a terminal
pub first_of_end : (t u : ℕ) (v : List Symbol) → Derives chain_both_holes (Terminal t ∷ []) (Terminal u ∷ v) → u ≡ t
first_of_end t u v d =
    let b = derived d (Terminal t) [] refl in
    let f = terminal_head t b.first b.head in
    let g : Terminal u ≡ b.first = cc in cc

-- nothing is in no list
pub none_after : (n : ℕ) (x : Symbol) (rest : List Symbol) → drop n [] ≡ x ∷ rest → ⊥
none_after zero x rest e = cc
none_after (suc n) x rest e = cc

-- one more symbol of a list
take_next : (d : ℕ) (w : List Symbol) (x : Symbol) (rest : List Symbol) → drop d w ≡ x ∷ rest → take (suc d) w ≡ take d w ++ x ∷ []
take_next zero [] x rest e = absurd (cc e)
take_next zero (y ∷ w) x rest e = let f : y ≡ x = cc in ap (λ z. z ∷ []) f
take_next (suc d) [] x rest e = absurd (cc e)
take_next (suc d) (y ∷ w) x rest e = ap (λ z. y ∷ z) (take_next d w x rest e)

next_within : (d : ℕ) (w : List Symbol) (x : Symbol) (rest : List Symbol) → drop d w ≡ x ∷ rest → suc d ≤ length w
next_within zero [] x rest e = absurd (cc e)
next_within zero (y ∷ w) x rest e = omega arith
next_within (suc d) [] x rest e = absurd (cc e)
next_within (suc d) (y ∷ w) x rest e = let r = next_within d w x rest e in omega (arith, r)

-- a production begins
begin : (k : Rule) (prefix : List Symbol) (q u : ℕ) → q ≡ number k → Starts k prefix → Looks k u → Place prefix (initial_item q) u
begin k prefix q u is starts looks = record {
  rule = k;
  begins = prefix;
  number_is = is;
  within = omega arith;
  prefix_is = sym (append-nil prefix);
  starts = starts;
  looks = looks;
}

-- where S is after a dot, a production of S begins, and where A is, that of A
open_s : (prefix : List Symbol) (q b u : ℕ) → Opens prefix → b ≡ 0 → u ≡ 4 → IsRule q b → Place prefix (initial_item q) u
open_s prefix q b u opens is end (of_s k q_is b_is starts looks) =
    begin k prefix q u q_is (starts prefix opens) (subst (Looks k) (sym end) looks)
open_s prefix q b u opens is end (of_a q_is b_is) = absurd (omega (arith, is, b_is))

open_a : (prefix : List Symbol) (q b u : ℕ) → OpensA prefix → b ≡ 1 → AfterA u → IsRule q b → Place prefix (initial_item q) u
open_a prefix q b u opens is after (of_s k q_is b_is starts looks) = absurd (omega (arith, is, b_is))
open_a prefix q b u opens is after (of_a q_is b_is) = begin one prefix q u q_is opens after

-- each production with its dot before a nonterminal
opened : (k : Rule) (d : ℕ) (begins : List Symbol) (t b q u : ℕ) (rest v : List Symbol) → d ≤ length (right k) →
    drop d (right k) ≡ Nonterminal b ∷ rest → Starts k begins → Looks k t → IsRule q b →
    Derives chain_both_holes (rest ++ Terminal t ∷ []) (Terminal u ∷ v) → Place (begins ++ take d (right k)) (initial_item q) u
opened chain zero s t b q u rest v le e starts looks rule d =
    let r : rest ≡ Nonterminal 0 ∷ [] = cc in
    open_a (s ++ []) q b u (subst OpensA (sym (append-nil s)) (inl starts)) (let f : b ≡ 1 = cc in f)
    (first_of_s (Terminal t ∷ []) u v (subst (λ z. Derives chain_both_holes (z ++ Terminal t ∷ []) (Terminal u ∷ v)) r d)) rule
opened chain (suc zero) s t b q u rest v le e starts looks rule d =
    let r : rest ≡ [] = cc in
    open_s (s ++ Nonterminal 1 ∷ []) q b u (inr (s, refl)) (let f : b ≡ 0 = cc in f)
    (first_of_end t u v (subst (λ z. Derives chain_both_holes (z ++ Terminal t ∷ []) (Terminal u ∷ v)) r d) ∙ looks) rule
opened chain (suc (suc zero)) s t b q u rest v le e starts looks rule d = absurd (cc e)
opened chain (suc (suc (suc n))) s t b q u rest v le e starts looks rule d = absurd (cc e)
opened last zero s t b q u rest v le e starts looks rule d = absurd (cc e)
opened last (suc zero) s t b q u rest v le e starts looks rule d = absurd (cc e)
opened last (suc (suc n)) s t b q u rest v le e starts looks rule d = absurd (none_after n (Nonterminal b) rest e)
opened one zero s t b q u rest v le e starts looks rule d = absurd (cc e)
opened one (suc n) s t b q u rest v le e starts looks rule d = absurd (none_after n (Nonterminal b) rest e)
opened marked zero s t b q u rest v le e starts looks rule d = absurd (cc e)
opened marked (suc zero) s t b q u rest v le e starts looks rule d =
    let r : rest ≡ Nonterminal 0 ∷ [] = cc in
    open_a (s ++ Terminal 2 ∷ []) q b u (inr (s, refl)) (let f : b ≡ 1 = cc in f)
    (first_of_s (Terminal t ∷ []) u v (subst (λ z. Derives chain_both_holes (z ++ Terminal t ∷ []) (Terminal u ∷ v)) r d)) rule
opened marked (suc (suc zero)) s t b q u rest v le e starts looks rule d =
    let r : rest ≡ [] = cc in
    open_s (s ++ Terminal 2 ∷ Nonterminal 1 ∷ []) q b u
    (inr (s ++ Terminal 2 ∷ [], sym (append_assoc s (Terminal 2 ∷ []) (Nonterminal 1 ∷ [])))) (let f : b ≡ 0 = cc in f)
    (first_of_end t u v (subst (λ z. Derives chain_both_holes (z ++ Terminal t ∷ []) (Terminal u ∷ v)) r d) ∙ looks) rule
opened marked (suc (suc (suc n))) s t b q u rest v le e starts looks rule d = absurd (none_after n (Nonterminal b) rest e)
opened holed zero s t b q u rest v le e starts looks rule d = absurd (cc e)
opened holed (suc n) s t b q u rest v le e starts looks rule d = absurd (none_after n (Nonterminal b) rest e)
opened top zero s t b q u rest v le e starts looks rule d =
    let r : rest ≡ [] = cc in
    open_s (s ++ []) q b u (subst Opens (sym (append-nil s)) (inl starts)) (let f : b ≡ 0 = cc in f)
    (first_of_end t u v (subst (λ z. Derives chain_both_holes (z ++ Terminal t ∷ []) (Terminal u ∷ v)) r d) ∙ looks) rule
opened top (suc n) s t b q u rest v le e starts looks rule d = absurd (none_after n (Nonterminal b) rest e)

-- each valid item has its place
pub placed : {prefix : List Symbol} {item : Item} {t : ℕ} → IsValidItem chain_both_holes prefix item t → Place prefix item t
placed start = begin top [] 5 4 refl refl refl
placed (close item t b rest q u w {prefix} x is rule (v, d)) =
    let p = placed x in
    subst (λ z. Place z (initial_item q) u) (sym p.prefix_is)
    (opened p.rule item.dot p.begins t b q u rest v p.within (sym (after_is p) ∙ is) p.starts p.looks (rule_is q b w rule) d)
placed (move item x rest prefix {t} {longer} {moved} v is longer_is moved_is) =
    let p = placed v in
    let here : drop item.dot (right p.rule) ≡ x ∷ rest = sym (after_is p) ∙ is in
    let dot : moved.dot ≡ suc item.dot = (let e : moved.dot ≡ item.dot + 1 = ap (λ (i : Item). i.dot) moved_is in omega (arith, e)) in
    let less = next_within item.dot (right p.rule) x rest here in
    record {
      rule = p.rule;
      begins = p.begins;
      number_is = ap (λ (i : Item). i.production) moved_is ∙ p.number_is;
      within = omega (arith, less, dot);
      prefix_is = longer_is ∙ (ap (λ z. z ++ x ∷ []) p.prefix_is ∙ (append_assoc p.begins (take item.dot (right p.rule)) (x ∷ [])
          ∙ ap (λ z. p.begins ++ z) (sym (take_next item.dot (right p.rule) x rest here) ∙ ap (λ n. take n (right p.rule)) (sym dot))));
      starts = p.starts;
      looks = p.looks;
    }

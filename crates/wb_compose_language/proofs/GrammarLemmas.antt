-- The union's grammar as its productions are added one after another.
use Rattle.std.proofs.Common.{◌≡◌, ◌∙◌, ◌+◌, ◌-◌, ◌<◌, ◌≤◌, ℕ, zero, suc, List, [], ◌∷◌, ◌++◌, take, length, map, sym, ap, get_or}
use Rattle.std.proofs.Common.{IfSome, slice_get, refl, Option, Some, None, inl, inr, arith, subst}
use Rattle.std.proofs.lemmas.Bool.{cases_lt}
use Rattle.std.proofs.lemmas.List.Elements.{All-cons, All-head, All-nil, All-tail}
use Rattle.std.specs.Prelude.{All}
use Rattle.std.proofs.lemmas.List.{map-append, take_more}
use Rattle.std.proofs.lemmas.Option.{get_or_from_slice_get, slice_get_within}
use Rattle.wb_base.specs.declared.symbol.Symbol.{Symbol}
use Rattle.wb_base.specs.declared.symbol.Symbol.TheVariants.{Nonterminal, Terminal}
use Rattle.wb_base.specs.Grammar.{GrammarView, IsSymbolBelow, Production}
use Rattle.wb_lemmas.proofs.Parts.{append_assoc}
use Rattle.wb_lemmas.proofs.Places.{at_within}
use Rattle.wb_compose_theory.specs.Blocks.{lift}
use Rattle.wb_compose_theory.specs.Renamings.{renamed}
use Rattle.wb_compose_theory_grammar.specs.Places.{total_of}
use Rattle.wb_compose_theory_grammar.specs.Unions.{added_nonterminals, added_terminals, lifted_by, own_productions, productions_after}
use Rattle.wb_compose_theory_grammar.specs.Unions.{renamed_production}
use Rattle.wb_compose_theory_grammar.proofs.PlaceLemmas.{lift_below, lift_past}
use Rattle.wb_compose_theory_grammar.proofs.ProductionLemmas.{drop_at}
use Rattle.wb_compose_language.specs.Inner.Totals.{AreAdded, AreTotals}

-- a list that was mapped so far, with one element more
pub map_more : {X Y : Type 0} (f : X → Y) (xs : List X) (i : ℕ) (d : X) → i < length xs →
    map f (take (i + 1) xs) ≡ map f (take i xs) ++ f (get_or xs i d) ∷ []
map_more f xs i d less = ap (map f) (take_more xs i d less) ∙ map-append f (take i xs) (get_or xs i d ∷ [])

-- a sum with one number more
pub total_push : (f : GrammarView → ℕ) (xs : List GrammarView) (x : GrammarView) →
    total_of (map f (xs ++ x ∷ [])) ≡ total_of (map f xs) + f x
total_push f [] x = omega arith
total_push f (y ∷ xs) x = let rest = total_push f xs x in omega (arith, rest)

-- a part of a sum
pub total_part : {X : Type 0} (f : GrammarView → ℕ) (g : X → GrammarView) (xs : List X) (i : ℕ) (x : X) → slice_get xs i ≡ Some x →
    total_of (map f (map g (take i xs))) + f (g x) ≤ total_of (map f (map g xs))
total_part f g [] i x at = absurd (let w = slice_get_within [] i x at in omega (arith, w))
total_part f g (y ∷ xs) zero x at =
    let same : y ≡ x = cc in let e = ap (λ z. f (g z)) same in omega (arith, e)
total_part f g (y ∷ xs) (suc i) x at = let rest = total_part f g xs i x at in omega (arith, rest)

-- the productions of one extension more
pub productions_push : (host : GrammarView) (t a : ℕ) (xs : List GrammarView) (x : GrammarView) →
    productions_after host t a (xs ++ x ∷ []) ≡ productions_after host t a xs ++
    map (renamed_production (lifted_by host (t + total_of (map (added_terminals host) xs))
    (a + total_of (map (added_nonterminals host) xs)) 0)) (own_productions host x)
productions_push host t a [] x =
    let e : t ≡ t + 0 = omega arith in
    let f : a ≡ a + 0 = omega arith in
    append_none (map (renamed_production (lifted_by host t a 0)) (own_productions host x)) ∙
    ap (λ z. map (renamed_production (lifted_by host z a 0)) (own_productions host x)) e ∙
    ap (λ z. map (renamed_production (lifted_by host (t + 0) z 0)) (own_productions host x)) f
  where
    append_none : (ps : List Production) → ps ++ [] ≡ ps
    append_none [] = refl
    append_none (p ∷ ps) = ap (λ z. p ∷ z) (append_none ps)
productions_push host t a (y ∷ xs) x =
    let first = map (renamed_production (lifted_by host t a 0)) (own_productions host y) in
    let t' = t + added_terminals host y in
    let a' = a + added_nonterminals host y in
    let rest = productions_after host t' a' xs in
    let own = own_productions host x in
    let e : t' + total_of (map (added_terminals host) xs) ≡ t + total_of (map (added_terminals host) (y ∷ xs)) = omega arith in
    let f : a' + total_of (map (added_nonterminals host) xs) ≡ a + total_of (map (added_nonterminals host) (y ∷ xs)) = omega arith in
    ap (λ z. first ++ z) (productions_push host t' a' xs x) ∙
    (ap (λ z. first ++ (rest ++ map (renamed_production (lifted_by host z (a' + total_of (map (added_nonterminals host) xs)) 0)) own)) e ∙
    (ap (λ z. first ++ (rest ++ map (renamed_production (lifted_by host (t + total_of (map (added_terminals host) (y ∷ xs))) z 0)) own)) f ∙
    sym (append_assoc first rest (map (renamed_production (lifted_by host (t + total_of (map (added_terminals host) (y ∷ xs)))
    (a + total_of (map (added_nonterminals host) (y ∷ xs))) 0)) own))))

-- a host's productions that were copied, with one more
pub copied_more : (old made after g : GrammarView) (p left : ℕ) (right : List Symbol) → p < length g.productions
    → IfSome (slice_get g.productions p) (λ q. left ≡ q.0) → IfSome (slice_get g.productions p) (λ q. right ≡ q.1)
    → made ≡ record old { productions = take p g.productions }
    → after ≡ record made { productions = made.productions ++ (left, right) ∷ [] }
    → after ≡ record old { productions = take (p + 1) g.productions }
copied_more old made after g p left right within is_left is_right was now =
    let (q, at) = at_within g.productions p within in
    let l : left ≡ q.0 = subst (λ o. IfSome o (λ z. left ≡ z.0)) at is_left in
    let r : right ≡ q.1 = subst (λ o. IfSome o (λ z. right ≡ z.1)) at is_right in
    let same : (left, right) ≡ q = λ z. (l z, r z) in
    now ∙ ap (λ (m : GrammarView). record m { productions = m.productions ++ (left, right) ∷ [] }) was
    ∙ ap (λ ps. record old { productions = ps })
    (ap (λ z. take p g.productions ++ z ∷ []) same
    ∙ ap (λ z. take p g.productions ++ z ∷ []) (sym (get_or_from_slice_get g.productions p q q at))
    ∙ sym (take_more g.productions p q within))

-- an extension's own productions that were added, with one more
pub own_more : (old made after host g : GrammarView) (t a p left : ℕ) (right : List Symbol) → length host.productions ≤ p →
    p < length g.productions → IfSome (slice_get g.productions p) (λ q. left ≡ (lifted_by host t a 0).nonterminal q.0) →
    IfSome (slice_get g.productions p) (λ q. right ≡ map (renamed (lifted_by host t a 0)) q.1) →
    made ≡ record old {
      productions = old.productions ++
          map (renamed_production (lifted_by host t a 0)) (take (p - length host.productions) (own_productions host g));
    } →
    after ≡ record made { productions = made.productions ++ (left, right) ∷ [] } →
    after ≡ record old {
      productions = old.productions ++
          map (renamed_production (lifted_by host t a 0)) (take (p + 1 - length host.productions) (own_productions host g));
    }
own_more old made after host g t a p left right from within is_left is_right was now =
    let (q, at) = at_within g.productions p within in
    let r = lifted_by host t a 0 in
    let l : left ≡ r.nonterminal q.0 = subst (λ o. IfSome o (λ z. left ≡ r.nonterminal z.0)) at is_left in
    let m : right ≡ map (renamed r) q.1 = subst (λ o. IfSome o (λ z. right ≡ map (renamed r) z.1)) at is_right in
    let same : (left, right) ≡ renamed_production r q = λ z. (l z, m z) in
    let place = p - length host.productions in
    let back : length host.productions + place ≡ p = omega (arith, from) in
    let here : slice_get (own_productions host g) place ≡ Some q =
    drop_at (length host.productions) place g.productions ∙ (ap (slice_get g.productions) back ∙ at) in
    let less = slice_get_within (own_productions host g) place q here in
    let next : p + 1 - length host.productions ≡ place + 1 = omega (arith, from) in
    let so_far = map (renamed_production r) (take place (own_productions host g)) in
    let step : map (renamed_production r) (take (p + 1 - length host.productions) (own_productions host g)) ≡ so_far ++ (left, right) ∷ [] =
    ap (λ k. map (renamed_production r) (take k (own_productions host g))) next ∙
    (map_more (renamed_production r) (own_productions host g) place q less ∙
    (ap (λ z. so_far ++ renamed_production r z ∷ []) (get_or_from_slice_get (own_productions host g) place q q here) ∙
    ap (λ z. so_far ++ z ∷ []) (sym same))) in
    now ∙ ap (λ (k : GrammarView). record k { productions = k.productions ++ (left, right) ∷ [] }) was
    ∙ ap (λ ps. record old { productions = ps }) (append_assoc old.productions so_far ((left, right) ∷ []) ∙
    ap (λ z. old.productions ++ z) (sym step))

-- no extension was counted yet
pub no_totals : (host : GrammarView) (t a : ℕ) → t ≡ host.terminals → a ≡ host.nonterminals → AreTotals host [] t a
no_totals host t a t_is a_is = record { terminals_are = omega (arith, t_is); nonterminals_are = omega (arith, a_is) }

-- one extension more
pub totals_more : (host x : GrammarView) (xs : List GrammarView) (t a t' a' : ℕ) → AreTotals host xs t a →
    t' ≡ t + added_terminals host x → a' ≡ a + added_nonterminals host x → AreTotals host (xs ++ x ∷ []) t' a'
totals_more host x xs t a t' a' was t_is a_is =
    let e = total_push (added_terminals host) xs x in
    let f = total_push (added_nonterminals host) xs x in
    let g = was.terminals_are in
    let h = was.nonterminals_are in
    record { terminals_are = omega (arith, e, g, t_is); nonterminals_are = omega (arith, f, h, a_is) }

pub added_next : (host x : GrammarView) (xs : List GrammarView) (old made after : GrammarView) (t a t' a' : ℕ) →
    AreAdded host xs old made t a →
    after ≡ record made { productions = made.productions ++ map (renamed_production (lifted_by host t a 0)) (own_productions host x) } →
    t' ≡ t + added_terminals host x → a' ≡ a + added_nonterminals host x → AreAdded host (xs ++ x ∷ []) old after t' a'
added_next host x xs old made after t a t' a' was now t_is a_is =
    let e = total_push (added_terminals host) xs x in
    let f = total_push (added_nonterminals host) xs x in
    let p = was.before.terminals_are in
    let q = was.before.nonterminals_are in
    let own = own_productions host x in
    let so_far = productions_after host 0 0 xs in
    let p' : t ≡ 0 + total_of (map (added_terminals host) xs) = omega (arith, p) in
    let q' : a ≡ 0 + total_of (map (added_nonterminals host) xs) = omega (arith, q) in
    record {
      made_is =
          now ∙ ap (λ (m : GrammarView). record m {
            productions = m.productions ++
                map (renamed_production (lifted_by host t a 0)) own;
          }) was.made_is ∙
          ap (λ ps. record old { productions = ps }) (append_assoc old.productions so_far
          (map (renamed_production (lifted_by host t a 0)) own) ∙
          ap (λ z. old.productions ++ z) (ap (λ z. so_far ++ map (renamed_production (lifted_by host z a 0)) own) p' ∙
          (ap (λ z. so_far ++ map (renamed_production (lifted_by host (0 + total_of (map (added_terminals host) xs)) z 0)) own) q' ∙
          sym (productions_push host 0 0 xs x))));
      before = record { terminals_are = omega (arith, e, p, t_is); nonterminals_are = omega (arith, f, q, a_is) };
    }

-- what may be there has a weaker property
pub some_weaker : {X : Type 0} (o : Option X) (P Q : X → Type 0) → IfSome o P → ((x : X) → P x → Q x) → IfSome o Q
some_weaker None P Q h weaker = h
some_weaker (Some x) P Q h weaker = weaker x h

-- a number that moves up stays in range
lift_within : (own more bound total t : ℕ) → t < bound → more + bound ≤ total → lift own more t < total
lift_within own more bound total t less fits = elim (cases_lt t own) [
  | inl low ↦ (let e = lift_below own more t low in omega (arith, e, less, fits))
  | inr high ↦ (let e = lift_past own more t high in omega (arith, e, less, fits))
]

-- symbols that move up stay in range
pub lifted_below : (host : GrammarView) (t a terminals nonterminals total_t total_a : ℕ) → t + terminals ≤ total_t →
    a + nonterminals ≤ total_a → (xs : List Symbol) → All (IsSymbolBelow terminals nonterminals) xs →
    All (IsSymbolBelow total_t total_a) (map (renamed (lifted_by host t a 0)) xs)
lifted_below host t a terminals nonterminals total_t total_a fits_t fits_a [] all = All-nil (IsSymbolBelow total_t total_a)
lifted_below host t a terminals nonterminals total_t total_a fits_t fits_a (x ∷ xs) all =
    All-cons (IsSymbolBelow total_t total_a) (renamed (lifted_by host t a 0) x) (map (renamed (lifted_by host t a 0)) xs)
    (one x (All-head (IsSymbolBelow terminals nonterminals) x xs all))
    (lifted_below host t a terminals nonterminals total_t total_a fits_t fits_a xs
    (All-tail (IsSymbolBelow terminals nonterminals) x xs all))
  where
    one : (y : Symbol) → IsSymbolBelow terminals nonterminals y → IsSymbolBelow total_t total_a (renamed (lifted_by host t a 0) y)
    one (Terminal u) less = lift_within host.terminals t terminals total_t u less fits_t
    one (Nonterminal b) less = lift_within host.nonterminals a nonterminals total_a b less fits_a

-- an element of a list that is mapped
pub element_more : {X Y : Type 0} (f : X → Y) (xs : List X) (i : ℕ) (x : X) → slice_get xs i ≡ Some x →
    map f (take (i + 1) xs) ≡ map f (take i xs) ++ f x ∷ []
element_more f xs i x at =
    map_more f xs i x (slice_get_within xs i x at) ∙ ap (λ z. map f (take i xs) ++ f z ∷ []) (get_or_from_slice_get xs i x x at)

-- so many come before an extension and are its own that they are among all
pub fits_total : {X : Type 0} (host : GrammarView) (g : X → GrammarView) (xs : List X) (i t total : ℕ) (x : X)
    (count added : GrammarView → ℕ) → slice_get xs i ≡ Some x → count (g x) ≡ count host + added (g x) →
    t ≡ total_of (map added (map g (take i xs))) → total ≡ count host + total_of (map added (map g xs)) → t + count (g x) ≤ total
fits_total host g xs i t total x count added at whole before all =
    let part = total_part added g xs i x at in omega (arith, part, whole, before, all)

-- Reduced grammars, unit cycles and hidden left recursion, and the parts of a world that grammars are.
use Rattle.std.proofs.Common.{◌++◌, ◌∙◌, ◌∷◌, ◌≡◌, List, [], ap, map, refl, subst, sym, ℕ}
use Rattle.wb_base.specs.declared.symbol.Symbol.{Symbol}
use Rattle.wb_base.specs.declared.symbol.Symbol.TheVariants.{Nonterminal, Terminal}
use Rattle.wb_base.specs.Grammar.{GrammarView}
use Rattle.wb_grammar_theory.specs.Cycles.{DerivesItself, HasNoHiddenLeftRecursion, HasNoUnitCycle, IsHiddenLeftRecursive}
use Rattle.wb_grammar_theory.specs.Derives.{Derives, IsText, empty, next}
use Rattle.wb_grammar_theory.specs.Productions.{IsProduction}
use Rattle.wb_grammar_theory.specs.Shape.{IsProductive, IsReachable, IsReduced}
use Rattle.wb_compose_theory.proofs.NumberLemmas.{nil_map}
use Rattle.wb_compose_theory.proofs.RenamingLemmas.{derives_back, derives_there, list_once, map_join, nonterminal_of, split_list}
use Rattle.wb_compose_theory.specs.Composable.{IsFitForParsingIn}
use Rattle.wb_compose_theory.specs.Derives.{DerivesIn, DerivesItselfIn, HasNoHiddenLeftRecursionIn, HasNoUnitCycleIn}
use Rattle.wb_compose_theory.specs.Derives.{IsHiddenLeftRecursiveIn}
use Rattle.wb_compose_theory.specs.Derives.{IsProductiveIn, IsReachableIn, IsReducedIn}
use Rattle.wb_compose_theory.specs.Numbered.{IsFit}
use Rattle.wb_compose_theory.specs.Renamings.{Renaming, renamed}
use Rattle.wb_compose_theory.specs.Seams.{IsNumbering}
use Rattle.wb_compose_theory.specs.Worlds.{Part, World}

-- where a renamed list is joined
record MapSplit (r : Renaming) (x u' v' : List Symbol) : Type 0 where
  u : List Symbol
  v : List Symbol
  is : x ≡ u ++ v
  u_is : map (renamed r) u ≡ u'
  v_is : map (renamed r) v ≡ v'

-- a renamed list is joined where the list is
map_split : (r : Renaming) (x u' v' : List Symbol) → map (renamed r) x ≡ u' ++ v' → MapSplit r x u' v'
map_split r x [] v' e = record { u = []; v = x; is = refl; u_is = refl; v_is = e }
map_split r x (y' ∷ u') v' e =
    let (y, rest, x_is, y_is, rest_is) = split_list r x y' (u' ++ v') e in
    let k = map_split r rest u' v' rest_is in
    record {
      u = y ∷ k.u;
      v = k.v;
      is = x_is ∙ ap (λ z. y ∷ z) k.is;
      u_is = ap (λ z. renamed r y ∷ z) k.u_is ∙ ap (λ z. z ∷ u') y_is;
      v_is = k.v_is;
    }

-- texts
text_there : {v : List Symbol} (r : Renaming) → IsText v → IsText (map (renamed r) v)
text_there r empty = empty
text_there r (next t text) = next (r.terminal t) (text_there r text)

-- a list is a text if its renaming is
text_back : (r : Renaming) (v : List Symbol) → IsText (map (renamed r) v) → IsText v
text_back r [] text = empty
text_back r (Terminal t ∷ v) (next _ text) = next t (text_back r v text)
text_back r (Nonterminal a ∷ v) text = elim text [ ]

module _ {g : GrammarView} {w : World} {part : Part} {r : Renaming} (n : IsNumbering g w part r) where
  -- a list with a nonterminal in it
  record Amid (a : ℕ) (x u' v' : List Symbol) : Type 0 where
    u : List Symbol
    v : List Symbol
    is : x ≡ u ++ Nonterminal a ∷ v
    u_is : map (renamed r) u ≡ u'

  -- a renamed list has a nonterminal where the list has it
  amid : (a : ℕ) (x u' v' : List Symbol) → u' ++ Nonterminal (r.nonterminal a) ∷ v' ≡ map (renamed r) x → Amid a x u' v'
  amid a x u' v' e =
      let k = map_split r x u' (Nonterminal (r.nonterminal a) ∷ v') (sym e) in
      let (y, rest, v_is, y_is, rest_is) = split_list r k.v (Nonterminal (r.nonterminal a)) v' k.v_is in
      let (b, y_is0, b_is) = nonterminal_of r y (r.nonterminal a) y_is in
      let same : b ≡ a = n.once.nonterminal b a b_is in
      let head : y ≡ Nonterminal a = y_is0 ∙ ap Nonterminal same in
      record { u = k.u; v = rest; is = k.is ∙ ap (λ z. k.u ++ z) (v_is ∙ ap (λ z. z ∷ rest) head); u_is = k.u_is }

  -- productive nonterminals
  productive_there : (a : ℕ) → IsProductive g a → IsProductiveIn w part (r.nonterminal a)
  productive_there a (v, d, text) = (map (renamed r) v, derives_there n d, text_there r text)

  -- a nonterminal is productive if its name is
  productive_back : (a : ℕ) → IsProductiveIn w part (r.nonterminal a) → IsProductive g a
  productive_back a (v', d, text) =
      let k = derives_back n d (Nonterminal a ∷ []) refl in (k.result, k.derives, text_back r k.result (subst IsText k.is text))

  -- reachable nonterminals
  reachable_there : (a : ℕ) → IsReachable g a → IsReachableIn w part (r.nonterminal a)
  reachable_there a (u, v, d) = (
    map (renamed r) u,
    map (renamed r) v,
    subst (λ z. DerivesIn w part (Nonterminal z ∷ []) (map (renamed r) u ++ Nonterminal (r.nonterminal a) ∷ map (renamed r) v))
        n.ends.start_is
        (subst (DerivesIn w part (Nonterminal (r.nonterminal g.start) ∷ [])) (map_join r u (Nonterminal a ∷ v)) (derives_there n d)),
  )

  -- a nonterminal is reachable if its name is
  reachable_back : (a : ℕ) → IsReachableIn w part (r.nonterminal a) → IsReachable g a
  reachable_back a (u', v', d) =
      let k = derives_back n d (Nonterminal g.start ∷ []) (ap (λ z. Nonterminal z ∷ []) n.ends.start_is) in
      let m = amid a k.result u' v' k.is in
      (m.u, m.v, subst (Derives g (Nonterminal g.start ∷ [])) m.is k.derives)

  -- reduced grammars
  pub reduced_there : IsReduced g → IsReducedIn w part
  reduced_there is = record {
    reachable = λ b has. (let (a, below, same) = n.nonterminals.onto b has in
        subst (IsReachableIn w part) (sym same) (reachable_there a (is.reachable a below)));
    productive = λ b has. (let (a, below, same) = n.nonterminals.onto b has in
        subst (IsProductiveIn w part) (sym same) (productive_there a (is.productive a below)));
  }

  -- a grammar is reduced if the part is
  pub reduced_back : IsReducedIn w part → IsReduced g
  reduced_back is = record {
    reachable = λ a below. reachable_back a (is.reachable (r.nonterminal a) (n.nonterminals.within a below));
    productive = λ a below. productive_back a (is.productive (r.nonterminal a) (n.nonterminals.within a below));
  }

  -- the right side of a production, which derives something
  right_there : (p a : ℕ) (right : List Symbol) {x : List Symbol} → IsProduction g p a right → Derives g right x →
      DerivesIn w part (w.right (r.production p)) (map (renamed r) x)
  right_there p a right {x} rule d =
      subst (λ z. DerivesIn w part z (map (renamed r) x)) (sym (n.productions.right_is p a right rule)) (derives_there n d)

  -- nonterminals that derive themselves
  itself_there : (a : ℕ) → DerivesItself g a → DerivesItselfIn w part (r.nonterminal a)
  itself_there a (p, right, rule, d) = (
    r.production p,
    n.productions.production p a right rule,
    n.productions.left_is p a right rule,
    right_there p a right rule d,
  )

  -- a nonterminal that derives itself has a number
  itself_back : (b : ℕ) → DerivesItselfIn w part b → (a : ℕ) × DerivesItself g a
  itself_back b (q, rule, left, d) =
      let (p, a, right, mine, is) = n.productions.onto q rule in
      let b_is : b ≡ r.nonterminal a = sym left ∙ (ap w.left is ∙ n.productions.left_is p a right mine) in
      let k = derives_back n d right (sym (ap w.right is ∙ n.productions.right_is p a right mine)) in
      let same : k.result ≡ Nonterminal a ∷ [] =
      list_once n k.result (Nonterminal a ∷ []) (sym k.is ∙ ap (λ z. Nonterminal z ∷ []) b_is) in
      (a, (p, right, mine, subst (Derives g right) same k.derives))

  -- no unit cycle
  pub no_unit_cycle_there : HasNoUnitCycle g → HasNoUnitCycleIn w part
  no_unit_cycle_there none_is b x = let (a, y) = itself_back b x in none_is a y

  -- a grammar has none if the part has none
  pub no_unit_cycle_back : HasNoUnitCycleIn w part → HasNoUnitCycle g
  no_unit_cycle_back none_is a x = none_is (r.nonterminal a) (itself_there a x)

  -- hidden left recursion
  hidden_there : (a : ℕ) → IsHiddenLeftRecursive g a → IsHiddenLeftRecursiveIn w part (r.nonterminal a)
  hidden_there a (p, right, b, c, rule, d, ne, nothing) = (
    r.production p,
    map (renamed r) b,
    map (renamed r) c,
    n.productions.production p a right rule,
    n.productions.left_is p a right rule,
    subst (DerivesIn w part (w.right (r.production p))) (map_join r b (Nonterminal a ∷ c)) (right_there p a right rule d),
    (λ e. ne (nil_map r b e)),
    derives_there n nothing,
  )

  -- a hidden left recursive nonterminal has a number
  hidden_back : (b : ℕ) → IsHiddenLeftRecursiveIn w part b → (a : ℕ) × IsHiddenLeftRecursive g a
  hidden_back b (q, u', v', rule, left, d, ne, nothing) =
      let (p, a, right, mine, is) = n.productions.onto q rule in
      let b_is : b ≡ r.nonterminal a = sym left ∙ (ap w.left is ∙ n.productions.left_is p a right mine) in
      let k = derives_back n d right (sym (ap w.right is ∙ n.productions.right_is p a right mine)) in
      let m = amid a k.result u' v' (ap (λ z. u' ++ Nonterminal z ∷ v') (sym b_is) ∙ k.is) in
      let l = derives_back n nothing m.u m.u_is in
      let l_is : l.result ≡ [] = nil_map r l.result (sym l.is) in (
        a,
        (
          p,
          right,
          m.u,
          m.v,
          mine,
          subst (Derives g right) m.is k.derives,
          (λ e. ne (sym m.u_is ∙ ap (map (renamed r)) e)),
          subst (Derives g m.u) l_is l.derives,
        ),
      )

  -- no hidden left recursion
  pub no_hidden_there : HasNoHiddenLeftRecursion g → HasNoHiddenLeftRecursionIn w part
  no_hidden_there none_is b x = let (a, y) = hidden_back b x in none_is a y

  -- a grammar has none if the part has none
  pub no_hidden_back : HasNoHiddenLeftRecursionIn w part → HasNoHiddenLeftRecursion g
  no_hidden_back none_is a x = none_is (r.nonterminal a) (hidden_there a x)

-- what is fit in numbers is fit in the world
pub fit_there : {g0 g : GrammarView} {w : World} {part with_holes : Part} {r0 r : Renaming} → IsNumbering g0 w part r0 →
    IsNumbering g w with_holes r → IsFit g0 g → IsFitForParsingIn w part with_holes
fit_there n0 n is = record {
  reduced = reduced_there n0 is.reduced;
  no_unit_cycle = no_unit_cycle_there n is.no_unit_cycle;
  no_hidden_left_recursion = no_hidden_there n is.no_hidden_left_recursion;
}

-- what is fit in the world is fit in numbers
pub fit_back : {g0 g : GrammarView} {w : World} {part with_holes : Part} {r0 r : Renaming} → IsNumbering g0 w part r0 →
    IsNumbering g w with_holes r → IsFitForParsingIn w part with_holes → IsFit g0 g
fit_back n0 n is = record {
  reduced = reduced_back n0 is.reduced;
  no_unit_cycle = no_unit_cycle_back n is.no_unit_cycle;
  no_hidden_left_recursion = no_hidden_back n is.no_hidden_left_recursion;
}

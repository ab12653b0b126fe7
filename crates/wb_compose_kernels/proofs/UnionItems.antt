-- Productions of certified grammars, and what opens items, in the union.
use Rattle.std.proofs.Common.{◌+◌, ◌-◌, ◌<◌, ◌∙◌, ◌∷◌, ◌≡◌, ap, arith, length, subst, sym, ℕ, List, Some}
use Rattle.std.specs.Prelude.{Contains, cond, ltb, slice_get}
use Rattle.std.proofs.lemmas.Bool.{lt-ltb}
use Rattle.std.proofs.lemmas.List.Elements.{All-contains}
use Rattle.std.proofs.lemmas.Option.{slice_get_within}
use Rattle.wb_lemmas.proofs.Places.{append_keeps, at_within}
use Rattle.wb_base.specs.declared.symbol.Symbol.{Symbol}
use Rattle.wb_base.specs.declared.symbol.Symbol.TheVariants.{Nonterminal, Terminal}
use Rattle.wb_base.specs.Grammar.{GrammarView}
use Rattle.wb_grammar_theory.specs.declared.item.Item.{Item}
use Rattle.wb_grammar_theory.specs.Productions.{IsProduction}
use Rattle.wb_items.specs.Apart.{Opens}
use Rattle.wb_marking_holes.proofs.LiftLemmas.{lifted_production}
use Rattle.wb_compose_theory.proofs.PartLemmas.{home_holes}
use Rattle.wb_compose_theory.proofs.RenamingLemmas.{ruled}
use Rattle.wb_compose_theory.proofs.StepLemmas.{hole_rule}
use Rattle.wb_compose_theory.specs.Homes.{Home, IsListed, of, of_host, part_of}
use Rattle.wb_compose_theory.specs.Worlds.{on}
use Rattle.wb_compose_theory_grammar.proofs.BridgeLemmas.{index_at, piece_ok}
use Rattle.wb_compose_theory_grammar.specs.Certificates.{AreCertified}
use Rattle.wb_compose_theory_grammar.specs.Cuts.{Cut}
use Rattle.wb_compose_theory_grammar.specs.Pieces.{Piece}
use Rattle.wb_compose_theory_grammar.specs.Places.{total_of}
use Rattle.wb_compose_theory_grammar.specs.UnitedWorlds.{index_of, production_sizes, united}
use Rattle.wb_compose_theory_kernels.proofs.HoleNames.{cut_is, hole_production_at_name, hole_production_number, marker_names}
use Rattle.wb_compose_theory_kernels.proofs.NameLemmas.{production_into_union, symbol_into_union}
use Rattle.wb_compose_theory_kernels.proofs.NumberLemmas.{home_names, many, marked, of_home, of_whole, whole_names, world}
use Rattle.wb_compose_theory_kernels.proofs.WorldMoves.{owner_there}
use Rattle.wb_compose_theory_kernels.specs.Lookaheads.{StandsFor, as_hole, as_itself}
use Rattle.wb_compose_theory_kernels.specs.Parts.{IsHoleProduction, cut_at, grammar_at, grammar_in, hole_production_at, into_union}
use Rattle.wb_compose_kernels.proofs.OpenedLemmas.{HasRule, hole_left, some_rule}

same_nonterminal : (a b : ℕ) → Nonterminal a ≡ Nonterminal b → a ≡ b
same_nonterminal a b e = cc

module _ (g : GrammarView) (extensible : List ℕ) (pieces : List Piece) (is : AreCertified g extensible pieces) where
  -- a nonterminal's number in the union, and its name
  name_is : (home : Home) (b : ℕ) →
      (whole_names g extensible pieces is).nonterminal ((into_union g extensible pieces home).nonterminal b) ≡
      (home_names g extensible pieces is home).nonterminal b
  name_is home b = same_nonterminal _ _ (symbol_into_union g extensible pieces is.are_pieces home (Nonterminal b) (λ h. h))

  -- a production of a certified grammar is one of the union
  pub record HasRuleThere (p b : ℕ) : Type 0 where
    pub right : List Symbol
    pub rule : IsProduction (united g extensible pieces) p b right

  pub rule_there : (home : Home) → IsListed (length pieces) home → (p b : ℕ) (w : List Symbol) →
      IsProduction (grammar_at g extensible pieces home) p b w → ¬ IsHoleProduction g extensible pieces home p →
      HasRuleThere ((into_union g extensible pieces home).production p) ((into_union g extensible pieces home).nonterminal b)
  rule_there home listed p b w rule free =
      let n = of_home g extensible pieces is home listed in
      let q : ℕ = (home_names g extensible pieces is home).production p in
      let has = owner_there (many g extensible pieces is) home listed ((world g extensible pieces is).production_owner q)
      (n.productions.production p b w rule)
      (λ owner. free (hole_production_number g extensible pieces is.are_pieces home p owner)) in
      let r = ruled (of_whole g extensible pieces is) q ((into_union g extensible pieces home).nonterminal b) has
      (n.productions.left_is p b w rule ∙ sym (name_is home b)) in
      let p_is : r.p ≡ (into_union g extensible pieces home).production p =
      (of_whole g extensible pieces is).once.production r.p ((into_union g extensible pieces home).production p)
      (sym r.is ∙ sym (production_into_union g extensible pieces is.are_pieces home p free)) in
      record {
        right = r.right;
        rule = subst (λ z. IsProduction (united g extensible pieces) z ((into_union g extensible pieces home).nonterminal b) r.right) p_is
            r.rule;
      }

  -- the same item, in the union's numbers
  pub itself_opens : (home : Home) → IsListed (length pieces) home → (own item : Item) (b : ℕ) →
      Opens (grammar_at g extensible pieces home) b own → ¬ IsHoleProduction g extensible pieces home own.production →
      item.production ≡ (into_union g extensible pieces home).production own.production → item.dot ≡ own.dot →
      Opens (united g extensible pieces) ((into_union g extensible pieces home).nonterminal b) item
  itself_opens home listed own item b (dot, w, rule) free production_is dot_is =
      let r = rule_there home listed own.production b w rule free in (
        dot_is ∙ dot,
        r.right,
        subst (λ z. IsProduction (united g extensible pieces) z ((into_union g extensible pieces home).nonterminal b) r.right)
            (sym production_is) r.rule,
      )

  -- the bridge of a marker
  bridge_opens : (home : Home) → IsListed (length pieces) home → (own item : Item) (b a e m : ℕ) (piece : Piece) →
      slice_get pieces e ≡ Some piece → piece.mark m ≡ on a → Opens (grammar_at g extensible pieces home) b own →
      own.production ≡ hole_production_at g extensible pieces home a →
      item.production ≡ (into_union g extensible pieces (of e)).production (piece.bridge m) → item.dot ≡ 0 →
      Opens (united g extensible pieces) ((into_union g extensible pieces home).nonterminal b) item
  bridge_opens home listed own item b a e m piece at on_a (dot, w, rule) own_is item_is item_dot =
      let told = marker_names g extensible pieces is.are_pieces e piece m a at on_a in
      let mark = (piece_ok g extensible pieces is.are_pieces e piece at).markers m a on_a in
      let (rest, bridge) = mark.bridge_is in
      let there = subst (λ o. IsProduction (grammar_in g extensible pieces o) (piece.bridge m) a (Terminal m ∷ rest)) (sym at)
      (lifted_production piece.grammar extensible (piece.bridge m) a (Terminal m ∷ rest) bridge) in
      let less = slice_get_within pieces e piece at in
      let r = rule_there (of e) less (piece.bridge m) a (Terminal m ∷ rest) there told.no_hole_production in
      let w' = world g extensible pieces is in
      let m' : ℕ = (home_names g extensible pieces is (of e)).terminal m in
      let ok = marked g extensible pieces is in
      let of_bridge : (home_names g extensible pieces is (of e)).nonterminal a ≡ a =
      sym ((of_home g extensible pieces is (of e) less).productions.left_is (piece.bridge m) a (Terminal m ∷ rest) there) ∙
      (ap w'.left (sym told.production) ∙ ok.bridges.bridge_left m' a told.mark) in
      let of_hole : (home_names g extensible pieces is home).nonterminal b ≡ a =
      sym ((of_home g extensible pieces is home listed).productions.left_is own.production b w rule) ∙
      (ap (λ z. w'.left ((home_names g extensible pieces is home).production z)) own_is ∙
      (ap w'.left (hole_production_at_name g extensible pieces is.are_pieces home told.place a told.at) ∙
      ok.bridges.bridge_left (w'.hole_on a) a (ok.holes.hole_mark m' a told.mark))) in
      let b_is : (into_union g extensible pieces (of e)).nonterminal a ≡ (into_union g extensible pieces home).nonterminal b =
      (of_whole g extensible pieces is).once.nonterminal _ _ (name_is (of e) a ∙ (of_bridge ∙ (sym of_hole ∙ sym (name_is home b)))) in (
        item_dot,
        r.right,
        subst (λ z. IsProduction (united g extensible pieces) z ((into_union g extensible pieces home).nonterminal b) r.right)
            (sym item_is)
            (subst (λ z. IsProduction (united g extensible pieces)
            ((into_union g extensible pieces (of e)).production (piece.bridge m)) z r.right) b_is r.rule),
      )

  -- what opens an item opens, in the union, what stands for it
  pub stands_opens : (home : Home) → IsListed (length pieces) home → (own item : Item) (b : ℕ) →
      StandsFor g extensible pieces home item own → Opens (grammar_at g extensible pieces home) b own →
      Opens (united g extensible pieces) ((into_union g extensible pieces home).nonterminal b) item
  stands_opens home listed own item b (as_itself free item_is) opens =
      itself_opens home listed own item b opens free (ap (λ (z : Item). z.production) item_is) (ap (λ (z : Item). z.dot) item_is)
  stands_opens home listed own item b (as_hole a e m piece at on_a item_is own_is) opens =
      bridge_opens home listed own item b a e m piece at on_a opens (ap (λ (z : Item). z.production) own_is)
      (ap (λ (z : Item). z.production) item_is) (ap (λ (z : Item). z.dot) item_is)

  -- the production of a hole
  pub record HasHoleRule (home : Home) (a : ℕ) : Type 0 where
    pub left : ℕ
    pub right : List Symbol
    pub rule : IsProduction (grammar_at g extensible pieces home) (hole_production_at g extensible pieces home a) left right

  pub hole_rule_there : (home : Home) → IsListed (length pieces) home → (a e m : ℕ) (piece : Piece) → slice_get pieces e ≡ Some piece →
      piece.mark m ≡ on a → HasHoleRule home a
  hole_rule_there home listed a e m piece at on_a =
      let told = marker_names g extensible pieces is.are_pieces e piece m a at on_a in
      let ok = marked g extensible pieces is in
      let n = of_home g extensible pieces is home listed in
      let m' : ℕ = (home_names g extensible pieces is (of e)).terminal m in
      let (p, left, right, rule, q_is) = n.productions.onto
      ((world g extensible pieces is).production_of ((world g extensible pieces is).hole_on a))
      (hole_rule ok (part_of home) (home_holes home) m' a told.mark) in
      let p_is : p ≡ hole_production_at g extensible pieces home a =
      n.once.production p (hole_production_at g extensible pieces home a)
      (sym q_is ∙ sym (hole_production_at_name g extensible pieces is.are_pieces home told.place a told.at)) in
      record {
        left = left;
        right = right;
        rule = subst (λ z. IsProduction (grammar_at g extensible pieces home) z left right) p_is rule;
      }

  -- which is that of a hole
  pub hole_at_production : (home : Home) (j a : ℕ) → slice_get extensible j ≡ Some a →
      IsHoleProduction g extensible pieces home (hole_production_at g extensible pieces home a)
  hole_at_production home j a at =
      let less = slice_get_within extensible (index_of extensible a) a (index_at extensible a j at) in
      (omega arith, omega (arith, less))

  -- a production of the host is one of each certified grammar, with its number, and it is of no hole
  pub host_rule : (home : Home) → IsListed (length pieces) home → (p a : ℕ) (right : List Symbol) → IsProduction g p a right →
      IsProduction (grammar_at g extensible pieces home) p a right
  host_rule of_host listed p a right rule = lifted_production g extensible p a right rule
  host_rule (of e) listed p a right rule =
      let (x, at) = at_within pieces e listed in
      let (own, is_more) = (piece_ok g extensible pieces is.are_pieces e x at).extends.productions in
      subst (λ o. IsProduction (grammar_in g extensible pieces o) p a right) (sym at)
      (lifted_production x.grammar extensible p a right
      (subst (λ z. slice_get z p ≡ Some (a, right)) (sym is_more) (append_keeps g.productions own p (a, right) rule)))

  pub host_free : (home : Home) (p : ℕ) → p < length g.productions → ¬ IsHoleProduction g extensible pieces home p
  host_free home p less (far, _) = omega (arith, less, far)

  pub host_stays : (home : Home) (p : ℕ) → p < length g.productions → (into_union g extensible pieces home).production p ≡ p
  host_stays home p less =
      ap (λ c. cond c p (cond (ltb p (length g.productions + (cut_at g extensible pieces home).productions.size))
      (p + (cut_at g extensible pieces home).productions.before)
      ((p - ((cut_at g extensible pieces home).productions.size + length extensible)) + total_of (production_sizes g extensible pieces))))
      (lt-ltb p (length g.productions) less)

  -- holes are of extensible nonterminals, which are the host's and have productions there
  pub hole_extensible : (home : Home) → IsListed (length pieces) home → (p b : ℕ) (right : List Symbol) →
      IsHoleProduction g extensible pieces home p → IsProduction (grammar_at g extensible pieces home) p b right → Contains extensible b
  hole_extensible of_host listed p b right (far, less) rule = hole_left g extensible p b right (omega (arith, far)) rule
  hole_extensible (of e) listed p b right (far, less) rule =
      let (x, at) = at_within pieces e listed in
      let size = ap (λ (c : Cut). c.productions.size) (cut_is g extensible pieces is.are_pieces e x at) in
      hole_left x.grammar extensible p b right (omega (arith, far, size))
      (subst (λ o. IsProduction (grammar_in g extensible pieces o) p b right) at rule)

  pub extensible_rule : (b : ℕ) → Contains extensible b → (b < g.nonterminals) × HasRule g b
  extensible_rule b has =
      let less = All-contains (λ a. a < g.nonterminals) extensible b is.are_pieces.within has in
      (less, some_rule g b (is.host_certified.fit.reduced.productive b less))

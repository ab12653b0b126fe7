-- The unions of a host with extensions in two orders are one grammar, in other numbers.
use Rattle.std.proofs.Common.{◌≡◌, ◌<◌, ◌+◌, ◌∙◌, ◌∷◌, [], ℕ, List, Some, length, map, slice_get, refl, sym, ap, subst}
use Rattle.std.proofs.Common.{arith}
use Rattle.std.specs.Prelude.{All}
use Rattle.std.proofs.lemmas.List.Elements.{All-head, All-tail}
use Rattle.std.proofs.lemmas.Option.{slice_get_within}
use Rattle.wb_base.specs.declared.symbol.Symbol.{Symbol}
use Rattle.wb_base.specs.declared.symbol.Symbol.TheVariants.{Terminal, Nonterminal}
use Rattle.wb_base.specs.Grammar.{GrammarView, IsSymbolBelow}
use Rattle.wb_grammar_theory.specs.Productions.{IsProduction}
use Rattle.wb_grammar_theory.proofs.ProductionLemmas.{production_below, production_once, production_within}
use Rattle.wb_lemmas.proofs.Places.{append_after, append_keeps}
use Rattle.wb_compose_theory.specs.Renamings.{Renaming, renamed}
use Rattle.wb_compose_theory_grammar.specs.Pieces.{ArePieces, Piece}
use Rattle.wb_compose_theory_grammar.specs.Places.{count_before}
use Rattle.wb_compose_theory_grammar.specs.Unions.{added_nonterminals, added_productions, added_terminals, own_productions}
use Rattle.wb_compose_theory_grammar.specs.Unions.{productions_after}
use Rattle.wb_compose_theory_grammar.specs.UnitedWorlds.{grammars_of, nonterminal_sizes, production_sizes, terminal_sizes, united}
use Rattle.wb_compose_theory_grammar.proofs.FactLemmas as fact
use Rattle.wb_compose_theory_grammar.proofs.FactLemmas.{ProductionOf, at_map, into_by, production_view, size_at, united_len, with_holes_len}
use Rattle.wb_compose_theory_grammar.proofs.BridgeLemmas.{piece_ok}
use Rattle.wb_compose_theory_grammar.proofs.ProductionLemmas.{drop_at, extension_production, own_len}
use Rattle.wb_compose_theory_grammar.proofs.RangeLemmas.{stays}
use Rattle.wb_compose_theory_order.specs.Grammars.{GrammarLeadsTo, IsUndoneBy}
use Rattle.wb_compose_theory_order.specs.Orders.{IsReordering, reordered}
use Rattle.wb_compose_theory_order.proofs.NumberLemmas.{number_back, reordering_map, to_below, to_extension, to_host}
use Rattle.wb_compose_theory_order.proofs.NumberLemmas.{to_lift, to_past}

-- one renaming after another on the numbers in range
then_is : (r s u : Renaming) (terminals nonterminals : ℕ) → ((t : ℕ) → t < terminals → r.terminal (s.terminal t) ≡ u.terminal t) →
    ((a : ℕ) → a < nonterminals → r.nonterminal (s.nonterminal a) ≡ u.nonterminal a) → (xs : List Symbol) →
    All (IsSymbolBelow terminals nonterminals) xs → map (renamed r) (map (renamed s) xs) ≡ map (renamed u) xs
then_is r s u terminals nonterminals f h [] all = refl
then_is r s u terminals nonterminals f h (Terminal t ∷ xs) all =
    let head = f t (All-head (IsSymbolBelow terminals nonterminals) (Terminal t) xs all) in
    let tail = then_is r s u terminals nonterminals f h xs (All-tail (IsSymbolBelow terminals nonterminals) (Terminal t) xs all) in
    λ z. Terminal (head z) ∷ tail z
then_is r s u terminals nonterminals f h (Nonterminal a ∷ xs) all =
    let head = h a (All-head (IsSymbolBelow terminals nonterminals) (Nonterminal a) xs all) in
    let tail = then_is r s u terminals nonterminals f h xs (All-tail (IsSymbolBelow terminals nonterminals) (Nonterminal a) xs all) in
    λ z. Nonterminal (head z) ∷ tail z

module _ (g : GrammarView) (extensible : List ℕ) (pieces : List Piece) where
  -- the host's productions are in the union
  pub host_production : (p a : ℕ) (right : List Symbol) → IsProduction g p a right → IsProduction (united g extensible pieces) p a right
  host_production p a right rule =
      append_keeps g.productions (productions_after g 0 0 (grammars_of g extensible pieces)) p (a, right) rule

  -- and so are those of each extension
  pub piece_production : (k : ℕ) (x : Piece) (i a : ℕ) (right : List Symbol) (p : ℕ) → slice_get pieces k ≡ Some x →
      IsProduction x.grammar (length g.productions + i) a right →
      p ≡ length g.productions + (count_before (production_sizes g extensible pieces) k + i) →
      IsProduction (united g extensible pieces) p ((into_by g extensible pieces k).nonterminal a)
      (map (renamed (into_by g extensible pieces k)) right)
  piece_production k x i a right p at rule is =
      ap (slice_get (united g extensible pieces).productions) is ∙
      (append_after g.productions (productions_after g 0 0 (grammars_of g extensible pieces))
      (count_before (production_sizes g extensible pieces) k + i) ∙
      extension_production g 0 0 (grammars_of g extensible pieces) k x.grammar i (a, right)
      (count_before (production_sizes g extensible pieces) k + i) (at_map (λ (z : Piece). z.grammar) pieces k x at)
      (drop_at (length g.productions) i x.grammar.productions ∙ rule) refl)

  -- an extension's production is one of so many
  pub within_own : (x : Piece) (i a : ℕ) (right : List Symbol) → IsProduction x.grammar (length g.productions + i) a right →
      i < added_productions g x.grammar
  within_own x i a right rule =
      let less = slice_get_within (own_productions g x.grammar) i (a, right)
      (drop_at (length g.productions) i x.grammar.productions ∙ rule) in
      let len = own_len g x.grammar in
      omega (arith, less, len)

-- sizes in two orders
pub sizes_reordered : (g : GrammarView) (extensible : List ℕ) (f : GrammarView → ℕ) {to from : ℕ → ℕ} {pieces others : List Piece} →
    IsReordering to from pieces others →
    IsReordering to from (map f (grammars_of g extensible pieces)) (map f (grammars_of g extensible others))
sizes_reordered g extensible f re = reordering_map f (reordering_map (λ (z : Piece). z.grammar) re)

module _ (g : GrammarView) (extensible : List ℕ) (pieces others : List Piece) (to from : ℕ → ℕ) (ok : ArePieces g extensible pieces)
    (re : IsReordering to from pieces others) where
  -- where numbers go
  abbrev pub names : Renaming
  names = reordered g extensible pieces others to

  -- numbers of an extension's grammar
  pub terminal_to : (k : ℕ) (x : Piece) (t : ℕ) → slice_get pieces k ≡ Some x → t < x.grammar.terminals →
      names.terminal ((into_by g extensible pieces k).terminal t) ≡ (into_by g extensible others (to k)).terminal t
  terminal_to k x t at less =
      let more = (piece_ok g extensible pieces ok k x at).extends.terminals in
      to_lift g.terminals (sizes_reordered g extensible (added_terminals g) re) k (added_terminals g x.grammar)
      (0 + count_before (terminal_sizes g extensible pieces) k) (0 + count_before (terminal_sizes g extensible others) (to k)) t
      (size_at g extensible pieces (added_terminals g) k x at) (omega arith) (omega arith) (omega (arith, less, more))

  pub nonterminal_to : (k : ℕ) (x : Piece) (a : ℕ) → slice_get pieces k ≡ Some x → a < x.grammar.nonterminals →
      names.nonterminal ((into_by g extensible pieces k).nonterminal a) ≡ (into_by g extensible others (to k)).nonterminal a
  nonterminal_to k x a at less =
      let more = (piece_ok g extensible pieces ok k x at).extends.nonterminals in
      to_lift g.nonterminals (sizes_reordered g extensible (added_nonterminals g) re) k (added_nonterminals g x.grammar)
      (0 + count_before (nonterminal_sizes g extensible pieces) k) (0 + count_before (nonterminal_sizes g extensible others) (to k)) a
      (size_at g extensible pieces (added_nonterminals g) k x at) (omega arith) (omega arith) (omega (arith, less, more))

  -- the host's symbols stay
  host_stays : (xs : List Symbol) → All (IsSymbolBelow g.terminals g.nonterminals) xs → map (renamed names) xs ≡ xs
  host_stays = stays names g.terminals g.nonterminals (to_host g.terminals (sizes_reordered g extensible (added_terminals g) re))
      (to_host g.nonterminals (sizes_reordered g extensible (added_nonterminals g) re))

  -- what is known of a production of the union moves
  moved : (p a b : ℕ) (right other : List Symbol) → IsProduction (united g extensible pieces) p a right →
      IsProduction (united g extensible pieces) p b other →
      IsProduction (united g extensible others) (names.production p) (names.nonterminal b) (map (renamed names) other) →
      IsProduction (united g extensible others) (names.production p) (names.nonterminal a) (map (renamed names) right)
  moved p a b right other rule known there =
      let (a_is, right_is) = production_once (united g extensible pieces) p b a other right known rule in
      subst (λ z. IsProduction (united g extensible others) (names.production p) (names.nonterminal z) (map (renamed names) right)) a_is
      (subst (λ z. IsProduction (united g extensible others) (names.production p) (names.nonterminal b) (map (renamed names) z)) right_is
      there)

  -- a production of the host
  of_host_there : (p a : ℕ) (right : List Symbol) → IsProduction g p a right →
      IsProduction (united g extensible others) (names.production p) (names.nonterminal a) (map (renamed names) right)
  of_host_there p a right rule =
      let below = production_below g p a right ok.is_grammar rule in
      let p_is = to_host (length g.productions) (sizes_reordered g extensible (added_productions g) re) p
      (production_within g p a right rule) in
      let a_is = to_host g.nonterminals (sizes_reordered g extensible (added_nonterminals g) re) a below.left in
      subst (λ z. IsProduction (united g extensible others) z (names.nonterminal a) (map (renamed names) right)) (sym p_is)
      (subst (λ z. IsProduction (united g extensible others) p z (map (renamed names) right)) (sym a_is)
      (subst (λ z. IsProduction (united g extensible others) p a z) (sym (host_stays right below.right))
      (host_production g extensible others p a right rule)))

  -- a production of an extension
  of_piece_there : (k : ℕ) (x : Piece) (i a : ℕ) (right : List Symbol) (p : ℕ) → slice_get pieces k ≡ Some x →
      IsProduction x.grammar (length g.productions + i) a right →
      p ≡ length g.productions + (count_before (production_sizes g extensible pieces) k + i) →
      IsProduction (united g extensible others) (names.production p)
      (names.nonterminal ((into_by g extensible pieces k).nonterminal a))
      (map (renamed names) (map (renamed (into_by g extensible pieces k)) right))
  of_piece_there k x i a right p at rule place =
      let below = production_below x.grammar (length g.productions + i) a right (piece_ok g extensible pieces ok k x at).is_grammar rule in
      let p_is = to_extension (length g.productions) (sizes_reordered g extensible (added_productions g) re) k
      (added_productions g x.grammar) i p (size_at g extensible pieces (added_productions g) k x at)
      (within_own g extensible pieces x i a right rule) place in
      let right_is = then_is names (into_by g extensible pieces k) (into_by g extensible others (to k)) x.grammar.terminals
      x.grammar.nonterminals (λ t less. terminal_to k x t at less) (λ b less. nonterminal_to k x b at less) right below.right in
      subst (λ z. IsProduction (united g extensible others) (names.production p) z
      (map (renamed names) (map (renamed (into_by g extensible pieces k)) right))) (sym (nonterminal_to k x a at below.left))
      (subst (λ z. IsProduction (united g extensible others) (names.production p)
      ((into_by g extensible others (to k)).nonterminal a) z) (sym right_is)
      (piece_production g extensible others (to k) x i a right (names.production p) (re.there k x at) rule p_is))

  production_there : (p a : ℕ) (right : List Symbol) → IsProduction (united g extensible pieces) p a right →
      IsProduction (united g extensible others) (names.production p) (names.nonterminal a) (map (renamed names) right)
  production_there p a right rule = go (production_view g extensible pieces p)
    where
      less : p < length (united g extensible pieces).productions
      less = production_within (united g extensible pieces) p a right rule

      go : ProductionOf g extensible pieces p →
          IsProduction (united g extensible others) (names.production p) (names.nonterminal a) (map (renamed names) right)
      go (fact.of_grammar b other is) =
          moved p a b right other rule (host_production g extensible pieces p b other is) (of_host_there p b other is)
      go (fact.of_piece k x i b other at is place) =
          moved p a ((into_by g extensible pieces k).nonterminal b) right (map (renamed (into_by g extensible pieces k)) other) rule
          (piece_production g extensible pieces k x i b other p at is place) (of_piece_there k x i b other p at is place)
      go (fact.of_hole j b at place) = absurd (omega (arith, less, place))
      go (fact.of_rest j place) =
          let len = with_holes_len g extensible pieces in
          let own = united_len g extensible pieces in
          absurd (omega (arith, less, place, len, own))

  -- the one union leads to the other
  pub union_leads : GrammarLeadsTo (reordered g extensible pieces others to) (united g extensible pieces) (united g extensible others)
  union_leads = record {
    production = production_there;
    start = to_host g.nonterminals (sizes_reordered g extensible (added_nonterminals g) re) g.start ok.is_grammar.start_below;
    end_of_text =
        let is = to_past g.terminals (sizes_reordered g extensible (added_terminals g) re) 0 (united g extensible pieces).terminals
        (omega arith) in
        is ∙ omega arith;
    top =
        let len = united_len g extensible pieces in
        let other_len = united_len g extensible others in
        let is = to_past (length g.productions) (sizes_reordered g extensible (added_productions g) re) 0
        (length (united g extensible pieces).productions) (omega (arith, len)) in
        omega (arith, is, other_len);
    terminals = to_below g.terminals (sizes_reordered g extensible (added_terminals g) re);
    nonterminals = to_below g.nonterminals (sizes_reordered g extensible (added_nonterminals g) re);
  }

-- the renamings undo each other
pub reordered_back : (g : GrammarView) (extensible : List ℕ) {pieces others : List Piece} {to from : ℕ → ℕ} →
    IsReordering to from pieces others → IsUndoneBy (reordered g extensible pieces others to) (reordered g extensible others pieces from)
reordered_back g extensible re = record {
  terminal = number_back g.terminals (sizes_reordered g extensible (added_terminals g) re);
  nonterminal = number_back g.nonterminals (sizes_reordered g extensible (added_nonterminals g) re);
  production = number_back (length g.productions) (sizes_reordered g extensible (added_productions g) re);
}

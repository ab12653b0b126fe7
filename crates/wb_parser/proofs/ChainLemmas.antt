-- Chains that are kept with their productions: longer ones, and more productions beside them.
use Rattle.std.proofs.Common.{◌≡◌, ◌<◌, ◌≤◌, ◌-◌, ◌+◌, ◌⊎◌, ℕ, zero, suc, List, [], ◌∷◌, ◌++◌, length, take, drop, refl, sym, ◌∙◌, ap, subst}
use Rattle.std.proofs.Common.{inl, inr, arith, length-append, length-drop, zero-le}
use Rattle.std.specs.Prelude.{Some, slice_get, slice_set}
use Rattle.std.proofs.lemmas.List.{drop-append-le, take-append-le, take-append-drop, take_all}
use Rattle.std.proofs.lemmas.Option.{same_Some}
use Rattle.wb_lemmas.proofs.Places.{at_push}
use Rattle.wb_base.specs.Grammar.{GrammarView}
use Rattle.wb_lookahead.specs.declared.action.Action.{Action}
use Rattle.wb_lookahead.specs.declared.action.Action.TheVariants.{Reduce}
use Rattle.wb_lookahead.specs.Contents.{TablesView, action_of, goto_of}
use Rattle.wb_scan_theory.specs.Parts.{AreTablesOf}
use Rattle.wb_parser_states.specs.declared.rules.Rule.{Rule}
use Rattle.wb_parser_states.specs.Chains.{IsChain, nothing}
use Rattle.wb_parser_states.specs.Rules.{IsRule}
use Rattle.wb_parser_states.proofs.ChainLemmas.{chain_more}
use Rattle.wb_parser_states.proofs.TableLemmas.{IsActionBelow, action_below, goto_below, zero_below}
use Rattle.wb_parser.specs.declared.chains.Start.{Start}
use Rattle.wb_parser.specs.declared.chains.Chain.{Chain}
use Rattle.wb_parser.specs.Inner.Chains.{AreChains, IsChainOf, IsLonger, IsStart, links_of}

-- the productions of a chain stay where more are listed
links_stay : (ps qs : List ℕ) (chain : Chain) → chain.first ≤ chain.end → chain.end ≤ length ps → links_of (ps ++ qs) chain ≡ links_of ps chain
links_stay ps qs chain order within =
    ap (take (chain.end - chain.first)) (drop-append-le chain.first ps qs (omega (arith, order, within)))
    ∙ take-append-le (chain.end - chain.first) (drop chain.first ps) qs (omega (arith, length-drop chain.first ps, order, within))

-- and so does a chain
pub chain_stays : (g : GrammarView) (tables : TablesView) (ps qs : List ℕ) (chain : Chain) → take (length ps) qs ≡ ps
    → IsChainOf g tables ps chain → IsChainOf g tables qs chain
chain_stays g tables ps qs chain begins is =
    let rest = drop (length ps) qs in
    let whole : ps ++ rest ≡ qs = ap (λ (xs : List ℕ). xs ++ rest) (sym begins) ∙ take-append-drop (length ps) qs in
    subst (λ (xs : List ℕ). IsChainOf g tables xs chain) whole (record {
      start = is.start;
      order = is.order;
      within = omega (arith, is.within, length-append ps rest);
      is = subst (λ (xs : List ℕ). IsChain g tables chain.start.below chain.start.terminal chain.start.state xs chain.target)
          (sym (links_stay ps rest chain is.order is.within)) is.is;
      target = is.target;
      action = is.action;
    })

pub chains_stay : (g : GrammarView) (tables : TablesView) (ps qs : List ℕ) (chains : List Chain) → take (length ps) qs ≡ ps
    → AreChains g tables ps chains → AreChains g tables qs chains
chains_stay g tables ps qs chains begins are place chain at = chain_stays g tables ps qs chain begins (are place chain at)

-- the chain of no reductions
pub chain_begun : (g : GrammarView) (tables : TablesView) (ps : List ℕ) (place : ℕ) (start : Start) (action : Action)
    → IsStart g tables start → place ≡ length ps → action ≡ action_of tables start.state start.terminal
    → IsChainOf g tables ps (record { start = start; first = place; end = place; target = start.state; action = action })
chain_begun g tables ps place start action is here action_is =
    let none : place - place ≡ 0 = omega arith in
    record {
      start = is;
      order = omega arith;
      within = omega (arith, here);
      is = subst (λ (n : ℕ). IsChain g tables start.below start.terminal start.state (take n (drop place ps)) start.state) (sym none)
          (nothing refl);
      target = is.state;
      action = action_is;
    }

-- a chain with one reduction more
pub chain_linked : (g : GrammarView) (tables : TablesView) (ps qs : List ℕ) (chain : Chain) (production target end : ℕ) (rule : Rule)
    (action : Action) → AreTablesOf g tables → IsChainOf g tables ps chain → chain.end ≡ length ps → qs ≡ ps ++ production ∷ []
    → chain.action ≡ Reduce production → IsRule g production rule → rule.width ≡ 1 → goto_of tables chain.start.below rule.left ≡ Some target
    → end ≡ chain.end + 1 → action ≡ action_of tables target chain.start.terminal
    → IsLonger g tables ps qs chain (record { start = chain.start; first = chain.first; end = end; target = target; action = action })
chain_linked g tables ps qs chain production target end rule action of is here listed act has one goes end_is action_is =
    let inside : chain.first ≤ length ps = omega (arith, is.order, here) in
    let behind : drop chain.first (ps ++ production ∷ []) ≡ drop chain.first ps ++ production ∷ [] =
    drop-append-le chain.first ps (production ∷ []) inside in
    let old : links_of ps chain ≡ drop chain.first ps =
    take_all (chain.end - chain.first) (drop chain.first ps) (omega (arith, length-drop chain.first ps, here)) in
    let new : take (end - chain.first) (drop chain.first qs) ≡ links_of ps chain ++ production ∷ [] =
    ap (λ (xs : List ℕ). take (end - chain.first) (drop chain.first xs)) listed ∙ ap (take (end - chain.first)) behind
    ∙ take_all (end - chain.first) (drop chain.first ps ++ production ∷ [])
    (omega (arith, length-append (drop chain.first ps) (production ∷ []), length-drop chain.first ps, here, end_is, inside))
    ∙ ap (λ (xs : List ℕ). xs ++ production ∷ []) (sym old) in
    record {
      start = refl;
      is = record {
        start = is.start;
        order = omega (arith, is.order, end_is);
        within = omega (arith, ap length listed, length-append ps (production ∷ []), end_is, here);
        is = subst (λ (xs : List ℕ). IsChain g tables chain.start.below chain.start.terminal chain.start.state xs target) (sym new)
            (chain_more production target rule is.is (sym is.action ∙ act) has one goes);
        target = goto_below of chain.start.below rule.left target is.start.below has.below goes;
        action = action_is;
      };
      end = omega (arith, ap length listed, length-append ps (production ∷ []), end_is, here);
      begins = ap (take (length ps)) listed ∙ take-append-le (length ps) ps (production ∷ []) (omega arith) ∙ take_all (length ps) ps (omega arith);
    }

-- a production by which a chain goes on is one of the grammar
pub chain_production : (g : GrammarView) (tables : TablesView) (ps : List ℕ) (chain : Chain) (production : ℕ) → AreTablesOf g tables
    → IsChainOf g tables ps chain → chain.action ≡ Reduce production → production < length g.productions
chain_production g tables ps chain production of is act =
    subst (IsActionBelow g tables) (sym is.action ∙ act) (action_below of chain.target chain.start.terminal is.target is.start.terminal)

-- none of no chains
pub no_chain : (g : GrammarView) (tables : TablesView) → AreChains g tables [] []
no_chain g tables place chain at = absurd cc

-- one chain more
pub chains_more : (g : GrammarView) (tables : TablesView) (ps : List ℕ) (chains : List Chain) (chain : Chain) → IsChainOf g tables ps chain
    → AreChains g tables ps chains → AreChains g tables ps (chains ++ chain ∷ [])
chains_more g tables ps chains chain is before place other at = elim (at_push chains chain other place at) [
  | inl old ↦ before place other old
  | inr (last, same) ↦ subst (IsChainOf g tables ps) same is
]

-- what is at a place after another was written: what was written, or what was there
at_written : (xs : List Chain) (p : ℕ) (x : Chain) (q : ℕ) (y : Chain) → slice_get (slice_set xs p x) q ≡ Some y →
    (y ≡ x) ⊎ (slice_get xs q ≡ Some y)
at_written [] p x q y at = inr at
at_written (z ∷ xs) zero x zero y at = inl (sym (same_Some x y at))
at_written (z ∷ xs) zero x (suc q) y at = inr at
at_written (z ∷ xs) (suc p) x zero y at = inr at
at_written (z ∷ xs) (suc p) x (suc q) y at = at_written xs p x q y at

-- one chain in the place of another
pub chains_set : (g : GrammarView) (tables : TablesView) (ps : List ℕ) (chains : List Chain) (place : ℕ) (chain : Chain)
    → IsChainOf g tables ps chain → AreChains g tables ps chains → AreChains g tables ps (slice_set chains place chain)
chains_set g tables ps chains place chain is before k other at = elim (at_written chains place chain k other at) [
  | inl new ↦ subst (IsChainOf g tables ps) (sym new) is
  | inr old ↦ before k other old
]

pub zero_start : (g : GrammarView) (tables : TablesView) → AreTablesOf g tables →
    IsStart g tables (record { below = 0; state = 0; terminal = 0 })
zero_start g tables of = record { below = zero_below of; state = zero_below of; terminal = zero-le }

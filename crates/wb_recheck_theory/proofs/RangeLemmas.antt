-- What follows from an entry whose numbers are in range has its numbers in range.
use Rattle.std.proofs.Common.{◌≡◌, ℕ, ◌+◌, ◌<◌, ◌≤◌, ◌-◌, suc, List, [], ◌∷◌, ◌++◌, length, drop, sym, ap, subst, arith}
use Rattle.std.specs.Prelude.{All}
use Rattle.std.proofs.lemmas.List.{length-drop}
use Rattle.std.proofs.lemmas.List.Elements.{All-nil, All-cons, All-head, All-tail, All-append, All-same}
use Rattle.wb_lemmas.proofs.Elements.{all_weaker}
use Rattle.wb_base.specs.declared.symbol.Symbol.{Symbol}
use Rattle.wb_base.specs.declared.symbol.Symbol.TheVariants.{Terminal, Nonterminal}
use Rattle.wb_base.specs.Grammar.{GrammarView, IsSymbolBelow, IsGrammar}
use Rattle.wb_grammar_theory.specs.declared.item.Item.{Item}
use Rattle.wb_grammar_theory.specs.Productions.{right_of, end_of}
use Rattle.wb_grammar_theory.specs.Derives.{Derives, done, keep, expand, IsFirst}
use Rattle.wb_grammar_theory.specs.Items.{after_dot}
use Rattle.wb_grammar_theory.proofs.LiveLemmas.{after_below}
use Rattle.wb_grammar_theory.proofs.ProductionLemmas.{production_within, production_below}
use Rattle.wb_recheck_theory.specs.declared.line.Line.{Line}
use Rattle.wb_recheck_theory.specs.declared.entry.Entry.{Entry}
use Rattle.wb_recheck_theory.specs.Entries.{IsFollowed, opens, moves_on, IsEntryInRange}

-- a symbol of the grammar, or the end
abbrev IsBelowEnd : GrammarView → Symbol → Type 0
IsBelowEnd g x = IsSymbolBelow (suc g.terminals) g.nonterminals x

below_end : (g : GrammarView) (x : Symbol) → IsSymbolBelow g.terminals g.nonterminals x → IsBelowEnd g x
below_end g (Terminal t) lt = omega (arith, lt)
below_end g (Nonterminal a) lt = lt

-- what symbols in range derive is in range
derived_below : {g : GrammarView} → IsGrammar g → {w v : List Symbol} → Derives g w v → All (IsBelowEnd g) w → All (IsBelowEnd g) v
derived_below ok done all = all
derived_below {g} ok (keep x {w} {v} r) all =
    All-cons (IsBelowEnd g) x v (All-head (IsBelowEnd g) x w all) (derived_below ok r (All-tail (IsBelowEnd g) x w all))
derived_below {g} ok (expand p a right u v {w} {x} rule r s is) all =
    let of_right = all_weaker (IsSymbolBelow g.terminals g.nonterminals) (IsBelowEnd g) right (below_end g)
    (production_below g p a right ok rule).right in
    let of_rest = All-tail (IsBelowEnd g) (Nonterminal a) w all in
    All-same (IsBelowEnd g) x (u ++ v) is (All-append (IsBelowEnd g) u v (derived_below ok r of_right) (derived_below ok s of_rest))

-- what begins what comes after a symbol after the dot, with a terminal after that
pub first_below : (g : GrammarView) → IsGrammar g → (item : Item) (x : Symbol) (rest : List Symbol) (t u : ℕ) →
    after_dot g item ≡ x ∷ rest → t ≤ end_of g → IsFirst g (rest ++ Terminal t ∷ []) u → u ≤ end_of g
first_below g ok item x rest t u is le (v, r) =
    let after = all_weaker (IsSymbolBelow g.terminals g.nonterminals) (IsBelowEnd g) (after_dot g item) (below_end g)
    (after_below g ok item) in
    let of_rest = All-tail (IsBelowEnd g) x rest (All-same (IsBelowEnd g) (x ∷ rest) (after_dot g item) (sym is) after) in
    let below : t < suc g.terminals = omega (arith, le) in
    let of_end = All-cons (IsBelowEnd g) (Terminal t) [] below (All-nil (IsBelowEnd g)) in
    let all = derived_below ok r (All-append (IsBelowEnd g) rest (Terminal t ∷ []) of_rest of_end) in
    let lt : u < suc g.terminals = All-head (IsBelowEnd g) (Terminal u) v all in
    omega (arith, lt)

-- a dot with a symbol after it isn't at the right end
dot_moves : (g : GrammarView) (item : Item) (x : Symbol) (rest : List Symbol) → after_dot g item ≡ x ∷ rest →
    item.dot + 1 ≤ length (right_of g item.production)
dot_moves g item x rest is =
    let long : length (drop item.dot (right_of g item.production)) ≡ length (x ∷ rest) = ap length is in
    let left : length (drop item.dot (right_of g item.production)) ≡ length (right_of g item.production) - item.dot =
    length-drop item.dot (right_of g item.production) in
    omega (arith, long, left)

-- what follows from an entry in range is in range
pub followed_in_range : {g : GrammarView} {lines : List Line} → IsGrammar g → (source e : Entry) → IsEntryInRange g lines source →
    IsFollowed g lines source.kernel source.item source.terminal e.kernel e.item e.terminal → IsEntryInRange g lines e
followed_in_range {g} ok source e h (opens b rest q right is rule first same is_item) =
    let production : e.item.production ≡ q = ap (λ (i : Item). i.production) is_item in
    let dot : e.item.dot ≡ 0 = ap (λ (i : Item). i.dot) is_item in
    let within = production_within g q b right rule in
    let kernel = h.kernel in
    record {
      kernel = omega (arith, kernel, same);
      production = omega (arith, production, within);
      dot = omega (arith, dot);
      terminal = first_below g ok source.item (Nonterminal b) rest source.terminal e.terminal is h.terminal first;
    }
followed_in_range {g} ok source e h (moves_on x rest is lt is_move is_item same) =
    let production : e.item.production ≡ source.item.production = ap (λ (i : Item). i.production) is_item in
    let dot : e.item.dot ≡ source.item.dot + 1 = ap (λ (i : Item). i.dot) is_item in
    let before = h.production in
    let terminal = h.terminal in
    record {
      kernel = lt;
      production = omega (arith, production, before);
      dot = subst (λ n. n ≤ length (right_of g e.item.production)) (sym dot)
          (subst (λ p. source.item.dot + 1 ≤ length (right_of g p)) (sym production) (dot_moves g source.item x rest is));
      terminal = omega (arith, terminal, same);
    }

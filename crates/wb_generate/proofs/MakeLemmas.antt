-- Making leaves: one step after another leads to what the form becomes, and what it becomes are the leaves of trees.
use Rattle.std.proofs.Common.{◌≡◌, ℕ, ◌+◌, ◌-◌, zero, suc, ◌<◌, ◌≤◌, List, [], ◌∷◌, ◌++◌, length, get_or, refl, sym, ◌∙◌, ap, subst}
use Rattle.std.proofs.Common.{inl, inr, arith, append_assoc}
use Rattle.std.specs.Prelude.{All, Option, slice_index}
use Rattle.wb_regex.specs.Tree.{Tree}
use Rattle.std.proofs.lemmas.List.{append-nil}
use Rattle.std.proofs.lemmas.Option.{get_or_from_slice_get, slice_get_within}
use Rattle.std.proofs.lemmas.List.Elements.{All-head, All-tail, All-append, All-get_or}
use Rattle.wb_base.specs.declared.symbol.Symbol.{Symbol}
use Rattle.wb_base.specs.declared.symbol.Symbol.TheVariants.{Terminal, Nonterminal}
use Rattle.wb_base.specs.Grammar.{GrammarView, IsSymbolBelow, IsProductionBelow, IsGrammar}
use Rattle.wb_grammar_theory.specs.Productions.{IsProduction}
use Rattle.wb_grammar_theory.specs.Trees.{Forest, nothing, leaf, node, symbols, leaves, IsDerived}
use Rattle.wb_scan_theory.specs.Bounds.{count}
use Rattle.wb_scan_theory.specs.Machine.{joined}
use Rattle.wb_scan_theory.specs.Readings.{terminals_of}
use Rattle.wb_scan_theory.proofs.BackLemmas.{parts_of}
use Rattle.wb_scan_theory.proofs.ForestLemmas.{symbols_joined, derived_joined, derived_left, derived_right, terminals_joined}
use Rattle.wb_scan_theory.proofs.TreeBounds.{count_joined}
use Rattle.wb_generate.specs.Counts.{HasTree, AreLeast, total}
use Rattle.wb_generate.specs.Draws.{draw, upper, IsChosen}
use Rattle.wb_generate.specs.Making.{Makes, over, shown, removed, replaced}
use Rattle.wb_generate.specs.Texts.{IsWritten}
use Rattle.wb_generate.specs.Outcomes.{IsSentence, HasNoSentence}
use Rattle.wb_generate.specs.Inner.States.{State, before, IsFit, Leads, GoesOn}
use Rattle.wb_generate.proofs.CountLemmas.{total_append}
use Rattle.wb_generate.proofs.ChoiceLemmas.{chosen_rule}

-- the terminals of leaves from left to right
abbrev pub terminals_in : Forest → List ℕ
terminals_in nothing = []
terminals_in (leaf t l r) = t ∷ terminals_in r
terminals_in (node p a k r) = terminals_in k ++ terminals_in r

pub terminals_are : (prefix : List Symbol) (f : Forest) → terminals_of (leaves prefix f) ≡ terminals_in f
terminals_are prefix nothing = refl
terminals_are prefix (leaf t l r) = ap (λ z. t ∷ z) (terminals_are (prefix ++ Terminal t ∷ []) r)
terminals_are prefix (node p a k r) =
    terminals_joined (leaves prefix k) (leaves (prefix ++ Nonterminal a ∷ []) r)
    ∙ ap (λ z. z ++ terminals_of (leaves (prefix ++ Nonterminal a ∷ []) r)) (terminals_are prefix k)
    ∙ ap (λ z. terminals_in k ++ z) (terminals_are (prefix ++ Nonterminal a ∷ []) r)

in_joined : (a b : Forest) → terminals_in (joined a b) ≡ terminals_in a ++ terminals_in b
in_joined nothing b = refl
in_joined (leaf t l r) b = ap (λ z. t ∷ z) (in_joined r b)
in_joined (node p a k r) b =
    ap (λ z. terminals_in k ++ z) (in_joined r b) ∙ sym (append_assoc (terminals_in k) (terminals_in r) (terminals_in b))

length_append : (a b : List ℕ) → length (a ++ b) ≡ length a + length b
length_append [] b = omega arith
length_append (x ∷ a) b = (let i : length (a ++ b) ≡ length a + length b = length_append a b in omega arith)

pub count_is : (f : Forest) → count f ≡ length (terminals_in f)
count_is nothing = refl
count_is (leaf t l r) = (let i : count r ≡ length (terminals_in r) = count_is r in omega arith)
count_is (node p a k r) =
    let i : count k ≡ length (terminals_in k) = count_is k in
    let j : count r ≡ length (terminals_in r) = count_is r in
    let h : length (terminals_in k ++ terminals_in r) ≡ length (terminals_in k) + length (terminals_in r) =
    length_append (terminals_in k) (terminals_in r) in
    omega arith

-- trees of the symbols with these leaves, which aren't too many
pub record Comes (g : GrammarView) (w : List Symbol) (made : List ℕ) (most : ℕ) : Type 0 where
  pub forest : Forest
  pub derived : IsDerived g forest
  pub roots : symbols forest ≡ w
  pub is : terminals_in forest ≡ made
  pub few : count forest ≤ most

no_terminals : (f : Forest) → count f ≡ 0 → terminals_in f ≡ []
no_terminals f e = nil (terminals_in f) (sym (count_is f) ∙ e)
  where
    nil : (w : List ℕ) → length w ≡ 0 → w ≡ []
    nil [] h = refl
    nil (x ∷ w) h = absurd (omega arith)

-- a tree without leaves before the others
comes_removed : (g : GrammarView) (a : ℕ) (w : List Symbol) (made : List ℕ) (most n : ℕ) → HasTree g a n → n ≡ 0 → Comes g w made most →
    Comes g (Nonterminal a ∷ w) made most
comes_removed g a w made most n t e c =
    let none : count t.tree ≡ 0 = t.many ∙ e in
    record {
      forest = joined t.tree c.forest;
      derived = derived_joined g t.tree c.forest t.is.derived c.derived;
      roots = symbols_joined t.tree c.forest ∙ ap (λ z. z ++ symbols c.forest) t.is.root ∙ ap (λ z. Nonterminal a ∷ z) c.roots;
      is = in_joined t.tree c.forest ∙ ap (λ z. z ++ terminals_in c.forest) (no_terminals t.tree none) ∙ c.is;
      few = (let h : count (joined t.tree c.forest) ≡ count t.tree + count c.forest = count_joined t.tree c.forest in
          let few : count c.forest ≤ most = c.few in omega arith);
    }

-- a node over the first trees
comes_replaced : (g : GrammarView) (p a : ℕ) (right w : List Symbol) (made : List ℕ) (most : ℕ) → IsProduction g p a right →
    Comes g (right ++ w) made most → Comes g (Nonterminal a ∷ w) made most
comes_replaced g p a right w made most rule c =
    let parts = parts_of c.forest right w c.roots in
    let split : IsDerived g (joined parts.left parts.right) = subst (λ z. IsDerived g z) parts.is c.derived in
    let e : terminals_in c.forest ≡ terminals_in parts.left ++ terminals_in parts.right =
    ap terminals_in parts.is ∙ in_joined parts.left parts.right in
    let h : count c.forest ≡ count parts.left + count parts.right = ap count parts.is ∙ count_joined parts.left parts.right in
    let few : count c.forest ≤ most = c.few in
    record {
      forest = node p a parts.left parts.right;
      derived = (
        subst (IsProduction g p a) (sym parts.left_is) rule,
        derived_left g parts.left parts.right split,
        derived_right g parts.left parts.right split,
      );
      roots = ap (λ z. Nonterminal a ∷ z) parts.right_is;
      is = sym e ∙ c.is;
      few = omega arith;
    }

comes_more : (g : GrammarView) (w : List Symbol) (made : List ℕ) (most more : ℕ) → most ≤ more → Comes g w made most → Comes g w made more
comes_more g w made most more le c =
    let few : count c.forest ≤ most = c.few in
    record { forest = c.forest; derived = c.derived; roots = c.roots; is = c.is; few = omega arith }

-- the symbols of a production are the grammar's
pub rule_known : (g : GrammarView) (p a : ℕ) (right : List Symbol) → IsGrammar g → IsProduction g p a right →
    All (IsSymbolBelow g.terminals g.nonterminals) right
rule_known g p a right is rule =
    let lt = slice_get_within g.productions p (a, right) rule in
    let e = get_or_from_slice_get g.productions p (a, right) (a, right) rule in
    let below = All-get_or (IsProductionBelow g.terminals g.nonterminals) g.productions p (a, right) lt is.productions_below in
    (subst (IsProductionBelow g.terminals g.nonterminals) e below).right

-- what a form becomes are the leaves of its trees
pub comes : (g : GrammarView) (limit : ℕ) (counts : List ℕ) → AreLeast g limit counts → 0 < limit → IsGrammar g → {w : List Symbol}
    {spare x : ℕ} {made : List ℕ} → Makes g counts w spare x made → All (IsSymbolBelow g.terminals g.nonterminals) w →
    Comes g w made (spare + total counts w)
comes g limit counts least pos is (over spare x) known =
    record { forest = nothing; derived = tt; roots = refl; is = refl; few = omega arith }
comes g limit counts least pos is (shown t {form} {spare} {x} {made} m) known =
    let c = comes g limit counts least pos is m (All-tail (IsSymbolBelow g.terminals g.nonterminals) (Terminal t) form known) in
    let few : count c.forest ≤ spare + total counts form = c.few in
    record {
      forest = leaf t [] c.forest;
      derived = c.derived;
      roots = ap (λ z. Terminal t ∷ z) c.roots;
      is = ap (λ z. t ∷ z) c.is;
      few = omega arith;
    }
comes g limit counts least pos is (removed a {form} {spare} {x} {made} none m) known =
    let c = comes g limit counts least pos is m (All-tail (IsSymbolBelow g.terminals g.nonterminals) (Nonterminal a) form known) in
    let lt : a < g.nonterminals = All-head (IsSymbolBelow g.terminals g.nonterminals) (Nonterminal a) form known in
    elim (least.each a lt).reached [
      | inl e ↦ absurd (omega arith)
      | inr t ↦ comes_more g (Nonterminal a ∷ form) made (spare + total counts form) (spare + total counts (Nonterminal a ∷ form)) (omega
          arith)
          (comes_removed g a form made (spare + total counts form) (slice_index counts a) t (omega arith) c)
    ]
comes g limit counts least pos is (replaced a right {form} {spare} {x} {made} some chosen m) known =
    let rule = chosen_rule g counts a spare (upper (draw x)) right chosen in
    let rest = All-tail (IsSymbolBelow g.terminals g.nonterminals) (Nonterminal a) form known in
    let all = All-append (IsSymbolBelow g.terminals g.nonterminals) right form (rule_known g rule.0 a right is rule.1) rest in
    let c = comes g limit counts least pos is m all in
    let few : total counts right ≤ spare + slice_index counts a = rule.2 in
    let e : total counts (right ++ form) ≡ total counts right + total counts form = total_append counts right form in
    comes_more g (Nonterminal a ∷ form) made (spare - (total counts right - slice_index counts a) + total counts (right ++ form))
    (spare + total counts (Nonterminal a ∷ form)) (omega arith) (comes_replaced g rule.0 a right form made _ rule.1 c)

-- steps
pub leads_none : (g : GrammarView) (counts : List ℕ) (s : State) → Leads g counts s s
leads_none g counts s = record { more = []; made = sym (append-nil s.made); makes = λ rest m. m }

pub leads_on : (g : GrammarView) (counts : List ℕ) (s t u : State) → Leads g counts s t → Leads g counts t u → Leads g counts s u
leads_on g counts s t u one two = record {
  more = one.more ++ two.more;
  made = two.made ∙ ap (λ z. z ++ two.more) one.made ∙ append_assoc s.made one.more two.more;
  makes = λ rest m. subst (Makes g counts s.form s.spare s.number) (sym (append_assoc one.more two.more rest))
      (one.makes (two.more ++ rest) (two.makes rest m));
}

-- a terminal is a leaf
pub goes_shown : (g : GrammarView) (counts : List ℕ) (most : ℕ) (s u : State) (t : ℕ) → IsFit g counts most s →
    s.form ≡ Terminal t ∷ u.form →
    u.spare ≡ s.spare → u.number ≡ s.number → u.made ≡ s.made ++ t ∷ [] → GoesOn g counts most s u
goes_shown g counts most s u t fit form spare number made =
    let known : All (IsSymbolBelow g.terminals g.nonterminals) (Terminal t ∷ u.form) =
    subst (All (IsSymbolBelow g.terminals g.nonterminals)) form fit.known in
    let e : total counts s.form ≡ 1 + total counts u.form = ap (total counts) form in
    let few : s.spare + total counts s.form ≤ most = fit.few in
    record {
      fit = record { known = All-tail (IsSymbolBelow g.terminals g.nonterminals) (Terminal t) u.form known; few = omega arith };
      leads = record {
        more = t ∷ [];
        made = made;
        makes = λ rest m.
            subst (λ z. Makes g counts z s.spare s.number (t ∷ rest)) (sym form)
            (shown t (subst (λ z. Makes g counts u.form s.spare z rest) number (subst (λ z. Makes g counts u.form z u.number rest) spare
            m)));
      };
    }

-- a nonterminal of which no leaf may come is removed
pub goes_removed : (g : GrammarView) (counts : List ℕ) (most : ℕ) (a : ℕ) (s : State) → IsFit g counts most (before (Nonterminal a) s) →
    s.spare + slice_index counts a ≡ 0 → GoesOn g counts most (before (Nonterminal a) s) s
goes_removed g counts most a s fit none =
    let few : s.spare + (slice_index counts a + total counts s.form) ≤ most = fit.few in
    record {
      fit = record { known = All-tail (IsSymbolBelow g.terminals g.nonterminals) (Nonterminal a) s.form fit.known; few = omega arith };
      leads = record { more = []; made = sym (append-nil s.made); makes = λ rest m. removed a none m };
    }

-- another is replaced by the right side that the next draw chooses
pub goes_replaced : (g : GrammarView) (counts : List ℕ) (most : ℕ) (a : ℕ) (right : List Symbol) (s u : State) →
    IsFit g counts most (before (Nonterminal a) s) → All (IsSymbolBelow g.terminals g.nonterminals) right → 0 < s.spare + slice_index counts a →
    IsChosen g counts a s.spare (upper (draw s.number)) right →
    u.form ≡ right ++ s.form → u.spare ≡ s.spare - (total counts right - slice_index counts a) → u.number ≡ draw s.number →
    u.made ≡ s.made →
    GoesOn g counts most (before (Nonterminal a) s) u
goes_replaced g counts most a right s u fit known some chosen form spare number made =
    let few : s.spare + (slice_index counts a + total counts s.form) ≤ most = fit.few in
    let rule = chosen_rule g counts a s.spare (upper (draw s.number)) right chosen in
    let low : total counts right ≤ s.spare + slice_index counts a = rule.2 in
    let rest = All-tail (IsSymbolBelow g.terminals g.nonterminals) (Nonterminal a) s.form fit.known in
    let all = All-append (IsSymbolBelow g.terminals g.nonterminals) right s.form known rest in
    let e : total counts u.form ≡ total counts right + total counts s.form = ap (total counts) form ∙ total_append counts right s.form in
    record {
      fit = record { known = subst (All (IsSymbolBelow g.terminals g.nonterminals)) (sym form) all; few = omega arith };
      leads = record {
        more = [];
        made = made ∙ sym (append-nil s.made);
        makes = λ rest m. replaced a right some chosen
            (subst (λ z. Makes g counts z (s.spare - (total counts right - slice_index counts a)) (draw s.number) rest) form
            (subst (λ z. Makes g counts u.form z (draw s.number) rest) spare (subst (λ z. Makes g counts u.form u.spare z rest) number m)));
      };
    }

-- the end, where nothing is left
pub makes_all : (g : GrammarView) (counts : List ℕ) (s u : State) → Leads g counts s u → s.made ≡ [] → u.form ≡ [] →
    Makes g counts s.form s.spare s.number u.made
makes_all g counts s u leads start end =
    let last : Makes g counts u.form u.spare u.number [] = subst (λ z. Makes g counts z u.spare u.number []) (sym end) (over u.spare
    u.number) in
    let e : leads.more ++ [] ≡ u.made = append-nil leads.more ∙ sym (leads.made ∙ ap (λ z. z ++ leads.more) start) in
    subst (Makes g counts s.form s.spare s.number) e (leads.makes [] last)

one_known : (P : Symbol → Type 0) (x : Symbol) → P x → All P (x ∷ [])
one_known P x p = λ k d lt. at_first k d lt
  where
    at_first : (k : ℕ) (d : Symbol) → k < 1 → P (get_or (x ∷ []) k d)
    at_first zero d lt = p
    at_first (suc k) d lt = absurd (omega arith)

-- what a call answers
pub sentence_of : (g : GrammarView) (expressions : List Tree) (layout : Option ℕ) (number size : ℕ) (text made counts : List ℕ) (many : ℕ)
    → IsGrammar g →
    AreLeast g 100001 counts → slice_index counts g.start ≤ size →
    Makes g counts (Nonterminal g.start ∷ []) (size - slice_index counts g.start) number made → IsWritten expressions layout made text →
    many ≡ length made → IsSentence g expressions layout number size text many
sentence_of g expressions layout number size text made counts many is least enough makes written long =
    let known : All (IsSymbolBelow g.terminals g.nonterminals) (Nonterminal g.start ∷ []) =
    one_known (IsSymbolBelow g.terminals g.nonterminals) (Nonterminal g.start) is.start_below in
    let c = comes g 100001 counts least (omega arith) is makes known in
    let few : count c.forest ≤ size - slice_index counts g.start + (slice_index counts g.start + 0) = c.few in
    let e : length (terminals_in c.forest) ≡ length made = ap length c.is in
    let h : count c.forest ≡ length (terminals_in c.forest) = count_is c.forest in
    record {
      made = made;
      is_made = record { counts = counts; least = least; enough = enough; makes = makes };
      written = written;
      tree = c.forest;
      derived = record { derived = c.derived; root = c.roots };
      of_tree = terminals_are [] c.forest ∙ c.is;
      length_is = long;
      few = omega arith;
    }

pub no_sentence_of : (g : GrammarView) (size : ℕ) (counts : List ℕ) → IsGrammar g → AreLeast g 100001 counts →
    size < slice_index counts g.start →
    HasNoSentence g size (slice_index counts g.start)
no_sentence_of g size counts is least above =
    let l = least.each g.start is.start_below in
    record {
      each = λ tree d. (let h : slice_index counts g.start ≤ count tree = l.lower tree d in omega arith);
      least = l;
    }

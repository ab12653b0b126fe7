-- The steps of the machine.
use Rattle.std.proofs.Common.{List, [], ap, append_assoc, refl, subst, sym, ℕ, ◌++◌, ◌∙◌, ◌∷◌, ◌≡◌}
use Rattle.wb_base.specs.Grammar.{GrammarView}
use Rattle.wb_base.specs.declared.symbol.Symbol.{Symbol}
use Rattle.wb_base.specs.declared.symbol.Symbol.TheVariants.{Nonterminal, Terminal}
use Rattle.wb_grammar_theory.specs.Items.{advance, move, start, start_item}
use Rattle.wb_grammar_theory.specs.Lookaheads.{CanReduce, CanShift, HasNoConflict}
use Rattle.wb_grammar_theory.specs.Productions.{IsProduction, end_of, top_of}
use Rattle.wb_grammar_theory.specs.Trees.{Forest, IsDerived, Leaf, leaf, leaves, node, nothing, symbols}
use Rattle.wb_scan_theory.proofs.AgreeLemmas.{no_shift, not_top, one_below, one_reduction, one_rule}
use Rattle.wb_scan_theory.proofs.BackLemmas.{Reduced, whole}
use Rattle.wb_scan_theory.proofs.FollowLemmas.{tree_accepted}
use Rattle.wb_scan_theory.proofs.ForestLemmas.{append_nil, derived_joined, derived_left, derived_right, leaves_joined, symbols_joined}
use Rattle.wb_scan_theory.proofs.ForestLemmas.{terminals_joined}
use Rattle.wb_scan_theory.proofs.UniqueLemmas.{elsewhere, one_gift}
use Rattle.wb_scan_theory.specs.Inner.Runs.{HasTrees, IsOne}
use Rattle.wb_scan_theory.specs.Machine.{Accepts, Follows, Keeps, Passes, accept, ahead, joined, reduce, shift}
use Rattle.wb_scan_theory.specs.Readings.{AreOnText, Gives, IsStopOn, IsTreeOn, Scanner, StopsFor, terminals_of}
use Rattle.wb_scan_theory.specs.Tokens.{Next, missing, over, token}
use Rattle.wb_scan_theory.specs.declared.stop_kind.StopKind.{StopKind}
use Rattle.wb_scan_theory.specs.declared.stop_kind.StopKind.TheVariants.{NoToken, Unexpected}

-- leaves of a stack after a step
pub leaves_reduced : (prefix : List Symbol) (below children : Forest) (p a : ℕ) →
    leaves prefix (joined below (node p a children nothing)) ≡ leaves prefix (joined below children)
leaves_reduced prefix below children p a =
    leaves_joined prefix below (node p a children nothing)
    ∙ ap (λ z. leaves prefix below ++ z) (append_nil (leaves (prefix ++ symbols below) children))
    ∙ sym (leaves_joined prefix below children)

abbrev pub leaf_of : Forest → ℕ → List ℕ → Leaf
leaf_of stack t lexeme = record { context = symbols stack; terminal = t; text = lexeme }

pub leaves_shifted : (stack : Forest) (t : ℕ) (lexeme : List ℕ) →
    leaves [] (joined stack (leaf t lexeme nothing)) ≡ leaves [] stack ++ record {
      context = symbols stack;
      terminal = t;
      text =
          lexeme;
    } ∷ []
leaves_shifted stack t lexeme = leaves_joined [] stack (leaf t lexeme nothing)

on_text_more : (next : Scanner) (xs : List Leaf) (h : List Symbol) (at : ℕ) (x : Leaf) (a : List Symbol) (i begin after : ℕ) →
    AreOnText next h at xs a i → next a i (token begin x.terminal x.text after)
    → AreOnText next h at (xs ++ x ∷ []) (x.context ++ Terminal x.terminal ∷ []) after
on_text_more next [] h at x a i begin after (p, q) e =
    (begin, after, elsewhere next a h i at (token begin x.terminal x.text after) (sym p) (sym q) e, (refl, refl))
on_text_more next (y ∷ xs) h at x a i begin after (b, f, is, on) e =
    (b, f, is, on_text_more next xs (y.context ++ Terminal y.terminal ∷ []) f x a i begin after on e)

-- the beginning
no_read : (read : List Leaf) → terminals_of read ≡ [] → read ≡ []
no_read [] e = refl
no_read (x ∷ read) e = cc

pub first_follows : (g : GrammarView) (u : ℕ) → Follows g nothing u
first_follows g u tree read input is e r n =
    let h : leaves [] tree ≡ input = e ∙ ap (λ z. z ++ input) (no_read read r) in
    record { through = nothing; same = refl; goes_on = subst (λ z. Accepts g nothing z tree) h (tree_accepted g tree is) }

pub first_keeps : (g : GrammarView) (next : Scanner) → Keeps g next nothing [] 0
first_keeps g next = record {
  derived = tt;
  is_prefix = (start_item g, end_of g, start);
  on_text = (refl, refl);
  follows = λ s u place is gives. first_follows g u;
}

-- a reduction
after_reduce : (g : GrammarView) → HasNoConflict g → (stack : Forest) (p u a : ℕ) (below children : Forest) →
    stack ≡ joined below children → IsProduction g p a (symbols children) → CanReduce g (symbols stack) p u
    → {through tree : Forest} {input : List Leaf} → Accepts g through input tree → symbols through ≡ symbols stack →
    ahead (end_of g) input ≡ u → Passes g (joined below (node p a children nothing)) input tree
after_reduce g free stack p u a below children is rule can (accept {stack = through} c) same n =
    absurd (not_top g p a (symbols children) rule
    (one_reduction g free (symbols through) (symbols stack) (end_of g) u (top_of g) p same n c can))
after_reduce g free stack p u a below children is rule can (shift x {stack = through} c e r) same n =
    absurd (no_shift g free (symbols through) (symbols stack) x.terminal u p same n c can)
after_reduce g free stack p u a below children is rule can (reduce q b below' k' {stack = through} {xs = input} is' rule' can' m) same n =
    let one = one_reduction g free (symbols through) (symbols stack) (ahead (end_of g) input) u q p same n can' can in
    let rules = one_rule g q p b a (symbols k') (symbols children) one rule' rule in
    let lower : symbols below' ≡ symbols below = one_below below' k' below children (sym (ap symbols is') ∙ same ∙ ap symbols is) rules.1 in
    record {
      through = joined below' (node q b k' nothing);
      same = symbols_joined below' (node q b k' nothing) ∙ ap (λ z. z ++ Nonterminal b ∷ []) lower
          ∙ ap (λ z. symbols below ++ Nonterminal z ∷ []) rules.0 ∙ sym (symbols_joined below (node p a children nothing));
      goes_on = m;
    }

pub reduce_follows : (g : GrammarView) → HasNoConflict g → (stack : Forest) (p u : ℕ) → CanReduce g (symbols stack) p u →
    (r : Reduced g stack p) → Follows g stack u → Follows g (joined r.below (node p r.left r.children nothing)) u
reduce_follows g free stack p u can r f tree read input is e t n =
    let same : leaves [] (joined r.below (node p r.left r.children nothing)) ≡ leaves [] stack =
    leaves_reduced [] r.below r.children p r.left ∙ ap (leaves []) (sym r.is) in
    let passes = f tree read input is e (t ∙ ap terminals_of same) n in
    after_reduce g free stack p u r.left r.below r.children r.is r.rule can passes.goes_on passes.same n

pub reduce_keeps : (g : GrammarView) → HasNoConflict g → (next : Scanner) → IsOne next → (stack : Forest) (prefix : List Symbol) (at : ℕ) →
    Keeps g next stack prefix at → (p : ℕ) (s : Next) (u place : ℕ) → next prefix at s → Gives g s u place →
    CanReduce g (symbols stack) p u → (r : Reduced g stack p)
    → Keeps g next (joined r.below (node p r.left r.children nothing)) prefix at
reduce_keeps g free next one stack prefix at k p s u place is gives can r =
    let same : leaves [] (joined r.below (node p r.left r.children nothing)) ≡ leaves [] stack =
    leaves_reduced [] r.below r.children p r.left ∙ ap (leaves []) (sym r.is) in
    let d : IsDerived g (joined r.below r.children) = subst (λ z. IsDerived g z) r.is k.derived in
    record {
      derived = derived_joined g r.below (node p r.left r.children nothing) (derived_left g r.below r.children d)
          (r.rule, derived_right g r.below r.children d, tt);
      is_prefix = r.prefix;
      on_text = subst (λ z. AreOnText next [] 0 z prefix at) (sym same) k.on_text;
      follows = λ s' v d' is' gives'.
          let gives'' : Gives g s v d' = subst (λ z. Gives g z v d') (one prefix at s' s is' is) gives' in
          subst (λ z. Follows g (joined r.below (node p r.left r.children nothing)) z) ((one_gift g s u v place d' gives gives'').1)
          (reduce_follows g free stack p u can r (k.follows s u place is gives));
    }

-- a shift
after_shift : (g : GrammarView) → HasNoConflict g → (stack : Forest) (t : ℕ) (lexeme : List ℕ) → CanShift g (symbols stack) t →
    (y : Leaf) (input : List Leaf) → y.terminal ≡ t
    → {through tree : Forest} {xs : List Leaf} → Accepts g through xs tree → symbols through ≡ symbols stack → xs ≡ y ∷ input →
    Passes g (joined stack (leaf t lexeme nothing)) input tree
after_shift g free stack t lexeme can y input e (accept c) same is = cc
after_shift g free stack t lexeme can y input e (shift x {stack = through} {tree} c x_is m) same is =
    let h : x ≡ y = cc in
    record {
      through = joined through (leaf x.terminal x.text nothing);
      same = symbols_joined through (leaf x.terminal x.text nothing) ∙ ap (λ z. z ++ Terminal x.terminal ∷ []) same
          ∙ ap (λ z. symbols stack ++ Terminal z ∷ []) (ap (λ z. z.terminal) h ∙ e) ∙ sym (symbols_joined stack (leaf t lexeme nothing));
      goes_on = subst (λ z. Accepts g (joined through (leaf x.terminal x.text nothing)) z tree) (let i : _ ≡ input = cc in i) m;
    }
after_shift g free stack t lexeme can y input e (reduce q b below' k' {stack = through} {xs = xs} is' rule' can' m) same is =
    absurd (no_shift g free (symbols stack) (symbols through) t (ahead (end_of g) xs) q (sym same)
    (sym e ∙ sym (ap (ahead (end_of g)) is)) can can')

-- the last of what was read
pub record Last (read : List Leaf) (ts : List ℕ) (t : ℕ) : Type 0 where
  pub before : List Leaf
  pub x : Leaf
  pub is : read ≡ before ++ x ∷ []
  pub terminals : terminals_of before ≡ ts
  pub last : x.terminal ≡ t

last_of : (read : List Leaf) (ts : List ℕ) (t : ℕ) → terminals_of read ≡ ts ++ t ∷ [] → Last read ts t
last_of [] [] t e = cc
last_of [] (u ∷ ts) t e = cc
last_of (x ∷ read) [] t e = let h : terminals_of read ≡ [] = cc in
    record { before = []; x = x; is = ap (λ z. x ∷ z) (no_read read h); terminals = refl; last = cc }
last_of (x ∷ read) (u ∷ ts) t e =
    let i = last_of read ts t (cc) in
    record {
      before = x ∷ i.before;
      x = i.x;
      is = ap (λ z. x ∷ z) i.is;
      terminals = ap (λ z. x.terminal ∷ z) i.terminals
          ∙ ap (λ z. z ∷ ts) (let h : x.terminal ≡ u = cc in h);
      last = i.last;
    }

pub shift_follows : (g : GrammarView) → HasNoConflict g → (stack : Forest) (t : ℕ) (lexeme : List ℕ) → CanShift g (symbols stack) t →
    Follows g stack t → (u : ℕ) → Follows g (joined stack (leaf t lexeme nothing)) u
shift_follows g free stack t lexeme can f u tree read input is e ts n =
    let l = last_of read (terminals_of (leaves [] stack)) t
    (ts ∙ ap terminals_of (leaves_shifted stack t lexeme) ∙ terminals_joined (leaves [] stack) (leaf_of stack t lexeme ∷ [])) in
    let passes = f tree l.before (l.x ∷ input) is
    (e ∙ ap (λ z. z ++ input) l.is ∙ append_assoc l.before (l.x ∷ []) input) l.terminals l.last in
    after_shift g free stack t lexeme can l.x input l.last passes.goes_on passes.same refl

pub shift_keeps : (g : GrammarView) → HasNoConflict g → (next : Scanner) (stack : Forest) (prefix : List Symbol) (at : ℕ) →
    Keeps g next stack prefix at → (begin t : ℕ) (lexeme : List ℕ) (after : ℕ) → next prefix at (token begin t lexeme after) →
    CanShift g (symbols stack) t
    → Keeps g next (joined stack (leaf t lexeme nothing)) (symbols stack ++ Terminal t ∷ []) after
shift_keeps g free next stack prefix at k begin t lexeme after e can = record {
  derived = derived_joined g stack (leaf t lexeme nothing) k.derived tt;
  is_prefix = (
    advance can.item,
    can.has.0,
    move can.item (Terminal t) can.rest (symbols stack) can.has.1 can.before_dot
        (symbols_joined stack (leaf t lexeme nothing)) refl,
  );
  on_text = subst (λ z. AreOnText next [] 0 z (symbols stack ++ Terminal t ∷ []) after) (sym (leaves_shifted stack t lexeme))
      (on_text_more next (leaves [] stack) [] 0
      (record { context = symbols stack; terminal = t; text = lexeme }) prefix at begin after k.on_text e);
  follows = λ s w place is' gives. shift_follows g free stack t lexeme can
      (k.follows (token begin t lexeme after) t begin e (refl, refl)) w;
}

-- the end of the machine: a tree
pub accept_gives : (g : GrammarView) (next : Scanner) (stack : Forest) (prefix : List Symbol) (at place : ℕ) →
    Keeps g next stack prefix at → next prefix at (over place) → symbols stack ≡ Nonterminal g.start ∷ [] → IsTreeOn g next stack
accept_gives g next stack prefix at place k e is =
    record {
      is_tree = record { derived = k.derived; root = is };
      prefix = prefix;
      at = at;
      on_text = k.on_text;
      place = place;
      is_over =
          e;
    }

stop_of : (g : GrammarView) → HasTrees g → (next : Scanner) (stack : Forest) (prefix : List Symbol) (at place : ℕ) (kind : StopKind) →
    Keeps g next stack prefix at → (s : Next) → next prefix at s → StopsFor g s (terminals_of (leaves [] stack)) place kind →
    IsStopOn g next place kind
stop_of g productive next stack prefix at place kind k s is_next stops =
    let w = whole g productive stack k.derived k.is_prefix in
    record {
      tree = w.tree;
      is_tree = w.is_tree;
      read = leaves [] stack;
      rest = w.rest;
      is = w.is;
      prefix = prefix;
      at = at;
      on_text =
          k.on_text;
      found = s;
      is_next = is_next;
      stops = stops;
    }

-- missing is next
pub nothing_stops : (g : GrammarView) → HasTrees g → (next : Scanner) (stack : Forest) (prefix : List Symbol) (at place : ℕ) →
    Keeps g next stack prefix at → next prefix at (missing place) → IsStopOn g next place NoToken
nothing_stops g productive next stack prefix at place k e = stop_of g productive next stack prefix at place NoToken k (missing place) e refl

-- no action on what is next
pub record Ahead (g : GrammarView) (xs : List Leaf) (ts : List ℕ) (u : ℕ) : Type 0 where
  pub read : List Leaf
  pub input : List Leaf
  pub is : xs ≡ read ++ input
  pub terminals : terminals_of read ≡ ts
  pub next : ahead (end_of g) input ≡ u

not_nil : (ts : List ℕ) (u : ℕ) (more : List ℕ) → [] ≡ (ts ++ u ∷ []) ++ more → ⊥
not_nil [] u more e = cc
not_nil (t ∷ ts) u more e = cc

ahead_of : (g : GrammarView) (xs : List Leaf) (ts : List ℕ) (u : ℕ) (more : List ℕ) →
    terminals_of xs ++ end_of g ∷ [] ≡ (ts ++ u ∷ []) ++ more → Ahead g xs ts u
ahead_of g [] [] u more e = record { read = []; input = []; is = refl; terminals = refl; next = cc }
ahead_of g [] (t ∷ ts) u more e = absurd (not_nil ts u more (cc))
ahead_of g (x ∷ xs) [] u more e = record { read = []; input = x ∷ xs; is = refl; terminals = refl; next = cc }
ahead_of g (x ∷ xs) (t ∷ ts) u more e =
    let i = ahead_of g xs ts u more (cc) in
    record {
      read = x ∷ i.read;
      input = i.input;
      is = ap (λ z. x ∷ z) i.is;
      terminals = ap (λ z. x.terminal ∷ z) i.terminals
          ∙ ap (λ z. z ∷ ts) (let h : x.terminal ≡ t = cc in h);
      next = i.next;
    }

has_action : (g : GrammarView) (stack : Forest) (u : ℕ) → (CanShift g (symbols stack) u → ⊥) →
    ((p : ℕ) → CanReduce g (symbols stack) p u → ⊥) → {through tree : Forest} {input : List Leaf} → Accepts g through input tree →
    symbols through ≡ symbols stack → ahead (end_of g) input ≡ u → ⊥
has_action g stack u no_s no_r (accept {stack = through} c) same n =
    no_r (top_of g) (subst (λ z. CanReduce g z (top_of g) u) same (subst (λ z. CanReduce g (symbols through) (top_of g) z) n c))
has_action g stack u no_s no_r (shift x {stack = through} c e r) same n =
    no_s (subst (λ z. CanShift g z u) same (subst (λ z. CanShift g (symbols through) z) n c))
has_action g stack u no_s no_r (reduce q b below' k' {stack = through} is' rule' can' m) same n =
    no_r q (subst (λ z. CanReduce g z q u) same (subst (λ z. CanReduce g (symbols through) q z) n can'))

pub no_action_stops : (g : GrammarView) → HasTrees g → (next : Scanner) (stack : Forest) (prefix : List Symbol) (at u place : ℕ) →
    Keeps g next stack prefix at → (s : Next) → next prefix at s → Gives g s u place
    → (CanShift g (symbols stack) u → ⊥) → ((p : ℕ) → CanReduce g (symbols stack) p u → ⊥) → IsStopOn g next place (Unexpected u)
no_action_stops g productive next stack prefix at u place k s is gives no_s no_r =
    stop_of g productive next stack prefix at place (Unexpected u) k s is (
      gives,
      λ b.
          let a = ahead_of g (leaves [] b.tree) (terminals_of (leaves [] stack)) u b.more b.is in
          let passes = k.follows s u place is gives b.tree a.read a.input b.is_tree a.is a.terminals a.next in
          has_action g stack u no_s no_r passes.goes_on passes.same a.next,
    )

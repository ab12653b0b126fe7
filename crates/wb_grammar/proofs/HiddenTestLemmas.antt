-- Hidden left recursion by paths of corners from the end of a hidden corner back to where it begins.
use Rattle.std.proofs.Common.{◌≡◌, ℕ, ◌+◌, ◌-◌, ◌<◌, Bool, List, [], ◌∷◌, ◌++◌, length, length-append, Some, refl, sym, ◌∙◌, ap, subst, inl}
use Rattle.std.proofs.Common.{inr, arith}
use Rattle.std.specs.Prelude.{Contains, slice_get}
use Rattle.std.proofs.lemmas.Option.{slice_get_within}
use Rattle.wb_lemmas.proofs.Places.{at_push, push_keeps, push_last}
use Rattle.wb_lemmas.proofs.Members.{contains_at, nothing_in}
use Rattle.wb_base.specs.Different.{Differ}
use Rattle.wb_base.specs.declared.symbol.Symbol.TheVariants.{Nonterminal}
use Rattle.wb_base.specs.Grammar.{GrammarView}
use Rattle.wb_graph.specs.Graphs as graphs
use Rattle.wb_graph.specs.Graphs.{Edge, IsEdge, IsReached, stay, step}
use Rattle.wb_grammar_theory.specs.Productions.{IsProduction}
use Rattle.wb_grammar_theory.specs.Cycles.{IsLeftCorner, IsHiddenCorner, IsHiddenCycle, IsFollowedBy, HasNoHiddenLeftRecursion}
use Rattle.wb_grammar_theory.specs.Walks.{Walk, one, more, HiddenWalk, last, here, later}
use Rattle.wb_grammar_theory.proofs.HiddenLemmas.{hidden_is}
use Rattle.wb_grammar.specs.Facts.{IsNullableSet}
use Rattle.wb_grammar.specs.declared.occurrence.Occurrence.TheVariants.{LeftCorner, HiddenLeft}
use Rattle.wb_grammar.specs.Inner.Edges.{IsEdgeBy, AreEdges}
use Rattle.wb_grammar.specs.Inner.Paths.{IsPathTo, alone, longer}
use Rattle.wb_grammar.proofs.CycleLemmas.{held_empty, empty_held}
use Rattle.wb_grammar.proofs.ReachLemmas.{walk_from}

-- edges to corners are left corners
pub edge_corner : (g : GrammarView) (s : List Bool) → IsNullableSet g s → (a b : ℕ) → IsEdgeBy LeftCorner g s a b → IsLeftCorner g a b
edge_corner g s set a b e = record {
  p = e.p;
  before = e.placed.before;
  after = e.placed.after;
  rule = subst (IsProduction g e.p a) e.placed.is e.rule;
  before_empty = held_empty g s set e.placed.before e.placed.fits;
}

corner_edge : (g : GrammarView) (s : List Bool) → IsNullableSet g s → (a b : ℕ) → IsLeftCorner g a b → IsEdgeBy LeftCorner g s a b
corner_edge g s set a b c = record {
  p = c.p;
  right = c.before ++ Nonterminal b ∷ c.after;
  rule = c.rule;
  placed = record { before = c.before; after = c.after; is = refl; fits = empty_held g s set c.before c.before_empty };
}

-- and those to hidden places are hidden corners
edge_hidden : (g : GrammarView) (s : List Bool) → IsNullableSet g s → (a b : ℕ) → IsEdgeBy HiddenLeft g s a b → IsHiddenCorner g a b
edge_hidden g s set a b e = record {
  corner = record {
    p = e.p;
    before = e.placed.before;
    after = e.placed.after;
    rule = subst (IsProduction g e.p a) e.placed.is e.rule;
    before_empty = held_empty g s set e.placed.before e.placed.fits.0;
  };
  hides = e.placed.fits.1;
}

hidden_edge : (g : GrammarView) (s : List Bool) → IsNullableSet g s → (a b : ℕ) → IsHiddenCorner g a b → IsEdgeBy HiddenLeft g s a b
hidden_edge g s set a b c = record {
  p = c.corner.p;
  right = c.corner.before ++ Nonterminal b ∷ c.corner.after;
  rule = c.corner.rule;
  placed = record {
    before = c.corner.before;
    after = c.corner.after;
    is = refl;
    fits = (empty_held g s set c.corner.before c.corner.before_empty, c.hides);
  };
}

-- walks in a row
walks_then : {edges : List Edge} {u v w : ℕ} → graphs.Walk edges u v → graphs.Walk edges v w → graphs.Walk edges u w
walks_then {edges} {u} walk (stay w same) = subst (λ z. graphs.Walk edges u z) same walk
walks_then walk (step x w onward edge) = step x w (walks_then walk onward) edge

corner_walk : (g : GrammarView) (s : List Bool) (corners : List Edge) → IsNullableSet g s → AreEdges LeftCorner g s corners → {a b : ℕ} →
    Walk (IsLeftCorner g) a b → graphs.Walk corners a b
corner_walk g s corners set are (one {a} {b} c) = walk_from ((are a b).1 (corner_edge g s set a b c)) (stay b refl)
corner_walk g s corners set are (more {a} {b} {c} first rest) = walk_from ((are a b).1 (corner_edge g s set a b first))
    (corner_walk g s corners set are rest)

-- a walk with a hidden corner in it
record Around (g : GrammarView) (corners : List Edge) (a b : ℕ) : Type 0 where
  above : ℕ
  below : ℕ
  hidden : IsHiddenCorner g above below
  before : graphs.Walk corners a above
  after : graphs.Walk corners below b

hidden_around : (g : GrammarView) (s : List Bool) (corners : List Edge) → IsNullableSet g s → AreEdges LeftCorner g s corners → {a b : ℕ} →
    HiddenWalk g a b → Around g corners a b
hidden_around g s corners set are (last {a} {b} h) = record { above = a; below = b; hidden = h; before = stay a refl; after = stay b refl }
hidden_around g s corners set are (here {a} {b} {c} h rest) = record {
  above = a;
  below = b;
  hidden = h;
  before = stay a refl;
  after = corner_walk g s corners set are rest;
}
hidden_around g s corners set are (later {a} {b} {c} first rest) =
    let r = hidden_around g s corners set are rest in
    record {
      above = r.above;
      below = r.below;
      hidden = r.hidden;
      before = walk_from ((are a b).1 (corner_edge g s set a b first)) r.before;
      after = r.after;
    }

-- where no walk leads back from a hidden corner there is no hidden left recursion
pub no_hidden : (g : GrammarView) (s : List Bool) (corners hidden : List Edge) → IsNullableSet g s → AreEdges LeftCorner g s corners →
    AreEdges HiddenLeft g s hidden → ((a b : ℕ) → Contains hidden (a, b) → ¬ IsReached corners (b ∷ []) a) → HasNoHiddenLeftRecursion g
no_hidden g s corners hidden set are_corners are_hidden none a h =
    let r = hidden_around g s corners set are_corners ((hidden_is g a).0 h) in
    none r.above r.below ((are_hidden r.above r.below).1 (hidden_edge g s set r.above r.below r.hidden))
    (record { start = r.below; is_start = (0, omega arith, refl); walk = walks_then r.after r.before })

-- the ends of a path and its steps
path_nonempty : {edges : List Edge} {from : ℕ} {list : List ℕ} {v : ℕ} → IsPathTo edges from list v → 0 < length list
path_nonempty (alone {list} {v} is same) = let e : length list ≡ 1 = ap length is in omega arith
path_nonempty (longer shorter u {list} {v} p edge new is) = let e : length list ≡ length shorter + 1 = ap length is ∙
    length-append shorter (v ∷ []) in omega arith

path_first : {edges : List Edge} {from : ℕ} {list : List ℕ} {v : ℕ} → IsPathTo edges from list v → slice_get list 0 ≡ Some from
path_first {from = from} (alone is same) = ap (λ l. slice_get l 0) is
path_first {from = from} (longer shorter u {list} {v} p edge new is) = ap (λ l. slice_get l 0) is ∙
    push_keeps shorter v 0 from (path_first p)

path_last : {edges : List Edge} {from : ℕ} {list : List ℕ} {v : ℕ} → IsPathTo edges from list v → slice_get list (length list - 1) ≡ Some v
path_last {from = from} (alone {list} {v} is same) =
    let e : length list - 1 ≡ 0 = (let l : length list ≡ 1 = ap length is in omega arith) in
    ap (λ n. slice_get list n) e ∙ (ap (λ l. slice_get l 0) is ∙ ap Some (sym same))
path_last (longer shorter u {list} {v} p edge new is) =
    let e : length list - 1 ≡ length shorter = (let l : length list ≡ length shorter + 1 = ap length is ∙
    length-append shorter (v ∷ []) in omega arith) in
    ap (λ n. slice_get list n) e ∙ (ap (λ l. slice_get l (length shorter)) is ∙ push_last shorter v)

same_vertex : (list : List ℕ) (i x y : ℕ) → slice_get list i ≡ Some x → slice_get list i ≡ Some y → x ≡ y
same_vertex list i x y a b = cc

alone_step : (from i w : ℕ) → slice_get (from ∷ []) (i + 1) ≡ Some w → ⊥
alone_step from i w at = let lt : i + 1 < length (from ∷ []) = slice_get_within (from ∷ []) (i + 1) w at in omega arith

path_steps : {edges : List Edge} {from : ℕ} {list : List ℕ} {v : ℕ} → IsPathTo edges from list v → (i a b : ℕ) → slice_get list i ≡ Some a →
    slice_get list (i + 1) ≡ Some b → IsEdge edges a b
path_steps {from = from} (alone {list} {v} is same) i a b at_a at_b = absurd
    (alone_step from i b (subst (λ l. slice_get l (i + 1) ≡ Some b) is at_b))
path_steps {edges} {from} (longer shorter u {list} {v} p edge new is) i a b at_a at_b =
    let a_there : slice_get (shorter ++ v ∷ []) i ≡ Some a = subst (λ l. slice_get l i ≡ Some a) is at_a in
    let b_there : slice_get (shorter ++ v ∷ []) (i + 1) ≡ Some b = subst (λ l. slice_get l (i + 1) ≡ Some b) is at_b in
    elim (at_push shorter v b (i + 1) b_there) [
      | inl b_old ↦
          elim (at_push shorter v a i a_there) [
            | inl a_old ↦ path_steps p i a b a_old b_old
            | inr a_new ↦ (let lt : i + 1 < length shorter = slice_get_within shorter (i + 1) b b_old in let at : i ≡ length shorter =
                a_new.0 in absurd (omega arith))
          ]
      | inr b_new ↦
          elim (at_push shorter v a i a_there) [
            | inl a_old ↦
                let at : i ≡ length shorter - 1 = (let h : i + 1 ≡ length shorter = b_new.0 in omega arith) in
                let same : a ≡ u = same_vertex shorter (length shorter - 1) a u (subst (λ n. slice_get shorter n ≡ Some a) at a_old)
                (path_last p) in
                subst (λ z. IsEdge edges z b) (sym same) (subst (λ z. IsEdge edges u z) b_new.1 edge)
            | inr a_new ↦ (let h : i + 1 ≡ length shorter = b_new.0 in let at : i ≡ length shorter = a_new.0 in absurd (omega arith))
          ]
    ]

-- a new element keeps a list's elements different
different_push : (xs : List ℕ) (x : ℕ) → Differ xs → ¬ Contains xs x → Differ (xs ++ x ∷ [])
different_push xs x differ new y i j at_i at_j = elim (at_push xs x y i at_i) [
  | inl a ↦ elim (at_push xs x y j at_j) [
    | inl b ↦ differ y i j a b
    | inr at_end ↦ absurd (new (contains_at xs x i (subst (λ z. slice_get xs i ≡ Some z) (sym at_end.1) a)))
  ]
  | inr at_end ↦ elim (at_push xs x y j at_j) [
    | inl b ↦ absurd (new (contains_at xs x j (subst (λ z. slice_get xs j ≡ Some z) (sym at_end.1) b)))
    | inr at_end2 ↦ omega (arith, at_end.0, at_end2.0)
  ]
]

-- no vertex of a path is twice in it
pub path_differ : {edges : List Edge} {from : ℕ} {list : List ℕ} {v : ℕ} → IsPathTo edges from list v → Differ list
path_differ {from = from} (alone is same) = subst (λ (l : List ℕ). Differ l) (sym is)
    (different_push [] from (λ x i j at. cc) (nothing_in from))
path_differ (longer shorter u {list} {v} p edge new is) = subst (λ (l : List ℕ). Differ l) (sym is)
    (different_push shorter v (path_differ p) new)

-- a path of corners from the end of a hidden corner to where it begins is a hidden cycle
pub path_cycle : (g : GrammarView) (s : List Bool) (corners hidden : List Edge) (list : List ℕ) → IsNullableSet g s →
    AreEdges LeftCorner g s corners → AreEdges HiddenLeft g s hidden → (a b : ℕ) × Contains hidden (a, b) × IsPathTo corners b list a →
    IsHiddenCycle g list
path_cycle g s corners hidden list set are_corners are_hidden (above, below, within, path) = record {
  cycle = record { nonempty = path_nonempty path; each = each };
  above = above;
  below = below;
  place = record {
    place = length list - 1;
    one = path_last path;
    other = inr ((let lt : 0 < length list = path_nonempty path in omega arith), path_first path);
  };
  hidden = hidden_corner;
}
  where
    hidden_corner : IsHiddenCorner g above below
    hidden_corner = edge_hidden g s set above below ((are_hidden above below).0 within)

    each : (a b : ℕ) → IsFollowedBy list a b → IsLeftCorner g a b
    each a b f = elim f.other [
      | inl next ↦ edge_corner g s set a b ((are_corners a b).0 (path_steps path f.place a b f.one next))
      | inr around ↦
          let at : f.place ≡ length list - 1 = (let h : f.place + 1 ≡ length list = around.0 in omega arith) in
          let a_is : a ≡ above = same_vertex list (length list - 1) a above (subst (λ n. slice_get list n ≡ Some a) at f.one)
          (path_last path) in
          let b_is : b ≡ below = same_vertex list 0 b below around.1 (path_first path) in
          subst (λ z. IsLeftCorner g z b) (sym a_is) (subst (λ z. IsLeftCorner g above z) (sym b_is) hidden_corner.corner)
    ]

-- hidden corners are corners
pub hidden_corners : (g : GrammarView) (s : List Bool) (corners hidden : List Edge) → AreEdges LeftCorner g s corners →
    AreEdges HiddenLeft g s hidden → (a b : ℕ) → Contains hidden (a, b) →
    Contains corners (a, b)
hidden_corners g s corners hidden are_corners are_hidden a b h =
    let e = (are_hidden a b).0 h in
    (are_corners a b).1 (record {
      p = e.p;
      right = e.right;
      rule = e.rule;
      placed = record {
        before = e.placed.before;
        after =
            e.placed.after;
        is = e.placed.is;
        fits = e.placed.fits.0;
      };
    })

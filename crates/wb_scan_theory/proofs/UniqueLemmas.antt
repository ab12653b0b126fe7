-- A text has at most one of a tree and a stop, and at most one of it.
use Rattle.std.proofs.Common.{List, [], ap, append_assoc, refl, subst, sym, ℕ, ◌++◌, ◌∙◌, ◌∷◌, ◌≡◌}
use Rattle.wb_base.specs.Grammar.{GrammarView}
use Rattle.wb_base.specs.declared.symbol.Symbol.{Symbol}
use Rattle.wb_base.specs.declared.symbol.Symbol.TheVariants.{Terminal}
use Rattle.wb_grammar_theory.specs.Lookaheads.{HasNoConflict}
use Rattle.wb_grammar_theory.specs.Productions.{end_of}
use Rattle.wb_grammar_theory.specs.Trees.{DerivationTree, Forest, Leaf, leaves}
use Rattle.wb_scan_theory.proofs.AgreeLemmas.{SameContexts, contexts_agree, trees_agree}
use Rattle.wb_scan_theory.proofs.FollowLemmas.{tree_accepted}
use Rattle.wb_scan_theory.proofs.ForestLemmas.{append_nil, terminals_joined}
use Rattle.wb_scan_theory.specs.Inner.Runs.{IsOne}
use Rattle.wb_scan_theory.specs.Machine.{ahead}
use Rattle.wb_scan_theory.specs.Readings.{AreOnText, Begins, Gives, IsStopOn, IsTreeOn, Scanner, StopsFor, terminals_of}
use Rattle.wb_scan_theory.specs.Tokens.{Next, missing, over, token}
use Rattle.wb_scan_theory.specs.declared.stop_kind.StopKind.{StopKind}
use Rattle.wb_scan_theory.specs.declared.stop_kind.StopKind.TheVariants.{NoToken, Unexpected}

-- two readings are the same, or one goes on where the other stands
pub data Compare (next : Scanner) (xs ys : List Leaf) (a : List Symbol) (i : ℕ) (b : List Symbol) (j : ℕ) : Type 0 where
  equal : xs ≡ ys → a ≡ b → i ≡ j → Compare next xs ys a i b j
  longer : (begin after : ℕ) (y : Leaf) (more : List Leaf) → ys ≡ xs ++ y ∷ more → next a i (token begin y.terminal y.text after) →
      Compare next xs ys a i b j
  shorter : (begin after : ℕ) (x : Leaf) (more : List Leaf) → xs ≡ ys ++ x ∷ more → next b j (token begin x.terminal x.text after) →
      Compare next xs ys a i b j

pub record SameToken (t u : ℕ) (l m : List ℕ) (i j : ℕ) : Type 0 where
  pub terminals : t ≡ u
  pub lexemes : l ≡ m
  pub ends : i ≡ j

pub same_token : (b c t u : ℕ) (l m : List ℕ) (i j : ℕ) → token b t l i ≡ token c u m j → SameToken t u l m i j
same_token b c t u l m i j h = record { terminals = cc; lexemes = cc; ends = cc }

pub elsewhere : (next : Scanner) (a b : List Symbol) (i j : ℕ) (s : Next) → a ≡ b → i ≡ j → next a i s → next b j s
elsewhere next a b i j s e f n = subst (λ z. next b z s) f (subst (λ z. next z i s) e n)

cons_compare : {next : Scanner} {xs ys : List Leaf} {a : List Symbol} {i : ℕ} {b : List Symbol} {j : ℕ} (x y : Leaf) → x ≡ y →
    Compare next xs ys a i b j → Compare next (x ∷ xs) (y ∷ ys) a i b j
cons_compare x y e (equal f g h) = equal (cc) g h
cons_compare {xs = xs} {ys} x y e (longer b a z more f n) = longer b a z more (ap (λ k. y ∷ k) f ∙ ap (λ k. k ∷ xs ++ z ∷ more) (sym e)) n
cons_compare {xs = xs} {ys} x y e (shorter b a z more f n) = shorter b a z more (ap (λ k. x ∷ k) f ∙ ap (λ k. k ∷ ys ++ z ∷ more) e) n

pub compare : (u : ℕ) (next : Scanner) → IsOne next →
    (xs ys m n : List Leaf) (h : List Symbol) (at : ℕ) (h' : List Symbol) (at' : ℕ) (a : List Symbol) (i : ℕ) (b : List Symbol) (j : ℕ)
    → h ≡ h' → at ≡ at' → (ahead u (xs ++ m) ≡ ahead u (ys ++ n) → SameContexts u (xs ++ m) (ys ++ n)) → AreOnText next h at xs a i →
    AreOnText next h' at' ys b j → Compare next xs ys a i b j
compare u next one [] [] m n h at h' at' a i b j eh ea same (p, q) (r, s) = equal refl (sym p ∙ eh ∙ r) (sym q ∙ ea ∙ s)
compare u next one [] (y ∷ ys) m n h at h' at' a i b j eh ea same (p, q) (begin, after, is, on) =
    longer begin after y ys refl (elsewhere next h' a at' i (token begin y.terminal y.text after) (sym eh ∙ p) (sym ea ∙ q) is)
compare u next one (x ∷ xs) [] m n h at h' at' a i b j eh ea same (begin, after, is, on) (p, q) =
    shorter begin after x xs refl (elsewhere next h b at j (token begin x.terminal x.text after) (eh ∙ p) (ea ∙ q) is)
compare u next one (x ∷ xs) (y ∷ ys) m n h at h' at' a i b j eh ea same (begin, after, is, on) (begin', after', is', on') =
    let here = elsewhere next h' h at' at (token begin' y.terminal y.text after') (sym eh) (sym ea) is' in
    let t = same_token begin begin' x.terminal y.terminal x.text y.text after after'
    (one h at (token begin x.terminal x.text after) (token begin' y.terminal y.text after') is here) in
    let s = same t.terminals in
    let e0 : x.context ≡ y.context = s.0 in
    let e1 : x.terminal ≡ y.terminal = t.terminals in
    let e2 : x.text ≡ y.text = t.lexemes in
    let e : x ≡ y = λ k. record { context = e0 k; terminal = e1 k; text = e2 k } in
    cons_compare x y e
    (compare u next one xs ys m n (x.context ++ Terminal x.terminal ∷ []) after (y.context ++ Terminal y.terminal ∷ []) after' a i b j
    (ap (λ z. z.context ++ Terminal z.terminal ∷ []) e) t.ends s.1 on on')

-- two trees have the same contexts as long as their terminals agree
pub tree_contexts : (g : GrammarView) → HasNoConflict g → (tree tree' : Forest) → DerivationTree g tree → DerivationTree g tree' →
    ahead (end_of g) (leaves [] tree) ≡ ahead (end_of g) (leaves [] tree') → SameContexts (end_of g) (leaves [] tree) (leaves [] tree')
tree_contexts g free tree tree' is is' next = contexts_agree g free (tree_accepted g tree is) (tree_accepted g tree' is') refl next

-- a grammar without conflict is not ambiguous
pub unambiguous : (g : GrammarView) → HasNoConflict g → (tree tree' : Forest) → DerivationTree g tree → DerivationTree g tree' →
    leaves [] tree ≡ leaves [] tree' → tree ≡ tree'
unambiguous g free tree tree' is is' e = trees_agree g free (tree_accepted g tree is) (tree_accepted g tree' is') refl e

-- readings of two trees, as far as they go
pub two_readings : (g : GrammarView) → HasNoConflict g → (next : Scanner) → IsOne next → (tree tree' : Forest) → DerivationTree g tree →
    DerivationTree g tree' → (xs m ys n : List Leaf) → leaves [] tree ≡ xs ++ m → leaves [] tree' ≡ ys ++ n
    → (a : List Symbol) (i : ℕ) (b : List Symbol) (j : ℕ) → AreOnText next [] 0 xs a i → AreOnText next [] 0 ys b j →
    Compare next xs ys a i b j
two_readings g free next one tree tree' is is' xs m ys n e f a i b j on on' =
    compare (end_of g) next one xs ys m n [] 0 [] 0 a i b j refl refl
    (subst (λ z. ahead (end_of g) z ≡ ahead (end_of g) (ys ++ n) → SameContexts (end_of g) z (ys ++ n)) e
    (subst (λ z. ahead (end_of g) (leaves [] tree) ≡ ahead (end_of g) z → SameContexts (end_of g) (leaves [] tree) z) f
    (tree_contexts g free tree tree' is is')))
    on on'

-- a tree begins with what was read of it and the next leaf
begins_further : (g : GrammarView) (tree : Forest) → DerivationTree g tree → (read : List Leaf) (x : Leaf) (more : List Leaf) →
    leaves [] tree ≡ read ++ x ∷ more → Begins g (terminals_of read ++ x.terminal ∷ [])
begins_further g tree is read x more e = record {
  tree = tree;
  is_tree = is;
  more = terminals_of more ++ end_of g ∷ [];
  is = ap (λ z. terminals_of z ++ end_of g ∷ []) e ∙ ap (λ z. z ++ end_of g ∷ []) (terminals_joined read (x ∷ more))
      ∙ append_assoc (terminals_of read) (x.terminal ∷ terminals_of more) (end_of g ∷ [])
      ∙ sym (append_assoc (terminals_of read) (x.terminal ∷ []) (terminals_of more ++ end_of g ∷ []));
}

gives_token : (g : GrammarView) (s : Next) (b u : ℕ) (l : List ℕ) (j t place : ℕ) → s ≡ token b u l j → Gives g s t place → u ≡ t
gives_token g (token c v m k) b u l j t place e (f, p) = let h : v ≡ u = cc in sym h ∙ f
gives_token g (over at) b u l j t place e gives = cc
gives_token g (missing at) b u l j t place e gives = absurd gives

-- a text does not stop before a leaf that is next
no_stop_before : (g : GrammarView) (tree : Forest) → DerivationTree g tree → (read : List Leaf) (x : Leaf) (more : List Leaf) →
    leaves [] tree ≡ read ++ x ∷ more → (s : Next) (begin after place : ℕ) (kind : StopKind)
    → s ≡ token begin x.terminal x.text after → StopsFor g s (terminals_of read) place kind → ⊥
no_stop_before g tree is read x more e s begin after place NoToken f stops = cc
no_stop_before g tree is read x more e s begin after place (Unexpected t) f (gives, never) =
    never (subst (λ z. Begins g (terminals_of read ++ z ∷ [])) (gives_token g s begin x.terminal x.text after t place f gives)
    (begins_further g tree is read x more e))

pub one_gift : (g : GrammarView) (s : Next) (t t' place place' : ℕ) → Gives g s t place → Gives g s t' place' → (place ≡ place') × (t ≡ t')
one_gift g (token b u l j) t t' place place' (e, p) (f, q) = (sym p ∙ q, sym e ∙ f)
one_gift g (over at) t t' place place' (e, p) (f, q) = (sym p ∙ q, sym e ∙ f)
one_gift g (missing at) t t' place place' gives gives' = absurd gives

no_gift : (g : GrammarView) (s : Next) (place t place' : ℕ) → s ≡ missing place → Gives g s t place' → ⊥
no_gift g (token b u l j) place t place' e gives = cc
no_gift g (over at) place t place' e gives = cc
no_gift g (missing at) place t place' e gives = gives

pub one_kind : (g : GrammarView) (s : Next) (ts : List ℕ) (place place' : ℕ) (kind kind' : StopKind) → StopsFor g s ts place kind →
    StopsFor g s ts place' kind' → (place ≡ place') × (kind ≡ kind')
one_kind g s ts place place' NoToken NoToken e f = (let h : missing place ≡ missing place' = sym e ∙ f in cc, refl)
one_kind g s ts place place' NoToken (Unexpected t) e (gives, never) = absurd (no_gift g s place t place' e gives)
one_kind g s ts place place' (Unexpected t) NoToken (gives, never) e = absurd (no_gift g s place' t place e gives)
one_kind g s ts place place' (Unexpected t) (Unexpected t') (gives, never) (gives', never') =
    let o = one_gift g s t t' place place' gives gives' in (o.0, ap Unexpected o.1)

pub one_stop : (g : GrammarView) → HasNoConflict g → (next : Scanner) → IsOne next → (place place' : ℕ) (kind kind' : StopKind) →
    IsStopOn g next place kind → IsStopOn g next place' kind' → (place ≡ place') × (kind ≡ kind')
one_stop g free next one place place' kind kind' s s' =
    elim (two_readings g free next one s.tree s'.tree s.is_tree s'.is_tree s.read s.rest s'.read s'.rest s.is s'.is s.prefix s.at s'.prefix
    s'.at s.on_text s'.on_text) [
      | equal e f h ↦
          let here = elsewhere next s'.prefix s.prefix s'.at s.at s'.found (sym f) (sym h) s'.is_next in
          one_kind g s.found (terminals_of s.read) place place' kind kind' s.stops
          (subst (λ z. StopsFor g s.found (terminals_of z) place' kind') (sym e)
          (subst (λ z. StopsFor g z (terminals_of s'.read) place' kind') (one s.prefix s.at s'.found s.found here s.is_next) s'.stops))
      | longer begin after y more e f ↦ absurd (no_stop_before g s'.tree s'.is_tree s.read y (more ++ s'.rest)
          (s'.is ∙ ap (λ z. z ++ s'.rest) e ∙ append_assoc s.read (y ∷ more) s'.rest) s.found begin after place kind
          (one s.prefix s.at s.found (token begin y.terminal y.text after) s.is_next f) s.stops)
      | shorter begin after x more e f ↦ absurd (no_stop_before g s.tree s.is_tree s'.read x (more ++ s.rest)
          (s.is ∙ ap (λ z. z ++ s.rest) e ∙ append_assoc s'.read (x ∷ more) s.rest) s'.found begin after place' kind'
          (one s'.prefix s'.at s'.found (token begin x.terminal x.text after) s'.is_next f) s'.stops)
    ]

no_over : (place b t : ℕ) (l : List ℕ) (j : ℕ) → over place ≡ token b t l j → ⊥
no_over place b t l j h = cc

over_stops : (g : GrammarView) (tree : Forest) → DerivationTree g tree → (s : Next) (over_at place : ℕ) (kind : StopKind) →
    s ≡ over over_at → StopsFor g s (terminals_of (leaves [] tree)) place kind → ⊥
over_stops g tree is s over_at place NoToken e stops = let h : over over_at ≡ missing place = sym e ∙ stops in cc
over_stops g tree is (over at) over_at place (Unexpected t) e ((is_end, p), never) =
    never (subst (λ z. Begins g (terminals_of (leaves [] tree) ++ z ∷ [])) is_end
    (record { tree = tree; is_tree = is; more = []; is = sym (append_nil (terminals_of (leaves [] tree) ++ end_of g ∷ [])) }))
over_stops g tree is (token b u l j) over_at place (Unexpected t) e stops = cc
over_stops g tree is (missing at) over_at place (Unexpected t) e stops = cc

pub not_both : (g : GrammarView) → HasNoConflict g → (next : Scanner) → IsOne next → (tree : Forest) (place : ℕ) (kind : StopKind) →
    IsTreeOn g next tree → IsStopOn g next place kind → ⊥
not_both g free next one tree place kind t s =
    elim (two_readings g free next one tree s.tree t.is_tree s.is_tree (leaves [] tree) [] s.read s.rest
    (sym (append_nil (leaves [] tree))) s.is t.prefix t.at s.prefix s.at t.on_text s.on_text) [
      | equal e f h ↦
          let here = elsewhere next s.prefix t.prefix s.at t.at s.found (sym f) (sym h) s.is_next in
          over_stops g tree t.is_tree (over t.place) t.place place kind refl
          (subst (λ z. StopsFor g (over t.place) (terminals_of z) place kind) (sym e)
          (subst (λ z. StopsFor g z (terminals_of s.read) place kind) (one t.prefix t.at s.found (over t.place) here t.is_over) s.stops))
      | longer begin after y more e f ↦
          absurd (no_over t.place begin y.terminal y.text after
          (one t.prefix t.at (over t.place) (token begin y.terminal y.text after) t.is_over f))
      | shorter begin after x more e f ↦
          absurd (no_stop_before g tree t.is_tree s.read x more e s.found begin after place kind
          (one s.prefix s.at s.found (token begin x.terminal x.text after) s.is_next f) s.stops)
    ]

pub one_tree : (g : GrammarView) → HasNoConflict g → (next : Scanner) → IsOne next → (tree tree' : Forest) → IsTreeOn g next tree →
    IsTreeOn g next tree' → tree ≡ tree'
one_tree g free next one tree tree' t s =
    elim (two_readings g free next one tree tree' t.is_tree s.is_tree (leaves [] tree) [] (leaves [] tree') []
    (sym (append_nil (leaves [] tree))) (sym (append_nil (leaves [] tree'))) t.prefix t.at s.prefix s.at t.on_text s.on_text) [
      | equal e f h ↦ unambiguous g free tree tree' t.is_tree s.is_tree e
      | longer begin after y more e f ↦
          absurd (no_over t.place begin y.terminal y.text after
          (one t.prefix t.at (over t.place) (token begin y.terminal y.text after) t.is_over f))
      | shorter begin after x more e f ↦
          absurd (no_over s.place begin x.terminal x.text after
          (one s.prefix s.at (over s.place) (token begin x.terminal x.text after) s.is_over f))
    ]

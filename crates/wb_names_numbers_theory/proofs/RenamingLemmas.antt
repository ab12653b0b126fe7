-- Renamed nodes: one for each node, and those of a whole expression are one.
use Rattle.std.proofs.Common.{◌≡◌, ◌+◌, ◌-◌, ◌++◌, ◌∷◌, [], ℕ, suc, List, length, take, drop, ap, sym, refl, subst, ◌∙◌, arith}
use Rattle.std.proofs.lemmas.List.{take-append-drop}
use Rattle.wb_lemmas.proofs.Zips.{zip_take, zip_drop}
use Rattle.wb_syntax_expressions.specs.declared.node.Node.{Node}
use Rattle.wb_syntax_expressions.specs.declared.node.Node.TheVariants as n
use Rattle.wb_syntax_expressions.specs.Expression.{Expression, Expressions, Int, Text, Truth, Label, Read, Lexeme, Top, Forward, Build}
use Rattle.wb_syntax_expressions.specs.Expression.{Call, If}
use Rattle.wb_syntax_expressions.specs.Expression.{none, more, size, size_of_all, nodes_from, all_nodes_from, places_from, IsWhole}
use Rattle.wb_names_numbers_theory.specs.Renaming.{IsRenamedNode, AreRenamedNodes}

module _ {L M A B P Q O : Type 0} (R : L → M → Type 0) (S : A → B → Type 0) (T : P → Q → Type 0) where
  -- where each name is given in one way at most, each node is
  pub one_node : ((l : L) (x y : M) → R l x → R l y → x ≡ y) → ((a : A) (x y : B) → S a x → S a y → x ≡ y)
      → ((p : P) (x y : Q) → T p x → T p y → x ≡ y)
      → (node : Node L A P O) (x y : Node M B Q O) → IsRenamedNode R S T node x → IsRenamedNode R S T node y → x ≡ y
  one_node label attribute production (n.Label l) x y e f = e.2 ∙ (ap n.Label (label l e.0 f.0 e.1 f.1) ∙ sym f.2)
  one_node label attribute production (n.Read l a) x y e f =
      e.4 ∙ (ap (λ k. n.Read k e.1) (label l e.0 f.0 e.2 f.2) ∙ (ap (λ k. n.Read f.0 k) (attribute a e.1 f.1 e.3 f.3) ∙ sym f.4))
  one_node label attribute production (n.Lexeme l) x y e f = e.2 ∙ (ap n.Lexeme (label l e.0 f.0 e.1 f.1) ∙ sym f.2)
  one_node label attribute production (n.Top a) x y e f = e.2 ∙ (ap n.Top (attribute a e.0 f.0 e.1 f.1) ∙ sym f.2)
  one_node label attribute production (n.Forward a) x y e f = e.2 ∙ (ap n.Forward (attribute a e.0 f.0 e.1 f.1) ∙ sym f.2)
  one_node label attribute production (n.Build p places) x y e f =
      e.2 ∙ (ap (λ k. n.Build k places) (production p e.0 f.0 e.1 f.1) ∙ sym f.2)
  one_node label attribute production node x y e f = e ∙ sym f

  -- the one that a list of one is beside
  one_beside : (node : Node L A P O) (others : List (Node M B Q O)) → AreRenamedNodes R S T (node ∷ []) others
      → (other : Node M B Q O) × IsRenamedNode R S T node other × (others ≡ other ∷ [])
  one_beside node [] all = absurd all
  one_beside node (y ∷ []) all = (y, all.0, refl)
  one_beside node (y ∷ z ∷ zs) all = absurd all.1

  -- an expression whose nodes these are
  record From (at : ℕ) (e : Expression L A P O) (others : List (Node M B Q O)) : Type 0 where
    to : Expression M B Q O
    is : others ≡ nodes_from at to
    same : size to ≡ size e

  -- expressions whose nodes these are
  record AllFrom (at : ℕ) (es : Expressions L A P O) (others : List (Node M B Q O)) : Type 0 where
    to : Expressions M B Q O
    is : others ≡ all_nodes_from at to
    same : size_of_all to ≡ size_of_all es
    places : places_from at to ≡ places_from at es

  -- one node that is a whole
  alone : (at : ℕ) (e : Expression L A P O) (node : Node L A P O) (others : List (Node M B Q O)) (to : Expression M B Q O)
      → size to ≡ size e → (other : Node M B Q O) → others ≡ other ∷ [] → nodes_from at to ≡ other ∷ [] → From at e others
  alone at e node others to same other is nodes = record { to = to; is = is ∙ sym nodes; same = same }

  -- three parts and the node over them
  joined : (at : ℕ) (c h g : Expression L A P O) (others one two : List (Node M B Q O)) {x y z w : List (Node M B Q O)} (a : From at c x)
      (b : From (at + size c) h y) (d : From (at + size c + size h) g z) → one ≡ x ++ y → two ≡ one ++ z → others ≡ two ++ w
      → w ≡ n.If (at + size c - 1) (at + size c + size h - 1) (at + size c + size h + size g - 1) ∷ [] → From at (If c h g) others
  joined at c h g others one two {x} {y} {z} {w} a b d first second third last =
      let sizes : (at + size a.to ≡ at + size c) × (at + size a.to + size b.to ≡ at + size c + size h)
      × (at + size a.to + size b.to + size d.to ≡ at + size c + size h + size g) =
      (ap (λ k. at + k) a.same, omega (arith, a.same, b.same), omega (arith, a.same, b.same, d.same)) in
      record {
        to = If a.to b.to d.to;
        is = third ∙ (ap (λ k. k ++ w) (second ∙ ap (λ k. k ++ z) (first ∙ (ap (λ k. k ++ y) a.is ∙ ap (λ k. nodes_from at a.to ++ k)
            (b.is ∙ ap (λ k. nodes_from k b.to) (sym sizes.0)))) ∙ ap (λ k. (nodes_from at a.to ++ nodes_from (at + size a.to) b.to) ++ k)
            (d.is ∙ ap (λ k. nodes_from k d.to) (sym sizes.1)))
            ∙ ap (λ k. ((nodes_from at a.to ++ nodes_from (at + size a.to) b.to) ++ nodes_from (at + size a.to + size b.to) d.to) ++ k)
            (last ∙ ap (λ k. k ∷ []) (ap (λ k. n.If (k - 1) (at + size c + size h - 1) (at + size c + size h + size g - 1)) (sym sizes.0)
            ∙ (ap (λ k. n.If (at + size a.to - 1) (k - 1) (at + size c + size h + size g - 1)) (sym sizes.1)
            ∙ ap (λ k. n.If (at + size a.to - 1) (at + size a.to + size b.to - 1) (k - 1)) (sym sizes.2)))));
        same = ap suc (omega (arith, a.same, b.same, d.same));
      }

  mutual
    renamed : (at : ℕ) (e : Expression L A P O) (others : List (Node M B Q O)) → AreRenamedNodes R S T (nodes_from at e) others
        → From at e others
    renamed at (Int z) others all =
        let (y, r, is) = one_beside (n.Int z) others all in record { to = Int z; is = is ∙ ap (λ k. k ∷ []) r; same = refl }
    renamed at (Text s) others all =
        let (y, r, is) = one_beside (n.Text s) others all in record { to = Text s; is = is ∙ ap (λ k. k ∷ []) r; same = refl }
    renamed at (Truth b) others all =
        let (y, r, is) = one_beside (n.Bool b) others all in record { to = Truth b; is = is ∙ ap (λ k. k ∷ []) r; same = refl }
    renamed at (Label l) others all =
        let (y, r, is) = one_beside (n.Label l) others all in record { to = Label r.0; is = is ∙ ap (λ k. k ∷ []) r.2; same = refl }
    renamed at (Read l a) others all =
        let (y, r, is) = one_beside (n.Read l a) others all in
        record { to = Read r.0 r.1; is = is ∙ ap (λ k. k ∷ []) r.4; same = refl }
    renamed at (Lexeme l) others all =
        let (y, r, is) = one_beside (n.Lexeme l) others all in record { to = Lexeme r.0; is = is ∙ ap (λ k. k ∷ []) r.2; same = refl }
    renamed at (Top a) others all =
        let (y, r, is) = one_beside (n.Top a) others all in record { to = Top r.0; is = is ∙ ap (λ k. k ∷ []) r.2; same = refl }
    renamed at (Forward a) others all =
        let (y, r, is) = one_beside (n.Forward a) others all in record { to = Forward r.0; is = is ∙ ap (λ k. k ∷ []) r.2; same = refl }
    renamed at (Build p es) others all =
        let inner = all_nodes_from at es in
        let node = n.Build p (places_from at es) in
        let front = all_renamed at es (take (length inner) others) (zip_take (IsRenamedNode R S T) inner (node ∷ []) others all) in
        let (y, r, is) = one_beside node (drop (length inner) others) (zip_drop (IsRenamedNode R S T) inner (node ∷ []) others all) in
        record {
          to = Build r.0 front.to;
          is = sym (take-append-drop (length inner) others) ∙ (ap (λ k. k ++ drop (length inner) others) front.is
              ∙ ap (λ k. all_nodes_from at front.to ++ k) (is ∙ ap (λ k. k ∷ []) (r.2 ∙ ap (λ k. n.Build r.0 k) (sym front.places))));
          same = ap suc front.same;
        }
    renamed at (Call o es) others all =
        let inner = all_nodes_from at es in
        let node = n.Call o (places_from at es) in
        let front = all_renamed at es (take (length inner) others) (zip_take (IsRenamedNode R S T) inner (node ∷ []) others all) in
        let (y, r, is) = one_beside node (drop (length inner) others) (zip_drop (IsRenamedNode R S T) inner (node ∷ []) others all) in
        record {
          to = Call o front.to;
          is = sym (take-append-drop (length inner) others) ∙ (ap (λ k. k ++ drop (length inner) others) front.is
              ∙ ap (λ k. all_nodes_from at front.to ++ k) (is ∙ ap (λ k. k ∷ []) (r ∙ ap (λ k. n.Call o k) (sym front.places))));
          same = ap suc front.same;
        }
    renamed at (If c h g) others all =
        let x = nodes_from at c in
        let y = nodes_from (at + size c) h in
        let z = nodes_from (at + size c + size h) g in
        let w = n.If (at + size c - 1) (at + size c + size h - 1) (at + size c + size h + size g - 1) in
        let two = take (length ((x ++ y) ++ z)) others in
        let one = take (length (x ++ y)) two in
        let all_two = zip_take (IsRenamedNode R S T) ((x ++ y) ++ z) (w ∷ []) others all in
        let all_one = zip_take (IsRenamedNode R S T) (x ++ y) z two all_two in
        let a = renamed at c (take (length x) one) (zip_take (IsRenamedNode R S T) x y one all_one) in
        let b = renamed (at + size c) h (drop (length x) one) (zip_drop (IsRenamedNode R S T) x y one all_one) in
        let d = renamed (at + size c + size h) g (drop (length (x ++ y)) two) (zip_drop (IsRenamedNode R S T) (x ++ y) z two all_two) in
        let (v, r, is) = one_beside w (drop (length ((x ++ y) ++ z)) others) (zip_drop (IsRenamedNode R S T) ((x ++ y) ++ z) (w ∷ []) others
        all) in
        joined at c h g others one two a b d (sym (take-append-drop (length x) one)) (sym (take-append-drop (length (x ++ y)) two))
        (sym (take-append-drop (length ((x ++ y) ++ z)) others)) (is ∙ ap (λ k. k ∷ []) r)

    all_renamed : (at : ℕ) (es : Expressions L A P O) (others : List (Node M B Q O)) → AreRenamedNodes R S T (all_nodes_from at es) others
        → AllFrom at es others
    all_renamed at none [] all = record { to = none; is = refl; same = refl; places = refl }
    all_renamed at none (y ∷ ys) all = absurd all
    all_renamed at (more e es) others all =
        let inner = nodes_from at e in
        let rest = all_nodes_from (at + size e) es in
        let front = renamed at e (take (length inner) others) (zip_take (IsRenamedNode R S T) inner rest others all) in
        let back = all_renamed (at + size e) es (drop (length inner) others) (zip_drop (IsRenamedNode R S T) inner rest others all) in
        record {
          to = more front.to back.to;
          is = sym (take-append-drop (length inner) others) ∙ (ap (λ k. k ++ drop (length inner) others) front.is
              ∙ (ap (λ k. nodes_from at front.to ++ k) back.is
              ∙ ap (λ k. nodes_from at front.to ++ all_nodes_from (at + k) back.to) (sym front.same)));
          same = ap (λ k. k + size_of_all back.to) front.same ∙ ap (λ k. size e + k) back.same;
          places = ap (λ k. (at + k - 1) ∷ places_from (at + k) back.to) front.same ∙ ap (λ k. (at + size e - 1) ∷ k) back.places;
        }

  -- renamed nodes of a whole expression are a whole expression
  pub renamed_whole : (nodes : List (Node L A P O)) (others : List (Node M B Q O)) → IsWhole nodes → AreRenamedNodes R S T nodes others
      → IsWhole others
  renamed_whole nodes others whole all =
      let r = renamed 0 whole.0 others (subst (λ k. AreRenamedNodes R S T k others) whole.1 all) in (r.to, r.is)

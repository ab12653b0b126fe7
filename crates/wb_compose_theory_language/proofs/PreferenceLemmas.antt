-- Preferences of the union: what is preferred there between rows of the host, or of one extension with the host, is preferred there; so
-- they make no cycle of two or three, though they may make longer ones.
use Rattle.std.proofs.Common.{◌≡◌, ◌≢◌, ◌∙◌, ◌∷◌, [], ℕ, List, Some, slice_get, sym, ap, subst, inl, inr}
use Rattle.std.specs.Prelude.{Contains}
use Rattle.std.proofs.lemmas.Bool.{cases_eq}
use Rattle.std.proofs.lemmas.Option.{same_Some}
use Rattle.wb_base.specs.Grammar.{GrammarView}
use Rattle.wb_determinism_contexts.specs.Considered.{LexiconView}
use Rattle.wb_scan_theory.proofs.BareLemmas.{cycle_three, cycle_two}
use Rattle.wb_lemmas.proofs.Elements.{all_at}
use Rattle.wb_compose_theory_grammar.specs.Pieces.{ArePieces}
use Rattle.wb_compose_theory_language.specs.Written.{IsHostPreference, IsOwnRow, WrittenPiece, pieces_of, row_up}
use Rattle.wb_compose_theory_language.specs.Apart.{AreWrittenApart, IsPieceApart}
use Rattle.wb_compose_theory_language.specs.Rows.{Prefers, by_extension, by_host, host_row, piece_row}
use Rattle.wb_compose_theory_language.proofs.RowLemmas.{host_not_own, host_once, other_not_own, row_once, up_row}

module _ (host : GrammarView) (extensible : List ℕ) (own : LexiconView) (written : List WrittenPiece)
    (ok : ArePieces host extensible (pieces_of written)) (apart : AreWrittenApart host extensible own written) where
  -- what is certified of one extension
  pub apart_at : (k : ℕ) (x : WrittenPiece) → slice_get written k ≡ Some x → IsPieceApart host extensible own x
  apart_at k x at = all_at (IsPieceApart host extensible own) written k x apart.of_extensions at

  -- the union's preference
  abbrev pub Preferred : ℕ → ℕ → Type 0
  Preferred one other = Prefers host extensible own written one other

  -- that of host rows is the host's
  pub in_host : (a b : ℕ) → Preferred (host_row host extensible own written a) (host_row host extensible own written b) →
      Contains own.preferences (a, b)
  in_host a b (by_host t u one two listed) =
      let a_is = host_once host extensible own written ok a t one in
      let b_is = host_once host extensible own written ok b u two in
      subst (λ z. Contains own.preferences (z, b)) (sym a_is) (subst (λ z. Contains own.preferences (t, z)) (sym b_is) listed)
  in_host a b (by_extension l y t u there one two listed) = elim ((apart_at l y there).beside.preferences t u listed) [
    | inl of_host ↦ hosts of_host
    | inr (inl mine) ↦ absurd (host_not_own host extensible own written ok l y there t a mine one)
    | inr (inr mine) ↦ absurd (host_not_own host extensible own written ok l y there u b mine two)
  ]
    where
      hosts : IsHostPreference host own y t u → Contains own.preferences (a, b)
      hosts h =
          let a_is = host_once host extensible own written ok a h.first
          (one ∙ (ap (piece_row host extensible own written l y) h.first_is ∙ up_row host extensible own written ok l y there h.first)) in
          let b_is = host_once host extensible own written ok b h.second
          (two ∙ (ap (piece_row host extensible own written l y) h.second_is ∙ up_row host extensible own written ok l y there h.second)) in
          subst (λ z. Contains own.preferences (z, b)) (sym a_is)
          (subst (λ z. Contains own.preferences (h.first, z)) (sym b_is) h.listed)

  module _ (k : ℕ) (x : WrittenPiece) (at : slice_get written k ≡ Some x) where
    -- the row of an extension with the host that is a host's
    up_is : (a t : ℕ) → piece_row host extensible own written k x a ≡ host_row host extensible own written t → a ≡ row_up host own x t
    up_is a t same = row_once host extensible own written ok k x at a (row_up host own x t)
        (same ∙ sym (up_row host extensible own written ok k x at t))

    -- the host's preference between rows of an extension with the host
    from_host : (a b t u : ℕ) → piece_row host extensible own written k x a ≡ host_row host extensible own written t →
        piece_row host extensible own written k x b ≡ host_row host extensible own written u → Contains own.preferences (t, u) →
        Contains x.lexicon.preferences (a, b)
    from_host a b t u one two listed =
        subst (λ z. Contains x.lexicon.preferences (z, b)) (sym (up_is a t one))
        (subst (λ z. Contains x.lexicon.preferences (row_up host own x t, z)) (sym (up_is b u two))
        ((apart_at k x at).beside.preferred t u listed))

    -- another extension's is the host's
    from_other : (l : ℕ) (y : WrittenPiece) → slice_get written l ≡ Some y → k ≢ l → (a b t u : ℕ) →
        piece_row host extensible own written k x a ≡ piece_row host extensible own written l y t →
        piece_row host extensible own written k x b ≡ piece_row host extensible own written l y u →
        Contains y.lexicon.preferences (t, u) → Contains x.lexicon.preferences (a, b)
    from_other l y there differ a b t u one two listed = elim ((apart_at l y there).beside.preferences t u listed) [
      | inl h ↦ from_host a b h.first h.second
          (one ∙ (ap (piece_row host extensible own written l y) h.first_is ∙ up_row host extensible own written ok l y there h.first))
          (two ∙ (ap (piece_row host extensible own written l y) h.second_is ∙ up_row host extensible own written ok l y there h.second))
          h.listed
      | inr (inl mine) ↦ absurd (other_not_own host extensible own written ok l k y x there at (λ e. differ (sym e)) t a mine one)
      | inr (inr mine) ↦ absurd (other_not_own host extensible own written ok l k y x there at (λ e. differ (sym e)) u b mine two)
    ]

    -- the union's preference between rows of an extension with the host is the extension's
    pub in_piece : (a b : ℕ) → Preferred (piece_row host extensible own written k x a) (piece_row host extensible own written k x b) →
        Contains x.lexicon.preferences (a, b)
    in_piece a b (by_host t u one two listed) = from_host a b t u one two listed
    in_piece a b (by_extension l y t u there one two listed) = elim (cases_eq k l) [
      | inl same ↦ equal same
      | inr differ ↦ from_other l y there differ a b t u one two listed
    ]
      where
        equal : k ≡ l → Contains x.lexicon.preferences (a, b)
        equal same =
            let y_is : y ≡ x = same_Some y x (sym there ∙ (ap (slice_get written) (sym same) ∙ at)) in
            let rows_are : piece_row host extensible own written l y ≡ piece_row host extensible own written k x =
            λ z. piece_row host extensible own written (same' z) (y_is z) in
            let a_is = row_once host extensible own written ok k x at a t (one ∙ ap (λ f. f t) rows_are) in
            let b_is = row_once host extensible own written ok k x at b u (two ∙ ap (λ f. f u) rows_are) in
            subst (λ z. Contains x.lexicon.preferences (z, b)) (sym a_is)
            (subst (λ z. Contains x.lexicon.preferences (t, z)) (sym b_is)
            (subst (λ (z : WrittenPiece). Contains z.lexicon.preferences (t, u)) y_is listed))
          where
            same' : l ≡ k
            same' = sym same

  -- both rows are the host's, or of one extension with the host, and one of them is the extension's own
  data OneHome (one other : ℕ) : Type 0 where
    hosts : (a b : ℕ) → one ≡ host_row host extensible own written a → other ≡ host_row host extensible own written b → OneHome one other
    first : (k : ℕ) (x : WrittenPiece) (a b : ℕ) → slice_get written k ≡ Some x → one ≡ piece_row host extensible own written k x a →
        other ≡ piece_row host extensible own written k x b → IsOwnRow host own x a → OneHome one other
    second : (k : ℕ) (x : WrittenPiece) (a b : ℕ) → slice_get written k ≡ Some x → one ≡ piece_row host extensible own written k x a →
        other ≡ piece_row host extensible own written k x b → IsOwnRow host own x b → OneHome one other

  -- so it is with what is preferred
  home : (one other : ℕ) → Preferred one other → OneHome one other
  home one other (by_host t u one_is other_is listed) = hosts t u one_is other_is
  home one other (by_extension l y t u there one_is other_is listed) =
      elim ((apart_at l y there).beside.preferences t u listed) [
        | inl h ↦ hosts h.first h.second
            (one_is ∙ (ap (piece_row host extensible own written l y) h.first_is
            ∙ up_row host extensible own written ok l y there h.first))
            (other_is ∙ (ap (piece_row host extensible own written l y) h.second_is
            ∙ up_row host extensible own written ok l y there h.second))
        | inr (inl mine) ↦ first l y t u there one_is other_is mine
        | inr (inr mine) ↦ second l y t u there one_is other_is mine
      ]

  module _ (k : ℕ) (x : WrittenPiece) (at : slice_get written k ≡ Some x) where
    -- a row of an extension's own is of no other home
    of_one : (l : ℕ) (y : WrittenPiece) (a b c : ℕ) → slice_get written l ≡ Some y → IsOwnRow host own x a →
        piece_row host extensible own written k x a ≡ piece_row host extensible own written l y b →
        piece_row host extensible own written l y c ≡ piece_row host extensible own written k x c
    of_one l y a b c there mine same = elim (cases_eq k l) [
      | inl equal ↦
          let y_is : y ≡ x = same_Some y x (sym there ∙ (ap (slice_get written) (sym equal) ∙ at)) in
          λ z. piece_row host extensible own written (back equal z) (y_is z) c
      | inr differ ↦ absurd (other_not_own host extensible own written ok k l x y at there differ a b mine (sym same))
    ]
      where
        back : k ≡ l → l ≡ k
        back e = sym e

    -- what is preferred to a row of its own, or less than one, is a row of the extension with the host
    pub after_own : (a v : ℕ) → IsOwnRow host own x a → Preferred (piece_row host extensible own written k x a) v →
        (b : ℕ) × (v ≡ piece_row host extensible own written k x b)
    after_own a v mine p = go (home (piece_row host extensible own written k x a) v p)
      where
        go : OneHome (piece_row host extensible own written k x a) v → (b : ℕ) × (v ≡ piece_row host extensible own written k x b)
        go (hosts c d one two) = absurd (host_not_own host extensible own written ok k x at a c mine (sym one))
        go (first l y c d there one two is) = (d, two ∙ of_one l y a c d there mine one)
        go (second l y c d there one two is) = (d, two ∙ of_one l y a c d there mine one)

    pub before_own : (a v : ℕ) → IsOwnRow host own x a → Preferred v (piece_row host extensible own written k x a) →
        (b : ℕ) × (v ≡ piece_row host extensible own written k x b)
    before_own a v mine p = go (home v (piece_row host extensible own written k x a) p)
      where
        go : OneHome v (piece_row host extensible own written k x a) → (b : ℕ) × (v ≡ piece_row host extensible own written k x b)
        go (hosts c d one two) = absurd (host_not_own host extensible own written ok k x at a d mine (sym two))
        go (first l y c d there one two is) = (c, one ∙ of_one l y a d c there mine two)
        go (second l y c d there one two is) = (c, one ∙ of_one l y a d c there mine two)

    -- no cycle of rows of one extension with the host
    two_rows : (a b t u : ℕ) → t ≡ piece_row host extensible own written k x a → u ≡ piece_row host extensible own written k x b →
        Preferred t u → Preferred u t → ⊥
    two_rows a b t u t_is u_is p q =
        (apart_at k x at).clear.acyclic (a ∷ b ∷ [])
        (cycle_two x.lexicon.preferences a b (in_piece k x at a b (moved t u a b t_is u_is p)) (in_piece k x at b a (moved u t b a u_is t_is q)))
      where
        moved : (v w c d : ℕ) → v ≡ piece_row host extensible own written k x c → w ≡ piece_row host extensible own written k x d →
            Preferred v w → Preferred (piece_row host extensible own written k x c) (piece_row host extensible own written k x d)
        moved v w c d v_is w_is is = subst (λ z. Preferred z (piece_row host extensible own written k x d)) v_is
            (subst (λ z. Preferred v z) w_is is)

    three_rows : (a b c t u v : ℕ) → t ≡ piece_row host extensible own written k x a → u ≡ piece_row host extensible own written k x b →
        v ≡ piece_row host extensible own written k x c → Preferred t u → Preferred u v → Preferred v t → ⊥
    three_rows a b c t u v t_is u_is v_is p q r =
        (apart_at k x at).clear.acyclic (a ∷ b ∷ c ∷ [])
        (cycle_three x.lexicon.preferences a b c (in_piece k x at a b (moved t u a b t_is u_is p))
        (in_piece k x at b c (moved u v b c u_is v_is q)) (in_piece k x at c a (moved v t c a v_is t_is r)))
      where
        moved : (s w d e : ℕ) → s ≡ piece_row host extensible own written k x d → w ≡ piece_row host extensible own written k x e →
            Preferred s w → Preferred (piece_row host extensible own written k x d) (piece_row host extensible own written k x e)
        moved s w d e s_is w_is is = subst (λ z. Preferred z (piece_row host extensible own written k x e)) s_is
            (subst (λ z. Preferred s z) w_is is)

    -- nor one with a row of its own
    three_with_own : (a t u v : ℕ) → IsOwnRow host own x a → t ≡ piece_row host extensible own written k x a → Preferred t u →
        Preferred u v → Preferred v t → ⊥
    three_with_own a t u v mine t_is p q r =
        let (b, u_is) = after_own a u mine (subst (λ z. Preferred z u) t_is p) in
        let (c, v_is) = before_own a v mine (subst (λ z. Preferred v z) t_is r) in
        three_rows a b c t u v t_is u_is v_is p q r

  -- nor one of the host's rows
  host_rows : (a b t u : ℕ) → t ≡ host_row host extensible own written a → u ≡ host_row host extensible own written b → Preferred t u →
      Contains own.preferences (a, b)
  host_rows a b t u t_is u_is p = in_host a b (subst (λ z. Preferred z (host_row host extensible own written b)) t_is
      (subst (λ z. Preferred t z) u_is p))

  -- two terminals aren't preferred to each other
  pub no_ring_of_two : (t u : ℕ) → Preferred t u → Preferred u t → ⊥
  no_ring_of_two t u p q = go (home t u p)
    where
      go : OneHome t u → ⊥
      go (hosts a b one two) = apart.of_host.clear.acyclic (a ∷ b ∷ [])
          (cycle_two own.preferences a b (host_rows a b t u one two p) (host_rows b a u t two one q))
      go (first k x a b at one two mine) = two_rows k x at a b t u one two p q
      go (second k x a b at one two mine) = two_rows k x at a b t u one two p q

  -- three aren't in a cycle
  pub no_ring_of_three : (t u v : ℕ) → Preferred t u → Preferred u v → Preferred v t → ⊥
  no_ring_of_three t u v p q r = go (home t u p) (home u v q)
    where
      go : OneHome t u → OneHome u v → ⊥
      go (first k x a b at one two mine) other = three_with_own k x at a t u v mine one p q r
      go (second k x a b at one two mine) other = three_with_own k x at b u v t mine two q r p
      go (hosts a b one two) (first k x c d at three four mine) = three_with_own k x at c u v t mine three q r p
      go (hosts a b one two) (second k x c d at three four mine) = three_with_own k x at d v t u mine four r p q
      go (hosts a b one two) (hosts c d three four) = apart.of_host.clear.acyclic (a ∷ b ∷ d ∷ [])
          (cycle_three own.preferences a b d (host_rows a b t u one two p)
          (host_rows b d u v two four q) (host_rows d a v t four one r))

-- Lines of entries: where they are read, and where they stop.
use Rattle.std.proofs.Common.{◌≡◌, ◌≢◌, ◌<◌, ◌^◌, ◌⊎◌, ℕ, List, [], ◌∷◌, ◌++◌, Option}
use Rattle.std.proofs.Common.{Some, None, refl, sym, ap, ◌∙◌, subst, inl, inr, arith, drop}
use Rattle.std.specs.Prelude.{codes}
use Rattle.wb_grammar_theory.specs.declared.item.Item.{Item}
use Rattle.wb_lemmas.proofs.Parts.{append_assoc}
use Rattle.wb_recheck_theory.specs.declared.entry.Entry.{Entry}
use Rattle.wb_recheck_text.specs.Text.{entry_text, number_then, origin_text}
use Rattle.wb_recheck_text.specs.Faults.{IsEntrySmall, IsOriginSmall, IsSmall}
use Rattle.wb_recheck_text.specs.Inner.Parts.{Begins, Both, Exactly, IsNoDigit, IsPrefixFree, IsStop, Numbers, Texts}
use Rattle.wb_recheck_text.specs.Inner.Progress.{IsPairSmall, pair_text}
use Rattle.wb_recheck_text.proofs.StopLemmas.{append_cancel, exactly_free, stop_first, stop_here, stop_same, stop_second, stop_wider}
use Rattle.wb_recheck_text.proofs.NumberLemmas.{number_some, number_first, number_unique, numbers_free}
use Rattle.wb_recheck_text.proofs.LineLemmas.{some_number, no_digit_lf, no_digit_space}

-- pairs of numbers
abbrev pub Pairs : List ℕ → Type 0
Pairs = Texts IsPairSmall pair_text

pair_there : (l : List ℕ) → Both (Numbers 32) (Numbers 32) l → Pairs l
pair_there l (a, b, (n, n_small, a_is), (m, m_small, b_is), e) =
    ((n, m), (n_small, m_small), e ∙ (ap (λ x. x ++ b) a_is ∙ ap (λ x. number_then 32 n ++ x) b_is))

pair_back : (l : List ℕ) → Pairs l → Both (Numbers 32) (Numbers 32) l
pair_back l ((n, m), (n_small, m_small), e) = (number_then 32 n, number_then 32 m, (n, n_small, refl), (m, m_small, refl), e)

pub pair_stopped_first : (text rest : List ℕ) → IsStop (Numbers 32) text rest → IsStop (Texts IsPairSmall pair_text) text rest
pair_stopped_first text rest s = stop_same pair_there pair_back (stop_first s (number_then 32 0) (some_number 32))

pub pair_stopped_second : (text after rest : List ℕ) (n : ℕ) → Begins IsSmall (number_then 32) text n after →
    IsStop (Numbers 32) after rest →
    IsStop (Texts IsPairSmall pair_text) text rest
pair_stopped_second text after rest n (small, e) s =
    stop_same pair_there pair_back (stop_second (numbers_free 32 no_digit_space) (number_then 32 n) text (n, small, refl) e s)

pub pair_read : (text after next : List ℕ) (n m : ℕ) → Begins IsSmall (number_then 32) text n after →
    Begins IsSmall (number_then 32) after m next → Begins IsPairSmall pair_text text (n, m) next
pair_read text after next n m (n_small, e) (m_small, f) = (
  (n_small, m_small),
  e ∙ (ap (λ l. number_then 32 n ++ l) f ∙ sym (append_assoc (number_then 32 n) (number_then 32 m) next)),
)

-- one pair is at the beginning
pub pair_unique : (p q : ℕ × ℕ) (x y : List ℕ) → IsPairSmall p → IsPairSmall q → pair_text p ++ x ≡ pair_text q ++ y → (p ≡ q) × (x ≡ y)
pair_unique (a, b) (c, d) x y (a_small, b_small) (c_small, d_small) e =
    let one = number_unique 32 c a (number_then 32 b ++ x) (number_then 32 d ++ y) no_digit_space c_small a_small
    (sym (append_assoc (number_then 32 a) (number_then 32 b) x) ∙ (e ∙ append_assoc (number_then 32 c) (number_then 32 d) y)) in
    let two = number_unique 32 d b x y no_digit_space d_small b_small one.1 in
    (ap (λ n. (n, b)) one.0 ∙ ap (λ n. (c, n)) two.0, two.1)

pub pairs_free : IsPrefixFree Pairs
pairs_free a b x y (p, p_small, is) (q, q_small, is') e =
    let both : pair_text p ++ x ≡ pair_text q ++ y = ap (λ l. l ++ x) (sym is) ∙ (e ∙ ap (λ l. l ++ y) is') in
    is ∙ (ap pair_text (pair_unique p q x y p_small q_small both).0 ∙ sym is')

-- origins
abbrev pub Origins : List ℕ → Type 0
Origins = Texts IsOriginSmall origin_text

none_there : (l : List ℕ) → Exactly (codes "-\n") l → Origins l
none_there l e = (None, tt, e)

some_there : (l : List ℕ) → Numbers 10 l → Origins l
some_there l (n, small, e) = (Some n, small, e)

none_back : (tail : List ℕ) → Origins (45 ∷ tail) → Exactly (codes "-\n") (45 ∷ tail)
none_back tail (None, small, e) = e
none_back tail (Some n, small, e) = let first = number_first 10 n 45 tail small e in absurd (omega (arith, first.0))

some_back : (b : ℕ) (tail : List ℕ) → b ≢ 45 → Origins (b ∷ tail) → Numbers 10 (b ∷ tail)
some_back b tail other (None, small, e) = absurd (other cc)
some_back b tail other (Some n, small, e) = (n, small, e)

origin_some : ¬ Origins []
origin_some (None, small, e) = cc
origin_some (Some n, small, e) = number_some 10 n small e

pub none_read : (text next : List ℕ) → text ≡ codes "-\n" ++ next → Begins IsOriginSmall origin_text text None next
none_read text next is = (tt, is)

pub some_read : (text next : List ℕ) (n : ℕ) → Begins IsSmall (number_then 10) text n next →
    Begins IsOriginSmall origin_text text (Some n) next
some_read text next n (small, is) = (small, is)

pub none_stopped : (text rest : List ℕ) → text ≡ 45 ∷ drop 1 text → IsStop (Exactly (codes "-\n")) text rest →
    IsStop (Texts IsOriginSmall origin_text) text rest
none_stopped text rest is s =
    stop_wider text none_there
    (λ b tail more there o. (let same : b ≡ 45 = cc in subst (λ z. Exactly (codes "-\n") (z ∷ more)) (sym same)
    (none_back more (subst (λ z. Origins (z ∷ more)) same o))))
    origin_some s

pub some_stopped : (text rest : List ℕ) → ((after : List ℕ) → text ≢ 45 ∷ after) → IsStop (Numbers 10) text rest →
    IsStop (Texts IsOriginSmall origin_text) text rest
some_stopped text rest other s =
    stop_wider text some_there
    (λ b tail more there o. some_back b more (λ same. other tail (there ∙ ap (λ z. z ∷ tail) same)) o)
    origin_some s

-- no number begins with `-`
dash_number : (m : ℕ) (x y : List ℕ) → m < 2 ^ 64 → codes "-\n" ++ x ≡ number_then 10 m ++ y → ⊥
dash_number m x y small e = cases (number_then 10 m) refl e where
  cases : (l : List ℕ) → number_then 10 m ≡ l → codes "-\n" ++ x ≡ l ++ y → ⊥
  cases [] is e = number_some 10 m small (sym is)
  cases (c ∷ l) is e =
      let same : c ≡ 45 = cc in
      let first = number_first 10 m c l small (sym is) in
      omega (arith, same, first.0)

-- one origin is at the beginning
pub origin_unique : (o u : Option ℕ) (x y : List ℕ) → IsOriginSmall o → IsOriginSmall u → origin_text o ++ x ≡ origin_text u ++ y →
    (o ≡ u) × (x ≡ y)
origin_unique None None x y o_small u_small e = (refl, append_cancel (codes "-\n") x y e)
origin_unique (Some n) (Some m) x y o_small u_small e =
    let both = number_unique 10 m n x y no_digit_lf u_small o_small e in (ap Some both.0, both.1)
origin_unique None (Some m) x y o_small u_small e = absurd (dash_number m x y u_small e)
origin_unique (Some n) None x y o_small u_small e = absurd (dash_number n y x o_small (sym e))

-- lines as words
abbrev pub EntryWords : List ℕ → Type 0
EntryWords = Both (Exactly (codes "look ")) (Both Pairs (Both Pairs Origins))

abbrev pub entry_of : ℕ × ℕ → ℕ × ℕ → Option ℕ → Entry
entry_of p q o = record { kernel = p.0; item = record { production = p.1; dot = q.0 }; terminal = q.1; origin = o }

-- the line as its words
entry_words : (p q : ℕ × ℕ) (o : Option ℕ) →
    codes "look " ++ (pair_text p ++ (pair_text q ++ origin_text o)) ≡ entry_text (entry_of p q o)
entry_words (k, p) (d, t) o =
    ap (λ l. codes "look " ++ l)
    (append_assoc (number_then 32 k) (number_then 32 p) (pair_text (d, t) ++ origin_text o)
    ∙ ap (λ l. number_then 32 k ++ (number_then 32 p ++ l)) (append_assoc (number_then 32 d) (number_then 32 t) (origin_text o)))

entry_there : (l : List ℕ) → EntryWords l → Texts IsEntrySmall entry_text l
entry_there l (a, b, one, (c, d, (p, p_small, c_is), (f, g, (q, q_small, f_is), (o, o_small, g_is), d_is), b_is), e) = (
  entry_of p q o,
  record { kernel = p_small.0; production = p_small.1; dot = q_small.0; terminal = q_small.1; origin = o_small },
  e ∙ (ap (λ x. x ++ b) one ∙ (ap (λ x. codes "look " ++ x) (b_is ∙ (ap (λ x. x ++ d) c_is
      ∙ ap (λ x. pair_text p ++ x) (d_is ∙ (ap (λ x. x ++ g) f_is ∙ ap (λ x. pair_text q ++ x) g_is)))) ∙ entry_words p q o)),
)

entry_back : (l : List ℕ) → Texts IsEntrySmall entry_text l → EntryWords l
entry_back l (v, small, e) =
    let p : ℕ × ℕ = (v.kernel, v.item.production) in
    let q : ℕ × ℕ = (v.item.dot, v.terminal) in (
      codes "look ",
      pair_text p ++ (pair_text q ++ origin_text v.origin),
      refl,
      (
        pair_text p,
        pair_text q ++ origin_text v.origin,
        (p, (small.kernel, small.production), refl),
        (pair_text q, origin_text v.origin, (q, (small.dot, small.terminal), refl), (v.origin, small.origin, refl), refl),
        refl,
      ),
      e ∙ sym (entry_words p q v.origin),
    )

some_pair : Pairs (pair_text (0, 0))
some_pair = let small : 0 < 2 ^ 64 = omega arith in ((0, 0), (small, small), refl)

some_origin : Origins (codes "-\n")
some_origin = (None, tt, refl)

some_last : Both Pairs Origins (pair_text (0, 0) ++ codes "-\n")
some_last = (pair_text (0, 0), codes "-\n", some_pair, some_origin, refl)

pub entry_stopped_word : (text rest : List ℕ) → IsStop (Exactly (codes "look ")) text rest →
    IsStop (Texts IsEntrySmall entry_text) text rest
entry_stopped_word text rest s =
    stop_same entry_there entry_back (stop_first s (pair_text (0, 0) ++ (pair_text (0, 0) ++ codes "-\n"))
    (pair_text (0, 0), pair_text (0, 0) ++ codes "-\n", some_pair, some_last, refl))

pub entry_stopped_first : (text first rest : List ℕ) → text ≡ codes "look " ++ first → IsStop (Texts IsPairSmall pair_text) first rest →
    IsStop (Texts IsEntrySmall entry_text) text rest
entry_stopped_first text first rest is s =
    stop_same entry_there entry_back (stop_second (exactly_free (codes "look ")) (codes "look ") text refl is
    (stop_first s (pair_text (0, 0) ++ codes "-\n") some_last))

pub entry_stopped_second : (text first second rest : List ℕ) (p : ℕ × ℕ) → text ≡ codes "look " ++ first →
    Begins IsPairSmall pair_text first p second → IsStop (Texts IsPairSmall pair_text) second rest →
    IsStop (Texts IsEntrySmall entry_text) text rest
entry_stopped_second text first second rest p is (small, e) s =
    stop_same entry_there entry_back (stop_second (exactly_free (codes "look ")) (codes "look ") text refl is
    (stop_second pairs_free (pair_text p) first (p, small, refl) e (stop_first s (codes "-\n") some_origin)))

pub entry_stopped_origin : (text first second last rest : List ℕ) (p q : ℕ × ℕ) → text ≡ codes "look " ++ first →
    Begins IsPairSmall pair_text first p second → Begins IsPairSmall pair_text second q last →
    IsStop (Texts IsOriginSmall origin_text) last rest → IsStop (Texts IsEntrySmall entry_text) text rest
entry_stopped_origin text first second last rest p q is (p_small, e) (q_small, f) s =
    stop_same entry_there entry_back (stop_second (exactly_free (codes "look ")) (codes "look ") text refl is
    (stop_second pairs_free (pair_text p) first (p, p_small, refl) e
    (stop_second pairs_free (pair_text q) second (q, q_small, refl) f s)))

pub entry_read : (text first second last next : List ℕ) (k p d t : ℕ) (o : Option ℕ) → text ≡ codes "look " ++ first →
    Begins IsPairSmall pair_text first (k, p) second → Begins IsPairSmall pair_text second (d, t) last →
    Begins IsOriginSmall origin_text last o next →
    Begins IsEntrySmall entry_text text
    (record { kernel = k; item = record { production = p; dot = d }; terminal = t; origin = o }) next
entry_read text first second last next k p d t o is (p_small, e) (q_small, f) (o_small, g) = (
  record { kernel = p_small.0; production = p_small.1; dot = q_small.0; terminal = q_small.1; origin = o_small },
  is ∙ (ap (λ l. codes "look " ++ l) (e ∙ (ap (λ l. pair_text (k, p) ++ l) (f ∙ (ap (λ l. pair_text (d, t) ++ l) g
      ∙ sym (append_assoc (pair_text (d, t)) (origin_text o) next)))
      ∙ sym (append_assoc (pair_text (k, p)) (pair_text (d, t) ++ origin_text o) next)))
      ∙ ap (λ l. l ++ next) (entry_words (k, p) (d, t) o)),
)

-- one line is at the beginning
pub entry_unique : (u v : Entry) (x y : List ℕ) → IsEntrySmall u → IsEntrySmall v → entry_text u ++ x ≡ entry_text v ++ y →
    (u ≡ v) × (x ≡ y)
entry_unique u v x y u_small v_small e =
    let p : ℕ × ℕ = (u.kernel, u.item.production) in
    let q : ℕ × ℕ = (u.item.dot, u.terminal) in
    let r : ℕ × ℕ = (v.kernel, v.item.production) in
    let s : ℕ × ℕ = (v.item.dot, v.terminal) in
    let words : (pair_text p ++ (pair_text q ++ origin_text u.origin)) ++ x ≡ (pair_text r ++ (pair_text s ++ origin_text v.origin)) ++ y =
    append_cancel (codes "look ") ((pair_text p ++ (pair_text q ++ origin_text u.origin)) ++ x)
    ((pair_text r ++ (pair_text s ++ origin_text v.origin)) ++ y)
    (ap (λ l. l ++ x) (entry_words p q u.origin) ∙ (e ∙ ap (λ l. l ++ y) (sym (entry_words r s v.origin)))) in
    let one = pair_unique p r ((pair_text q ++ origin_text u.origin) ++ x) ((pair_text s ++ origin_text v.origin) ++ y)
    (u_small.kernel, u_small.production) (v_small.kernel, v_small.production)
    (sym (append_assoc (pair_text p) (pair_text q ++ origin_text u.origin) x)
    ∙ (words ∙ append_assoc (pair_text r) (pair_text s ++ origin_text v.origin) y)) in
    let two = pair_unique q s (origin_text u.origin ++ x) (origin_text v.origin ++ y) (u_small.dot, u_small.terminal)
    (v_small.dot, v_small.terminal) (sym (append_assoc (pair_text q) (origin_text u.origin) x)
    ∙ (one.1 ∙ append_assoc (pair_text s) (origin_text v.origin) y)) in
    let three = origin_unique u.origin v.origin x y u_small.origin v_small.origin two.1 in
    (ap (λ z. entry_of z q u.origin) one.0 ∙ (ap (λ z. entry_of r z u.origin) two.0 ∙ ap (entry_of r s) three.0), three.1)

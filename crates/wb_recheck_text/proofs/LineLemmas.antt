-- Lines of kernels: where they are read, and where they stop.
use Rattle.std.proofs.Common.{◌≡◌, ◌≢◌, ◌<◌, ◌^◌, ◌⊎◌, ℕ, List, [], ◌∷◌, ◌++◌, refl, sym, ap, ◌∙◌, subst, inl, inr, arith, drop, get_or}
use Rattle.std.specs.Prelude.{codes}
use Rattle.wb_base.specs.declared.symbol.Symbol.{Symbol}
use Rattle.wb_base.specs.declared.symbol.Symbol.TheVariants.{Terminal, Nonterminal}
use Rattle.wb_lemmas.proofs.Parts.{append_assoc}
use Rattle.wb_recheck_theory.specs.declared.line.Line.{Line}
use Rattle.wb_recheck_text.specs.Text.{line_text, number_then, symbol_text}
use Rattle.wb_recheck_text.specs.Faults.{IsLineSmall, IsSmall, IsSymbolSmall}
use Rattle.wb_recheck_text.specs.Inner.Parts.{Begins, Both, Exactly, IsNoDigit, IsPrefixFree, IsStop, Numbers, Texts}
use Rattle.wb_recheck_text.proofs.StopLemmas.{append_cancel, exactly_free, stop_first, stop_here, stop_same, stop_second, stop_wider}
use Rattle.wb_recheck_text.proofs.NumberLemmas.{number_unique, numbers_free}

-- a number with its end in some text
pub some_number : (end : ℕ) → Numbers end (number_then end 0)
some_number end = let small : 0 < 2 ^ 64 = omega arith in (0, small, refl)

pub no_digit_lf : IsNoDigit 10
no_digit_lf = inl (omega arith)

pub no_digit_space : IsNoDigit 32
no_digit_space = inl (omega arith)

-- symbols
abbrev pub Symbols : List ℕ → Type 0
Symbols = Texts IsSymbolSmall symbol_text

abbrev pub Terminals : List ℕ → Type 0
Terminals = Both (Exactly (codes "t")) (Numbers 10)

abbrev pub Nonterminals : List ℕ → Type 0
Nonterminals = Both (Exactly (codes "n")) (Numbers 10)

terminal_is : (l : List ℕ) → Terminals l → Symbols l
terminal_is l (a, b, one, (n, small, two), e) = (Terminal n, small, e ∙ (ap (λ x. x ++ b) one ∙ ap (λ x. codes "t" ++ x) two))

nonterminal_is : (l : List ℕ) → Nonterminals l → Symbols l
nonterminal_is l (a, b, one, (n, small, two), e) = (Nonterminal n, small, e ∙ (ap (λ x. x ++ b) one ∙ ap (λ x. codes "n" ++ x) two))

terminal_back : (tail : List ℕ) → Symbols (116 ∷ tail) → Terminals (116 ∷ tail)
terminal_back tail (Terminal n, small, e) = (codes "t", number_then 10 n, refl, (n, small, refl), e)
terminal_back tail (Nonterminal n, small, e) = let f : 116 ≡ 110 = ap (λ l. get_or l 0 0) e in absurd (omega (arith, f))

nonterminal_back : (tail : List ℕ) → Symbols (110 ∷ tail) → Nonterminals (110 ∷ tail)
nonterminal_back tail (Terminal n, small, e) = let f : 110 ≡ 116 = ap (λ l. get_or l 0 0) e in absurd (omega (arith, f))
nonterminal_back tail (Nonterminal n, small, e) = (codes "n", number_then 10 n, refl, (n, small, refl), e)

symbol_some : ¬ Symbols []
symbol_some (Terminal n, small, e) = cc
symbol_some (Nonterminal n, small, e) = cc

symbol_first : (b : ℕ) (tail : List ℕ) → Symbols (b ∷ tail) → (b ≡ 116) ⊎ (b ≡ 110)
symbol_first b tail (Terminal n, small, e) = inl (cc)
symbol_first b tail (Nonterminal n, small, e) = inr (cc)

pub terminal_read : (text after next : List ℕ) (n : ℕ) → text ≡ 116 ∷ drop 1 text → after ≡ drop 1 text →
    Begins IsSmall (number_then 10) after n next → Begins IsSymbolSmall symbol_text text (Terminal n) next
terminal_read text after next n is cut (small, e) = (small, is ∙ ap (λ l. 116 ∷ l) (sym cut ∙ e))

pub nonterminal_read : (text after next : List ℕ) (n : ℕ) → text ≡ 110 ∷ drop 1 text → after ≡ drop 1 text →
    Begins IsSmall (number_then 10) after n next → Begins IsSymbolSmall symbol_text text (Nonterminal n) next
nonterminal_read text after next n is cut (small, e) = (small, is ∙ ap (λ l. 110 ∷ l) (sym cut ∙ e))

pub terminal_stopped : (text after rest : List ℕ) → text ≡ 116 ∷ drop 1 text → after ≡ drop 1 text → IsStop (Numbers 10) after rest →
    IsStop (Texts IsSymbolSmall symbol_text) text rest
terminal_stopped text after rest is cut s =
    stop_wider text terminal_is
    (λ b tail more there o. (let same : b ≡ 116 = cc in subst (λ z. Terminals (z ∷ more)) (sym same)
    (terminal_back more (subst (λ z. Symbols (z ∷ more)) same o))))
    symbol_some
    (stop_second (exactly_free (codes "t")) (codes "t") text refl (is ∙ ap (λ l. 116 ∷ l) (sym cut)) s)

pub nonterminal_stopped : (text after rest : List ℕ) → text ≡ 110 ∷ drop 1 text → after ≡ drop 1 text → IsStop (Numbers 10) after rest →
    IsStop (Texts IsSymbolSmall symbol_text) text rest
nonterminal_stopped text after rest is cut s =
    stop_wider text nonterminal_is
    (λ b tail more there o. (let same : b ≡ 110 = cc in subst (λ z. Nonterminals (z ∷ more)) (sym same)
    (nonterminal_back more (subst (λ z. Symbols (z ∷ more)) same o))))
    symbol_some
    (stop_second (exactly_free (codes "n")) (codes "n") text refl (is ∙ ap (λ l. 110 ∷ l) (sym cut)) s)

pub symbol_stopped : (text : List ℕ) → ((after : List ℕ) → text ≢ 116 ∷ after) → ((after : List ℕ) → text ≢ 110 ∷ after) →
    IsStop (Texts IsSymbolSmall symbol_text) text text
symbol_stopped text no_t no_n =
    let small : 0 < 2 ^ 64 = omega arith in
    stop_here text (symbol_text (Terminal 0)) (Terminal 0, small, refl)
    (λ b after tail is s. elim (symbol_first b tail s) [
      | inl t ↦ no_t after (is ∙ ap (λ z. z ∷ after) t)
      | inr n ↦ no_n after (is ∙ ap (λ z. z ∷ after) n)
    ])
    symbol_some

-- one symbol with its end is at the beginning
pub symbol_unique : (s u : Symbol) (x y : List ℕ) → IsSymbolSmall s → IsSymbolSmall u → symbol_text s ++ x ≡ symbol_text u ++ y →
    (s ≡ u) × (x ≡ y)
symbol_unique (Terminal n) (Terminal m) x y n_small m_small e =
    let tails : number_then 10 n ++ x ≡ number_then 10 m ++ y = cc in
    let both = number_unique 10 m n x y no_digit_lf m_small n_small tails in
    (ap Terminal both.0, both.1)
symbol_unique (Terminal n) (Nonterminal m) x y n_small m_small e =
    let f : 116 ≡ 110 = ap (λ l. get_or l 0 0) e in absurd (omega (arith, f))
symbol_unique (Nonterminal n) (Terminal m) x y n_small m_small e =
    let f : 110 ≡ 116 = ap (λ l. get_or l 0 0) e in absurd (omega (arith, f))
symbol_unique (Nonterminal n) (Nonterminal m) x y n_small m_small e =
    let tails : number_then 10 n ++ x ≡ number_then 10 m ++ y = cc in
    let both = number_unique 10 m n x y no_digit_lf m_small n_small tails in
    (ap Nonterminal both.0, both.1)

-- lines as words
abbrev pub LineWords : List ℕ → Type 0
LineWords = Both (Exactly (codes "kernel ")) (Both (Numbers 32) Symbols)

abbrev pub line_of : ℕ → Symbol → Line
line_of from symbol = record { from = from; symbol = symbol }

line_there : (l : List ℕ) → LineWords l → Texts IsLineSmall line_text l
line_there l (a, b, one, (c, d, (n, n_small, c_is), (s, s_small, d_is), b_is), e) = (
  line_of n s,
  record { from = n_small; symbol = s_small },
  e ∙ (ap (λ x. x ++ b) one ∙ ap (λ x. codes "kernel " ++ x) (b_is ∙ (ap (λ x. x ++ d) c_is ∙ ap (λ x. number_then 32 n ++ x) d_is))),
)

line_back : (l : List ℕ) → Texts IsLineSmall line_text l → LineWords l
line_back l (line, small, e) = (
  codes "kernel ",
  number_then 32 line.from ++ symbol_text line.symbol,
  refl,
  (number_then 32 line.from, symbol_text line.symbol, (line.from, small.from, refl), (line.symbol, small.symbol, refl), refl),
  e,
)

some_symbol : Symbols (symbol_text (Terminal 0))
some_symbol = let small : 0 < 2 ^ 64 = omega arith in (Terminal 0, small, refl)

pub line_stopped_word : (text rest : List ℕ) → IsStop (Exactly (codes "kernel ")) text rest → IsStop (Texts IsLineSmall line_text) text rest
line_stopped_word text rest s =
    stop_same line_there line_back (stop_first s (number_then 32 0 ++ symbol_text (Terminal 0))
    (number_then 32 0, symbol_text (Terminal 0), some_number 32, some_symbol, refl))

pub line_stopped_from : (text after rest : List ℕ) → text ≡ codes "kernel " ++ after → IsStop (Numbers 32) after rest →
    IsStop (Texts IsLineSmall line_text) text rest
line_stopped_from text after rest is s =
    stop_same line_there line_back (stop_second (exactly_free (codes "kernel ")) (codes "kernel ") text refl is
    (stop_first s (symbol_text (Terminal 0)) some_symbol))

pub line_stopped_symbol : (text after last rest : List ℕ) (from : ℕ) → text ≡ codes "kernel " ++ after →
    Begins IsSmall (number_then 32) after from last → IsStop (Texts IsSymbolSmall symbol_text) last rest →
    IsStop (Texts IsLineSmall line_text) text rest
line_stopped_symbol text after last rest from is (small, e) s =
    stop_same line_there line_back (stop_second (exactly_free (codes "kernel ")) (codes "kernel ") text refl is
    (stop_second (numbers_free 32 no_digit_space) (number_then 32 from) after (from, small, refl) e s))

pub line_read : (text after last next : List ℕ) (from : ℕ) (symbol : Symbol) → text ≡ codes "kernel " ++ after →
    Begins IsSmall (number_then 32) after from last → Begins IsSymbolSmall symbol_text last symbol next →
    Begins IsLineSmall line_text text (record { from = from; symbol = symbol }) next
line_read text after last next from symbol is (n_small, e) (s_small, f) = (
  record { from = n_small; symbol = s_small },
  is ∙ ap (λ l. codes "kernel " ++ l) (e ∙ (ap (λ l. number_then 32 from ++ l) f
      ∙ sym (append_assoc (number_then 32 from) (symbol_text symbol) next))),
)

-- one line is at the beginning
pub line_unique : (p q : Line) (x y : List ℕ) → IsLineSmall p → IsLineSmall q → line_text p ++ x ≡ line_text q ++ y → (p ≡ q) × (x ≡ y)
line_unique p q x y p_small q_small e =
    let words : (number_then 32 p.from ++ symbol_text p.symbol) ++ x ≡ (number_then 32 q.from ++ symbol_text q.symbol) ++ y =
    append_cancel (codes "kernel ") ((number_then 32 p.from ++ symbol_text p.symbol) ++ x)
    ((number_then 32 q.from ++ symbol_text q.symbol) ++ y) e in
    let froms = number_unique 32 q.from p.from (symbol_text p.symbol ++ x) (symbol_text q.symbol ++ y) no_digit_space q_small.from p_small.from
    (sym (append_assoc (number_then 32 p.from) (symbol_text p.symbol) x)
    ∙ (words ∙ append_assoc (number_then 32 q.from) (symbol_text q.symbol) y)) in
    let symbols = symbol_unique p.symbol q.symbol x y p_small.symbol q_small.symbol froms.1 in
    (ap (λ n. line_of n p.symbol) froms.0 ∙ ap (line_of q.from) symbols.0, symbols.1)

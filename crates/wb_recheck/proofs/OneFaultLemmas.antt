-- Faults of one text are alike.
use Rattle.std.proofs.Common.{◌≡◌, ◌<◌, ◌+◌, inl, inr, ℕ, List, length, sym, ap, ◌∙◌, subst, arith}
use Rattle.std.proofs.lemmas.Bool.{cases_lt}
use Rattle.wb_base.specs.Grammar.{GrammarView}
use Rattle.wb_recheck_theory.specs.Lines.{AreGoodLines}
use Rattle.wb_recheck_theory.specs.declared.entry.Entry.{Entry}
use Rattle.wb_recheck_theory.specs.declared.line.Line.{Line}
use Rattle.wb_recheck_text.specs.Faults.{IsFirstFault}
use Rattle.wb_recheck_text.specs.declared.certificate.Certificate.{Certificate}
use Rattle.wb_recheck_text.specs.declared.certificate.Head.{Head}
use Rattle.wb_recheck_entries.specs.Faults.{AreRightEntries}
use Rattle.wb_recheck_entries.specs.Texts.{HasFault, IsFault, IsFaultOf, IsWrongLine}
use Rattle.wb_recheck_entries.specs.declared.fault.CertificateFault.{CertificateFault}
use Rattle.wb_recheck_entries.specs.declared.fault.CertificateFault.TheVariants as f
use Rattle.wb_recheck.specs.OneAnswer.{AreAlike}
use Rattle.wb_recheck.proofs.FaultLemmas.{HasNoFault, HasOneCertificate}

-- what the law of texts says
abbrev pub HasOneFault : Type 0
HasOneFault = (text : List ℕ) (m n : ℕ) → IsFirstFault text m → IsFirstFault text n → m ≡ n

-- two numbers of which neither is below the other are one
same_number : (m n : ℕ) → (m < n → ⊥) → (n < m → ⊥) → m ≡ n
same_number m n not_below not_above = elim (cases_lt m n) [
  | inl lt ↦ absurd (not_below lt)
  | inr le ↦ elim (cases_lt n m) [ inl lt ↦ absurd (not_above lt) | inr le' ↦ omega (arith, le, le') ]
]

module _ (g : GrammarView) (lines : List Line) (entries : List Entry) where
  -- the first wrong line has one number
  one_wrong_line : (n m : ℕ) → IsWrongLine g lines entries n → IsWrongLine g lines entries m → n ≡ m
  one_wrong_line n m (inl (i, x, n_is)) (inl (j, y, m_is)) =
      let same = same_number i j (λ lt. x.wrong (y.before i x.line lt x.at)) (λ lt. y.wrong (x.before j y.line lt y.at)) in
      n_is ∙ (ap (λ z. z + 3) same ∙ sym m_is)
  one_wrong_line n m (inl (i, x, n_is)) (inr (good, y)) = absurd (x.wrong (good i x.line x.at))
  one_wrong_line n m (inr (good, x)) (inl (j, y, m_is)) = absurd (y.wrong (good j y.line y.at))
  one_wrong_line n m (inr (good, (i, x, n_is))) (inr (good', (j, y, m_is))) =
      let same = same_number i j (λ lt. x.wrong (y.before i x.entry lt x.at)) (λ lt. y.wrong (x.before j y.entry lt y.at)) in
      n_is ∙ (ap (λ z. z + length lines + 3) same ∙ sym m_is)

  -- no line is wrong where lines and entries are right
  right_or_wrong : (n : ℕ) → AreGoodLines g lines → AreRightEntries g lines entries → IsWrongLine g lines entries n → ⊥
  right_or_wrong n good right (inl (i, x, n_is)) = x.wrong (good i x.line x.at)
  right_or_wrong n good right (inr (good', (i, x, n_is))) = x.wrong (right i x.entry x.at)

module _ (no_fault : HasNoFault) (one : HasOneCertificate) (one_place : HasOneFault) (text : List ℕ) (names : Head → Type 0)
    (g : GrammarView) where
  -- the fault of a text is that of each certificate of which it is the text
  of_one : (x y : CertificateFault) (p : HasFault text names g x) (q : HasFault text names g y) → IsFaultOf names g p.certificate y
  of_one x y p q =
      subst (λ (c : Certificate). IsFaultOf names g c y) (one text q.certificate p.certificate q.text_is p.text_is) q.is

  one_line : (n m : ℕ) (p : HasFault text names g (f.WrongLine n)) → IsFaultOf names g p.certificate (f.WrongLine m) → n ≡ m
  one_line n m p is = lines p.is is
    where
      lines : IsFaultOf names g p.certificate (f.WrongLine n) → IsFaultOf names g p.certificate (f.WrongLine m) → n ≡ m
      lines (inl (two, other)) (inl (two', other')) = two ∙ sym two'
      lines (inl (two, other)) (inr (named, wrong)) = absurd (other named)
      lines (inr (named, wrong)) (inl (two, other)) = absurd (other named)
      lines (inr (named, wrong)) (inr (named', wrong')) =
          one_wrong_line g p.certificate.lines p.certificate.entries n m wrong wrong'

  line_or_missing : (n k : ℕ) (p : HasFault text names g (f.WrongLine n)) → IsFaultOf names g p.certificate (f.Missing k) → ⊥
  line_or_missing n k p (named, missing) = lines p.is
    where
      lines : IsFaultOf names g p.certificate (f.WrongLine n) → ⊥
      lines (inl (two, other)) = other named
      lines (inr (named', wrong)) =
          right_or_wrong g p.certificate.lines p.certificate.entries n missing.lines_good missing.entries_right wrong

  -- faults of one text are alike
  pub alike : (x y : CertificateFault) → IsFault text names g x → IsFault text names g y → AreAlike x y
  alike (f.Syntax m) (f.Syntax n) p q = one_place text m n p q
  alike (f.Syntax m) (f.WrongLine n) p q = no_fault text q.certificate m q.text_is p
  alike (f.Syntax m) (f.Missing k) p q = no_fault text q.certificate m q.text_is p
  alike (f.Syntax m) (f.NoMemory error) p q = tt
  alike (f.WrongLine n) (f.Syntax m) p q = no_fault text p.certificate m p.text_is q
  alike (f.WrongLine n) (f.WrongLine m) p q = one_line n m p (of_one (f.WrongLine n) (f.WrongLine m) p q)
  alike (f.WrongLine n) (f.Missing k) p q = line_or_missing n k p (of_one (f.WrongLine n) (f.Missing k) p q)
  alike (f.WrongLine n) (f.NoMemory error) p q = tt
  alike (f.Missing k) (f.Syntax m) p q = no_fault text p.certificate m p.text_is q
  alike (f.Missing k) (f.WrongLine n) p q = line_or_missing n k q (of_one (f.WrongLine n) (f.Missing k) q p)
  alike (f.Missing k) (f.Missing k') p q = tt
  alike (f.Missing k) (f.NoMemory error) p q = tt
  alike (f.NoMemory error) y p q = tt

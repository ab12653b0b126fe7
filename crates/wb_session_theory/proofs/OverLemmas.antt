-- Where the roots at the bottom are never taken, the machine runs above them.
use Rattle.std.proofs.Common.{◌≡◌, ◌≤◌, ℕ, List, refl, sym, ◌∙◌, ap, subst, arith}
use Rattle.wb_base.specs.Grammar.{GrammarView}
use Rattle.wb_grammar_theory.specs.Trees.{Forest, nothing, leaf, node, symbols}
use Rattle.wb_grammar_theory.specs.Lookaheads.{CanShift, CanReduce}
use Rattle.wb_scan_theory.specs.Languages.{LanguageView}
use Rattle.wb_scan_theory.specs.Tokens.{token}
use Rattle.wb_scan_theory.specs.Machine.{joined}
use Rattle.wb_scan_theory.proofs.ForestLemmas.{joined_assoc, symbols_joined}
use Rattle.wb_scan_theory.specs.Examined.{Scans}
use Rattle.wb_session_theory.specs.Frames.{roots}
use Rattle.wb_session_theory.specs.Runs.{Reduces, rests, reduces, Reads, stays, shifts}
use Rattle.wb_session_theory.specs.Over.{ReducesOver, rest, reduce, ReadsOver, stay, shift}

-- a stack that is cut above its lowest roots
split_low : (low stack below children : Forest) → joined low stack ≡ joined below children → roots low ≤ roots below →
    (b : Forest) × (below ≡ joined low b) × (stack ≡ joined b children)
split_low nothing stack below children e le = (below, refl, e)
split_low (leaf t x r) stack nothing children e le = absurd (omega arith)
split_low (leaf t x r) stack (leaf u y below) children e le =
    let (b, is, above) = split_low r stack below children (let h : joined r stack ≡ joined below children = cc in h) (omega arith) in
    let t_is : u ≡ t = cc in
    let x_is : y ≡ x = cc in
    (b, (λ i. leaf (t_is i) (x_is i) (is i)), above)
split_low (leaf t x r) stack (node q c m below) children e le = cc
split_low (node p a k r) stack nothing children e le = absurd (omega arith)
split_low (node p a k r) stack (leaf u y below) children e le = cc
split_low (node p a k r) stack (node q c m below) children e le =
    let (b, is, above) = split_low r stack below children (let h : joined r stack ≡ joined below children = cc in h) (omega arith) in
    let p_is : q ≡ p = cc in
    let a_is : c ≡ a = cc in
    let k_is : m ≡ k = cc in
    (b, (λ i. node (p_is i) (a_is i) (k_is i) (is i)), above)

over_reduces : {g : GrammarView} {t : ℕ} (n : ℕ) (low : Forest) → n ≡ roots low → {s s' : Forest} → ReducesOver g n t s s' →
    (stack : Forest) → s ≡ joined low stack → (stack' : Forest) × (s' ≡ joined low stack') × Reduces g (symbols low) t stack stack'
over_reduces n low n_is (rest e) stack is = (stack, sym e ∙ is, rests refl)
over_reduces {g} {t} n low n_is (reduce p a below children e le rule can more) stack is =
    let (b, below_is, stack_is) = split_low low stack below children (sym is ∙ e) (omega arith) in
    let (stack', is', red) = over_reduces n low n_is more (joined b (node p a children nothing))
    (ap (λ z. joined z (node p a children nothing)) below_is ∙ joined_assoc low b (node p a children nothing)) in (
      stack',
      is',
      reduces p a b children stack_is rule (subst (λ z. CanReduce g z p t) (ap symbols is ∙ symbols_joined low stack) can) red,
    )

-- what is read so is read above the symbols of the lowest roots
pub over_reads : {l : LanguageView} {text : List ℕ} {e : ℕ} (n : ℕ) (low : Forest) → n ≡ roots low → {s : Forest} {at : ℕ} {s' : Forest}
    {at' : ℕ} → ReadsOver l text e n s at s' at' → (stack : Forest) → s ≡ joined low stack →
    (stack' : Forest) × (s' ≡ joined low stack') × Reads l text e (symbols low) stack at stack' at'
over_reads n low n_is (stay same at_same) stack is = (stack, sym same ∙ is, stays refl at_same)
over_reads {l} {text} {e} n low n_is {at = at} (shift begin t lexeme after reduced scan red can more) stack is =
    let (lifted, lifted_is, red') = over_reduces n low n_is red stack is in
    let (stack', is', reads) = over_reads n low n_is more (joined lifted (leaf t lexeme nothing))
    (ap (λ z. joined z (leaf t lexeme nothing)) lifted_is ∙ joined_assoc low lifted (leaf t lexeme nothing)) in (
      stack',
      is',
      shifts begin t lexeme after lifted
          (subst (λ z. Scans l text z e at (token begin t lexeme after)) (ap symbols is ∙ symbols_joined low stack) scan) red'
          (subst (λ z. CanShift l.grammar z t) (ap symbols lifted_is ∙ symbols_joined low lifted) can) reads,
    )

-- A specification has one canonical text.
use Rattle.std.proofs.Common.{◌≡◌, ℕ, List, ◌∷◌, ◌++◌, map, refl, sym, ap, ◌∙◌}
use Rattle.wb_text_tokens.specs.declared.token.Token.{Token}
use Rattle.wb_text_tokens.specs.declared.token.Token.TheVariants as t
use Rattle.wb_text_tokens.specs.declared.punctuation.Punctuation.TheVariants as p
use Rattle.wb_syntax_expressions.proofs.OneExpression.{one_expression}
use Rattle.wb_syntax.specs.declared.expression.Equation.{Equation}
use Rattle.wb_syntax.specs.declared.item.Item.{Item}
use Rattle.wb_syntax.specs.declared.item.ItemForm.{ItemForm}
use Rattle.wb_syntax.specs.declared.item.ItemForm.TheVariants as f
use Rattle.wb_syntax.specs.declared.pattern.Pattern.{Pattern}
use Rattle.wb_syntax.specs.Equations.{equations_of}
use Rattle.wb_syntax.specs.SpecText.{SpecView}
use Rattle.wb_syntax.specs.Offsets.{unplaced, unplaced_form, unplaced_equation}
use Rattle.wb_syntax.specs.Canonical as canonical
use Rattle.wb_syntax.specs.Canonical.{line_of, format_line, IsItemLine, AreItemLines, IsCanonical}
use Rattle.wb_reader_printer.specs.Inner.ExpressionTokens.{expression_tokens}
use Rattle.wb_reader_printer.specs.Inner.PartTokens as tokens_of
use Rattle.wb_reader_printer.specs.Inner.ItemTokens.{form_tokens, AreItemTokens}
use Rattle.wb_reader_printer.specs.Inner.PartTokens.{AreEquationTokens, target_tokens}
use Rattle.wb_reader_printer.proofs.GrammarTokens.{tokens, of_item, of_header}

-- equations that are the same but for places have the same tokens
one_equations : (es fs : List Equation) (a b : List Token) → AreEquationTokens es a → AreEquationTokens fs b
    → map unplaced_equation es ≡ map unplaced_equation fs → a ≡ b
one_equations es fs a b tokens_of.nothing tokens_of.nothing same = refl
one_equations es fs a b tokens_of.nothing (tokens_of.next z k s w) same = absurd (cc)
one_equations es fs a b (tokens_of.next e h r q) tokens_of.nothing same = absurd (cc)
one_equations es fs a b (tokens_of.next {equation = x} e {rest = xs} {tokens = c} h r q)
    (tokens_of.next {equation = y} z {rest = ys} {tokens = d} k s w) same =
    let first : unplaced_equation x ≡ unplaced_equation y = cc in
    let others : map unplaced_equation xs ≡ map unplaced_equation ys = cc in
    let target : x.target ≡ y.target = ap (λ (v : Equation). v.target) first in
    let nodes : x.nodes ≡ y.nodes = ap (λ (v : Equation). v.nodes) first in
    let one : e ≡ z = one_expression x.nodes e z h (nodes ∙ k) in
    let left : c ≡ d = one_equations xs ys c d r s others in
    q ∙ (ap (λ y. target_tokens y ++ (expression_tokens e ++ t.Punctuation p.Semicolon ∷ c)) target
    ∙ (ap (λ v. target_tokens y.target ++ (expression_tokens v ++ t.Punctuation p.Semicolon ∷ c)) one
    ∙ (ap (λ v. target_tokens y.target ++ (expression_tokens z ++ t.Punctuation p.Semicolon ∷ v)) left ∙ sym w)))

-- a form has its tokens, and its equations, without its places
placeless : (form : ItemForm Pattern) (inner : List Token) → form_tokens form inner ≡ form_tokens (unplaced_form form) inner
placeless (f.Lexical role name pattern) inner = refl
placeless (f.Plain plain) inner = refl
placeless (f.Production role production) inner = refl
placeless (f.Aspect name equations) inner = refl

equations_unplaced : (form : ItemForm Pattern) → map unplaced_equation (equations_of form) ≡ equations_of (unplaced_form form)
equations_unplaced (f.Lexical role name pattern) = refl
equations_unplaced (f.Plain plain) = refl
equations_unplaced (f.Production role production) = refl
equations_unplaced (f.Aspect name equations) = refl

-- items that are the same but for places have the same tokens
one_tokens : (one other : Item Pattern) (a b : List Token) → AreItemTokens one a → AreItemTokens other b → unplaced one ≡ unplaced other
    → a ≡ b
one_tokens one other a b r s same =
    let form : unplaced_form one.form ≡ unplaced_form other.form = ap (λ (x : Item Pattern). x.form) same in
    let es : map unplaced_equation (equations_of one.form) ≡ map unplaced_equation (equations_of other.form)
    = equations_unplaced one.form ∙ (ap equations_of form ∙ sym (equations_unplaced other.form)) in
    let inner : r.inner ≡ s.inner =
    one_equations (equations_of one.form) (equations_of other.form) r.inner s.inner r.equations s.equations es in
    r.whole ∙ (placeless one.form r.inner ∙ (ap (λ x. form_tokens x r.inner) form
    ∙ (ap (λ x. form_tokens (unplaced_form other.form) x) inner ∙ (sym (placeless other.form s.inner) ∙ sym s.whole))))

-- an item has one line
one_line : (one : Item Pattern) (a b : List ℕ) → IsItemLine one a → IsItemLine one b → a ≡ b
one_line one a b r s =
    let e = one_tokens r.other s.other _ _ (of_item r.lexemes r.written r.other r.grammar r.read)
    (of_item s.lexemes s.written s.other s.grammar s.read) (r.same ∙ sym s.same) in
    r.line ∙ (ap line_of e ∙ sym s.line)

one_lines : (items : List (Item Pattern)) (a b : List ℕ) → AreItemLines items a → AreItemLines items b → a ≡ b
one_lines items a b canonical.nothing canonical.nothing = refl
one_lines items a b (canonical.next {item = one} {rest = rest} {line = x} {text = y} h r e) (canonical.next {line = z} {text = w} k s f) =
    e ∙ (ap (λ l. l ++ 10 ∷ y) (one_line one x z h k) ∙ (ap (λ l. z ++ 10 ∷ l) (one_lines rest y w r s) ∙ sym f))

-- a specification has one canonical text
pub one_canonical : (spec : SpecView) (a b : List ℕ) → IsCanonical spec a → IsCanonical spec b → a ≡ b
one_canonical spec a b r s =
    let h : tokens r.lexemes ≡ tokens s.lexemes =
    of_header r.lexemes spec.name spec.header r.is_header ∙ sym (of_header s.lexemes spec.name spec.header s.is_header) in
    let header : r.header ≡ s.header = r.header_line ∙ (ap line_of h ∙ sym s.header_line) in
    let items : r.items ≡ s.items = one_lines spec.items r.items s.items r.item_lines s.item_lines in
    r.whole ∙ (ap (λ x. format_line spec.format ++ 10 ∷ (x ++ 10 ∷ r.items)) header
    ∙ (ap (λ x. format_line spec.format ++ 10 ∷ (s.header ++ 10 ∷ x)) items ∙ sym s.whole))

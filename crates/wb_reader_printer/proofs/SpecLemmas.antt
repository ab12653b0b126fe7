-- The whole text of a specification.
use Rattle.std.proofs.Common.{◌≡◌, ℕ, pos, true, List, [], ◌∷◌, ◌++◌, refl, sym, ap, ◌∙◌, subst, append_assoc}
use Rattle.std.specs.Prelude.{codes}
use Rattle.std.specs.Fmt.{signed_decimal}
use Rattle.std.proofs.lemmas.List.{append-nil}
use Rattle.wb_text_tokens.specs.declared.token.Token.{Token}
use Rattle.wb_syntax.specs.declared.header.Header.{Header}
use Rattle.wb_syntax.specs.declared.written.WrittenSpec.{WrittenSpec}
use Rattle.wb_syntax.specs.Tokens.{Lexeme}
use Rattle.wb_syntax.specs.ItemGrammar as item
use Rattle.wb_syntax.specs.ItemGrammar.{IsHeader, IsSpecification}
use Rattle.wb_syntax.specs.SpecText.{SpecView, HasText}
use Rattle.wb_syntax.specs.Canonical.{line_of, format_line, IsCanonical}
use Rattle.wb_reader_printer.specs.Inner.Output.{Output, after, ended, after_lines}
use Rattle.wb_reader_printer.specs.Inner.ItemTokens.{format_tokens, header_tokens, headed}
use Rattle.wb_reader_printer.proofs.GrammarTokens.{tokens, of_header}
use Rattle.wb_reader_printer.proofs.CanonicalLemmas.{text_lines, text_of, ended_line, ended_closely, after_all}

-- the header of a specification
header_of : (xs : List Lexeme) (written : WrittenSpec) → IsSpecification xs written
    → (u : List Lexeme) × IsHeader u written.name written.header
header_of xs written (item.whole {u = u} h known i j header k e) = (u, header)

spec_header : (spec : SpecView) → HasText spec → (u : List Lexeme) × IsHeader u spec.name spec.header
spec_header spec (bytes, small, r) =
    let h = header_of r.text.tokens r.written r.text.specification in (
      h.0,
      subst (λ (n : List ℕ). IsHeader h.0 n spec.header) (sym r.read.name)
          (subst (λ (x : Header). IsHeader h.0 r.written.name x) (sym r.read.header) h.1),
    )

-- the first line
pub format_printed : (format : ℕ) → line_of (format_tokens format) ≡ format_line format
format_printed format =
    ap (λ x. codes "format " ++ (x ++ codes ";")) (append-nil (signed_decimal (pos format)))
    ∙ sym (append_assoc (codes "format ") (signed_decimal (pos format)) (codes ";"))

-- lines one after the other
three_parts : (a b c : List ℕ) → (([] ++ a ++ 10 ∷ []) ++ b ++ 10 ∷ []) ++ c ≡ a ++ 10 ∷ (b ++ 10 ∷ c)
three_parts a b c = simp append_assoc

-- what is written so is the canonical text
pub canonical_text : (spec : SpecView) (h : HasText spec) (o c : Output) (lines : List (List Token)) → lines ≡ (text_lines spec h).lines
    → o ≡ record { text = []; closely = true } → c ≡ after_lines (headed spec o) lines → IsCanonical spec c.text
canonical_text spec h o c lines here begun third =
    let u = spec_header spec h in
    let l = text_lines spec h in
    let a = ended (after o (format_tokens spec.format)) in
    let b = headed spec o in
    let closely : o.closely ≡ true = ap (λ (x : Output). x.closely) begun in
    let front : a.text ≡ [] ++ line_of (format_tokens spec.format) ++ 10 ∷ []
    = ended_line o (format_tokens spec.format) closely ∙ ap (λ (x : Output). x.text ++ line_of
    (format_tokens spec.format) ++ 10 ∷ []) begun in
    let begins : a.closely ≡ true = ended_closely (after o (format_tokens spec.format)) in
    let same : line_of (header_tokens spec.name spec.header) ≡ line_of (tokens u.0) =
    ap line_of (sym (of_header u.0 spec.name spec.header u.1)) in
    let middle : b.text ≡ a.text ++ line_of (tokens u.0) ++ 10 ∷ []
    = ended_line a (header_tokens spec.name spec.header) begins ∙ ap (λ (x : List ℕ). a.text ++ x ++ 10 ∷ []) same in
    let stands : b.closely ≡ true = ended_closely (after a (header_tokens spec.name spec.header)) in
    let last : c.text ≡ b.text ++ text_of l.lines
    = ap (λ (x : Output). x.text) third ∙ (after_all b lines stands ∙ ap (λ (x : List (List Token)). b.text ++ text_of x) here) in
    record {
      lexemes = u.0;
      header = line_of (tokens u.0);
      items = text_of l.lines;
      is_header = u.1;
      header_line = refl;
      item_lines = l.text;
      whole = last ∙ (ap (λ (x : List ℕ). x ++ text_of l.lines) (middle ∙ ap (λ (x : List ℕ). x ++ line_of (tokens u.0) ++ 10 ∷ []) front)
          ∙ (three_parts (line_of (format_tokens spec.format)) (line_of (tokens u.0)) (text_of l.lines)
          ∙ ap (λ (x : List ℕ). x ++ 10 ∷ (line_of (tokens u.0) ++ 10 ∷ text_of l.lines)) (format_printed spec.format)));
    }

-- What is written line by line is the canonical text.
use Rattle.std.proofs.Common.{◌≡◌, ℕ, ◌||◌, true, List, [], ◌∷◌, ◌++◌, refl, sym, ap, ◌∙◌}
use Rattle.std.specs.Prelude.{if◌then◌else◌}
use Rattle.std.specs.List.{AllZip}
use Rattle.std.proofs.lemmas.List.{append_assoc, append-nil}
use Rattle.wb_text_tokens.specs.declared.token.Token.{Token}
use Rattle.wb_syntax.specs.declared.item.Item.{Item}
use Rattle.wb_syntax.specs.declared.pattern.Pattern.{Pattern}
use Rattle.wb_syntax.specs.declared.pattern.WrittenPattern.{WrittenPattern}
use Rattle.wb_syntax.specs.declared.written.WrittenSpec.{WrittenSpec}
use Rattle.wb_syntax.specs.Tokens.{Lexeme}
use Rattle.wb_syntax.specs.ItemGrammar as item
use Rattle.wb_syntax.specs.ItemGrammar.{AreItems, IsSpecification}
use Rattle.wb_syntax.specs.SpecText.{SpecView, IsReadAs, HasText}
use Rattle.wb_syntax.specs.Canonical as canonical
use Rattle.wb_syntax.specs.Canonical.{printed, follows_closely, leads_closely, line_of, AreItemLines}
use Rattle.wb_reader_printer.specs.Inner.Output.{Output, put, after, ended, after_lines}
use Rattle.wb_reader_printer.specs.Inner.ItemTokens as tokens_of
use Rattle.wb_reader_printer.specs.Inner.ItemTokens.{AreLinesOf}
use Rattle.wb_reader_printer.proofs.GrammarTokens.{tokens, of_item}

-- the text after a token on its line
abbrev pub gap : Token → Token → List ℕ
gap a b = if leads_closely a || follows_closely b then [] else 32 ∷ []

abbrev pub behind : Token → List Token → List ℕ
behind a [] = []
behind a (b ∷ rest) = (gap a b ++ printed b) ++ behind b rest

pub behind_line : (a : Token) (ts : List Token) → line_of (a ∷ ts) ≡ printed a ++ behind a ts
behind_line a [] = sym (append-nil (printed a))
behind_line a (b ∷ rest) =
    ap (λ y. (printed a ++ gap a b) ++ y) (behind_line b rest) ∙
    (append_assoc (printed a) (gap a b) (printed b ++ behind b rest) ∙ ap (λ y. printed a ++ y)
    (sym (append_assoc (gap a b) (printed b) (behind b rest))))

-- tokens after one
after_behind : (o : Output) (a : Token) (ts : List Token) → o.closely ≡ leads_closely a → (after o ts).text ≡ o.text ++ behind a ts
unfolding put
after_behind o a [] e = sym (append-nil o.text)
after_behind o a (b ∷ rest) e =
    after_behind (put o b) b rest refl ∙
    (ap (λ c. (o.text ++ ((if c || follows_closely b then [] else 32 ∷ []) ++ printed b)) ++ behind b rest) e
    ∙ append_assoc o.text (gap a b ++ printed b) (behind b rest))

-- a line of tokens
pub after_line : (o : Output) (ts : List Token) → o.closely ≡ true → (after o ts).text ≡ o.text ++ line_of ts
unfolding put
after_line o [] e = sym (append-nil o.text)
after_line o (a ∷ ts) e =
    after_behind (put o a) a ts refl ∙
    (ap (λ c. (o.text ++ ((if c || follows_closely a then [] else 32 ∷ []) ++ printed a)) ++ behind a ts) e
    ∙ (append_assoc o.text (printed a) (behind a ts) ∙ ap (λ y. o.text ++ y) (sym (behind_line a ts))))

-- the text of lines
abbrev pub text_of : List (List Token) → List ℕ
text_of [] = []
text_of (ts ∷ lines) = line_of ts ++ 10 ∷ text_of lines

-- a line with its end
pub ended_line : (o : Output) (ts : List Token) → o.closely ≡ true → (ended (after o ts)).text ≡ o.text ++ line_of ts ++ 10 ∷ []
unfolding ended
ended_line o ts e = ap (λ y. y ++ 10 ∷ []) (after_line o ts e)

pub ended_closely : (o : Output) → (ended o).closely ≡ true
unfolding ended
ended_closely o = refl

pub after_all : (o : Output) (lines : List (List Token)) → o.closely ≡ true → (after_lines o lines).text ≡ o.text ++ text_of lines
after_all o [] e = sym (append-nil o.text)
after_all o (ts ∷ lines) e =
    after_all (ended (after o ts)) lines (ended_closely (after o ts)) ∙
    (ap (λ y. y ++ text_of lines) (ended_line o ts e) ∙
    (append_assoc (o.text ++ line_of ts) (10 ∷ []) (text_of lines) ∙ append_assoc o.text (line_of ts) (10 ∷ text_of lines)))

-- items of the grammar, once they are read, have lines
pub record HaveLines (items : List (Item Pattern)) : Type 0 where
  pub lines : List (List Token)
  pub are : AreLinesOf items lines
  pub text : AreItemLines items (text_of lines)

lines_of : (v : List Lexeme) (written : List (Item WrittenPattern)) (items : List (Item Pattern)) → AreItems v written
    → AllZip IsReadAs written items → HaveLines items
lines_of v written [] item.nothing z = record { lines = []; are = tokens_of.nothing; text = canonical.nothing }
lines_of v written (x ∷ xs) item.nothing z = absurd z
lines_of v written [] (item.next h r e) z = absurd z
lines_of v written (x ∷ xs) (item.next {u = u} {v = w} {item = one} {rest = rest} h r e) z =
    let i = lines_of w rest xs r z.1 in
    record {
      lines = tokens u ∷ i.lines;
      are = tokens_of.next (of_item u one x h z.0) i.are;
      text =
          canonical.next (record { lexemes = u; written = one; other = x; grammar = h; read = z.0; same = refl; line = refl }) i.text refl;
    }

of_spec : (w : List Lexeme) (written : WrittenSpec) (items : List (Item Pattern)) → IsSpecification w written
    → AllZip IsReadAs written.items items → HaveLines items
of_spec w written items (item.whole {v = v} {items = ws} h known j k l r e) z = lines_of v ws items r z

-- the items of a specification have lines
pub text_lines : (spec : SpecView) → HasText spec → HaveLines spec.items
text_lines spec (bytes, small, r) = of_spec r.text.tokens r.written spec.items r.text.specification r.read.items

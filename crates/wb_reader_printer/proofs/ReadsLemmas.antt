-- A canonical text reads back as the same specification but for places, and is the canonical text of each such specification.
use Rattle.std.proofs.Common.{◌≡◌, ℕ, List, [], ◌∷◌, ◌++◌, pos, map, refl, sym, ap, ◌∙◌, subst}
use Rattle.std.specs.List.{AllZip}
use Rattle.wb_text_predictive.specs.declared.table.Next.TheVariants.{End}
use Rattle.wb_text_predictive.specs.Reading.{Spells}
use Rattle.wb_text_tokens.specs.NextToken.{IsNextIn}
use Rattle.wb_text_tokens.specs.declared.token.Dialect.{Dialect}
use Rattle.wb_text_tokens.specs.declared.token.Token.{Token}
use Rattle.wb_text_tokens.specs.declared.token.Token.TheVariants as t
use Rattle.wb_syntax.specs.declared.header.Header.{Header}
use Rattle.wb_syntax.specs.declared.item.Item.{Item}
use Rattle.wb_syntax.specs.declared.pattern.Pattern.{Pattern}
use Rattle.wb_syntax.specs.declared.pattern.WrittenPattern.{WrittenPattern}
use Rattle.wb_syntax.specs.declared.written.WrittenSpec.{WrittenSpec}
use Rattle.wb_syntax.specs.Tokens.{Lexeme}
use Rattle.wb_syntax.specs.ItemGrammar as item
use Rattle.wb_syntax.specs.ItemGrammar.{AreItems, IsHeader, IsSpecification}
use Rattle.wb_syntax.specs.SpecText.{SpecView, dialect_of, IsReadAs, IsReadSpec, HasText}
use Rattle.wb_syntax.specs.Offsets.{unplaced, AreSameButPlaces, ReadsBack}
use Rattle.wb_syntax.specs.Canonical as canonical
use Rattle.wb_syntax.specs.Canonical.{line_of, format_line, IsItemLine, AreItemLines, IsCanonical}
use Rattle.wb_reader_printer.proofs.GrammarTokens.{tokens, tokens_append}
use Rattle.wb_reader_printer.proofs.CanonicalLemmas.{text_of}
use Rattle.wb_reader_printer.specs.Inner.ItemTokens.{format_tokens}
use Rattle.wb_reader_printer.proofs.SpecLemmas.{format_printed}
use Rattle.wb_reader_printer.proofs.CallerLemmas.{one_canonical}
use Rattle.wb_reader_printer.proofs.PrintedTokens.{ArePrinted, tokens_printed}
use Rattle.wb_reader_printer.proofs.Flows.{flows_read}
use Rattle.wb_reader_printer.proofs.LineFlows.{joined, lines_flow}
use Rattle.wb_reader_printer.proofs.Alike.{Alike, done, step, alike, headed, halves, alike_as}
use Rattle.wb_reader_printer.proofs.AlikeItems.{item_alike}

-- the lines of items, with the tokens of their lexemes
record HaveLexemes (v : List Lexeme) (items : List (Item Pattern)) : Type 0 where
  lines : List (List Token)
  same : tokens v ≡ joined lines
  text : AreItemLines items (text_of lines)

-- items of the grammar, once they are read, have lines
items_lines : (v : List Lexeme) (written : List (Item WrittenPattern)) (items : List (Item Pattern)) → AreItems v written
    → AllZip IsReadAs written items → HaveLexemes v items
items_lines v written [] item.nothing z = record { lines = []; same = refl; text = canonical.nothing }
items_lines v written (x ∷ xs) item.nothing z = absurd z
items_lines v written [] (item.next h r e) z = absurd z
items_lines v written (x ∷ xs) (item.next {u = u} {v = w} {item = one} {rest = rest} h r e) z =
    let i = items_lines w rest xs r z.1 in
    record {
      lines = tokens u ∷ i.lines;
      same = ap tokens e ∙ (tokens_append u w ∙ ap (λ l. tokens u ++ l) i.same);
      text = canonical.next (record {
        lexemes = u;
        written = one;
        other = x;
        grammar = h;
        read = z.0;
        same = refl;
        line = refl;
      }) i.text refl;
    }

-- the lines of a specification, with the tokens of its lexemes
record HasLines (xs : List Lexeme) (spec : SpecView) : Type 0 where
  lines : List (List Token)
  same : tokens xs ≡ joined lines
  is : IsCanonical spec (text_of lines)

-- a specification of the grammar, once it is read, has lines
spec_lines : (xs : List Lexeme) (written : WrittenSpec) (spec : SpecView) → IsSpecification xs written → IsReadSpec written spec
    → HasLines xs spec
spec_lines xs written spec (item.whole {f = f} {n = n} {s = s} {u = u} {v = v} {format = format} {name = name} {header = header}
    {items = ws} h known j k l r e) read =
    let i = items_lines v ws spec.items r read.items in
    let parts : tokens xs ≡ f.token ∷ n.token ∷ s.token ∷ (tokens u ++ tokens v) =
    ap tokens e ∙ ap (λ y. f.token ∷ n.token ∷ s.token ∷ y) (tokens_append u v) in
    let number : n.token ≡ t.Int (pos spec.format) = j ∙ ap (λ m. t.Int (pos m)) (sym read.format) in
    let front : f.token ∷ n.token ∷ s.token ∷ (tokens u ++ tokens v) ≡ format_tokens spec.format ++ (tokens u ++ tokens v) = cc in
    record {
      lines = format_tokens spec.format ∷ tokens u ∷ i.lines;
      same = parts ∙ (front ∙ ap (λ y. format_tokens spec.format ++ (tokens u ++ y)) i.same);
      is = record {
        lexemes = u;
        header = line_of (tokens u);
        items = text_of i.lines;
        is_header =
            subst (λ (m : List ℕ). IsHeader u m spec.header) (sym read.name)
            (subst (λ (x : Header). IsHeader u name x) (sym read.header) l);
        header_line = refl;
        item_lines = i.text;
        whole = ap (λ y. y ++ 10 ∷ (line_of (tokens u) ++ 10 ∷ text_of i.lines)) (format_printed spec.format);
      };
    }

-- the lexemes are items that are these but for places, once they are read
record HaveItems (ys : List Lexeme) (items : List (Item Pattern)) : Type 0 where
  written : List (Item WrittenPattern)
  others : List (Item Pattern)
  are : AreItems ys written
  read : AllZip IsReadAs written others
  same : map unplaced others ≡ map unplaced items

-- the same tokens are the same items but for places
items_alike : (xs : List Lexeme) (written : List (Item WrittenPattern)) (items : List (Item Pattern)) → AreItems xs written
    → AllZip IsReadAs written items → (ys : List Lexeme) → Alike xs ys → HaveItems ys items
items_alike xs written [] item.nothing z ys done = record { written = []; others = []; are = item.nothing; read = tt; same = refl }
items_alike xs written (x ∷ rest) item.nothing z ys a = absurd z
items_alike xs written [] (item.next h r e) z ys a = absurd z
items_alike xs written (x ∷ more) (item.next {u = u} {v = v} {item = one} {rest = rest} h r e) z ys a =
    let d = halves u v ys (alike_as xs _ ys e a) in
    let m = item_alike u one x h z.0 d.left d.first in
    let i = items_alike v rest more r z.1 d.right d.second in
    record {
      written = m.written ∷ i.written;
      others = m.other ∷ i.others;
      are = item.next m.grammar i.are d.whole;
      read = (m.read, i.read);
      same = ap (λ y. y ∷ map unplaced i.others) m.same ∙ ap (λ y. unplaced x ∷ y) i.same;
    }

-- the same tokens are the same header
header_alike : (xs : List Lexeme) (name : List ℕ) (header : Header) → IsHeader xs name header → (ys : List Lexeme) → Alike xs ys
    → IsHeader ys name header
header_alike xs name header (item.host h j k) ys (step q (step r (step s done))) = item.host (q ∙ h) (r ∙ j) (s ∙ k)
header_alike xs name header (item.extension h j k l m) ys (step q (step r (step s (step u (step v done))))) =
    item.extension (q ∙ h) (r ∙ j) (s ∙ k) (u ∙ l) (v ∙ m)

-- the lexemes are a specification that is this one but for places
record HasSpec (ys : List Lexeme) (spec : SpecView) : Type 0 where
  written : WrittenSpec
  other : SpecView
  grammar : IsSpecification ys written
  read : IsReadSpec written other
  same : AreSameButPlaces other spec

-- the same tokens are the same specification but for places
spec_alike : (xs : List Lexeme) (written : WrittenSpec) (spec : SpecView) → IsSpecification xs written → IsReadSpec written spec
    → (ys : List Lexeme) → Alike xs ys → HasSpec ys spec
spec_alike xs written spec (item.whole {f = f} {n = n} {s = s} {u = u} {v = v} {format = format} {name = name} {header = header}
    {items = ws} h known j k l r e) read ys a =
    let b = headed f (n ∷ s ∷ (u ++ v)) ys (alike_as xs _ ys e a) in
    let c = headed n (s ∷ (u ++ v)) b.tail b.others in
    let d = headed s (u ++ v) c.tail c.others in
    let p = halves u v d.tail d.others in
    let i = items_alike v ws spec.items r read.items p.right p.second in
    record {
      written = record { format = format; name = name; header = header; items = i.written };
      other = record { format = format; name = name; header = header; items = i.others };
      grammar = item.whole (b.same ∙ h) known (c.same ∙ j) (d.same ∙ k) (header_alike u name header l p.left p.first) i.are
          (b.whole ∙ ap (λ y. b.head ∷ y) (c.whole ∙ ap (λ y. c.head ∷ y) (d.whole ∙ ap (λ y. d.head ∷ y) p.whole)));
      read = record { format = refl; name = refl; header = refl; items = i.read };
      same = record { format = sym read.format; name = sym read.name; header = sym read.header; items = i.same };
    }

-- the lines of the lexemes of a text read back
reads_lines : (spec : SpecView) (xs : List Lexeme) (written : WrittenSpec) (lines : List (List Token)) → IsSpecification xs written
    → IsReadSpec written spec
    → ArePrinted (dialect_of written.format) (tokens xs) → tokens xs ≡ joined lines → ReadsBack spec (text_of lines)
reads_lines spec xs written lines grammar read printed same =
    let dialect = dialect_of written.format in
    let text = text_of lines in
    let flows = lines_flow dialect [] lines refl (subst (ArePrinted dialect) same printed) in
    let r = flows_read dialect text [] text 0 (joined lines) refl refl flows in
    let m = spec_alike xs written spec grammar read r.lexemes (alike xs r.lexemes (r.same ∙ sym same)) in
    let kept : dialect ≡ dialect_of m.written.format = ap dialect_of (sym read.format ∙ (sym m.same.format ∙ m.read.format)) in
    record {
      other = m.other;
      read = record {
        written = m.written;
        text = record {
          tokens = r.lexemes;
          to = r.to;
          at = r.at;
          spelled = subst (λ (d : Dialect). Spells (IsNextIn d text) 0 r.lexemes r.to) kept r.spelled;
          ended = subst (λ (d : Dialect). IsNextIn d text r.to (End r.at)) kept r.ended;
          specification = m.grammar;
        };
        read = m.read;
      };
      same = m.same;
    }

-- the canonical text of a specification reads back as the same but for places
pub reads_back : (spec : SpecView) → HasText spec → (text : List ℕ) → IsCanonical spec text → ReadsBack spec text
reads_back spec (bytes, small, r) text is =
    let l = spec_lines r.text.tokens r.written spec r.text.specification r.read in
    let printed = tokens_printed (dialect_of r.written.format) bytes 0 r.text.to r.text.tokens small r.text.spelled in
    subst (ReadsBack spec) (one_canonical spec (text_of l.lines) text l.is is)
    (reads_lines spec r.text.tokens r.written l.lines r.text.specification r.read printed l.same)

-- the line of an item is that of each that is the same but for its place
lines_again : (items others : List (Item Pattern)) (text : List ℕ) → map unplaced others ≡ map unplaced items → AreItemLines items text
    → AreItemLines others text
lines_again items [] text e canonical.nothing = canonical.nothing
lines_again items (y ∷ ys) text e canonical.nothing = absurd (cc)
lines_again items [] text e (canonical.next k r w) = absurd (cc)
lines_again items (y ∷ ys) text e (canonical.next {item = x} {rest = xs} {line = line} {text = more} k r w) =
    let first : unplaced y ≡ unplaced x = cc in
    let others : map unplaced ys ≡ map unplaced xs = cc in
    let same : IsItemLine y line =
    record {
      lexemes = k.lexemes;
      written = k.written;
      other = k.other;
      grammar = k.grammar;
      read = k.read;
      same = k.same ∙ sym first;
      line = k.line;
    } in
    canonical.next same (lines_again xs ys more others r) w

-- a canonical text is that of each specification that is the same but for places
pub canonical_again : (spec : SpecView) (text : List ℕ) → IsCanonical spec text → (other : SpecView) → AreSameButPlaces other spec
    → IsCanonical other text
canonical_again spec text r other same = record {
  lexemes = r.lexemes;
  header = r.header;
  items = r.items;
  is_header =
      subst (λ (m : List ℕ). IsHeader r.lexemes m other.header) (sym same.name)
      (subst (λ (x : Header). IsHeader r.lexemes spec.name x) (sym same.header) r.is_header);
  header_line = r.header_line;
  item_lines = lines_again spec.items other.items r.items same.items r.item_lines;
  whole = r.whole ∙ ap (λ format. format_line format ++ 10 ∷ (r.header ++ 10 ∷ r.items)) (sym same.format);
}

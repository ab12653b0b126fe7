-- A grammar of one production more.
use Rattle.std.proofs.Common.{◌≡◌, ◌<◌, ◌+◌, ◌∷◌, ◌++◌, [], ℕ, List, Option, Some, None, All, map, take, get_or, length, refl, sym}
use Rattle.std.proofs.Common.{subst, ap, ◌∙◌}
use Rattle.std.specs.Prelude.{IsSome, option_to_list}
use Rattle.std.proofs.lemmas.Bool.{true≢false}
use Rattle.std.proofs.lemmas.List.{map-append}
use Rattle.std.proofs.lemmas.List.Elements.{All-nil, All-cons, All-head, All-tail}
use Rattle.wb_base.specs.declared.symbol.Symbol.{Symbol}
use Rattle.wb_base.specs.Grammar.{GrammarView, IsSymbolBelow}
use Rattle.wb_syntax_resolved.specs.declared.production.Child.{Child}
use Rattle.wb_syntax_resolved.specs.declared.production.Production.{Production}
use Rattle.wb_syntax_resolved.specs.Grammar.{symbol_of, IsGrammarProduction}
use Rattle.wb_names_rows.specs.Grammars.{IsMadeOf, IsSymbolChild}
use Rattle.wb_names_rows.specs.Inner.Grammars.{AreSymbolsOf}
use Rattle.wb_names_rows.proofs.ListLemmas.{take_next}
use Rattle.wb_names_rows.proofs.ZipLemmas.{zip_more}

-- the symbols of children that are of the grammar are in range
pub symbols_below : (terminals nonterminals : ℕ) (children : List Child) (symbols : List Symbol) → AreSymbolsOf children symbols
    → All (IsSymbolChild terminals nonterminals) children → All (IsSymbolBelow terminals nonterminals) symbols
symbols_below t n [] [] are all = All-nil (IsSymbolBelow t n)
symbols_below t n [] (s ∷ ss) are all = absurd (cc)
symbols_below t n (c ∷ cs) [] are all = absurd (cc)
symbols_below t n (c ∷ cs) (s ∷ ss) are all =
    let first : Some s ≡ symbol_of c.kind = cc in
    let more : map (λ (s : Symbol). Some s) ss ≡ map (λ (c : Child). symbol_of c.kind) cs = cc in
    let child = All-head (IsSymbolChild t n) c cs all in
    let found = child.is in
    let same : child.symbol ≡ s = cc in
    All-cons (IsSymbolBelow t n) s ss (subst (IsSymbolBelow t n) same child.below)
    (symbols_below t n cs ss more (All-tail (IsSymbolChild t n) c cs all))

-- the symbols with that of one child more
one_symbol : (o : Option Symbol) → IsSome o → map (λ (s : Symbol). Some s) (option_to_list o) ≡ o ∷ []
one_symbol None is = absurd (true≢false (sym is))
one_symbol (Some s) is = refl

pub symbols_more : (children : List Child) (at : ℕ) (child : Child) (symbols more : List Symbol) → AreSymbolsOf (take at children) symbols
    → at < length children → child ≡ get_or children at child → IsSome (symbol_of child.kind)
    → more ≡ symbols ++ option_to_list (symbol_of child.kind) → AreSymbolsOf (take (at + 1) children) more
symbols_more children at child symbols more are within is some added =
    let one = option_to_list (symbol_of child.kind) in
    ap (map (λ (s : Symbol). Some s)) added
    ∙ (map-append (λ (s : Symbol). Some s) symbols one
    ∙ (ap (λ z. z ++ map (λ (s : Symbol). Some s) one) are
    ∙ (ap (λ z. map (λ (c : Child). symbol_of c.kind) (take at children) ++ z) (one_symbol (symbol_of child.kind) some)
    ∙ (sym (map-append (λ (c : Child). symbol_of c.kind) (take at children) (child ∷ []))
    ∙ ap (map (λ (c : Child). symbol_of c.kind)) (take_next children at child within is)))))

-- with one production more
pub made_more : (terminals nonterminals start : ℕ) (productions : List Production) (at : ℕ) (production : Production)
    (symbols : List Symbol) (g h : GrammarView) → IsMadeOf terminals nonterminals start (take at productions) g → at < length productions
    → production ≡ get_or productions at production → AreSymbolsOf production.children symbols
    → h ≡ record g { productions = g.productions ++ (production.left, symbols) ∷ [] }
    → IsMadeOf terminals nonterminals start (take (at + 1) productions) h
made_more terminals nonterminals start productions at production symbols g h made within is are e =
    subst (IsMadeOf terminals nonterminals start (take (at + 1) productions)) (sym e) (record {
      terminals_are = made.terminals_are;
      nonterminals_are = made.nonterminals_are;
      start_is = made.start_is;
      productions_are = zip_more IsGrammarProduction productions g.productions at production (production.left, symbols) made.productions_are
          within is (record { left = refl; right = are });
    })

-- The grammar of a resolved specification has every number in range.
use Rattle.std.proofs.Common.{◌≡◌, ◌<◌, ◌∷◌, inl, inr, [], ℕ, zero, suc, List, Option, Some, Contains, map}
use Rattle.std.proofs.Common.{slice_get, ap, refl, sym, subst, ◌∙◌, arith}
use Rattle.std.specs.Prelude.{IfSome, option_map}
use Rattle.std.proofs.lemmas.Option.{slice_get_within}
use Rattle.wb_lemmas.proofs.Elements.{all_at, all_from_places}
use Rattle.wb_lemmas.proofs.Members.{contains_at}
use Rattle.wb_lemmas.proofs.Places.{at_within, nothing_at}
use Rattle.wb_base.specs.declared.symbol.Kind.TheVariants as kind
use Rattle.wb_base.specs.declared.symbol.Symbol.{Symbol}
use Rattle.wb_base.specs.declared.symbol.Symbol.TheVariants as symbol
use Rattle.wb_base.specs.Grammar.{GrammarView, IsGrammar, IsProductionBelow, IsSymbolBelow, Production}
use Rattle.wb_names_numbers_theory.proofs.RowLemmas.{map_contains}
use Rattle.wb_syntax_resolved.specs.declared.production.Child.{Child}
use Rattle.wb_syntax_resolved.specs.declared.production.ChildKind.{ChildKind}
use Rattle.wb_syntax_resolved.specs.declared.production.ChildKind.TheVariants as child
use Rattle.wb_syntax_resolved.specs.declared.production.Production as rule
use Rattle.wb_syntax_resolved.specs.declared.resolved.ResolvedParts.{ResolvedParts}
use Rattle.wb_syntax_resolved.specs.Grammar.{IsGrammarOf, IsGrammarProduction, IsIn, symbol_of}
use Rattle.wb_syntax_resolved.specs.Resolved.{HasGrammarTerminals, IsResolved, IsTerminalChild}
use Rattle.wb_syntax_resolved.specs.declared.production.ProductionRole.TheVariants as role

-- a fact of what is there
pub with_some : {X : Type 0} (o : Option X) (P : X → Type 0) → IfSome o P → (x : X) → o ≡ Some x → P x
with_some o P holds x is = subst (λ k. IfSome k P) is holds

-- a child that is a symbol: a terminal, or a tree of a nonterminal
pub child_terminal : (k : ChildKind) (t : ℕ) → symbol_of k ≡ Some (symbol.Terminal t) → k ≡ child.Terminal t
child_terminal (child.Terminal u) t e = let same : u ≡ t = cc in ap child.Terminal same
child_terminal (child.Value kind.Int) t e = absurd (cc e)
child_terminal (child.Value kind.Bool) t e = absurd (cc e)
child_terminal (child.Value kind.Text) t e = absurd (cc e)
child_terminal (child.Value (kind.Tree a)) t e = absurd (cc e)

pub child_tree : (k : ChildKind) (a : ℕ) → symbol_of k ≡ Some (symbol.Nonterminal a) → k ≡ child.Value (kind.Tree a)
child_tree (child.Terminal u) a e = absurd (cc e)
child_tree (child.Value kind.Int) a e = absurd (cc e)
child_tree (child.Value kind.Bool) a e = absurd (cc e)
child_tree (child.Value kind.Text) a e = absurd (cc e)
child_tree (child.Value (kind.Tree b)) a e = let same : b ≡ a = cc in ap (λ z. child.Value (kind.Tree z)) same

-- the child of a symbol
pub child_of : (right : List Symbol) (children : List Child)
    → map (λ (s : Symbol). Some s) right ≡ map (λ (c : Child). symbol_of c.kind) children → (k : ℕ) (s : Symbol)
    → slice_get right k ≡ Some s
    → (c : Child) × (slice_get children k ≡ Some c) × (symbol_of c.kind ≡ Some s)
child_of [] children e k s at = absurd (nothing_at s k at)
child_of (x ∷ right) [] e k s at = absurd (cc e)
child_of (x ∷ right) (c ∷ children) e zero s at =
    let same : Some x ≡ symbol_of c.kind = cc in (c, refl, sym same ∙ at)
child_of (x ∷ right) (c ∷ children) e (suc k) s at =
    let rest : map (λ (s : Symbol). Some s) right ≡ map (λ (c : Child). symbol_of c.kind) children = cc in
    child_of right children rest k s at

module _ (r : ResolvedParts) (g : GrammarView) (whole : IsResolved r) (start : r.grammar ≡ Some g) where
  pub grammar_of : IsGrammarOf r g
  grammar_of = with_some r.grammar (IsGrammarOf r) whole.numbered.grammar g start

  -- a production's row
  pub record Row (p : ℕ) (plain : Production) : Type 0 where
    pub row : rule.Production
    pub at : slice_get r.attributes.productions p ≡ Some row
    pub concrete : row.role ≡ role.Concrete
    pub is : IsGrammarProduction row plain

  pub row_of_plain : (p : ℕ) (plain : Production) → slice_get g.productions p ≡ Some plain → Row p plain
  row_of_plain p plain at =
      let within = slice_get_within g.productions p plain at in
      let less = grammar_of.productions_len in
      let (row, there) = at_within r.attributes.productions p (omega (arith, within, less)) in
      record {
        row = row;
        at = there;
        concrete = (grammar_of.productions p row there).0 within;
        is = grammar_of.productions_are p row plain
            there at;
      }

  -- what is in a concrete production is of the grammar
  pub concrete_below : (p : ℕ) (row : rule.Production) → slice_get r.attributes.productions p ≡ Some row → row.role ≡ role.Concrete
      → (a : ℕ) → IsIn row a → a < g.nonterminals
  concrete_below p row at concrete a occurs =
      (grammar_of.nonterminals a).1 (inr (inr (record {
        production = row;
        listed = contains_at r.attributes.productions row p at;
        concrete = concrete;
        occurs = occurs;
      })))

  -- a tree among its children
  pub tree_below : (p : ℕ) (row : rule.Production) → slice_get r.attributes.productions p ≡ Some row → row.role ≡ role.Concrete
      → (k : ℕ) (c : Child) (a : ℕ) → slice_get row.children k ≡ Some c → c.kind ≡ child.Value (kind.Tree a) → a < g.nonterminals
  tree_below p row at concrete k c a there is =
      concrete_below p row at concrete a (inr (subst (Contains (map (λ (c : Child). c.kind) row.children)) is
      (map_contains (λ (c : Child). c.kind) row.children c (contains_at row.children c k there))))

  -- a terminal among them
  pub terminal_below : (p : ℕ) (row : rule.Production) → slice_get r.attributes.productions p ≡ Some row → (k : ℕ) (c : Child) (t : ℕ)
      → slice_get row.children k ≡ Some c → c.kind ≡ child.Terminal t → t < g.terminals
  terminal_below p row at k c t there is =
      let all = all_at (HasGrammarTerminals r) r.attributes.productions p row whole.children at in
      let one = all_at (λ (c : Child). (number : ℕ) → c.kind ≡ child.Terminal number → IsTerminalChild r row.owner number) row.children k c
      all there t is in
      (grammar_of.terminals t one.terminal one.is).1 one.plain

  -- so every number is in range
  pub in_range : IsGrammar g
  in_range = record {
    start_below = (grammar_of.nonterminals g.start).1 (inl (ap (option_map (λ (g : GrammarView). g.start)) start));
    productions_below = all_from_places (IsProductionBelow g.terminals g.nonterminals) g.productions each;
  }
    where
      each : (p : ℕ) (plain : Production) → slice_get g.productions p ≡ Some plain → IsProductionBelow g.terminals g.nonterminals plain
      each p plain at =
          let w = row_of_plain p plain at in
          record {
            left = concrete_below p w.row w.at w.concrete plain.0 (inl (sym w.is.left));
            right = all_from_places (IsSymbolBelow g.terminals g.nonterminals) plain.1 (λ k s there.
                let c = child_of plain.1 w.row.children w.is.right k s there in symbol_below w k c.0 c.1 s c.2);
          }
        where
          symbol_below : (w : Row p plain) (k : ℕ) (c : Child) → slice_get w.row.children k ≡ Some c → (s : Symbol)
              → symbol_of c.kind ≡ Some s → IsSymbolBelow g.terminals g.nonterminals s
          symbol_below w k c there (symbol.Terminal t) e = terminal_below p w.row w.at k c t there (child_terminal c.kind t e)
          symbol_below w k c there (symbol.Nonterminal a) e =
              tree_below p w.row w.at w.concrete k c a there (child_tree c.kind a e)

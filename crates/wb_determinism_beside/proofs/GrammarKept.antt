-- The grammar of a host with an extension has the host's productions first.
use Rattle.std.proofs.Common.{◌≡◌, ◌<◌, ◌∷◌, inl, [], ℕ, suc, List, Some, map}
use Rattle.std.proofs.Common.{slice_get, ap, refl, sym, ◌∙◌, arith}
use Rattle.std.specs.List.{AllZip}
use Rattle.std.proofs.lemmas.Option.{slice_get_within}
use Rattle.wb_lemmas.proofs.Places.{at_within}
use Rattle.wb_base.specs.declared.symbol.Kind.TheVariants as kind
use Rattle.wb_base.specs.declared.symbol.Symbol.TheVariants as symbol
use Rattle.wb_base.specs.Grammar.{GrammarView, Production}
use Rattle.wb_names.specs.Resolving.{ResolvesExtension}
use Rattle.wb_names_numbers_theory.specs.Moved.{IsMovedChild, IsMovedChildKind}
use Rattle.wb_syntax_resolved.specs.declared.production.Child.{Child}
use Rattle.wb_syntax_resolved.specs.declared.production.ChildKind.{ChildKind}
use Rattle.wb_syntax_resolved.specs.declared.production.ChildKind.TheVariants as child
use Rattle.wb_syntax_resolved.specs.declared.resolved.ResolvedParts.{ResolvedParts}
use Rattle.wb_syntax_resolved.specs.Grammar.{IsGrammarProduction, symbol_of}
use Rattle.wb_syntax_resolved.specs.Resolved.{IsResolved}
use Rattle.wb_syntax.specs.SpecText.{SpecView}
use Rattle.wb_compose_theory_grammar.specs.Pieces.{Extends}
use Rattle.wb_determinism_beside.proofs.InRange.{concrete_below, terminal_below, tree_below}
use Rattle.wb_determinism_beside.proofs.KeptLemmas as k
use Rattle.wb_determinism_beside.proofs.RowLemmas.{prefix_of, some_once}

module _ (host r : ResolvedParts) (spec : SpecView) (names : ResolvesExtension host spec r) (host_whole : IsResolved host)
    (whole : IsResolved r) (h g : GrammarView) (host_start : host.grammar ≡ Some h) (start : r.grammar ≡ Some g) where
  -- a child stands for the symbol that it stood for
  kind_same : (is to : ChildKind) → ((t : ℕ) → is ≡ child.Terminal t → t < h.terminals)
      → ((a : ℕ) → is ≡ child.Value (kind.Tree a) → a < h.nonterminals) → IsMovedChildKind (k.move host r spec names host_whole whole h g
      host_start start) is to → symbol_of to ≡ symbol_of is
  kind_same (child.Terminal t) to terminal tree moved =
      ap symbol_of moved.2 ∙ ap (λ z. Some (symbol.Terminal z))
      (sym (k.terminal_same host r spec names host_whole whole h g host_start start t moved.0 (terminal t refl) moved.1))
  kind_same (child.Value kind.Int) to terminal tree moved = ap symbol_of (moved.2 ∙ ap child.Value moved.1)
  kind_same (child.Value kind.Bool) to terminal tree moved = ap symbol_of (moved.2 ∙ ap child.Value moved.1)
  kind_same (child.Value kind.Text) to terminal tree moved = ap symbol_of (moved.2 ∙ ap child.Value moved.1)
  kind_same (child.Value (kind.Tree a)) to terminal tree moved =
      let inner = moved.1 in
      ap symbol_of (moved.2 ∙ ap child.Value inner.2) ∙ ap (λ z. Some (symbol.Nonterminal z))
      (sym (k.nonterminal_same host r spec names host_whole whole h g host_start start a inner.0 (tree a refl) inner.1))

  -- so do all children of a production
  symbols_same : (cs tos : List Child) → AllZip (IsMovedChild (k.move host r spec names host_whole whole h g host_start start)) cs tos
      → ((j : ℕ) (c : Child) (t : ℕ) → slice_get cs j ≡ Some c → c.kind ≡ child.Terminal t → t < h.terminals)
      → ((j : ℕ) (c : Child) (a : ℕ) → slice_get cs j ≡ Some c → c.kind ≡ child.Value (kind.Tree a) → a < h.nonterminals)
      → map (λ (c : Child). symbol_of c.kind) tos ≡ map (λ (c : Child). symbol_of c.kind) cs
  symbols_same [] [] all terminal tree = refl
  symbols_same [] (to ∷ tos) all terminal tree = absurd all
  symbols_same (c ∷ cs) [] all terminal tree = absurd all
  symbols_same (c ∷ cs) (to ∷ tos) all terminal tree =
      let first = kind_same c.kind to.kind (λ t e. terminal 0 c t refl e) (λ a e. tree 0 c a refl e) all.0.is_kind in
      let rest = symbols_same cs tos all.1 (λ j d t at e. terminal (suc j) d t at e) (λ j d a at e. tree (suc j) d a at e) in
      ap (λ zs. symbol_of to.kind ∷ zs) rest ∙ ap (λ z. z ∷ map (λ (c : Child). symbol_of c.kind) cs) first

  -- a production of the host's grammar keeps its number
  pub production_same : (p : ℕ) (plain : Production) → slice_get h.productions p ≡ Some plain → slice_get g.productions p ≡ Some plain
  production_same p plain at =
      let below = slice_get_within h.productions p plain at in
      let x = k.production_kept host r spec names host_whole whole h g host_start start p below in
      let counted = k.productions_len host r spec names host_whole whole h g host_start start in
      let inside = x.within in
      let (now, there) = at_within g.productions p (omega (arith, counted, inside)) in
      let before : IsGrammarProduction x.was plain =
      (k.own host r spec names host_whole whole h g host_start start).productions_are p x.was plain x.at at in
      let after : IsGrammarProduction x.row now =
      (k.both host r spec names host_whole whole h g host_start start).productions_are p x.row now x.there there in
      let concrete = ((k.own host r spec names host_whole whole h g host_start start).productions p x.was x.at).0 below in
      let left_below = concrete_below host h host_whole host_start p x.was x.at concrete x.was.left (inl refl) in
      let left_same = k.nonterminal_same host r spec names host_whole whole h g host_start start x.was.left x.row.left left_below
      x.moved.left in
      let left_is : now.0 ≡ plain.0 = after.left ∙ (sym left_same ∙ sym before.left) in
      let children = symbols_same x.was.children x.row.children x.moved.children
      (λ j c t there e. terminal_below host h host_whole host_start p x.was x.at j c t there e)
      (λ j c a there e. tree_below host h host_whole host_start p x.was x.at concrete j c a there e) in
      let right_is : now.1 ≡ plain.1 = some_once now.1 plain.1 (after.right ∙ (children ∙ sym before.right)) in
      there ∙ (λ z. Some (left_is z, right_is z))

  -- it extends the host's
  pub extends : Extends h g
  extends = record {
    terminals = k.more_terminals host r spec names host_whole whole h g host_start start;
    nonterminals = k.more_nonterminals host r spec names host_whole whole h g host_start start;
    start = k.start_same host r spec names host_whole whole h g host_start start;
    productions = prefix_of h.productions g.productions production_same;
  }

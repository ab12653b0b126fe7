-- A language on which texts are parsed is one in other numbers too.
use Rattle.std.proofs.Common.{◌++◌, ◌∙◌, ◌∷◌, ◌≡◌, ◌<◌, List, Some, [], ap, map, slice_get, subst, sym, ℕ}
use Rattle.std.specs.Prelude.{All}
use Rattle.std.proofs.lemmas.List.{map-append}
use Rattle.std.proofs.lemmas.List.Elements.{All-cons, All-head, All-nil, All-tail}
use Rattle.wb_base.specs.declared.symbol.Symbol.{Symbol}
use Rattle.wb_base.specs.declared.symbol.Symbol.TheVariants.{Nonterminal, Terminal}
use Rattle.wb_base.specs.Grammar.{GrammarView, IsGrammar, IsProductionBelow, IsSymbolBelow, Production}
use Rattle.wb_lemmas.proofs.Elements.{all_from_places}
use Rattle.wb_grammar_theory.specs.Cycles.{HasNoHiddenLeftRecursion, HasNoUnitCycle}
use Rattle.wb_grammar_theory.specs.Derives.{Derives}
use Rattle.wb_grammar_theory.specs.Shape.{IsReduced}
use Rattle.wb_grammar_theory.proofs.ProductionLemmas.{production_below}
use Rattle.wb_scan_theory.specs.Facts.{HasOneWinner, IsDeterministic, IsLanguage, IsWritten}
use Rattle.wb_scan_theory.specs.Languages.{LanguageView}
use Rattle.wb_scan_theory.specs.Winners.{Wins}
use Rattle.wb_compose_theory.specs.Renamings.{Renaming, renamed}
use Rattle.wb_compose_theory.proofs.NumberLemmas.{nil_map}
use Rattle.wb_compose_theory_order.specs.Grammars.{GrammarLeadsTo}
use Rattle.wb_compose_theory_order.specs.Inner.SameGrammars.{IsSameGrammar}
use Rattle.wb_compose_theory_order.specs.Languages.{IsNumberedOn, IsSameLanguage, Renumbering, renamed_form}
use Rattle.wb_compose_theory_order.proofs.GrammarLemmas.{derives_there, list_back, text_there, viable_there}
use Rattle.wb_compose_theory_order.proofs.TerminalLemmas.{no_conflict_there}
use Rattle.wb_compose_theory_order.proofs.FormLemmas.{grammar_of, matches_there, same_language_back, wins_there}

-- symbols of the one grammar become symbols of the other
all_there : {r : Renaming} {g k : GrammarView} → GrammarLeadsTo r g k → (xs : List Symbol) →
    All (IsSymbolBelow g.terminals g.nonterminals) xs → All (IsSymbolBelow k.terminals k.nonterminals) (map (renamed r) xs)
all_there {r} {g} {k} leads [] all = All-nil (IsSymbolBelow k.terminals k.nonterminals)
all_there {r} {g} {k} leads (Terminal t ∷ xs) all =
    All-cons (IsSymbolBelow k.terminals k.nonterminals) (Terminal (r.terminal t)) (map (renamed r) xs)
    (leads.terminals t (All-head (IsSymbolBelow g.terminals g.nonterminals) (Terminal t) xs all))
    (all_there leads xs (All-tail (IsSymbolBelow g.terminals g.nonterminals) (Terminal t) xs all))
all_there {r} {g} {k} leads (Nonterminal a ∷ xs) all =
    All-cons (IsSymbolBelow k.terminals k.nonterminals) (Nonterminal (r.nonterminal a)) (map (renamed r) xs)
    (leads.nonterminals a (All-head (IsSymbolBelow g.terminals g.nonterminals) (Nonterminal a) xs all))
    (all_there leads xs (All-tail (IsSymbolBelow g.terminals g.nonterminals) (Nonterminal a) xs all))

module _ {r s : Renaming} {g k : GrammarView} (same : IsSameGrammar r s g k) where
  below_there : IsGrammar g → (p : ℕ) (rule : Production) → slice_get k.productions p ≡ Some rule →
      IsProductionBelow k.terminals k.nonterminals rule
  below_there ok p rule at =
      let here = same.back.production p rule.0 rule.1 at in
      let below = production_below g (s.production p) (s.nonterminal rule.0) (map (renamed s) rule.1) ok here in
      record {
        left = subst (λ z. z < k.nonterminals) (same.redone.nonterminal rule.0)
            (same.there.nonterminals (s.nonterminal rule.0) below.left);
        right = subst (All (IsSymbolBelow k.terminals k.nonterminals)) (list_back same.redone rule.1)
            (all_there same.there (map (renamed s) rule.1) below.right);
      }

  grammar_there : IsGrammar g → IsGrammar k
  grammar_there ok = record {
    start_below = subst (λ z. z < k.nonterminals) same.there.start (same.there.nonterminals g.start ok.start_below);
    productions_below = all_from_places (IsProductionBelow k.terminals k.nonterminals) k.productions (below_there ok);
  }

  reduced_there : IsReduced g → IsReduced k
  reduced_there ok = record {
    reachable = λ a less.
        let (u, v, d) = ok.reachable (s.nonterminal a) (same.back.nonterminals a less) in (
          map (renamed r) u,
          map (renamed r) v,
          subst (λ z. Derives k (Nonterminal z ∷ []) (map (renamed r) u ++ Nonterminal a ∷ map (renamed r) v)) same.there.start
              (subst (Derives k (Nonterminal (r.nonterminal g.start) ∷ []))
              (map-append (renamed r) u (Nonterminal (s.nonterminal a) ∷ v) ∙
              ap (λ z. map (renamed r) u ++ Nonterminal z ∷ map (renamed r) v) (same.redone.nonterminal a))
              (derives_there same.there d)),
        );
    productive = λ a less.
        let (v, d, text) = ok.productive (s.nonterminal a) (same.back.nonterminals a less) in (
          map (renamed r) v,
          subst (λ z. Derives k (Nonterminal z ∷ []) (map (renamed r) v)) (same.redone.nonterminal a) (derives_there same.there d),
          text_there same.there text,
        );
  }

  no_unit_cycle_there : HasNoUnitCycle g → HasNoUnitCycle k
  no_unit_cycle_there free a (p, right, rule, d) =
      free (s.nonterminal a)
      (s.production p, map (renamed s) right, same.back.production p a right rule, derives_there same.back d)

  no_hidden_there : HasNoHiddenLeftRecursion g → HasNoHiddenLeftRecursion k
  no_hidden_there free a (p, right, b, c, rule, d, some_before, e) =
      free (s.nonterminal a) (
        s.production p,
        map (renamed s) right,
        map (renamed s) b,
        map (renamed s) c,
        same.back.production p a right rule,
        subst (Derives g (map (renamed s) right)) (map-append (renamed s) b (Nonterminal a ∷ c)) (derives_there same.back d),
        (λ is. some_before (nil_map s b is)),
        derives_there same.back e,
      )

  deterministic_there : IsDeterministic g → IsDeterministic k
  deterministic_there ok = record {
    in_range = grammar_there ok.in_range;
    reduced = reduced_there ok.reduced;
    no_unit_cycle = no_unit_cycle_there ok.no_unit_cycle;
    no_hidden_left_recursion = no_hidden_there ok.no_hidden_left_recursion;
    no_conflict = no_conflict_there same ok.no_conflict;
  }

module _ {r s : Renumbering} {l m : LanguageView} (same : IsSameLanguage r s l m) where
  written_there : IsNumberedOn m → IsWritten l → IsWritten m
  written_there numbered ok = record {
    forms_below = λ place form at.
        subst (λ z. z < m.grammar.terminals) (same.redone.names.terminal form.terminal)
        (same.there.grammar.terminals (s.names.terminal form.terminal)
        (ok.forms_below (s.place place) (renamed_form s.names form) (same.back.forms place form at)));
    layout_numbers = numbered.layout;
    expressions_len = numbered.expressions;
    prefixes = λ place form text at is.
        ok.prefixes (s.place place) (renamed_form s.names form) text (same.back.forms place form at)
        (same.back.expressions place text is);
    no_empty = λ place is. ok.no_empty (s.place place) (same.back.expressions place [] is);
  }

  winners_there : HasOneWinner l → HasOneWinner m
  winners_there ok = record {
    one = λ prefix text at place other piece equal one two.
        let is = ok.one (map (renamed s.names) prefix) text at (s.place place) (s.place other) piece equal
        (wins_there (same_language_back same) prefix text at place piece one)
        (wins_there (same_language_back same) prefix text at other equal two) in
        sym (same.redone.place place) ∙ (ap r.place is ∙ same.redone.place other);
    some = λ prefix viable text at place piece matches.
        let (p, won, w) = ok.some (map (renamed s.names) prefix) (viable_there same.back.grammar viable) text at (s.place place) piece
        (matches_there (same_language_back same) prefix text at place piece matches) in (
          r.place p,
          won,
          subst (λ z. Wins m z text at (r.place p) won) (list_back same.redone.names prefix)
              (wins_there same (map (renamed s.names) prefix) text at p won w),
        );
  }

  -- a language there
  pub language_there : IsNumberedOn m → IsLanguage l → IsLanguage m
  language_there numbered ok = record {
    deterministic = deterministic_there (grammar_of same) ok.deterministic;
    written = written_there numbered ok.written;
    winners = winners_there ok.winners;
  }

-- The numbers of a certificate of a grammar are below 2^64, where those of the grammar and the lengths of the lists are.
use Rattle.std.proofs.Common.{◌≡◌, ℕ, ◌<◌, ◌^◌, zero, suc, List, ◌∷◌, length, Option, Some, None, sym, ◌∙◌, subst, arith}
use Rattle.std.specs.Prelude.{All, slice_get}
use Rattle.std.proofs.lemmas.List.Elements.{All-head, All-same}
use Rattle.std.proofs.lemmas.Option.{same_Some, slice_get_within}
use Rattle.wb_lemmas.proofs.Elements.{all_from_places}
use Rattle.wb_base.specs.declared.symbol.Symbol.{Symbol}
use Rattle.wb_base.specs.declared.symbol.Symbol.TheVariants.{Terminal, Nonterminal}
use Rattle.wb_base.specs.Grammar.{GrammarView, IsGrammar, IsSymbolBelow}
use Rattle.wb_grammar_theory.specs.Items.{after_dot}
use Rattle.wb_grammar_theory.proofs.LiveLemmas.{after_below}
use Rattle.wb_recheck_theory.specs.declared.line.Line.{Line}
use Rattle.wb_recheck_theory.specs.declared.entry.Entry.{Entry}
use Rattle.wb_recheck_theory.specs.Entries.{first_entry}
use Rattle.wb_recheck_theory.specs.Certificates.{IsCertificate}
use Rattle.wb_recheck_text.specs.Faults.{IsEntrySmall, IsLineSmall, IsOriginSmall, IsSymbolSmall}
use Rattle.wb_recheck_writer.specs.Order.{HaveSmallDots}

-- the counts are machine numbers
pub record AreCountsSmall (g : GrammarView) (of_lines : List Line) (of_entries : List Entry) : Type 0 where
  pub ok : IsGrammar g
  pub terminals : g.terminals < 2 ^ 64
  pub nonterminals : g.nonterminals < 2 ^ 64
  pub productions : length g.productions < 2 ^ 64
  pub lines : length of_lines < 2 ^ 64
  pub entries : length of_entries < 2 ^ 64

-- what holds at each place holds of each
each_place : {X : Type 0} (P : X → Type 0) (xs : List X) → ((n : ℕ) (x : X) → slice_get xs n ≡ Some x → P x) → All P xs
each_place P xs h = all_from_places P xs h

module _ {g : GrammarView} {lines : List Line} {entries : List Entry} (small : AreCountsSmall g lines entries)
    (certificate : IsCertificate g lines entries) where
  symbol_small : (x : Symbol) → IsSymbolBelow g.terminals g.nonterminals x → IsSymbolSmall x
  symbol_small (Terminal t) lt = let most = small.terminals in omega (arith, lt, most)
  symbol_small (Nonterminal a) lt = let most = small.nonterminals in omega (arith, lt, most)

  line_small : (n : ℕ) (line : Line) → slice_get lines n ≡ Some line → IsLineSmall line
  line_small n line at =
      let l = certificate.lines_good n line at in
      let (item, rest, i, is) = l.moves in
      record {
        from = (let lt = l.from in let w = slice_get_within lines n line at in let most = small.lines in omega (arith, lt, w, most));
        symbol = symbol_small line.symbol (All-head (IsSymbolBelow g.terminals g.nonterminals) line.symbol rest
            (All-same (IsSymbolBelow g.terminals g.nonterminals) (line.symbol ∷ rest) (after_dot g item) (sym is)
            (after_below g small.ok item)));
      }

  origin_small : (origin : Option ℕ) (place n : ℕ) → origin ≡ Some place → place < n → n < length entries → IsOriginSmall origin
  origin_small None place n is lt w = tt
  origin_small (Some m) place n is lt w =
      let same : m ≡ place = same_Some m place is in let most = small.entries in omega (arith, same, lt, w, most)

  entry_small : HaveSmallDots entries → (n : ℕ) (e : Entry) → slice_get entries n ≡ Some e → IsEntrySmall e
  entry_small dots zero e at =
      let same : first_entry g ≡ e = same_Some (first_entry g) e (sym certificate.entry_first ∙ at) in
      subst IsEntrySmall same (record {
        kernel = omega arith;
        production = (let most = small.productions in omega (arith, most));
        dot = omega arith;
        terminal = (let most = small.terminals in omega (arith, most));
        origin = tt;
      })
  entry_small dots (suc n) e at =
      let h = certificate.entries_good n e at in
      record {
        kernel = (let lt = h.in_range.kernel in let most = small.lines in omega (arith, lt, most));
        production = (let lt = h.in_range.production in let most = small.productions in omega (arith, lt, most));
        dot = dots (suc n) e at;
        terminal = (let lt = h.in_range.terminal in let most = small.terminals in omega (arith, lt, most));
        origin = origin_small e.origin h.place (suc n) h.origin h.earlier (slice_get_within entries (suc n) e at);
      }

  pub lines_small : All IsLineSmall lines
  lines_small = each_place IsLineSmall lines line_small

  pub entries_small : HaveSmallDots entries → All IsEntrySmall entries
  entries_small dots = each_place IsEntrySmall entries (entry_small dots)

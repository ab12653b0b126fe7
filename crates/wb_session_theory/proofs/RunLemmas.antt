-- Each text has a run.
use Rattle.std.proofs.Common.{◌≡◌, ◌⊎◌, ◌<◌, ◌≤◌, ◌+◌, ℕ, zero, suc, List, [], ◌∷◌, length, refl, sym, subst, inl, inr}
use Rattle.std.proofs.Common.{arith}
use Rattle.wb_base.specs.declared.symbol.Symbol.{Symbol}
use Rattle.wb_base.specs.declared.symbol.Symbol.TheVariants.{Nonterminal}
use Rattle.wb_base.specs.Grammar.{GrammarView}
use Rattle.wb_grammar_theory.specs.Productions.{end_of, top_of}
use Rattle.wb_grammar_theory.specs.Trees.{Forest, nothing, leaf, node, symbols}
use Rattle.wb_grammar_theory.specs.Lookaheads.{CanShift, CanReduce}
use Rattle.wb_lookahead.specs.Contents.{TablesView}
use Rattle.wb_scan_theory.specs.declared.stop_kind.StopKind.TheVariants.{NoToken, Unexpected}
use Rattle.wb_scan_theory.specs.Languages.{LanguageView}
use Rattle.wb_scan_theory.specs.Tokens.{Next, token, over, missing, NextToken}
use Rattle.wb_scan_theory.specs.Readings.{Gives}
use Rattle.wb_scan_theory.specs.Machine.{joined, Keeps}
use Rattle.wb_scan_theory.specs.Bounds.{nodes, count, limit}
use Rattle.wb_scan_theory.specs.Facts.{IsLanguage}
use Rattle.wb_scan_theory.specs.Parts.{AreTablesOf}
use Rattle.wb_scan_theory.specs.Inner.Runs.{IsParsable, Decision, shifts as can_shift, reduces as can_reduce, stuck}
use Rattle.wb_scan_theory.proofs.AnswerLemmas.{falls}
use Rattle.wb_scan_theory.proofs.BackLemmas.{Reduced, reduction_finds}
use Rattle.wb_scan_theory.proofs.StepLemmas.{first_keeps, shift_keeps, reduce_keeps}
use Rattle.wb_scan_theory.proofs.FactLemmas.{parsable, widest, decision}
use Rattle.wb_scan_theory.proofs.ForestLemmas.{symbols_joined}
use Rattle.wb_scan_theory.proofs.PartLemmas.{considers}
use Rattle.wb_scan_theory.proofs.TextLemmas.{is_one}
use Rattle.wb_scan_theory.proofs.TokenLemmas.{some_next, taken}
use Rattle.wb_session_theory.specs.Runs.{Reduces, rests, reduces, Reads, stays, shifts, Answer, a_tree}
use Rattle.wb_session_theory.specs.Runs.{a_stop, Ends, accepts, no_token, unexpected}
use Rattle.wb_session_theory.proofs.ScanLemmas.{next_scan}

-- what can be done before a terminal once reductions are made
data Settled (g : GrammarView) (u : ℕ) (stack : Forest) : Type 0 where
  to_shift : CanShift g (symbols stack) u → Settled g u stack
  to_accept : u ≡ end_of g → CanReduce g (symbols stack) (top_of g) u → Settled g u stack
  to_stop : (CanShift g (symbols stack) u → ⊥) → ((p : ℕ) → CanReduce g (symbols stack) p u → ⊥) → Settled g u stack

module _ (l : LanguageView) (tables : TablesView) (ok : IsLanguage l) (of : AreTablesOf l.grammar tables) (text : List ℕ) where
  record Settles (u : ℕ) (prefix : List Symbol) (at : ℕ) (stack : Forest) : Type 0 where
    through : Forest
    reduced : Reduces l.grammar [] u stack through
    keeps : Keeps l.grammar (NextToken l text) through prefix at
    settled : Settled l.grammar u through

  pars : IsParsable l.grammar l.grammar.nonterminals (widest l.grammar.productions)
  pars = parsable l.grammar ok.deterministic

  settle_step : (prefix : List Symbol) (at u place : ℕ) (s : Next) → NextToken l text prefix at s → Gives l.grammar s u place →
      u ≤ end_of l.grammar → (stack : Forest) → Keeps l.grammar (NextToken l text) stack prefix at →
      ((p : ℕ) (r : Reduced l.grammar stack p) →
      Keeps l.grammar (NextToken l text) (joined r.below (node p r.left r.children nothing)) prefix at →
      Settles u prefix at (joined r.below (node p r.left r.children nothing))) → Settles u prefix at stack
  settle_step prefix at u place s n gives below stack k again = go (decision of (symbols stack) u k.is_prefix below)
    where
      by : (p : ℕ) → CanReduce l.grammar (symbols stack) p u → ((p ≡ top_of l.grammar) × (u ≡ end_of l.grammar) ×
          (symbols stack ≡ Nonterminal l.grammar.start ∷ [])) ⊎ Reduced l.grammar stack p → Settles u prefix at stack
      by p can (inl (top, is_end, root)) = record {
        through = stack;
        reduced = rests refl;
        keeps = k;
        settled = to_accept is_end (subst (λ z. CanReduce l.grammar (symbols stack) z u) top can);
      }
      by p can (inr r) =
          let k' = reduce_keeps l.grammar ok.deterministic.no_conflict (NextToken l text) (is_one l ok text) stack prefix at k p s u place n
          gives can r in
          let rest = again p r k' in
          record {
            through = rest.through;
            reduced = reduces p r.left r.below r.children r.is r.rule can rest.reduced;
            keeps = rest.keeps;
            settled = rest.settled;
          }

      go : Decision l.grammar (symbols stack) u → Settles u prefix at stack
      go (can_shift can) = record { through = stack; reduced = rests refl; keeps = k; settled = to_shift can }
      go (can_reduce p can) = by p can (reduction_finds l.grammar pars.live stack p u can)
      go (stuck no_s no_r) = record { through = stack; reduced = rests refl; keeps = k; settled = to_stop no_s no_r }

  settle : (prefix : List Symbol) (at u place : ℕ) (s : Next) → NextToken l text prefix at s → Gives l.grammar s u place →
      u ≤ end_of l.grammar → (fuel : ℕ) (stack : Forest) (m : ℕ) → Keeps l.grammar (NextToken l text) stack prefix at → count stack ≡ m →
      limit l.grammar.nonterminals (widest l.grammar.productions) m ≤ nodes stack + fuel → Settles u prefix at stack
  settle prefix at u place s n gives below zero stack m k size enough = settle_step prefix at u place s n gives below stack k
      (λ p r k'.
      (let (grown, within, same) = falls l.grammar l.grammar.nonterminals (widest l.grammar.productions) m pars (NextToken l text) stack
      prefix at p r k' size in
      let h : suc (nodes stack) ≤ limit l.grammar.nonterminals (widest l.grammar.productions) m = within in absurd (omega arith)))
  settle prefix at u place s n gives below (suc fuel) stack m k size enough = settle_step prefix at u place s n gives below stack k
      (λ p r k'.
      (let (grown, within, same) = falls l.grammar l.grammar.nonterminals (widest l.grammar.productions) m pars (NextToken l text) stack
      prefix at p r k' size in
      let new : Forest = joined r.below (node p r.left r.children nothing) in
      let grown' : nodes new ≡ suc (nodes stack) = grown in
      settle prefix at u place s n gives below fuel new m k' same (omega arith)))

  settle_all : (prefix : List Symbol) (at u place : ℕ) (s : Next) → NextToken l text prefix at s → Gives l.grammar s u place →
      u ≤ end_of l.grammar → (stack : Forest) → Keeps l.grammar (NextToken l text) stack prefix at → Settles u prefix at stack
  settle_all prefix at u place s n gives below stack k =
      settle prefix at u place s n gives below (limit l.grammar.nonterminals (widest l.grammar.productions) (count stack)) stack
      (count stack) k refl (omega arith)

  -- a run to the end
  pub record Run (stack : Forest) (at : ℕ) : Type 0 where
    pub last : Forest
    pub place : ℕ
    pub answer : Answer
    pub reads : Reads l text (length text + 1) [] stack at last place
    pub ends : Ends l text (length text + 1) last place answer

  run_step : (stack : Forest) (at : ℕ) → Keeps l.grammar (NextToken l text) stack (symbols stack) at →
      ((reduced : Forest) (begin t : ℕ) (lexeme : List ℕ) (after : ℕ) → at < after → after ≤ length text →
      Keeps l.grammar (NextToken l text) (joined reduced (leaf t lexeme nothing)) (symbols (joined reduced (leaf t lexeme nothing))) after →
      Run (joined reduced (leaf t lexeme nothing)) after) → (s : Next) → NextToken l text (symbols stack) at s → Run stack at
  run_step stack at k again (token begin t lexeme after) n =
      let (below, on, within) = taken ok.written n begin t lexeme after refl in
      let st = settle_all (symbols stack) at t begin (token begin t lexeme after) n (refl, refl) (omega arith) stack k in
      go st below on within st.settled
    where
      go : (st : Settles t (symbols stack) at stack) → t < end_of l.grammar → at < after → after ≤ length text →
          Settled l.grammar t st.through → Run stack at
      go st below on within (to_shift can) =
          let new : Forest = joined st.through (leaf t lexeme nothing) in
          let k' : Keeps l.grammar (NextToken l text) new (symbols new) after =
          subst (λ z. Keeps l.grammar (NextToken l text) new z after) (sym (symbols_joined st.through (leaf t lexeme nothing)))
          (shift_keeps l.grammar ok.deterministic.no_conflict (NextToken l text) st.through (symbols stack) at st.keeps begin t lexeme after
          n can) in
          let rest = again st.through begin t lexeme after on within k' in
          record {
            last = rest.last;
            place = rest.place;
            answer = rest.answer;
            reads = shifts begin t lexeme after st.through (next_scan ok.written n) st.reduced can rest.reads;
            ends = rest.ends;
          }
      go st below on within (to_accept is_end can) = absurd (omega arith)
      go st below on within (to_stop no_s no_r) = record {
        last = stack;
        place = at;
        answer = a_stop begin (Unexpected t);
        reads = stays refl refl;
        ends = unexpected (token begin t lexeme after) t begin st.through (next_scan ok.written n) (refl, refl) st.reduced no_s no_r refl;
      }
  run_step stack at k again (over place) n =
      let st = settle_all (symbols stack) at (end_of l.grammar) place (over place) n (refl, refl) (omega arith) stack k in
      go st st.settled
    where
      go : (st : Settles (end_of l.grammar) (symbols stack) at stack) → Settled l.grammar (end_of l.grammar) st.through → Run stack at
      go st (to_shift can) = absurd (pars.no_end (symbols st.through) can)
      go st (to_accept is_end can) = record {
        last = stack;
        place = at;
        answer = a_tree st.through;
        reads = stays refl refl;
        ends = accepts place st.through (next_scan ok.written n) st.reduced can refl;
      }
      go st (to_stop no_s no_r) = record {
        last = stack;
        place = at;
        answer = a_stop place (Unexpected (end_of l.grammar));
        reads = stays refl refl;
        ends = unexpected (over place) (end_of l.grammar) place st.through (next_scan ok.written n) (refl, refl) st.reduced no_s no_r refl;
      }
  run_step stack at k again (missing place) n = record {
    last = stack;
    place = at;
    answer = a_stop place NoToken;
    reads = stays refl refl;
    ends = no_token place (next_scan ok.written n) refl;
  }

  asks : (stack : Forest) (at : ℕ) → Keeps l.grammar (NextToken l text) stack (symbols stack) at → at ≤ length text →
      (s : Next) × NextToken l text (symbols stack) at s
  asks stack at k within = some_next ok.written ok.winners (symbols stack) text k.is_prefix
      (considers ok.written of (symbols stack) k.is_prefix) (length text) at within (omega arith)

  pub run_from : (left : ℕ) (stack : Forest) (at : ℕ) → Keeps l.grammar (NextToken l text) stack (symbols stack) at → at ≤ length text →
      length text ≤ at + left → Run stack at
  run_from zero stack at k within enough =
      let (s, n) = asks stack at k within in
      run_step stack at k (λ reduced begin t lexeme after on inside k'. absurd (omega arith)) s n
  run_from (suc left) stack at k within enough =
      let (s, n) = asks stack at k within in
      run_step stack at k
      (λ reduced begin t lexeme after on inside k'. run_from left (joined reduced (leaf t lexeme nothing)) after k' inside (omega
      arith)) s n

  -- each text has a run from the beginning
  pub some_run : Run nothing 0
  some_run = run_from (length text) nothing 0 (first_keeps l.grammar (NextToken l text)) (omega arith) (omega arith)

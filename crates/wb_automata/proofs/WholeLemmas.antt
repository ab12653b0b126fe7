-- What was found is an automaton: each state stands for the texts that lead to it.
use Rattle.std.proofs.Common.{◌≡◌, ℕ, zero, suc, ◌+◌, ◌/◌, ◌<◌, Bool, true, false, List, [], ◌∷◌, ◌++◌, refl, sym, ◌∙◌, ap, subst, arith}
use Rattle.std.proofs.Common.{inl, inr, Option, Some, None, length, get_or, append_assoc, append-nil}
use Rattle.std.specs.Prelude.{slice_get, ◌==◌, ◌↔◌, Contains, All}
use Rattle.std.proofs.lemmas.Bool.{cases_Bool}
use Rattle.std.proofs.lemmas.List.Elements.{All-contains}
use Rattle.std.proofs.lemmas.Nat.Bits.{bit_at-zero}
use Rattle.std.proofs.lemmas.Option.{slice_get-get_or, slice_get_within, same_Some}
use Rattle.wb_lemmas.proofs.Elements.{all_from_contained}
use Rattle.wb_lemmas.proofs.Places.{at_within}
use Rattle.wb_termset.specs.Sets.{IsMember}
use Rattle.wb_regex.specs.Tree.{Tree}
use Rattle.wb_regex.specs.declared.node.RegexNode.{RegexNode}
use Rattle.wb_regex.specs.declared.node.RegexNode.TheVariants as n
use Rattle.wb_automata_positions.specs.declared.tables.Tables.{Tables}
use Rattle.wb_automata_positions.specs.Leaves.{node_holds}
use Rattle.wb_automata_positions.specs.Places.{Runs}
use Rattle.wb_automata_positions.specs.Rows.{row}
use Rattle.wb_automata_positions.specs.Tables.{AreTables, places_of}
use Rattle.wb_automata_positions.specs.Transitions.{EndsAfter, count_of, entry_of}
use Rattle.wb_automata_positions.proofs.ByteLemmas.{has_byte_holds, holds_has_byte, leaf_holds}
use Rattle.wb_automata_positions.proofs.TableLemmas.{entry_leaf}
use Rattle.wb_automata.specs.Automata.{Path, IsConsidered, IsMatch, MatchesIn, GoesOn, AreAlike}
use Rattle.wb_automata.specs.Kept.{IsStepOf}
use Rattle.wb_automata.specs.Inner.Exploring.{IsMove}
use Rattle.wb_automata.specs.Inner.Found.{Reads, Found, AreFound, on}
use Rattle.wb_automata.proofs.RunLemmas.{end_run, leaf_run, reaches_below, run_byte, run_empty, run_from}

pub blank : (b : ℕ) → node_holds (n.Set []) b ≡ false
blank b = elim (cases_Bool (b / 256 == 0)) [ inl e ↦ rw (bit_at-zero, e) refl | inr e ↦ rw (bit_at-zero, e) refl ]

none_in : (q : ℕ) → Contains [] q → ⊥
none_in q (k, lt, is) = absurd (omega arith)

-- from some leaf or start of the set one comes to the end of the expression by the text
pub record RunsFrom (t : Tables) (set : List ℕ) (k : ℕ) (x : List ℕ) : Type 0 where
  pub from : ℕ
  pub has : Contains set from
  pub runs : Runs (places_of t) (entry_of t from) k x

-- the set is the state of the path: what leads on from it completes a match
pub record IsStateOf (trees : List Tree) (sets : List (List Bool)) (t : Tables) (set : List ℕ) (path : Path) : Type 0 where
  pub below : All (λ p. p < count_of t) set
  pub exact : (k : ℕ) (x : List ℕ) → RunsFrom t set k x ↔ (IsConsidered sets path.set k × IsMatch trees k (path.text ++ x))

module _ (trees : List Tree) (sets : List (List Bool)) (t : Tables) (h : AreTables trees sets t) where
  abbrev pub Represents : List ℕ → Path → Type 0
  Represents set path = IsStateOf trees sets t set path

  leaf_entry : (q : ℕ) (words : List ℕ) → slice_get t.nodes.items q ≡ Some (n.Set words) → entry_of t q ≡ get_or t.next.items q 0
  leaf_entry q words at = entry_leaf t q (omega (arith, slice_get_within t.nodes.items q (n.Set words) at, h.table.len))

  entry_below : (set : List ℕ) (path : Path) (p : ℕ) → Represents set path → Contains set p
      → entry_of t p < length t.nodes.items + count_of t
  entry_below set path p stands has = h.entries p (All-contains (λ q. q < count_of t) set p stands.below has)

  joins : (path : Path) (b : ℕ) (x : List ℕ) → path.text ++ b ∷ [] ++ x ≡ path.text ++ (b ∷ x)
  joins path b x = append_assoc path.text (b ∷ []) x

  -- a step
  pub step_represents : (places next : List ℕ) (path : Path) (b : ℕ) → Represents places path →
      ((q : ℕ) → Contains next q ↔ Reads t places b q) → Represents next (on path b)
  step_represents places next path b stands is = record {
    below = all_from_contained (λ p. p < count_of t) next (λ q has.
        let (holds, a) = (is q).0 has in
        let lt = slice_get_within t.nodes.items q (n.Set a.leaf.words) a.leaf.at in
        omega arith);
    exact = λ k x. (
      λ r.
          let (holds, a) = (is r.from).0 r.has in
          let words : List ℕ = a.leaf.words in
          let bytes = has_byte_holds words b (sym (leaf_holds t.nodes.items r.from words b a.leaf.at) ∙ holds) in
          let rest = subst (λ z. Runs (places_of t) z k x) (leaf_entry r.from words a.leaf.at) r.runs in
          let run = run_from t h.below a.reached.reaches (entry_below places path a.reached.from stands a.reached.has)
          (leaf_run t r.from k b words x a.leaf.at bytes rest) in
          let (c, m) = (stands.exact k (b ∷ x)).0 (record { from = a.reached.from; has = a.reached.has; runs = run }) in
          (c, subst (IsMatch trees k) (sym (joins path b x)) m),
      λ (c, m).
          let r = (stands.exact k (b ∷ x)).1 (c, subst (IsMatch trees k) (joins path b x) m) in
          let l = run_byte t b x r.runs refl in
          record {
            from = l.leaf;
            has = (is l.leaf).1 (
              leaf_holds t.nodes.items l.leaf l.words b l.is ∙ holds_has_byte l.words b l.holds,
              record {
                leaf = record { words = l.words; at = l.is };
                reached = record { from = r.from; has = r.has; reaches = l.reaches };
              },
            );
            runs = subst (λ z. Runs (places_of t) z k x) (sym (leaf_entry l.leaf l.words l.is)) l.runs;
          },
    );
  }

  -- the start of a set
  pub start_represents : (s : ℕ) → s < length sets → Represents (row t.starts s) (record { set = s; text = [] })
  start_represents s lt =
      let flags : List Bool = get_or sets s [] in
      let at : slice_get sets s ≡ Some flags = slice_get-get_or sets s [] lt in
      record {
        below = (h.table.starts s).below;
        exact = λ k x. (
          λ r.
              let i = (h.is_starts s flags at r.from).0 r.has in
              let run : Runs (places_of t) (entry_of t (length t.nodes.items + i.number)) k x =
              subst (λ z. Runs (places_of t) (entry_of t z) k x) i.place r.runs in
              let own : k ≡ i.number = h.own i.number k x i.below run in
              let (tree, at_tree) = at_within trees i.number i.below in
              let m = h.sound i.number tree x at_tree
              (subst (λ z. Runs (places_of t) (entry_of t (length t.nodes.items + i.number)) z x) own run) in (
                record { flags = flags; at = at; has = subst (IsMember flags) (sym own) i.is },
                subst (λ z. IsMatch trees z x) (sym own) (record { tree = tree; at = at_tree; matches = m }),
              ),
          λ (c, m). record {
            from = length t.nodes.items + k;
            has = (h.is_starts s flags at (length t.nodes.items + k)).1 (record {
              number = k;
              below = slice_get_within trees k m.tree m.at;
              is = subst (λ z. IsMember z k) (same_Some c.flags flags (sym c.at ∙ at)) c.has;
              place = refl;
            });
            runs = h.complete k m.tree x m.at m.matches;
          },
        );
      }

  -- each state that was found is that of its path
  represents_below : (found : Found) → AreFound t found → (m j : ℕ) (places : List ℕ) (path : Path) → j < m
      → slice_get found.sets j ≡ Some places → slice_get found.paths j ≡ Some path → Represents places path
  represents_below found f zero j places path lt at at_path = absurd (omega arith)
  represents_below found f (suc m) j places path lt at at_path = elim (f.each j (slice_get_within found.sets j places at)) [
    | inl s ↦
        let e : row t.starts s.set ≡ places = same_Some (row t.starts s.set) places (sym s.here ∙ at) in
        let g : record { set = s.set; text = [] } ≡ path = same_Some (record { set = s.set; text = [] }) path (sym s.here_path ∙ at_path) in
        subst (λ z. Represents z path) e (subst (Represents (row t.starts s.set)) g
        (start_represents s.set (omega (arith, s.below, h.starts_len))))
    | inr c ↦
        let less = c.earlier in
        let stands : Represents c.set c.path = represents_below found f m c.from c.set c.path (omega arith) c.at c.at_path in
        let next : Represents c.own (on c.path c.byte) = step_represents c.set c.own c.path c.byte stands c.exact in
        let e : c.own ≡ places = same_Some c.own places (sym c.here ∙ at) in
        let g : on c.path c.byte ≡ path = same_Some (on c.path c.byte) path (sym c.here_path ∙ at_path) in
        subst (λ z. Represents z path) e (subst (Represents c.own) g next)
  ]

  pub represents : (found : Found) → AreFound t found → (j : ℕ) (places : List ℕ) (path : Path) → slice_get found.sets j ≡ Some places
      → slice_get found.paths j ≡ Some path → Represents places path
  represents found f j places path at at_path = represents_below found f (suc j) j places path (omega arith) at at_path

  -- no terminal matches the empty text, and some text matches each
  pub not_empty : (k : ℕ) → ¬ IsMatch trees k []
  not_empty k m = h.not_empty k m.tree m.at m.matches

  pub filled : (k : ℕ) → k < length trees → (text : List ℕ) × IsMatch trees k text
  filled k lt =
      let (tree, at) = at_within trees k lt in
      let (x, m) = h.filled k tree at in
      (x, record { tree = tree; at = at; matches = m })

  -- two paths of one state are alike
  move_match : (found : Found) (places : List ℕ) (x y : Path) (rest : List ℕ) (k : ℕ) → Represents places x → Represents places y
      → MatchesIn (record { terminals = trees; sets = sets; paths = found.paths }) x.set k (x.text ++ rest) → MatchesIn
      (record { terminals = trees; sets = sets; paths = found.paths }) y.set k (y.text ++ rest)
  move_match found places x y rest k p q m =
      let (c, r) = (q.exact k rest).0 ((p.exact k rest).1 (m.considered, m.is)) in
      record { considered = c; is = r }

  pub alike : (found : Found) (places : List ℕ) (x y : Path) → Represents places x → Represents places y → AreAlike
      (record { terminals = trees; sets = sets; paths = found.paths }) x y
  alike found places x y p q k rest = (λ m. move_match found places x y rest k p q m, λ m. move_match found places y x rest k q p m)

  -- where nothing reads the byte, no match goes on
  stops : (found : Found) (places : List ℕ) (path : Path) (b : ℕ) → Represents places path → ((q : ℕ) → Reads t places b q → ⊥) → ¬ GoesOn
      (record { terminals = trees; sets = sets; paths = found.paths }) path.set (path.text ++ b ∷ [])
  stops found places path b stands none g =
      let next : Represents [] (on path b) = step_represents places [] path b stands
      (λ q. (λ has. absurd (none_in q has), λ r. absurd (none q r))) in
      let r = (next.exact g.terminal g.rest).1 (g.is.considered, g.is.is) in
      none_in r.from r.has

  -- where some leaf reads it, some match goes on
  goes : (found : Found) (places next : List ℕ) (path : Path) (b q : ℕ) → Represents places path →
      ((q : ℕ) → Contains next q ↔ Reads t places b q) → Contains next q → GoesOn
      (record { terminals = trees; sets = sets; paths = found.paths }) path.set (path.text ++ b ∷ [])
  goes found places next path b q stands is has =
      let (holds, a) = (is q).0 has in
      let l = h.leads q a.leaf in
      let stood : Represents next (on path b) = step_represents places next path b stands is in
      let (c, m) = (stood.exact l.number l.text).0 (record { from = q; has = has; runs = l.runs }) in
      record { terminal = l.number; rest = l.text; is = record { considered = c; is = m } }

  -- a state accepts the terminals of the set that match its text
  pub accepts_exact : (found : Found) (places : List ℕ) (path : Path) (k : ℕ) → Represents places path → EndsAfter t places k ↔ MatchesIn
      (record { terminals = trees; sets = sets; paths = found.paths }) path.set k path.text
  accepts_exact found places path k stands = (
    λ a.
        let lt = entry_below places path a.from stands a.has in
        let run = run_from t h.below a.reaches lt (end_run t k (reaches_below t h.below a.reaches lt)) in
        let (c, m) = (stands.exact k []).0 (record { from = a.from; has = a.has; runs = run }) in
        record { considered = c; is = subst (IsMatch trees k) (append-nil path.text) m },
    λ m.
        let r = (stands.exact k []).1 (m.considered, subst (IsMatch trees k) (sym (append-nil path.text)) m.is) in
        record { from = r.from; has = r.has; reaches = run_empty t r.runs refl },
  )

  -- a move of the table is a step
  pub move_step : (found : Found) (f : AreFound t found) (places : List ℕ) (path : Path) (b : ℕ) (o : Option ℕ) → Represents places path
      → IsMove t found places path b o → IsStepOf (record { terminals = trees; sets = sets; paths = found.paths }) path b o
  move_step found f places path b None stands none = stops found places path b stands none
  move_step found f places path b (Some j) stands m =
      let (q, has) = m.some in
      record {
        own = m.own;
        at = m.at_path;
        alike = alike found m.next (on path b) m.own (step_represents places m.next path b stands m.exact)
            (represents found f j m.next m.own m.at m.at_path);
        goes = goes found places m.next path b q stands m.exact has;
      }

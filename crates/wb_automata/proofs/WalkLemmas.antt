-- The steps over a text lead to a state whose path isn't later.
use Rattle.std.proofs.Common.{◌≡◌, ℕ, ◌+◌, ◌*◌, ◌^◌, ◌≤◌, ◌<◌, Bool, List, [], ◌∷◌, ◌++◌, refl, sym, ◌∙◌, ap, subst, arith, inl, inr}
use Rattle.std.proofs.Common.{Option, Some, None, length, get_or, append_assoc, append-nil}
use Rattle.std.specs.Prelude.{slice_get, ◌↔◌, Contains, IfSome, IsNone, sum_by}
use Rattle.std.proofs.lemmas.Bool.{cases_lt, true≢false}
use Rattle.std.proofs.lemmas.List.{get_or_past}
use Rattle.std.proofs.lemmas.Option.{slice_get-get_or, slice_get_within, same_Some}
use Rattle.wb_lemmas.proofs.Numbers.{place_below}
use Rattle.wb_regex.specs.Tree.{Tree}
use Rattle.wb_regex.specs.declared.node.RegexNode.{RegexNode}
use Rattle.wb_regex.specs.declared.node.RegexNode.TheVariants as n
use Rattle.wb_automata_positions.specs.declared.tables.Tables.{Tables}
use Rattle.wb_automata_positions.specs.Rows.{row}
use Rattle.wb_automata_positions.specs.Leaves.{holds_of, node_holds}
use Rattle.wb_automata.specs.Inner.Found.{Found, on}
use Rattle.wb_automata.specs.Inner.Exploring.{IsMove, AreExplored, StartsAt}
use Rattle.wb_automata_positions.specs.Classes.{AreClasses}
use Rattle.wb_automata.specs.Inner.Accepted.{AreAccepted}
use Rattle.wb_automata.specs.Automata.{AutomatonView, Path, MatchesIn, GoesOn, AreAlike, LeadsTo, IsFound, most_states}
use Rattle.wb_automata_positions.specs.Tables.{AreTables}
use Rattle.wb_automata.specs.Kept.{IsStepOf, IsAutomaton}
use Rattle.wb_automata_positions.proofs.ByteLemmas.{byte_within}
use Rattle.wb_automata_positions.specs.Sizes.{size_of}
use Rattle.wb_automata.proofs.OrderLemmas.{IsLatest, latest_next, latest_more, latest_last}
use Rattle.wb_automata.proofs.WholeLemmas.{blank, Represents, move_step, represents, start_represents, alike, accepts_exact, not_empty}
use Rattle.wb_automata.proofs.WholeLemmas.{filled}

match_same : (automaton : AutomatonView) (s k : ℕ) (x y : List ℕ) → x ≡ y → MatchesIn automaton s k x → MatchesIn automaton s k y
match_same automaton s k x y e m = subst (MatchesIn automaton s k) e m

pub alike_next : (automaton : AutomatonView) (x y z : Path) → AreAlike automaton x y → AreAlike automaton y z → AreAlike automaton x z
alike_next automaton x y z f g k rest = (λ m. (g k rest).0 ((f k rest).0 m), λ m. (f k rest).1 ((g k rest).1 m))

pub alike_same : (automaton : AutomatonView) (x : Path) → AreAlike automaton x x
alike_same automaton x k rest = (λ m. m, λ m. m)

pub alike_back : (automaton : AutomatonView) (x y : Path) → AreAlike automaton x y → AreAlike automaton y x
alike_back automaton x y f k rest = ((f k rest).1, (f k rest).0)

pub alike_more : (automaton : AutomatonView) (x y : Path) (b : ℕ) → AreAlike automaton x y → AreAlike automaton (on x b) (on y b)
alike_more automaton x y b f k rest = (
  λ m. match_same automaton y.set k (y.text ++ (b ∷ rest)) (y.text ++ b ∷ [] ++ rest) (sym (append_assoc y.text (b ∷ []) rest))
      ((f k (b ∷ rest)).0 (match_same automaton x.set k (x.text ++ b ∷ [] ++ rest) (x.text ++ (b ∷ rest))
      (append_assoc x.text (b ∷ []) rest) m)),
  λ m. match_same automaton x.set k (x.text ++ (b ∷ rest)) (x.text ++ b ∷ [] ++ rest) (sym (append_assoc x.text (b ∷ []) rest))
      ((f k (b ∷ rest)).1 (match_same automaton y.set k (y.text ++ b ∷ [] ++ rest) (y.text ++ (b ∷ rest))
      (append_assoc y.text (b ∷ []) rest) m)),
)

pub alike_goes : (automaton : AutomatonView) (x y : Path) → AreAlike automaton x y → GoesOn automaton x.set x.text
    → GoesOn automaton y.set y.text
alike_goes automaton x y f g = record { terminal = g.terminal; rest = g.rest; is = (f g.terminal g.rest).0 g.is }

pub alike_match : (automaton : AutomatonView) (k : ℕ) (x y : Path) → AreAlike automaton x y → MatchesIn automaton x.set k x.text
    → MatchesIn automaton y.set k y.text
alike_match automaton k x y f m = match_same automaton y.set k (y.text ++ []) y.text (append-nil y.text)
    ((f k []).0 (match_same automaton x.set k x.text (x.text ++ []) (sym (append-nil x.text)) m))

-- what goes on after a text with a byte goes on after the text with the byte alone
goes_front : (automaton : AutomatonView) (s : ℕ) (u x : List ℕ) (b : ℕ) → GoesOn automaton s (u ++ (b ∷ x)) → GoesOn automaton s
    (u ++ b ∷ [])
goes_front automaton s u x b g = record {
  terminal = g.terminal;
  rest = x ++ g.rest;
  is = match_same automaton s g.terminal
      (u ++ (b ∷ x) ++ g.rest) (u ++ b ∷ [] ++ (x ++ g.rest)) (append_assoc u (b ∷ x) g.rest ∙ sym
      (append_assoc u (b ∷ []) (x ++ g.rest))) g.is;
}

goes_byte : (automaton : AutomatonView) (s : ℕ) (u x : List ℕ) (b : ℕ) → GoesOn automaton s (u ++ (b ∷ x)) → b < 256
goes_byte automaton s u x b g =
    let m = match_same automaton s g.terminal (u ++ (b ∷ x) ++ g.rest) (u ++ (b ∷ (x ++ g.rest))) (append_assoc u (b ∷ x) g.rest) g.is in
    byte_within u (x ++ g.rest) b m.is.matches

-- a step that keeps the order of paths
abbrev pub KeepsOrder : AutomatonView → Path → ℕ → Option ℕ → Type 0
KeepsOrder automaton path b None = Unit {0}
KeepsOrder automaton path b (Some j) = (own : Path) → slice_get automaton.paths j ≡ Some own → IsLatest (on path b) own

-- the steps and their order, for each state
pub record AreSteps (automaton : AutomatonView) (step : ℕ → ℕ → Option ℕ) : Type 0 where
  pub each : (s b : ℕ) (path : Path) → b < 256 → slice_get automaton.paths s ≡ Some path → IsStepOf automaton path b (step s b)
  pub order : (s b : ℕ) (path : Path) → b < 256 → slice_get automaton.paths s ≡ Some path → KeepsOrder automaton path b (step s b)

-- the walk over a text from a state
pub walk : (automaton : AutomatonView) (step : ℕ → ℕ → Option ℕ) → AreSteps automaton step → (x : List ℕ) (done : Path) (s : ℕ)
    (path : Path) → slice_get automaton.paths s ≡ Some path → AreAlike automaton done path → IsLatest done path → GoesOn automaton done.set
    (done.text ++ x) → IsFound automaton done.set (done.text ++ x)
walk automaton step steps [] done s path at same least g = subst (IsFound automaton done.set) (sym (append-nil done.text))
    (record { state = s; leads = record { path = path; at = at; alike = same }; least = least })
walk automaton step steps (b ∷ x) done s path at same least g =
    let small : b < 256 = goes_byte automaton done.set done.text x b g in
    moved (λ j own here like late goes. walk automaton step steps x (on done b) j own here like late goes) (step s b)
    (steps.each s b path small at) (steps.order s b path small at)
  where
    joins : done.text ++ b ∷ [] ++ x ≡ done.text ++ (b ∷ x)
    joins = append_assoc done.text (b ∷ []) x

    moved : ((j : ℕ) (own : Path) → slice_get automaton.paths j ≡ Some own → AreAlike automaton (on done b) own → IsLatest (on done b) own
        → GoesOn automaton done.set (done.text ++ b ∷ [] ++ x) → IsFound automaton done.set (done.text ++ b ∷ [] ++ x)) → (o : Option ℕ)
        → IsStepOf automaton path b o → KeepsOrder automaton path b o → IsFound automaton done.set (done.text ++ (b ∷ x))
    moved rest None stops keeps = absurd (stops (alike_goes automaton (on done b) (on path b) (alike_more automaton done path b same)
        (goes_front automaton done.set done.text x b g)))
    moved rest (Some j) m keeps = subst (IsFound automaton done.set) joins (rest j m.own m.at
        (alike_next automaton (on done b) (on path b) m.own (alike_more automaton done path b same) m.alike)
        (latest_next m.own (on path b) (on done b) (keeps m.own m.at) (latest_more path done b least))
        (subst (GoesOn automaton done.set) (sym joins) g))

-- a byte goes as the first of its class
class_move : (t : Tables) (found : Found) (places : List ℕ) (path : Path) (f b : ℕ) (o : Option ℕ) → f ≤ b →
    ((q : ℕ) → holds_of t.nodes.items q b ≡ holds_of t.nodes.items q f) → IsMove t found places path f o → IsMove t found places path b o
class_move t found places path f b None le same none = λ q (holds, a). none q (sym (same q) ∙ holds, a)
class_move t found places path f b (Some j) le same m = record {
  next = m.next;
  own = m.own;
  at = m.at;
  at_path = m.at_path;
  some = m.some;
  exact = λ q. (λ has. let (x, y) = (m.exact q).0 has in (same q ∙ x, y), λ (x, y). (m.exact q).1 (sym (same q) ∙ x, y));
  least = latest_next m.own (on path f) (on path b) m.least (latest_last path f b le);
}

holds_alike : (nodes : List RegexNode) (classes firsts : List ℕ) → AreClasses nodes classes firsts (length nodes) → (b : ℕ) → b < 256 →
    (q : ℕ) → holds_of nodes q b ≡ holds_of nodes q (get_or firsts (get_or classes b 0) 0)
holds_alike nodes classes firsts h b lt q = elim (cases_lt q (length nodes)) [
  | inl less ↦ h.alike b lt q (get_or nodes q (n.Set [])) less (slice_get-get_or nodes q (n.Set []) less)
  | inr past ↦ rw (get_or_past nodes q (n.Set []) past) (blank_alike b (get_or firsts (get_or classes b 0) 0))
]
  where
    blank_alike : (b f : ℕ) → node_holds (n.Set []) b ≡ node_holds (n.Set []) f
    blank_alike b f = blank b ∙ sym (blank f)

-- what the code says of its parts
pub record MadeAutomaton (trees : List Tree) (sets : List (List Bool)) (t : Tables) (classes firsts : List ℕ) (found : Found)
    (moves : List (Option ℕ)) (starts : List ℕ) (accepted : List (List ℕ)) : Type 0 where
  pub tables : AreTables trees sets t
  pub are_classes : AreClasses t.nodes.items classes firsts (length t.nodes.items)
  pub explored : AreExplored t firsts found moves starts (length t.starts)
  pub are_accepted : AreAccepted t found.sets accepted (length found.sets)

module _ (trees : List Tree) (sets : List (List Bool)) (t : Tables) (classes firsts : List ℕ) (found : Found) (moves : List (Option ℕ))
    (starts : List ℕ) (accepted : List (List ℕ)) (h : MadeAutomaton trees sets t classes firsts found moves starts accepted) where
  abbrev automaton : AutomatonView
  automaton = record { terminals = trees; sets = sets; paths = found.paths }

  abbrev step : ℕ → ℕ → Option ℕ
  step s b = get_or moves (s * length firsts + get_or classes b 0) None

  places_at : (s : ℕ) (path : Path) → slice_get found.paths s ≡ Some path → slice_get found.sets s ≡ Some (get_or found.sets s [])
  places_at s path at =
      slice_get-get_or found.sets s [] (omega (arith, h.explored.rows.found_ok.len, slice_get_within found.paths s path at))

  move_at : (s b : ℕ) (path : Path) → b < 256 → slice_get found.paths s ≡ Some path → IsMove t found (get_or found.sets s []) path b
      (step s b)
  move_at s b path lt at =
      let c : ℕ = get_or classes b 0 in
      let within : s < length found.sets = slice_get_within found.sets s (get_or found.sets s []) (places_at s path at) in
      class_move t found (get_or found.sets s []) path (get_or firsts c 0) b (step s b) (h.are_classes.first b lt)
      (holds_alike t.nodes.items classes firsts h.are_classes b lt)
      (h.explored.rows.are_moves.lead s c (get_or found.sets s []) path (inl within) (h.are_classes.below b lt) (places_at s path at) at)

  stands_at : (s : ℕ) (path : Path) → slice_get found.paths s ≡ Some path → Represents trees sets t h.tables (get_or found.sets s []) path
  stands_at s path at =
      represents trees sets t h.tables found h.explored.rows.found_ok s (get_or found.sets s []) path (places_at s path at) at

  steps : AreSteps automaton step
  steps = record {
    each = λ s b path lt at. move_step trees sets t h.tables found h.explored.rows.found_ok (get_or found.sets s []) path b (step s b)
        (stands_at s path at) (move_at s b path lt at);
    order = λ s b path lt at. keeps path (get_or found.sets s []) b (step s b) (move_at s b path lt at);
  }
    where
      keeps : (path : Path) (places : List ℕ) (b : ℕ) (o : Option ℕ) → IsMove t found places path b o → KeepsOrder automaton path b o
      keeps path places b None m = tt
      keeps path places b (Some j) m = λ own at. subst (IsLatest (on path b)) (same_Some m.own own (sym m.at_path ∙ at)) m.least

  start_leads : (s : ℕ) (x : StartsAt t found s (get_or starts s 0)) → s < length sets → AreAlike automaton
      (record { set = s; text = [] }) x.path
  start_leads s x lt = alike trees sets t h.tables found (row t.starts s) (record { set = s; text = [] }) x.path
      (start_represents trees sets t h.tables s lt) (represents trees sets t h.tables found h.explored.rows.found_ok (get_or starts s 0)
      (row t.starts s) x.path x.at x.at_path)

  every : (s : ℕ) (text : List ℕ) → GoesOn automaton s text → IsFound automaton s text
  every s text g =
      let lt : s < length sets = slice_get_within sets s g.is.considered.flags g.is.considered.at in
      let x = h.explored.starts_at s (omega (arith, h.tables.starts_len)) in
      walk automaton step steps text (record { set = s; text = [] }) (get_or starts s 0) x.path x.at_path (start_leads s x lt) x.least g

  pub whole : IsAutomaton automaton starts classes (length firsts) moves accepted
  whole = record {
    starts_len = h.explored.starts_len ∙ h.tables.starts_len;
    begins = λ s lt.
        let within : s < length sets = omega (arith, h.explored.starts_len, h.tables.starts_len) in
        let x = h.explored.starts_at s (omega (arith, h.tables.starts_len)) in
        record { path = x.path; at = x.at_path; alike = start_leads s x within };
    classes_len = h.are_classes.len;
    classes_below = h.are_classes.below;
    moves_len = moves_long h.explored.rows.are_moves.len h.explored.rows.found_ok.len;
    accepted_len = omega (arith, h.are_accepted.len, h.explored.rows.found_ok.len);
    steps = steps.each;
    accepts = λ s k path at.
        let lt : s < length found.sets = slice_get_within found.sets s (get_or found.sets s []) (places_at s path at) in
        let e = h.are_accepted.each s k (get_or found.sets s []) lt (places_at s path at) in
        let a = accepts_exact trees sets t h.tables found (get_or found.sets s []) path k (stands_at s path at) in
        (λ has. a.0 (e.0 has), λ m. e.1 (a.1 m));
    rising = h.are_accepted.rising;
    ordered = record { sorted = h.explored.rows.found_ok.sorted; every = every };
    sets_below = λ s path at. (let lt = h.explored.sets_below s path at in omega (arith, h.tables.starts_len));
    few = subst (λ z. z ≤ most_states trees) (sym h.explored.rows.found_ok.len)
        (subst (λ z. length found.sets ≤ 2 ^ z) (ap (λ z. z + length t.roots.items) h.tables.size ∙ ap (λ z. sum_by size_of trees + z)
        h.tables.roots_len) h.explored.few);
    not_empty = not_empty trees sets t h.tables;
    filled = filled trees sets t h.tables;
  }
    where
      moves_long : (length moves ≡ length found.sets * length firsts + 0) → length found.paths ≡ length found.sets
          → length moves ≡ length found.paths * length firsts
      moves_long e f = e ∙ (let g : length found.sets * length firsts + 0 ≡ length found.sets * length firsts = omega arith in g) ∙ ap
          (λ z. z * length firsts) (sym f)

-- what a step says
pub record StepMeans (automaton : AutomatonView) (state b : ℕ) (o : Option ℕ) : Type 0 where
  pub state_ok : IfSome o (λ next. next < length automaton.paths)
  pub leads : IfSome o (λ next. (set : ℕ) (text : List ℕ) → LeadsTo automaton set text state → LeadsTo automaton set (text ++ b ∷ []) next)
  pub nowhere : (set : ℕ) (text : List ℕ) → LeadsTo automaton set text state → IsNone o ↔ (¬ GoesOn automaton set (text ++ b ∷ []))

leads_same : (automaton : AutomatonView) (s : ℕ) (text : List ℕ) (path : Path) (state : ℕ) → LeadsTo automaton s text state
    → slice_get automaton.paths state ≡ Some path → AreAlike automaton (record { set = s; text = text }) path
leads_same automaton s text path state l at =
    subst (AreAlike automaton (record { set = s; text = text })) (same_Some l.path path (sym l.at ∙ at)) l.alike

step_cases : (automaton : AutomatonView) (state b : ℕ) (path : Path) (o : Option ℕ) → slice_get automaton.paths state ≡ Some path
    → IsStepOf automaton path b o → StepMeans automaton state b o
step_cases automaton state b path None at stops = record {
  state_ok = tt;
  leads = tt;
  nowhere = λ s text l. (
    λ e g. stops (alike_goes automaton (record { set = s; text = text ++ b ∷ [] }) (on path b)
        (alike_more automaton (record { set = s; text = text }) path b (leads_same automaton s text path state l at)) g),
    λ e. refl,
  );
}
step_cases automaton state b path (Some j) at m = record {
  state_ok = slice_get_within automaton.paths j m.own m.at;
  leads = λ s text l. record {
    path = m.own;
    at = m.at;
    alike = alike_next automaton (record { set = s; text = text ++ b ∷ [] })
        (on path b) m.own (alike_more automaton (record { set = s; text = text }) path b
        (leads_same automaton s text path state l at)) m.alike;
  };
  nowhere = λ s text l. (
    λ e. absurd (true≢false e),
    λ none. absurd
        (none (alike_goes automaton (on path b) (record { set = s; text = text ++ b ∷ [] })
        (alike_back automaton (record { set = s; text = text ++ b ∷ [] }) (on path b)
        (alike_more automaton (record { set = s; text = text }) path b (leads_same automaton s text path state l at))) m.goes)),
  );
}

-- the move that the table holds
pub step_read : (automaton : AutomatonView) (starts classes : List ℕ) (width : ℕ) (moves : List (Option ℕ)) (accepted : List (List ℕ))
    → IsAutomaton automaton starts classes width moves accepted → (state b : ℕ) → state < length automaton.paths → b < 256 → (o : Option ℕ)
    → slice_get moves (state * width + get_or classes b 0) ≡ Some o → StepMeans automaton state b o
step_read automaton starts classes width moves accepted h state b lt byte o read =
    let c : ℕ = get_or classes b 0 in
    let below : state * width + c < length moves = omega (
      arith,
      h.moves_len,
      place_below state c width (length automaton.paths) lt
          (h.classes_below b byte),
    ) in
    let is : get_or moves (state * width + c) None ≡ o = same_Some (get_or moves (state * width + c) None) o
    (sym (slice_get-get_or moves (state * width + c) None below) ∙ read) in
    let path : Path = get_or automaton.paths state (record { set = 0; text = [] }) in
    let at : slice_get automaton.paths state ≡ Some path = slice_get-get_or automaton.paths state (record { set = 0; text = [] }) lt in
    subst (StepMeans automaton state b) is (step_cases automaton state b path (get_or moves (state * width + c) None) at
    (h.steps state b path byte at))

-- and that its place is in the table
pub step_within : (automaton : AutomatonView) (starts classes : List ℕ) (width : ℕ) (moves : List (Option ℕ)) (accepted : List (List ℕ))
    → IsAutomaton automaton starts classes width moves accepted → (state b : ℕ) → state < length automaton.paths → b < 256
    → state * width + get_or classes b 0 < length automaton.paths * width
step_within automaton starts classes width moves accepted h state b lt byte =
    place_below state (get_or classes b 0) width (length automaton.paths) lt (h.classes_below b byte)

pub accepted_means : (automaton : AutomatonView) (starts classes : List ℕ) (width : ℕ) (moves : List (Option ℕ)) (accepted : List (List ℕ))
    → IsAutomaton automaton starts classes width moves accepted → (state terminal s : ℕ) (text : List ℕ) → LeadsTo automaton s text state
    → Contains (row accepted state) terminal ↔ MatchesIn automaton s terminal text
accepted_means automaton starts classes width moves accepted h state terminal s text l =
    let e = h.accepts state terminal l.path l.at in (
      λ has. alike_match automaton terminal l.path (record { set = s; text = text })
          (alike_back automaton (record { set = s; text = text }) l.path l.alike) (e.0 has),
      λ m. e.1
          (alike_match automaton terminal (record { set = s; text = text }) l.path l.alike m),
    )

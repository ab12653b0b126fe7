-- Pairs of places of two expressions, and the groups in which they are met. With m places the places p and q are the pair p * m + q.
use Rattle.std.specs.Prelude.{◌≡◌, ◌+◌, ◌*◌, ◌/◌, ◌%◌, ◌^◌, ◌<◌, ◌≤◌, ◌⊎◌, ℕ, Bool, true, false, Option, Some, None, List, [], ◌∷◌, ◌++◌}
use Rattle.std.specs.Prelude.{Contains, length, slice_index, slice_index_or}
use Rattle.wb_regex.specs.Matches.{HoldsByte}
use Rattle.wb_automata.specs.declared.groups.Groups.{Groups}
use Rattle.wb_automata.specs.declared.steps.Steps.{Steps}
use Rattle.wb_automata.specs.declared.steps.Steps.TheVariants.{Still, One, Two}
use Rattle.wb_automata.specs.declared.shared.SharedText.{SharedText}
use Rattle.wb_automata_positions.specs.declared.places.Place.{Place}
use Rattle.wb_automata_positions.specs.declared.places.Place.TheVariants as p
use Rattle.wb_automata_positions.specs.Places.{ArePlacesBelow, ReadsTo, Runs}
use Rattle.wb_automata_positions.specs.Rows.{row}
use Rattle.wb_automata.specs.Automata.{Path, IsEarlier}
use Rattle.wb_automata.specs.Order.{IsAtMost}
use Rattle.wb_automata.specs.Paths.{paths_of}
use Rattle.wb_automata.specs.Inner.Found.{on}
use Rattle.wb_automata.specs.Inner.Stuck.{are_stuck}

-- what is at a place
abbrev pub place_at : List Place → ℕ → Place
place_at places i = slice_index_or places i (p.End 0)

-- the left place of a pair, and the right one
abbrev pub left_of : List Place → ℕ → ℕ
left_of places c = c / length places

abbrev pub right_of : List Place → ℕ → ℕ
right_of places c = c % length places

-- where a place goes on without reading
abbrev pub steps_of : Place → Steps
steps_of (p.Read words next) = Still
steps_of (p.Go next) = One next
steps_of (p.Fork next other) = Two next other
steps_of (p.End number) = Still

-- the pairs of a left place, of which this is the first pair, and of where the right place goes on
abbrev pub right_steps : ℕ → Steps → Steps
right_steps first Still = Still
right_steps first (One q) = One (first + q)
right_steps first (Two q r) = Two (first + q) (first + r)

-- the pairs of where the left place goes on and of the right place, and where it doesn't go on those of where the right place does
abbrev pub both_steps : ℕ → ℕ → ℕ → Steps → Steps → Steps
both_steps m left right Still steps = right_steps (left * m) steps
both_steps m left right (One q) steps = One (q * m + right)
both_steps m left right (Two q r) steps = Two (q * m + right) (r * m + right)

-- both places of the pair wait, and not for the same
abbrev pub is_stuck : List Place → ℕ → Bool
is_stuck places c = are_stuck (place_at places (left_of places c)) (place_at places (right_of places c))

-- the step to a number, unless it is stuck
abbrev pub step_to : Bool → ℕ → Steps
step_to true q = Still
step_to false q = One q

-- the steps to two numbers, but for those of them that are stuck
abbrev pub steps_to : Bool → Bool → ℕ → ℕ → Steps
steps_to true other q r = step_to other r
steps_to false true q r = One q
steps_to false false q r = Two q r

-- the steps to pairs that aren't stuck
abbrev pub unstuck : List Place → Steps → Steps
unstuck places Still = Still
unstuck places (One q) = step_to (is_stuck places q) q
unstuck places (Two q r) = steps_to (is_stuck places q) (is_stuck places r) q r

-- the pairs to which a pair goes on without reading, stuck or not
abbrev pub bare_steps : List Place → ℕ → Steps
bare_steps places c = both_steps (length places) (left_of places c) (right_of places c) (steps_of (place_at places (left_of places c)))
    (steps_of (place_at places (right_of places c)))

-- the pairs to which a pair goes on without reading
abbrev pub pair_steps : List Place → ℕ → Steps
pair_steps places c = unstuck places (bare_steps places c)

-- these steps lead to numbers below the count
abbrev pub AreStepsBelow : ℕ → Steps → Type 0
AreStepsBelow m Still = Unit {0}
AreStepsBelow m (One q) = q < m
AreStepsBelow m (Two q r) = (q < m) × (r < m)

-- one of these steps leads to the number
abbrev pub LeadTo : Steps → ℕ → Type 0
LeadTo Still d = ⊥
LeadTo (One q) d = d ≡ q
LeadTo (Two q r) d = (d ≡ q) ⊎ (d ≡ r)

-- the number has the property with one of the list
pub record Any (numbers : List ℕ) (P : ℕ → ℕ → Type 0) (d : ℕ) : Type 0 where
  pub one : ℕ
  pub has : Contains numbers one
  pub is : P one d

-- both places of the pair c read the byte, and d is the pair of where they go on, which isn't stuck
pub record IsAfter (places : List Place) (b c d : ℕ) : Type 0 where
  pub left : ℕ
  pub right : ℕ
  pub left_reads : ReadsTo (place_at places (left_of places c)) b left
  pub right_reads : ReadsTo (place_at places (right_of places c)) b right
  pub pair : d ≡ left * length places + right
  pub goes_on : is_stuck places d ≡ false

-- the two places are the ends of these expressions
pub record AreEnds (places : List Place) (c i j : ℕ) : Type 0 where
  pub left : place_at places (left_of places c) ≡ p.End i
  pub right : place_at places (right_of places c) ≡ p.End j

-- both places of each pair are places of the list
abbrev pub ArePairs : List Place → List ℕ → Type 0
ArePairs places pairs = (c : ℕ) → Contains pairs c → left_of places c < length places

-- each place goes on within the list, of which the square is a number
pub record AreSmall (places : List Place) : Type 0 where
  pub below : ArePlacesBelow places
  pub fits : length places * length places < 2 ^ 64

-- the number was put after the others, if it wasn't there
abbrev pub IsInserted : List ℕ → ℕ → List ℕ → Bool → Type 0
IsInserted old number new true = (¬ Contains old number) × (new ≡ old ++ number ∷ [])
IsInserted old number new false = Contains old number × (new ≡ old)

-- all pairs that are wanted are met, and those of them that weren't are put after the list
pub record Adds (wanted : ℕ → Type 0) (met next met' next' : List ℕ) : Type 0 where
  pub more : List ℕ
  pub extends : next' ≡ next ++ more
  pub keeps : (d : ℕ) → Contains met d → Contains met' d
  pub only : (d : ℕ) → Contains met' d → Contains met d ⊎ Contains next' d
  pub sound : (d : ℕ) → Contains next' d → Contains next d ⊎ wanted d
  pub marked : (d : ℕ) → Contains next' d → Contains next d ⊎ Contains met' d
  pub all : (d : ℕ) → wanted d → Contains met' d

-- from one of the pairs one comes to this one without reading
pub data Reached (places : List Place) (from : List ℕ) : ℕ → Type 0 where
  begun : {d : ℕ} → Contains from d → Reached places from d
  stepped : {d : ℕ} (c : ℕ) → Reached places from c → LeadTo (pair_steps places c) d → Reached places from d

-- the list has been extended by pairs that are reached without reading, and what the first i go on to is met
pub record Closes (places : List Place) (met next met' next' : List ℕ) (i : ℕ) : Type 0 where
  pub more : List ℕ
  pub extends : next' ≡ next ++ more
  pub keeps : (d : ℕ) → Contains met d → Contains met' d
  pub only : (d : ℕ) → Contains met' d → Contains met d ⊎ Contains next' d
  pub sound : (d : ℕ) → Contains next' d → Reached places next d
  pub marked : (d : ℕ) → Contains next' d → Contains next d ⊎ Contains met' d
  pub pairs : ArePairs places next'
  pub within : i ≤ length next'
  pub closed : (k d : ℕ) → k < i → LeadTo (pair_steps places (slice_index next' k)) d → Contains met' d

-- the groups of pairs, the path of each, and which pairs were met
pub record Met : Type 0 where
  pub pairs : List (List ℕ)
  pub paths : List Path
  pub numbers : List ℕ

abbrev pub met_of : Groups → Met
met_of groups = record { pairs = groups.pairs; paths = paths_of groups.predecessors.items; numbers = groups.met }

-- the path of a group, from the one start
abbrev pub path_at : List Path → ℕ → Path
path_at paths g = record { set = 0; text = (slice_index_or paths g (record { set = 0; text = [] })).text }

-- from one of the pairs the text leads to the ends of these two expressions
pub record LeadsToBoth (places : List Place) (pairs : List ℕ) (i j : ℕ) (text : List ℕ) : Type 0 where
  pub pair : ℕ
  pub has : Contains pairs pair
  pub left : Runs places (left_of places pair) i text
  pub right : Runs places (right_of places pair) j text

-- the text leads to the pair: what leads to two ends after it leads from a start to them with the text before it
pub record IsMetBy (places : List Place) (seeds : List ℕ) (text : List ℕ) (c : ℕ) : Type 0 where
  pub left : left_of places c < length places
  pub reaches : (i j : ℕ) (x : List ℕ) → Runs places (left_of places c) i x → Runs places (right_of places c) j x
      → LeadsToBoth places seeds i j (text ++ x)

-- a group has the pair
pub record IsListed (met : Met) (c : ℕ) : Type 0 where
  pub group : ℕ
  pub within : group < length met.pairs
  pub has : Contains (row met.pairs group) c

-- a group has the pair, whose path is this one or an earlier one
pub record IsMetUpTo (met : Met) (c : ℕ) (path : Path) : Type 0 where
  pub group : ℕ
  pub within : group < length met.pairs
  pub has : Contains (row met.pairs group) c
  pub least : (path_at met.paths group ≡ path) ⊎ IsEarlier (path_at met.paths group) path

-- each group has pairs to which its path leads, in the order of the paths, exactly these pairs are met, and what a pair goes on to without
-- reading is met in its group or in an earlier one
pub record AreMet (places : List Place) (seeds : List ℕ) (met : Met) : Type 0 where
  pub small : AreSmall places
  pub len : length met.paths ≡ length met.pairs
  pub listed : (c : ℕ) → Contains met.numbers c → IsListed met c
  pub marked : (g c : ℕ) → g < length met.pairs → Contains (row met.pairs g) c → Contains met.numbers c
  pub each : (g c : ℕ) → g < length met.pairs → Contains (row met.pairs g) c → IsMetBy places seeds (path_at met.paths g).text c
  pub still : (g c d : ℕ) → g < length met.pairs → Contains (row met.pairs g) c → LeadTo (pair_steps places c) d
      → IsMetUpTo met d (path_at met.paths g)
  pub sorted : (g h : ℕ) → g < h → h < length met.paths → IsEarlier (path_at met.paths g) (path_at met.paths h)

-- the byte leads from the pairs of the group to pairs that were met
abbrev pub IsLed : List Place → Met → ℕ → ℕ → Type 0
IsLed places met g b = (c d : ℕ) → Contains (row met.pairs g) c → IsAfter places b c d → IsMetUpTo met d (on (path_at met.paths g) b)

-- the first group has the starts, and the first i groups are done
pub record IsBegun (places : List Place) (seeds : List ℕ) (met : Met) (i : ℕ) : Type 0 where
  pub are_met : AreMet places seeds met
  pub some : 0 < length met.pairs
  pub starts : (c : ℕ) → Contains seeds c → Contains (row met.pairs 0) c
  pub empty : path_at met.paths 0 ≡ record { set = 0; text = [] }
  pub closed : (g b : ℕ) → g < i → IsLed places met g b

-- each path is earlier than this one
abbrev pub AreEarlier : List Path → Path → Type 0
AreEarlier paths path = (g : ℕ) → g < length paths → IsEarlier (path_at paths g) path

-- the first i groups are done, and what comes next comes after all
pub record IsWalked (places : List Place) (seeds : List ℕ) (met : Met) (i : ℕ) : Type 0 where
  pub begun : IsBegun places seeds met i
  pub within : i ≤ length met.pairs
  pub ready : i < length met.pairs → (b : ℕ) → AreEarlier met.paths (on (path_at met.paths i) b)

-- the first i groups are done, and group i for the bytes below k
pub record IsPassing (places : List Place) (seeds : List ℕ) (met : Met) (i k : ℕ) : Type 0 where
  pub begun : IsBegun places seeds met i
  pub within : i < length met.pairs
  pub led : (b : ℕ) → b < k → IsLed places met i b
  pub edge : (b : ℕ) → k ≤ b → AreEarlier met.paths (on (path_at met.paths i) b)

-- the set has each byte that both places of some pair read
abbrev pub HasCommonBytes : List Place → List ℕ → List ℕ → Type 0
HasCommonBytes places pairs words = (b c d : ℕ) → Contains pairs c → IsAfter places b c d → HoldsByte words b

-- the pairs are a group more, with the path
pub record IsGrown (places : List Place) (old : Met) (met next : List ℕ) (path : Path) (new : Met) : Type 0 where
  pub last : List ℕ
  pub closes : Closes places met next new.numbers last (length last)
  pub pairs : new.pairs ≡ old.pairs ++ last ∷ []
  pub paths : new.paths ≡ old.paths ++ path ∷ []

-- the byte leads from the group to pairs of which those that are new begin a group more
pub record IsPassed (places : List Place) (i b : ℕ) (old new : Met) : Type 0 where
  pub met : List ℕ
  pub next : List ℕ
  pub adds : Adds (Any (row old.pairs i) (IsAfter places b)) old.numbers [] met next
  pub change : ((next ≡ []) × (new.pairs ≡ old.pairs) × (new.paths ≡ old.paths) × (new.numbers ≡ met)) ⊎
      IsGrown places old met next (on (path_at old.paths i) b) new

-- the group has the ends of two expressions
pub record HasEnds (places : List Place) (pairs : List ℕ) (i j : ℕ) : Type 0 where
  pub pair : ℕ
  pub has : Contains pairs pair
  pub ends : AreEnds places pair i j

-- the least text that leads from one of the pairs to the ends of two expressions, and these two
pub record IsLeastCommon (places : List Place) (seeds : List ℕ) (shared : SharedText) : Type 0 where
  pub leads : LeadsToBoth places seeds shared.left shared.right shared.text
  pub least : (i j : ℕ) (text : List ℕ) → LeadsToBoth places seeds i j text → IsAtMost shared.text text

-- or that there is none
abbrev pub IsCommon : List Place → List ℕ → Option SharedText → Type 0
IsCommon places seeds None = (i j : ℕ) (text : List ℕ) → ¬ LeadsToBoth places seeds i j text
IsCommon places seeds (Some shared) = IsLeastCommon places seeds shared

-- a pair that was met, of the ends of these two expressions
pub record IsMetEnd (places : List Place) (numbers : List ℕ) (i j : ℕ) : Type 0 where
  pub pair : ℕ
  pub has : Contains numbers pair
  pub left : left_of places pair < length places
  pub ends : AreEnds places pair i j

-- the ends of two expressions are met exactly where some text leads to both
pub record AreAllMet (places : List Place) (seeds numbers : List ℕ) : Type 0 where
  pub sound : (c i j : ℕ) → Contains numbers c → AreEnds places c i j → (text : List ℕ) × LeadsToBoth places seeds i j text
  pub complete : (i j : ℕ) (text : List ℕ) → LeadsToBoth places seeds i j text → IsMetEnd places numbers i j

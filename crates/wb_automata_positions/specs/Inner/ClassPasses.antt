-- Classes of bytes as they are found by keys, and told apart by one node more.
use Rattle.std.specs.Prelude.{◌≡◌, ◌+◌, ◌*◌, ◌<◌, ◌≤◌, ◌⊎◌, ℕ, Bool, true, false, List, [], ◌∷◌, ◌++◌, length, slice_get, slice_index}
use Rattle.wb_regex.specs.declared.node.RegexNode.{RegexNode}
use Rattle.wb_automata_positions.specs.Leaves.{node_holds}
use Rattle.wb_automata_positions.specs.Rising.{AreRising}

-- the class of a byte has as its first byte one with the same key
pub record IsClassOf (keys old new : List ℕ) (byte class : ℕ) : Type 0 where
  pub within : class < length new
  pub change : (new ≡ old) ⊎ (new ≡ old ++ byte ∷ [])
  pub same : slice_index keys (slice_index new class) ≡ slice_index keys byte

-- the classes of the bytes below b, by their keys
pub record ClassPass (keys new firsts : List ℕ) (b : ℕ) : Type 0 where
  pub len : length new ≡ b
  pub below : (c : ℕ) → c < b → slice_index new c < length firsts
  pub first : (c : ℕ) → c < b → slice_index firsts (slice_index new c) ≤ c
  pub same : (c : ℕ) → c < b → slice_index keys (slice_index firsts (slice_index new c)) ≡ slice_index keys c
  pub small : (k : ℕ) → k < length firsts → slice_index firsts k < b
  pub rising : AreRising firsts

-- the key of the bytes of a class that are held, or not
abbrev pub key_of : ℕ → Bool → ℕ
key_of class true = class * 2 + 1
key_of class false = class * 2

-- the keys of the first b bytes, by their classes and by whether the node holds them
pub record AreKeys (node : RegexNode) (classes keys : List ℕ) (b : ℕ) : Type 0 where
  pub len : length keys ≡ b
  pub each : (c : ℕ) → c < b → slice_index keys c ≡ key_of (slice_index classes c) (node_holds node c)

-- the classes are the old ones, with the node told apart
pub record IsRefined (node : RegexNode) (old new firsts : List ℕ) : Type 0 where
  pub keys : List ℕ
  pub are_keys : AreKeys node old keys 256
  pub pass : ClassPass keys new firsts 256

-- the node at the place is one that comes before
pub record IsRepeated (nodes : List RegexNode) (i : ℕ) : Type 0 where
  pub first : ℕ
  pub earlier : first < i
  pub same : slice_get nodes first ≡ slice_get nodes i

-- the node holds each of the first b bytes exactly where it holds the first byte of its class
abbrev pub KeepsClasses : RegexNode → List ℕ → List ℕ → ℕ → Type 0
KeepsClasses node classes firsts b = (c : ℕ) → c < b → node_holds node c ≡ node_holds node (slice_index firsts (slice_index classes c))

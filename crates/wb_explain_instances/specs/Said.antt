-- What is said of attributes that wait: a line for each, which begins with its printed name.
use Rattle.std.specs.Prelude.{◌≡◌, ◌⊎◌, ◌<◌, ◌-◌, ◌++◌, ◌∷◌, ℕ, List, [], Option, Some, None, length, take, drop, slice_get}
use Rattle.std.specs.List.{AllZip}
use lib.Chars.{codes}
use Rattle.wb_eval.specs.declared.machine.Key.{Key}
use Rattle.wb_eval.specs.declared.machine.Key.TheVariants as key
use Rattle.wb_syntax_resolved.specs.declared.attributes.Attribute.{Attribute}
use Rattle.wb_syntax_resolved.specs.declared.attribution.AttributionParts.{AttributionParts}
use Rattle.wb_syntax_resolved.specs.Owners.{printed_name}

-- the printed name of an attribute, or nothing where there is none
abbrev pub attribute_shown : List (List ℕ) → Option Attribute → List ℕ
attribute_shown extensions None = []
attribute_shown extensions (Some x) = printed_name extensions x.owner x.name

-- what waits: an attribute by its printed name, or the tree of a local or forward
abbrev pub subject : AttributionParts → Key → List ℕ
subject a (key.Synthesized site x) = attribute_shown a.extensions (slice_get a.attributes x)
subject a (key.Inherited site x) = attribute_shown a.extensions (slice_get a.attributes x)
subject a (key.Tree site) = codes "the tree"

-- a line that begins with four spaces and what waits
abbrev pub IsLine : AttributionParts → Key → List ℕ → Type 0
IsLine a k line = (more : List ℕ) × (line ≡ codes "    " ++ subject a k ++ more)

-- the texts one after another
abbrev pub all_of : List (List ℕ) → List ℕ
all_of [] = []
all_of (x ∷ xs) = x ++ all_of xs

-- after what was there come such lines, one for each of these, in their order
abbrev pub HasLines : AttributionParts → List Key → List ℕ → List ℕ → Type 0
HasLines a keys old new = (lines : List (List ℕ)) × AllZip (IsLine a) keys lines × (new ≡ old ++ all_of lines)

-- after what was there come other bytes, and then one for each of these
abbrev pub HasLinesAfter : AttributionParts → List ℕ → List Key → List ℕ → List ℕ → Type 0
HasLinesAfter a between keys old new = HasLines a keys (old ++ between) new

-- after what was there come the first 10 of more than 20, other bytes, and the last 10
pub record HasEnds (a : AttributionParts) (keys : List Key) (old new : List ℕ) : Type 0 where
  pub many : 20 < length keys
  pub middle : List ℕ
  pub between : List ℕ
  pub first : HasLines a (take 10 keys) old middle
  pub last : HasLinesAfter a between (drop (length keys - 10) keys) middle new

-- after what was there come the lines of all of these, or of the first and the last of many
abbrev pub HasChain : AttributionParts → List Key → List ℕ → List ℕ → Type 0
HasChain a keys old new = HasLines a keys old new ⊎ HasEnds a keys old new

-- What a builder holds of the part of a term that was met.
use Rattle.std.specs.Prelude.{◌≡◌, ℕ, List, [], ◌∷◌, ◌++◌, length, map, reverse}
use Rattle.std.specs.List.{AllZip}
use Rattle.wb_values.specs.Signature.{Signature}
use Rattle.wb_values.specs.Tree.{Tree}
use Rattle.wb_values.specs.declared.value.Value.{Value}
use Rattle.wb_terms.specs.declared.event.Event.{Event}
use Rattle.wb_terms.specs.declared.builder.Frame.{Frame}
use Rattle.wb_terms.specs.declared.builder.Builder.{Builder}
use Rattle.wb_terms.specs.declared.refusal.TermRefusal.{TermRefusal}
use Rattle.wb_terms.specs.declared.refusal.TermRefusal.TheVariants.{Bad, Unknown, WrongChild, NoMemory}
use Rattle.wb_terms.specs.Term.{Term, place_of}
use Rattle.wb_terms.specs.Nodes.{SomeNode, EachNode, IsLeast}
use Rattle.wb_terms.specs.TreeOf.{HasFirst, IsUnknown, IsWrong}
use Rattle.wb_terms.specs.Inner.Events.{term_onto}
use Rattle.wb_terms.specs.Inner.Zipper.{Zipper, outside, inside, zipper, all_met}
use Rattle.wb_terms.specs.Inner.Built.{IsNumberOf, IsStored, FindsUnknown, FindsWrong}

-- the frames are those of the nodes that were begun, the innermost first
abbrev pub AreFrames : List Signature → Zipper → List Frame → Type 0
AreFrames signatures (outside met) [] = Unit {0}
AreFrames signatures (outside met) (f ∷ fs) = ⊥
AreFrames signatures (inside name place met outer) [] = ⊥
AreFrames signatures (inside name place met outer) (f ∷ fs) =
    IsNumberOf signatures name f.production × (f.at ≡ place) × (f.start ≡ length (all_met outer)) × AreFrames signatures outer fs

-- the builder holds what was met
pub record Holds (signatures : List Signature) (trees : List Tree) (events : List Event) (b : Builder) : Type 0 where
  pub frames : AreFrames signatures (zipper events) (reverse b.frames.items)
  pub values : AllZip (IsStored signatures trees) (all_met (zipper events)) b.values.items
  pub places : map place_of (all_met (zipper events)) ≡ b.places.items
  pub unknown : FindsUnknown signatures events b.faults.unknown
  pub wrong : FindsWrong signatures events b.faults.wrong

-- the builder holds something that was met
pub record HoldsSome (signatures : List Signature) (trees : List Tree) (b : Builder) : Type 0 where
  pub events : List Event
  pub holds : Holds signatures trees events b

-- the builder holds a whole term
pub record HoldsTerm (signatures : List Signature) (trees : List Tree) (b : Builder) : Type 0 where
  pub term : Term
  pub holds : Holds signatures trees (term_onto term []) b

-- one value more, with its place, and nothing else is changed
pub record AddsValue (value : Value) (at : ℕ) (b c : Builder) : Type 0 where
  pub values : c.values.items ≡ b.values.items ++ value ∷ []
  pub places : c.places.items ≡ b.places.items ++ at ∷ []
  pub frames : c.frames ≡ b.frames
  pub faults : c.faults ≡ b.faults

-- the refusal is the fault of the term that comes first
abbrev pub IsFaultOf : List Signature → Term → TermRefusal → Type 0
IsFaultOf signatures term (Bad place) = ⊥
IsFaultOf signatures term (Unknown place) = IsLeast (λ at. SomeNode (IsUnknown signatures at) term) place
IsFaultOf signatures term (WrongChild place) =
    EachNode (λ name at arguments. HasFirst signatures name) term × IsLeast (λ at. SomeNode (IsWrong signatures at) term) place
IsFaultOf signatures term (NoMemory e) = Unit {0}

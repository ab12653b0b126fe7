-- What the answer is for some bytes as a term of given signatures.
use Rattle.std.specs.Prelude.{ℕ, List, Option, Some, None}
use Rattle.wb_values.specs.Signature.{Signature}
use Rattle.wb_values.specs.Tree.{Tree}
use Rattle.wb_terms.specs.declared.refusal.TermRefusal.{TermRefusal}
use Rattle.wb_terms.specs.declared.refusal.TermRefusal.TheVariants.{Bad, Unknown, WrongChild, NoMemory}
use Rattle.wb_terms.specs.Term.{Term}
use Rattle.wb_terms.specs.TermText.{IsTermText, IsFirstFault}
use Rattle.wb_terms.specs.Nodes.{SomeNode, EachNode, IsLeast}
use Rattle.wb_terms.specs.TreeOf.{HasFirst, IsTreeOf, IsUnknown, IsWrong}

-- an answer: a tree, or why there is none, with a place
pub data Answer : Type 0 where
  stands : Tree → Answer
  bad : ℕ → Answer
  unknown : ℕ → Answer
  wrong : ℕ → Answer

-- the bytes are a term that fits the signatures, and it stands for the tree
pub record IsTermOf (signatures : List Signature) (bytes : List ℕ) (tree : Tree) : Type 0 where
  pub term : Term
  pub text : IsTermText bytes term
  pub its : IsTreeOf signatures term tree

-- the bytes are a term, and this is the least place of a name that no production has
pub record HasUnknown (signatures : List Signature) (bytes : List ℕ) (place : ℕ) : Type 0 where
  pub term : Term
  pub text : IsTermText bytes term
  pub least : IsLeast (λ at. SomeNode (IsUnknown signatures at) term) place

-- the bytes are a term, each of its names is that of a production, and this is the least place of a node with a wrong number of
-- children, or of a child of a wrong kind
pub record HasWrongChild (signatures : List Signature) (bytes : List ℕ) (place : ℕ) : Type 0 where
  pub term : Term
  pub text : IsTermText bytes term
  pub known : EachNode (λ name place arguments. HasFirst signatures name) term
  pub least : IsLeast (λ at. SomeNode (IsWrong signatures at) term) place

-- this is the answer
abbrev pub IsAnswer : List Signature → List ℕ → Answer → Type 0
IsAnswer signatures bytes (stands tree) = IsTermOf signatures bytes tree
IsAnswer signatures bytes (bad place) = IsFirstFault bytes place
IsAnswer signatures bytes (unknown place) = HasUnknown signatures bytes place
IsAnswer signatures bytes (wrong place) = HasWrongChild signatures bytes place

-- the answer that a refusal gives; out of memory gives none
abbrev pub answer_of : TermRefusal → Option Answer
answer_of (Bad place) = Some (bad place)
answer_of (Unknown place) = Some (unknown place)
answer_of (WrongChild place) = Some (wrong place)
answer_of (NoMemory e) = None

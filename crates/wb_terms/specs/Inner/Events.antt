-- What is met in a term, the last first, and what tokens and actions make of it.
use Rattle.std.specs.Prelude.{ℕ, ◌++◌, List, [], ◌∷◌, true, false}
use Rattle.wb_text_tokens.specs.declared.word.Word.{Word}
use Rattle.wb_text_tokens.specs.declared.word.Word.TheVariants as w
use Rattle.wb_text_tokens.specs.declared.token.Token.{Token}
use Rattle.wb_text_tokens.specs.declared.token.Token.TheVariants as t
use Rattle.wb_values.specs.Tree.{Plain, int, bool, text}
use Rattle.wb_terms.specs.declared.event.Event.{Event}
use Rattle.wb_terms.specs.declared.event.Event.TheVariants.{Begin, Int, Bool, Text, End}
use Rattle.wb_terms.specs.declared.rules.Action.{Action}
use Rattle.wb_terms.specs.Term.{Term, Argument, Arguments, named, plain, term, empty, more}

-- the name of an owner's production, with `:` between the two
abbrev pub qualified_name : List ℕ → List ℕ → List ℕ
qualified_name owner name = owner ++ 58 ∷ name

-- the name that was met last is that of an owner, before this name; any other event is dropped
abbrev pub with_owner : List ℕ → List Event → List Event
with_owner name [] = []
with_owner name (Begin owner at ∷ v) = Begin (qualified_name owner name) at ∷ v
with_owner name (Int value at ∷ v) = v
with_owner name (Bool value at ∷ v) = v
with_owner name (Text value at ∷ v) = v
with_owner name (End ∷ v) = v

-- the last two names are one; any other event is dropped
abbrev pub qualified : List Event → List Event
qualified [] = []
qualified (Begin name at ∷ v) = with_owner name v
qualified (Int value at ∷ v) = v
qualified (Bool value at ∷ v) = v
qualified (Text value at ∷ v) = v
qualified (End ∷ v) = v

-- a truth value is met
abbrev pub shift_word : Word → ℕ → List Event → List Event
shift_word w.True at v = Bool true at ∷ v
shift_word w.False at v = Bool false at ∷ v
shift_word word at v = v

-- what a token makes of what was met
abbrev pub shift : Token → ℕ → ℕ → List Event → List Event
shift (t.Name name) at end v = Begin name at ∷ v
shift (t.Word word) at end v = shift_word word at v
shift (t.Int value) at end v = Int value at ∷ v
shift (t.Text value) at end v = Text value at ∷ v
shift (t.Regex body) at end v = v
shift (t.Punctuation mark) at end v = v

-- what an action makes of it
abbrev pub act : Action → List Event → List Event
act Action.Qualify v = qualified v
act Action.Close v = End ∷ v

-- a plain value is met
abbrev pub plain_onto : Plain → ℕ → List Event → List Event
plain_onto (int z) place v = Int z place ∷ v
plain_onto (bool b) place v = Bool b place ∷ v
plain_onto (text s) place v = Text s place ∷ v

-- what is met in a term, after what was met before
abbrev mutual
  pub term_onto : Term → List Event → List Event
  term_onto (named name place arguments) v = End ∷ arguments_onto arguments (Begin name place ∷ v)

  pub argument_onto : Argument → List Event → List Event
  argument_onto (plain c place) v = plain_onto c place v
  argument_onto (term t) v = term_onto t v

  pub arguments_onto : Arguments → List Event → List Event
  arguments_onto empty v = v
  arguments_onto (more a others) v = arguments_onto others (argument_onto a v)

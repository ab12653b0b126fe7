-- Values on a stack, and the trees that they stand for.
use Rattle.std.proofs.Common.{◌≡◌, suc, List, [], ◌∷◌, ◌++◌, length, refl, ap}
use Rattle.wb_grammar_theory.specs.Trees.{Forest, nothing, leaf, node, symbols}
use Rattle.wb_values.specs.Tree.{Tree, Value, Values, empty, more, plain, text, tree}
use Rattle.wb_values.specs.Tree as values
use Rattle.wb_values.specs.ValuesIn.{value_in, values_in}
use Rattle.wb_values.specs.declared.value.Value.{Value as Stored}
use Rattle.wb_scan_theory.specs.Shown.{values_of}
use Rattle.wb_scan_theory.specs.Machine.{joined}

-- these values, and then those
abbrev pub appended : Values → Values → Values
appended empty ws = ws
appended (more v vs) ws = more v (appended vs ws)

pub values_in_append : (trees : List Tree) (vs ws : List Stored) →
    values_in trees (vs ++ ws) ≡ appended (values_in trees vs) (values_in trees ws)
values_in_append trees [] ws = refl
values_in_append trees (v ∷ vs) ws = ap (more (value_in trees v)) (values_in_append trees vs ws)

pub values_of_joined : (a b : Forest) → values_of (joined a b) ≡ appended (values_of a) (values_of b)
values_of_joined nothing b = refl
values_of_joined (leaf t lexeme rest) b = ap (more (plain (text lexeme))) (values_of_joined rest b)
values_of_joined (node p a children rest) b = ap (more (tree (values.node p (values_of children)))) (values_of_joined rest b)

-- values in two parts, each the roots of a forest
pub record ValueParts (trees : List Tree) (vs : List Stored) (a b : Forest) : Type 0 where
  pub left : List Stored
  pub right : List Stored
  pub is : vs ≡ left ++ right
  pub of_left : values_in trees left ≡ values_of a
  pub of_right : values_in trees right ≡ values_of b
  pub right_length : length right ≡ length (symbols b)

pub length_values : (trees : List Tree) (vs : List Stored) (b : Forest) → values_in trees vs ≡ values_of b → length vs ≡ length (symbols b)
length_values trees [] nothing e = refl
length_values trees [] (leaf t lexeme rest) e = cc
length_values trees [] (node p a children rest) e = cc
length_values trees (v ∷ vs) nothing e = cc
length_values trees (v ∷ vs) (leaf t lexeme rest) e = ap suc (length_values trees vs rest (cc))
length_values trees (v ∷ vs) (node p a children rest) e = ap suc (length_values trees vs rest (cc))

pub values_split : (trees : List Tree) (vs : List Stored) (a b : Forest) → values_in trees vs ≡ values_of (joined a b) →
    ValueParts trees vs a b
values_split trees vs nothing b e =
    record { left = []; right = vs; is = refl; of_left = refl; of_right = e; right_length = length_values trees vs b e }
values_split trees [] (leaf t lexeme rest) b e = cc
values_split trees [] (node p a children rest) b e = cc
values_split trees (v ∷ vs) (leaf t lexeme rest) b e =
    let i = values_split trees vs rest b (cc) in
    let first : value_in trees v ≡ plain (text lexeme) = cc in
    let later : values_in trees i.left ≡ values_of rest = i.of_left in
    record {
      left = v ∷ i.left;
      right = i.right;
      is = ap (λ z. v ∷ z) i.is;
      of_left = λ k. more (first k) (later k);
      of_right = i.of_right;
      right_length = i.right_length;
    }
values_split trees (v ∷ vs) (node p a children rest) b e =
    let i = values_split trees vs rest b (cc) in
    let first : value_in trees v ≡ tree (values.node p (values_of children)) = cc in
    let later : values_in trees i.left ≡ values_of rest = i.of_left in
    record {
      left = v ∷ i.left;
      right = i.right;
      is = ap (λ z. v ∷ z) i.is;
      of_left = λ k. more (first k) (later k);
      of_right = i.of_right;
      right_length = i.right_length;
    }

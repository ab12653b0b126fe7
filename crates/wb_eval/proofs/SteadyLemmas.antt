-- What stays as it was: the instances of a machine, and the trees of a store.
use Rattle.std.proofs.Common.{◌≡◌, ◌∙◌, ◌++◌, List, [], refl, sym, ap, append-nil}
use Rattle.std.proofs.lemmas.List.{append_assoc}
use Rattle.wb_values.specs.Tree.{Tree}
use Rattle.wb_eval.specs.Inner.Machines.{IsSame, IsSteady, with_memo}
use Rattle.wb_eval.specs.Inner.Works.{IsExtended}
use Rattle.wb_eval.specs.declared.machine.Machine.{Machine}

pub same_memo : (old new : Machine) → new ≡ with_memo old new.memo → IsSteady old new
same_memo old new is = record {
  same = record {
    root = ap (λ (z : Machine). z.root) is;
    attribute = ap (λ (z : Machine). z.attribute) is;
    stack = ap (λ (z : Machine). z.stack) is;
    entered = ap (λ (z : Machine). z.entered) is;
  };
  frames = ap (λ (z : Machine). z.frames) is;
}

pub same_through : (first second third : Machine) → IsSame first second → IsSame second third → IsSame first third
same_through first second third p q = record {
  root = q.root ∙ p.root;
  attribute = q.attribute ∙ p.attribute;
  stack = q.stack ∙ p.stack;
  entered = q.entered ∙ p.entered;
}

pub same_machine : (m : Machine) → IsSteady m m
same_machine m = record { same = record { root = refl; attribute = refl; stack = refl; entered = refl }; frames = refl }

pub same_twice : (first second third : Machine) → IsSteady first second → IsSteady second third → IsSteady first third
same_twice first second third p r = record {
  same = record {
    root = r.same.root ∙ p.same.root;
    attribute = r.same.attribute ∙ p.same.attribute;
    stack = r.same.stack ∙ p.same.stack;
    entered = r.same.entered ∙ p.same.entered;
  };
  frames = r.frames ∙ p.frames;
}

-- stores that were extended, once or twice
pub same_store : (trees : List Tree) → IsExtended trees trees
same_store trees = ([], sym (append-nil trees))

pub extended_twice : (first second third : List Tree) → IsExtended first second → IsExtended second third → IsExtended first third
extended_twice first second third (more, is) (others, are) =
    (more ++ others, are ∙ ap (λ (l : List Tree). l ++ others) is ∙ append_assoc first more others)

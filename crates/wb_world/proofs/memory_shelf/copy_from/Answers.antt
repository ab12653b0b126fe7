use Rattle.std.proofs.Common.{arith, ℕ, List, ◌++◌, ◌-◌, min, length, ◌≡◌, take, drop}
use Rattle.std.proofs.lemmas.Grind.{common_steps}
use Rattle.std.proofs.lemmas.List.{drop_min, take-append-le}
use Rattle.wb_world.proofs.memory_shelf.copy_from.Goals as goal

-- the first of what was copied
copied : (n from start : ℕ) (p q contents : List ℕ) → start ≡ min from (length contents) →
    p ≡ take n (take (length contents - start) (drop start contents)) → length p ≡ n → take n (p ++ q) ≡ take n (drop from contents)
copied n from start p q contents s e l = grind (arith, common_steps, take-append-le n p q, drop_min from contents)

pub returns-clause-bytes : goal.returns-clause-bytes
returns-clause-bytes c = record {
  bytes = copied c.min-count.result c.args.from c.min.result c.copy_from_slice.new.self
      (drop c.min-count.result c.args.into.now) c.args.contents.now (grind (arith, common_steps)) (grind (arith, common_steps))
      (grind (arith, common_steps));
  ended = grind (arith, common_steps);
}

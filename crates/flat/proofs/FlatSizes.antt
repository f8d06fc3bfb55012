-- How many bytes the rules of a tree have.
use Prim.Native.Nat.{ℕ, suc, ◌+◌, ◌*◌}
use mathlib.Core.Path.{◌≡◌, refl}
use mathlib.Core.Bool.{Bool, true, false, cond}
use mathlib.Core.List.{List, [], ◌∷◌}
use native.Mathlib.Omega.{arith}
use lib.Dec.{eqb}
use lib.ListN.{length, length-append, length-map, drop}
use Rattle.program.specs.Program.{Rule}
use Rattle.program.specs.Encode.{each, rule_bytes}
use Rattle.program.proofs.Encoding.{rule_size}
use Rattle.nested.specs.Flatten.{node_term, node_rule}
use Rattle.flat.specs.Flat.{Stand, OneTree, operands_in, rules_in, root_rule, flat_rules, size_in, root_size, flat_size}
use Rattle.flat.proofs.Standing.{operands_length}

-- "7, and 4 for each child"
node_size : (form h c : ℕ) (xs : List ℕ) → length xs ≡ c → length (rule_bytes (node_rule form h xs)) ≡ 7 + 4 * c
node_size form h c xs e = omega (arith, rule_size (node_rule form h xs), length-map xs (node_term form))

each_size : (r : Rule) (rs : List Rule) (m n : ℕ) → length (rule_bytes r) ≡ m → length (each rule_bytes rs) ≡ n → length (each rule_bytes (r ∷ rs)) ≡ m + n
each_size r rs m n h k = omega (arith, length-append (rule_bytes r) (each rule_bytes rs))

rules_size : (n : ℕ) (s : List ℕ) → length (each rule_bytes (rules_in n s)) ≡ size_in s
unfolding rules_in size_in
rules_size n [] = refl
rules_size n (a ∷ []) = refl
rules_size n (a ∷ b ∷ rest) = go (rules_size n rest) (rules_size (suc n) rest) (eqb a 0)
  where
    go : length (each rule_bytes (rules_in n rest)) ≡ size_in rest → length (each rule_bytes (rules_in (suc n) rest)) ≡ size_in rest → (t : Bool)
        → length (each rule_bytes (cond t (rules_in n rest) (node_rule a n (operands_in (suc n) b rest) ∷ rules_in (suc n) rest))) ≡ cond t (size_in rest) (7 + 4 * b + size_in rest)
    go h k true = h
    go h k false =
        each_size (node_rule a n (operands_in (suc n) b rest)) (rules_in (suc n) rest) (7 + 4 * b) (size_in rest)
        (node_size a n b (operands_in (suc n) b rest) (operands_length (suc n) b rest)) k

root_size_lem : (h n : ℕ) (s : List ℕ) → OneTree s → length (rule_bytes (root_rule h n s)) ≡ root_size s
unfolding Stand
root_size_lem h n [] o = absurd o.stands
root_size_lem h n (a ∷ []) o = absurd o.stands
root_size_lem h n (a ∷ b ∷ rest) o = go (eqb a 0)
  where
    go : (t : Bool) → length (rule_bytes (cond t (node_rule 1 h (b ∷ [])) (node_rule a h (operands_in n b rest)))) ≡ cond t 11 (7 + 4 * b)
    go true = node_size 1 h 1 (b ∷ []) refl
    go false = node_size a h b (operands_in n b rest) (operands_length n b rest)

pub flat_size_lem : (h n : ℕ) (s : List ℕ) → OneTree s → length (each rule_bytes (flat_rules h n s)) ≡ flat_size s
unfolding flat_rules flat_size
flat_size_lem h n s o = each_size (root_rule h n s) (rules_in n (drop 2 s)) (root_size s) (size_in (drop 2 s)) (root_size_lem h n s o) (rules_size n (drop 2 s))

-- Document 02, wish 6: "Refusals 5 (counting what a tree adds), 9 and 11 apply to a tree as one body .. (Refusal 18, after 4: the value is malformed, too
-- deep or leaves bytes over. Refusal 19, after 12: an added variable's range passes ±30,000. Both have their field's place.)"
use Rattle.std.specs.Prelude.{ℕ, ◌+◌, Bool, true, cond, ◌||◌, List, [], ◌∷◌, eqb, ltb, length}
use Rattle.format.specs.Limits.{max_variables, max_rules}
use Rattle.trees.specs.Tree.{max_levels, leaves, total}
use Rattle.program.specs.Tables.{◌when◌, first_of, any_below}
use Rattle.program.specs.Fields.{tag_at, value_at, place, tag_before}
use Rattle.program.specs.Program.{Rule, variable, rule, program, variable_in}
use Rattle.program.specs.Refusals.{cut_short, undeclared, variable_twice, outside_range, value_refusal}
use Rattle.program.specs.declared.Variable.{Variable}
use Rattle.nested.specs.Nested.{tree_tag, Rooted, Nested, Treed, malformed, treed, treed_of, trees, nested}
use Rattle.nested.specs.Flatten.{node_rule, added_by, tree_variables}

-- "a tree as one body": its leaves as the terms of a sum for its head
abbrev pub body_of : Rooted → Rule
body_of t = node_rule 1 t.head (leaves max_levels t.tree)

-- what the trees add: a variable for each inner node besides the root, and one rule more than that
abbrev pub variables_added : List Rooted → ℕ
variables_added ts = total added_by ts

abbrev pub rules_added : List Rooted → ℕ
rules_added ts = total (λ t. 1 + added_by t) ts

-- 5: "one variable, rule .. too many", N being what stands before
unfoldable pub tree_too_many : Nested → Rooted → Bool
tree_too_many N t =
    ltb max_variables (length N.plain.variables + variables_added N.trees + added_by t)
    || ltb max_rules (length N.plain.rules + rules_added N.trees + (1 + added_by t))

-- 19: "an added variable's range passes ±30,000"
unfoldable pub added_outside : List Variable → Rooted → Bool
added_outside vs t = let added = tree_variables vs t in any_below (length added) (λ i. outside_range (variable (variable_in added i)))

-- the refusals of a tree that is well formed, in their order
unfoldable pub rooted_refusal : Nested → Rooted → ℕ
rooted_refusal N t =
    let vs = N.plain.variables in
    first_of
    ((5 when tree_too_many N t)
    ∷ (9 when undeclared vs (rule (body_of t)))
    ∷ (11 when variable_twice (rule (body_of t)))
    ∷ (19 when added_outside vs t)
    ∷ [])

-- "18, after 4"; no tag that passes stands above this one, so that 3 and 4 never apply here
abbrev pub treed_refusal : Nested → Treed → ℕ
treed_refusal N malformed = 18
treed_refusal N (treed t) = rooted_refusal N t

-- the first refusal of field k of a nested file; 0 where there is none. Every other tag is read as in a plain file
unfoldable pub nested_refusal : List ℕ → ℕ → ℕ
nested_refusal s k =
    let at = place s k in
    first_of
    ((2 when cut_short s at)
    ∷ (cond (eqb (tag_at s at) tree_tag) (treed_refusal (nested s k) (treed_of (value_at s at)))
    (value_refusal (program s k) (tag_before s k) (tag_at s at) (value_at s at)) when true)
    ∷ [])

-- How document 01's numbered lists are written here.
use Rattle.std.specs.Prelude.{ℕ, zero, suc, List, [], ◌∷◌, Bool, true, false, cond, ◌||◌, eqb}

-- an entry of a list that goes by number
infix 20 ◌⇒◌
pub data Row (A : Type 0) : Type 0 where
  ◌⇒◌ : ℕ → A → Row A

-- the entry of number n, and d where the list has none
abbrev pub select : {A : Type 0} → ℕ → List (Row A) → A → A
select n [] d = d
select n ((k ⇒ a) ∷ rest) d = cond (eqb n k) a (select n rest d)

-- a refusal's number, and its condition
infix 20 ◌when◌
pub data Condition : Type 0 where
  ◌when◌ : ℕ → Bool → Condition

-- the number of the first condition that holds, and 0 where none does
abbrev pub first_of : List Condition → ℕ
first_of [] = 0
first_of ((n when true) ∷ rest) = n
first_of ((n when false) ∷ rest) = first_of rest

-- some number below n has the property
unfoldable pub any_below : ℕ → (ℕ → Bool) → Bool
any_below zero p = false
any_below (suc n) p = any_below n p || p n

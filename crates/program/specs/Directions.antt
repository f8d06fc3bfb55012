-- Document 01, "Which way a variable pushes": "Rising: plain terms of forms 2, 3, 4 and 7, positive coefficients, op 1, and form 5 when
-- low ≥ 0. Falling: negative coefficients, op 2, and form 5 when low < 0 and high ≤ 0. Mixed: form 5 when low < 0 < high." Document 02, wish 3:
-- "In a rule for such a head plain terms swap rising and falling and literals do not, standard variables included". So a variable rises where a
-- larger value makes the rule demand more of its head, and falls where a smaller one does.
use Rattle.std.specs.Prelude.{ℕ, List, [], ◌∷◌, Bool, true, false, cond, ℤ, pos}
use Rattle.std.specs.Int.Signed.{le_z, lt_z}
use Rattle.program.specs.Tables.{◌⇒◌, select}
use Rattle.program.specs.Program.{Rule, term_form, variable_in, term_in}
use Rattle.program.specs.Variables.{swaps}
use Rattle.program.specs.declared.Direction.{Direction}
use Rattle.program.specs.declared.Variable.{Variable}
use Rattle.program.specs.declared.Term.{Term}
use Rattle.program.specs.declared.Direction.TheVariants.{Rising, Falling, Mixed}

-- a coefficient, which is not 0
abbrev pub by_sign : ℤ → Direction
by_sign z = cond (lt_z z (pos 0)) Falling Rising

-- the size of a variable
abbrev pub by_range : Variable → Direction
by_range x = cond (le_z (pos 0) x.low) Rising (cond (le_z x.high (pos 0)) Falling Mixed)

-- a plain term with this number, by the form of its rule; x is its variable: which way what the rule gives goes with it
unfoldable pub plain_direction : ℕ → Variable → ℤ → Direction
plain_direction form x number =
    select form
    ((1 ⇒ by_sign number)
    ∷ (2 ⇒ Rising)
    ∷ (3 ⇒ Rising)
    ∷ (4 ⇒ Rising)
    ∷ (5 ⇒ by_range x)
    ∷ (7 ⇒ Rising)
    ∷ [])
    Mixed

abbrev pub opposite : Direction → Direction
opposite Rising = Falling
opposite Falling = Rising
opposite Mixed = Mixed

-- a direction, as seen from the starting end of x: turned where moving away from it is moving down
unfoldable pub away : Variable → Direction → Direction
away x d = swaps x d (opposite d)

-- a term, by its op: plain, or a literal; h is the head of its rule
unfoldable pub term_direction : Variable → ℕ → Variable → Term → Direction
term_direction h form x t = select t.op ((0 ⇒ away h (plain_direction form x t.number)) ∷ (1 ⇒ Rising) ∷ (2 ⇒ Falling) ∷ []) Mixed

-- the direction of position i of a rule, vs being the program's variables
unfoldable pub direction : List Variable → Rule → ℕ → Direction
direction vs r i = let t = term_in r.terms i in term_direction (variable_in vs r.head) (term_form r.form) (variable_in vs t.variable) t

abbrev pub is_rising : Direction → Bool
is_rising Rising = true
is_rising Falling = false
is_rising Mixed = false

abbrev pub is_mixed : Direction → Bool
is_mixed Rising = false
is_mixed Falling = false
is_mixed Mixed = true

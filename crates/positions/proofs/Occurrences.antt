-- A position, put together from its term, its variable and its direction.
use Prim.Native.Nat.{ℕ, ◌<◌}
use mathlib.Core.Path.{◌≡◌, ap, ◌∙◌}
use mathlib.Core.List.{List}
use mathlib.Core.Bool.{Bool, ◌&&◌}
use Rattle.program.specs.Program.{Rule, term_form, variable_in, term_in}
use Rattle.program.specs.Variables.{is_founded}
use Rattle.program.specs.Directions.{away, direction, term_direction, is_rising}
use Rattle.program.specs.Readings.{body_variable, kept}
use Rattle.program.specs.declared.Variable.{Variable}
use Rattle.program.specs.declared.Term.{Term}
use Rattle.program.specs.declared.Direction.{Direction}
use Rattle.program.proofs.Pushes.{direction_is}
use Rattle.positions.specs.Positions.{PositionIs}

-- the variable of a term is declared where that of the position is
pub declared_at : {n : ℕ} {t u : Term} → t ≡ u → u.variable < n → t.variable < n
declared_at e h = rw e h

module _ (vs : List Variable) (r : Rule) (i : ℕ) where
  kept_as : {x : Variable} {d : Direction} → d ≡ direction vs r i → x ≡ variable_in vs (body_variable r i) → (is_rising (away x d) && is_founded x) ≡ kept vs r i
  unfolding kept
  kept_as p q = rw (p, q)

  pub position_read : {h : Variable} {t : Term} {x : Variable} {d : Direction} {k : Bool} → h ≡ variable_in vs r.head → t ≡ term_in r.terms i
      → x ≡ variable_in vs t.variable → d ≡ term_direction h (term_form r.form) x t → k ≡ (is_rising (away x d) && is_founded x)
      → PositionIs vs r i (record { variable = t.variable; direction = d; kept = k })
  position_read {h} {t} {x} {d} {k} o p q e a =
      let w : d ≡ direction vs r i = e ∙ direction_is vs r i o p q in
      record {
        variable_is = ap (λ (u : Term). u.variable) p;
        direction_is = w;
        kept_is = a ∙ kept_as w (q ∙ ap (λ (u : Term). variable_in vs u.variable) p);
      }

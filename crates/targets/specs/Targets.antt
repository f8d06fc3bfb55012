-- Targets on the way to the least model. The aims are the targets drawn back at first, each by the stride of its variable, and rules lift them; where every aim is its
-- target, every model is at or after the targets (law `target_floor`). m are the values reached, which every model is at or after.
use Rattle.std.specs.Prelude.{ℕ, ◌*◌, ◌≡◌, ◌⊎◌, not, T, ℤ, pos, ◌+ℤ◌, Some}
use Rattle.program.specs.Variables.{is_founded, ahead}
use Rattle.program.specs.Readings.{Valuation}
use Rattle.meaning.specs.Founded.{System, AtOrBefore, Within, Model}
use Rattle.steady.specs.Short.{ShortBy}

module _ (𝒮 : System) where
  open 𝒮 use {variable, Rule, head, gives}

  -- M lies in the ranges, with standard variables as assigned, at or after m
  pub record From (θ m M : Valuation) : Type 0 where
    pub standard : (v : ℕ) → T (not (is_founded (variable v))) → M v ≡ θ v
    pub within : Within 𝒮 M
    pub after : (v : ℕ) → AtOrBefore 𝒮 v (m v) (M v)

  module _ (stride : ℕ → ℕ) where
    -- M is at most n strides short of A everywhere
    pub record AllShort (n : ℕ) (M A : Valuation) : Type 0 where
      pub by : (v : ℕ) → ShortBy (n * stride v) (variable v) (A v) (M v)

    -- what rule r gives at M is at most n strides of its head short of b
    pub record GivesNear (θ M : Valuation) (r : Rule) (n : ℕ) (b : ℤ) : Type 0 where
      pub given : ℤ
      pub gives_it : gives r M θ ≡ Some given
      pub near : ShortBy (n * stride (head r)) (variable (head r)) b given

    -- what rule r gives is no more strides short of b than the values are of A
    abbrev pub Steady : Valuation → Valuation → Valuation → Rule → ℤ → Type 0
    Steady θ m A r b = (n : ℕ) (M : Valuation) → From θ m M → AllShort n M A → GivesNear θ M r n b

    -- A₀ is the target T drawn back by one stride, or has what was reached
    pub record Drawn (m T A₀ : Valuation) : Type 0 where
      pub drawn : (v : ℕ) → (A₀ v ≡ m v) ⊎ (ahead (variable v) (T v) ≡ (ahead (variable v) (A₀ v) +ℤ pos (stride v)))

    -- a model is short of the aims A by no more strides than of A₀
    pub record Justified (θ m A₀ A : Valuation) : Type 0 where
      pub from : From θ m A
      pub short : (M : Valuation) → Model 𝒮 θ M → (n : ℕ) → AllShort n M A₀ → AllShort n M A

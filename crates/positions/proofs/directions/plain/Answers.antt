-- Each arm is a row of the table.
-- a form other than 8 is read as itself
use mathlib.Core.Path.{◌≡◌, ◌∙◌, ap}
use native.Mathlib.Omega.{arith}
use mir.Facts.{to_z-of_z}
use Rattle.program.specs.Program.{term_form}
use Rattle.program.specs.Directions.{by_sign, away}
use Rattle.program.proofs.Forms.{read_as_sum, read_as_itself}
use Rattle.program.proofs.Pushes.{plain_sum, plain_rising, plain_size, plain_carried, plain_none, plain_literals, plain_beyond, away_of_mixed}
use Rattle.positions.proofs.directions.plain.Goals as goal

pub returns-in-1 : goal.returns-in-1
returns-in-1 c = let q = (let it : (c.args.form ≡ 8 → ⊥) → c.args.form ≡ term_form c.args.form = λ h. read_as_itself c.args.form h in it) (omega arith) in
    c.by_sign.ensures ∙ ap (away c.args.h) (ap by_sign (to_z-of_z c.ranges.number) ∙ plain_sum _ _ _ (omega arith))

pub returns-in-5 : goal.returns-in-5
returns-in-5 c = let q = (let it : (c.args.form ≡ 8 → ⊥) → c.args.form ≡ term_form c.args.form = λ h. read_as_itself c.args.form h in it) (omega arith) in
    c.by_range.ensures ∙ ap (away c.args.h) (plain_size _ _ _ (omega arith))

pub returns-in-6 : goal.returns-in-6
returns-in-6 c = let q = (let it : (c.args.form ≡ 8 → ⊥) → c.args.form ≡ term_form c.args.form = λ h. read_as_itself c.args.form h in it) (omega arith) in
    away_of_mixed c.args.h ∙ ap (away c.args.h) (plain_literals _ _ _ (omega arith))

pub returns-in-7 : goal.returns-in-7
returns-in-7 c = let q = (let it : (c.args.form ≡ 8 → ⊥) → c.args.form ≡ term_form c.args.form = λ h. read_as_itself c.args.form h in it) (omega arith) in
    c.away.ensures ∙ ap (away c.args.h) (plain_carried _ _ _ (omega arith))

pub returns-in-8 : goal.returns-in-8
returns-in-8 c = let q = read_as_sum c.args.form (omega arith) in
    c.by_sign-in-8.ensures ∙ ap (away c.args.h) (ap by_sign (to_z-of_z c.ranges.number) ∙ plain_sum _ _ _ (omega arith))

pub returns-in-2-to-4 : goal.returns-in-2-to-4
returns-in-2-to-4 c = let q = (let it : (c.args.form ≡ 8 → ⊥) → c.args.form ≡ term_form c.args.form = λ h. read_as_itself c.args.form h in it) (omega arith) in
    c.away-in-2-to-4.ensures ∙ ap (away c.args.h) (plain_rising _ _ _ (omega arith) (omega arith))

pub returns-in-0 : goal.returns-in-0
returns-in-0 c = let q = (let it : (c.args.form ≡ 8 → ⊥) → c.args.form ≡ term_form c.args.form = λ h. read_as_itself c.args.form h in it) (omega arith) in
    away_of_mixed c.args.h ∙ ap (away c.args.h) (plain_none _ _ _ (omega arith))

pub returns-in-0-2 : goal.returns-in-0-2
returns-in-0-2 c = let q = (let it : (c.args.form ≡ 8 → ⊥) → c.args.form ≡ term_form c.args.form = λ h. read_as_itself c.args.form h in it) (omega arith) in
    away_of_mixed c.args.h ∙ ap (away c.args.h) (plain_beyond _ _ _ (omega arith))

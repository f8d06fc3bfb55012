-- A coefficient times a small value fits; the value is read on the side that the coefficient's sign says.
use mathlib.Core.Path.{◌≡◌, ap, ap₂, ◌∙◌}
use mathlib.Core.Bool.{not, cond}
use lib.IntN.{ℤ, pos, ◌*ℤ◌}
use lib.Signed.{lt_z}
use mir.Syntax.{w64}
use mir.Val.{to_z, of_z}
use Rattle.program.specs.declared.Term.{Term}
use Rattle.program.specs.Program.{terms_of, term_in}
use Rattle.sided.proofs.Sided.{side_weighed, sided_is, weigh_fits}
use borrow.Author.Rules.{rules}
use Rattle.sided.proofs.weigh.Goals as goal

pub times-requires : goal.times-requires
times-requires c = let ts = terms_of c.args.body.now in
    let m = ap (λ (t : Term). t.number) c.term-term.ensures in
    let n : to_z w64 (of_z w64 c.term-term.result.number) ≡ c.term-term.result.number = search rules in
    let v : to_z w64 (of_z w64 c.read.result) ≡ c.read.result = search rules in
    let f = c.is_turned-falling.ensures ∙ ap (λ (z : ℤ). cond (lt_z z (pos 0)) (not c.args.side) c.args.side) (n ∙ m) ∙ side_weighed c.args.side (term_in ts c.args.i) c.requires.i_value in
    let e = sided_is c.args.sides.now 1 c.args.side ts c.args.i v c.read.ensures f (ap (λ (t : Term). t.variable) c.term-term.ensures) in
    weigh_fits c.args.sides.now 1 c.args.side ts c.requires.small c.args.i (n ∙ m) e c.requires.i_bound

pub returns : goal.returns
returns c = let ts = terms_of c.args.body.now in
    let m = ap (λ (t : Term). t.number) c.term-term.ensures in
    let n : to_z w64 (of_z w64 c.term-term.result.number) ≡ c.term-term.result.number = search rules in
    let v : to_z w64 (of_z w64 c.read.result) ≡ c.read.result = search rules in
    let f = c.is_turned-falling.ensures ∙ ap (λ (z : ℤ). cond (lt_z z (pos 0)) (not c.args.side) c.args.side) (n ∙ m) ∙ side_weighed c.args.side (term_in ts c.args.i) c.requires.i_value in
    let e = sided_is c.args.sides.now 1 c.args.side ts c.args.i v c.read.ensures f (ap (λ (t : Term). t.variable) c.term-term.ensures) in
    let z : to_z w64 (of_z w64 c.times.result) ≡ c.times.result = search rules in
    z ∙ c.times.ensures ∙ ap₂ ◌*ℤ◌ (n ∙ m) e

-- Its count, its terms, then the lows of both.
use Rattle.program.specs.Program.{terms_of, variables_at}
use Rattle.program.proofs.Places.{variables_length}
use Rattle.faults.proofs.TermLaws.{variable_byte}
use borrow.Author.Tests.{not-false}
use native.Mathlib.Omega.{arith}
use Rattle.program.proofs.Bodies.{terms_length}
use Rattle.faultless.proofs.TermLaws.{says_no}
use Rattle.faultless.proofs.BodyLaws.{product_body}
use Rattle.faultless.proofs.is_product.Goals as goal

pub returns-then-body-ne2 : goal.returns-then-body-ne2
returns-then-body-ne2 c = says_no

pub returns-then-not-are_bare : goal.returns-then-not-are_bare
returns-then-not-are_bare c = says_no

pub is_low_fine-requires : goal.is_low_fine-requires
is_low_fine-requires c = let a = c.are_bare.ensures (not-false _ c.if-not-are_bare.false-raw) in
    let l = terms_length c.args.body.now in
    let d = (a 0 (omega arith) (omega arith)).0.declared in
    (c.requires.1, omega (arith, variable_byte c.args.body.now 0 (omega arith)))

pub returns-then-not-is_low_fine : goal.returns-then-not-is_low_fine
returns-then-not-is_low_fine c = says_no

pub is_low_fine-requires-2 : goal.is_low_fine-requires-2
is_low_fine-requires-2 c = let a = c.are_bare.ensures (not-false _ c.if-not-are_bare.false-raw) in
    let l = terms_length c.args.body.now in
    let d = (a 1 (omega arith) (omega arith)).0.declared in
    (c.requires.1, omega (arith, variable_byte c.args.body.now 1 (omega arith)))

pub returns : goal.returns
returns c = let a = c.are_bare.ensures (not-false _ c.if-not-are_bare.false-raw) in
    let l = terms_length c.args.body.now in
    let vs = variables_at c.args.file.now c.args.variables in
    λ e. product_body _ (terms_of c.args.body.now) a vs (variables_length c.args.file.now c.args.variables) (omega arith)
    (rw (variable_byte c.args.body.now 0 (omega arith)) (c.is_low_fine.ensures (not-false _ c.if-not-is_low_fine.false-raw))) (rw (variable_byte c.args.body.now 1 (omega arith)) (c.is_low_fine-2.ensures e))

-- Where the set does not have the variable yet, no term before has it.
use mathlib.Core.Path.{sym, ◌∙◌}
use native.Mathlib.Omega.{arith}
use Rattle.faultless.proofs.TermLaws.{says_no, noted}
use Rattle.faultless.proofs.terms.is_new.Goals as goal

pub returns-then-variables-x : goal.returns-then-variables-x
returns-then-variables-x c = record { seen_len_2 = c.requires.seen_len.0; new = says_no }

pub returns-then-has_bit : goal.returns-then-has_bit
returns-then-has_bit c = record { seen_len_2 = c.requires.seen_len.0; new = says_no }

pub returns : goal.returns
returns c = record {
  seen_len_2 = c.add_bit.ensures.words_len_unchanged ∙ c.requires.seen_len.0;
  new = λ e. noted _ _ c.requires.i_in_bounds _ c.args.seen.now _ _ c.requires.seen_len.1 c.wide-x.ensures.0 (omega arith)
      (sym c.has_bit.ensures ∙ c.if-has_bit.false) c.add_bit.ensures.by_index;
}

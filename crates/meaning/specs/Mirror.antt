-- Document 000, section 3: "for each ub-founded variable x in the program, create an lb-founded variable x' and replace every occurrence of x in P with
-- -x', and then map the stable models of the modified program to the original program via θ(x) = -θ(x')." It serves laws alone (proofs/Mirror.antt).
use Rattle.std.specs.Prelude.{neg_ℤ, Option, Some, None, ℤ}
use Rattle.program.specs.Variables.{swaps, ahead}
use Rattle.program.specs.Readings.{Valuation}
use Rattle.program.specs.declared.Variable.{Variable}
use Rattle.meaning.specs.Founded.{System}

-- x' for x, and x itself where it is not founded from above
unfoldable pub mirrored : Variable → Variable
mirrored x = swaps x x (record { kind = 1; low = neg_ℤ x.high; high = neg_ℤ x.low })

-- the value of x' for that of x, and that of x for that of x', is `ahead`
abbrev pub turned_given : Variable → Option ℤ → Option ℤ
turned_given x None = None
turned_given x (Some a) = Some (ahead x a)

module _ (𝒮 : System) where
  open 𝒮 use {variable, Rule, In, head, occurs, gives}

  abbrev pub turned_all : Valuation → Valuation
  turned_all m v = ahead (variable v) (m v)

  -- the modified program: every rule reads -x' where it read x, and what it gives a head x it gives x' turned
  abbrev pub mirror : System
  mirror = record {
    variable = λ v. mirrored (variable v);
    Rule = Rule;
    In = In;
    head = head;
    occurs = occurs;
    gives = λ r m θ. turned_given (variable (head r)) (gives r (turned_all m) (turned_all θ));
  }

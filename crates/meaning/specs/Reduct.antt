-- Document 01, "Reduct and least model", for the program of a file. Past the last variable stands a standard one of range 0..0, so that no
-- statement has to ask whether a variable is declared.
use Rattle.std.specs.Prelude.{ℕ, ◌<◌, ◌≡◌, length, Option, ℤ}
use Rattle.program.specs.Program.{Program, variable_in, rule_in}
use Rattle.program.specs.Directions.{away, direction}
use Rattle.program.specs.Readings.{Valuation, body_variable, gives}
use Rattle.program.specs.declared.Variable.{Variable}
use Rattle.meaning.specs.Founded.{System}

-- how a program's rules are read, a rule being its number: the record of each variable, and what each rule gives, kept positions read in the first
-- valuation and all others in the second
pub record Reckoning : Type 0 where
  pub variable : ℕ → Variable
  pub gives : ℕ → Valuation → Valuation → Option ℤ

-- a program so read, as a system of the theory
abbrev pub reckoned : Program → Reckoning → System
reckoned P R = record {
  variable = R.variable;
  Rule = ℕ;
  In = λ i. i < length P.rules;
  head = λ i. (rule_in P.rules i).head;
  occurs = λ i x d. (j : ℕ) × (j < length (rule_in P.rules i).terms) × (body_variable (rule_in P.rules i) j ≡ x)
      × (away (variable_in P.variables x) (direction P.variables (rule_in P.rules i) j) ≡ d);
  gives = R.gives;
}

-- the variables as declared, and what each rule gives in the reduct
abbrev pub reduct : Program → Reckoning
reduct P = record { variable = variable_in P.variables; gives = λ i. gives P.variables (rule_in P.rules i) }

abbrev pub system : Program → System
system P = reckoned P (reduct P)

-- One inner node's range, entered in the tables.
use Rattle.std.specs.Prelude.{ℕ, ◌*◌, ◌≡◌, Bool, true, false, ◌||◌, List, map, ℤ, drop, set}
use Rattle.format.specs.Limits.{max_number}
use Rattle.format.specs.Numbers.{beyond}
use Rattle.program.specs.Readings.{valued}
use Rattle.program.specs.Encode.{variable_bytes}
use Rattle.program.specs.declared.Variable.{Variable}
use Rattle.nested.specs.Flatten.{node_gives}
use Rattle.rewriting.specs.Writing.{put_at}
use Rattle.flat.specs.Flat.{operands_in}
use Rattle.noderules.specs.declared.Inner.{Inner}

-- what a node of the bytes s gives when its operands have the values of a table
abbrev pub node_value : List ℕ → Inner → List ℤ → ℤ
node_value s node table = node_gives node.form (map (valued table) (operands_in node.next node.n (drop node.at s)))

-- as the variable of a node, from its value in the one table to that in the other
abbrev pub node_variable : ℕ → List ℕ → Inner → List ℤ → List ℤ → Variable
node_variable kind s node lows highs = record { kind = kind; low = node_value s node lows; high = node_value s node highs }

-- the variable x is entered as number v
pub record Entered (v : ℕ) (x : Variable) (lows highs : List ℤ) (records : List ℕ) (lows' highs' : List ℤ) (records' : List ℕ) : Type 0 where
  pub near : (beyond max_number x.low || beyond max_number x.high) ≡ false
  pub lows_set : lows' ≡ set lows v x.low
  pub highs_set : highs' ≡ set highs v x.high
  pub put : records' ≡ put_at records (8 * v) (variable_bytes x)

-- its range passes -30,000..30,000, and nothing changes
pub record Passing (x : Variable) (lows highs : List ℤ) (records : List ℕ) (lows' highs' : List ℤ) (records' : List ℕ) : Type 0 where
  pub far : (beyond max_number x.low || beyond max_number x.high) ≡ true
  pub lows_kept : lows' ≡ lows
  pub highs_kept : highs' ≡ highs
  pub records_kept : records' ≡ records

-- whether it is entered
abbrev pub Filled : Bool → ℕ → Variable → List ℤ → List ℤ → List ℕ → List ℤ → List ℤ → List ℕ → Type 0
Filled true v = Entered v
Filled false v = Passing

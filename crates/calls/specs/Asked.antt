-- The most bytes that a call may ask of its buffer for a variable: far more than any asks, and few enough that those for every variable can be
-- counted.
use Rattle.std.specs.Prelude.{ℕ}

abbrev pub most_asked : ℕ
most_asked = 65536

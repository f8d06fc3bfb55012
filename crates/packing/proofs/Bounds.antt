-- Every answer's word and numbers fit their bits, since a refusal's number is at most 20 and its place within the longest file, a variable, rule or
-- constraint is below the format's limit for its kind, and the counts are at most these limits, the conditions' twice that of the variables.
use Prim.Native.Nat.{ℕ, ◌<◌}
use mathlib.Core.Path.{refl}
use mathlib.Core.List.{List, ◌∷◌, []}
use native.Mathlib.Omega.{arith}
use lib.ListN.{length}
use Rattle.sets.proofs.Counts.{count_most}
use Rattle.program.specs.Program.{Program, program}
use Rattle.program.specs.Encode.{Bytes}
use Rattle.program.proofs.ReadDemanded.{field_most}
use Rattle.program.proofs.Places.{counts}
use Rattle.program.specs.Reading.{Reads, too_long, bad_field, not_valid, whole, Accepts}
use Rattle.program.specs.Reading as read
use Rattle.reader.proofs.Published.{limited, program_limited}
use Rattle.meaning.specs.Calls.{Refuses, bad_file, Denial, ◌placed◌, FirstGiven, bad_call, lengths}
use Rattle.meaning.specs.LeastCall.{LeastCall}
use Rattle.meaning.specs.LeastCall as least
use Rattle.report.specs.Report.{shown, asked, asks_most, asks_least, bounds, conditions}
use Rattle.report.proofs.Entries.{bounds_count, conditions_count}
use Rattle.verdict.specs.Checks.{Judged, Checks}
use Rattle.verdict.specs.Checks as check
use Rattle.normal.specs.Normalizes.{Normalizes, shorter}
use Rattle.normal.specs.Normalizes as normalize
use Rattle.normal.proofs.Calls.{normalize_demands}
use Rattle.nested.specs.FlattenCall.{FlattenCall, flattened}
use Rattle.nested.specs.FlattenCall as flatten
use Rattle.nested.proofs.FlattenDemanded.{refused_small}
use Rattle.search.specs.BeginCall.{TurnedDown, BeginCall, short}
use Rattle.search.specs.BeginCall as begin
use Rattle.lent.specs.BoundsCall.{BoundsCall, turned}
use Rattle.lent.specs.BoundsCall as bounds
use Rattle.packing.specs.Packing.{parts, Fits, read_parts, least_parts, check_parts, length_parts, normalize_parts, begin_parts, bounds_parts}
use Rattle.program.specs.Readings.{Valuation}
use mathlib.Core.Logic.{inl, inr}
use Rattle.meaning.proofs.Denials.{Every}

fit : (w a b c : ℕ) → w < 256 → a < 65536 → b < 65536 → c < 65536 → Fits (parts w a b c)
fit w a b c h i j k = record { word = h; first = i; second = j; third = k }

alone : (w : ℕ) → w < 256 → Fits (parts w 0 0 0)
alone w h = fit w 0 0 0 h (omega arith) (omega arith) (omega arith)

one : (w a : ℕ) → w < 256 → a < 65536 → Fits (parts w a 0 0)
one w a h i = fit w a 0 0 h i (omega arith) (omega arith)

two : (w a b : ℕ) → w < 256 → a < 65536 → b < 65536 → Fits (parts w a b 0)
two w a b h i j = fit w a b 0 h i j (omega arith)

-- ---- the answers

pub read_fits : {s : List ℕ} {x : read.Answer} → Reads s x → Fits (read_parts x)
read_fits (too_long h) = two 6 1 0 (omega arith) (omega arith) (omega arith)
read_fits {s} (bad_field {k} p h r) = two 6 _ _ (omega arith) (omega (arith, field_most s k)) (omega (arith, p.short))
read_fits {s} (not_valid {k} {j} w h f o) = two 6 13 _ (omega arith) (omega arith) (omega (arith, w.passed.short, w.passed.stands j h))
read_fits (whole w v) = let f = limited (whole w v) in fit 7 _ _ _ (omega arith) (omega arith) (omega arith) (omega arith)

-- its number and every place at which it is given are of two bytes
abbrev Small : Denial → Type 0
Small (n placed C) = (n < 65536) × ((at : ℕ) → C at → at < 65536)

first_fits : (t : List Denial) → Every Small t → (n at : ℕ) → FirstGiven t n at → Fits (parts 6 n at 0)
first_fits [] f n at x = absurd x
first_fits ((k placed C) ∷ rest) f n at (inl x) = two 6 n at (omega arith) (omega (arith, f.0.0, x.0)) (f.0.1 at x.1)
first_fits ((k placed C) ∷ rest) f n at (inr x) = first_fits rest f.1 n at x.1

refuses_fits : {table : Program → List Denial} {s : List ℕ} {n at : ℕ} → ((P : Program) → Every Small (table P)) → Refuses table s n at → Fits (parts 6 n at 0)
refuses_fits f (bad_file r) = read_fits r
refuses_fits {table} {n = n} {at} f (bad_call {P} x g) = first_fits (table P) (f P) n at g

lengths_small : (bytes : ℕ) (a b : List ℕ) (P : Program) → Every Small (lengths bytes a b P)
lengths_small bytes a b P = ((omega arith, λ at x. omega (arith, x.1)), ((omega arith, λ at x. omega (arith, x.1)), tt))

pub least_fits : {s a b b' : List ℕ} {x : least.Answer} → LeastCall s a b x b' → Fits (least_parts x)
least_fits {a = a} {b} (least.turned_down r) = refuses_fits (lengths_small least.least_bytes a b) r
least_fits (least.outside c o) = one 5 _ (omega arith) (omega (arith, (program_limited c.accepts).few_variables, o.declared))
least_fits (least.no_model c i n) = alone 9 (omega arith)
least_fits (least.least_model c i l) = alone 8 (omega arith)

module _ {s : List ℕ} {P : Program} (a : Accepts s P) where
  bounds_few : (θ m : Valuation) → length (bounds P θ m) < 65536
  bounds_few θ m =
      omega (arith, bounds_count P.variables (shown P θ m) m (length P.variables), count_most (shown P θ m) (length P.variables), (program_limited a).few_variables)

  conditions_few : (θ m : Valuation) → length (conditions P θ m) < 65536
  conditions_few θ m =
      let most = asked P (shown P θ m) asks_most in
      let lowest = asked P (shown P θ m) asks_least in
      omega (
        arith,
        conditions_count most lowest θ (length P.variables),
        count_most most (length P.variables),
        count_most lowest (length P.variables),
        (program_limited a).few_variables,
      )

  judged_fits : {θ : Valuation} {b b' : List ℕ} {x : check.Answer} → Judged P θ b x b' → Fits (check_parts x)
  judged_fits (check.outside o) = one 5 _ (omega arith) (omega (arith, (program_limited a).few_variables, o.declared))
  judged_fits (check.rule_unmet w u) = one 4 _ (omega arith) (omega (arith, (program_limited a).few_rules, u.among))
  judged_fits (check.constraint_unmet w r u) = one 3 _ (omega arith) (omega (arith, (program_limited a).few_constraints, u.among))
  judged_fits {θ} (check.some_shown {m} t l s) = two 2 _ _ (omega arith) (bounds_few θ m) (conditions_few θ m)
  judged_fits (check.is_stable s) = alone 1 (omega arith)

pub check_fits : {s a b b' : List ℕ} {x : check.Answer} → Checks s a b x b' → Fits (check_parts x)
check_fits {a = a} {b} (check.turned_down r) = refuses_fits (lengths_small check.check_bytes a b) r
check_fits (check.judged c j) = judged_fits c.accepts j

-- a length of 32 bits, in its two halves
length_fits : (n : ℕ) → n < 4294967296 → Fits (length_parts n)
length_fits n h = two 10 _ _ (omega arith) (omega arith) (omega arith)

shorter_small : (s b : List ℕ) (P : Program) → Every Small (shorter s b P)
shorter_small s b P = ((omega arith, λ at x. omega (arith, x.1)), tt)

module _ {s b : List ℕ} (y : Bytes s) where
  -- what is written is no longer than the file
  pub length_short : {n : ℕ} {b' : List ℕ} → Normalizes s b (normalize.written n) b' → n < 4294967296
  length_short (normalize.rewritten c n) =
      omega (arith, (normalize_demands {b = b} y (normalize.rewritten c n)).no_longer _ refl, c.accepts.whole.passed.short)

  pub normalize_fits : {x : normalize.Answer} {b' : List ℕ} → Normalizes s b x b' → Fits (normalize_parts x)
  normalize_fits (normalize.turned_down r) = refuses_fits (shorter_small s b) r
  normalize_fits (normalize.rewritten c n) = length_fits _ (length_short (normalize.rewritten c n))

-- the plain file of a nested one has at most 60,000 bytes
pub flat_short : {s b b' : List ℕ} {n : ℕ} → FlattenCall s b (normalize.written n) b' → n < 4294967296
flat_short (flattened a h) = omega (arith, h.short)

pub flatten_fits : {s b b' : List ℕ} {x : normalize.Answer} → FlattenCall s b x b' → Fits (normalize_parts x)
flatten_fits (flatten.turned_down r) = let f = refused_small r in two 6 _ _ (omega arith) (omega (arith, f.0)) (omega (arith, f.1))
flatten_fits (flattened a h) = length_fits _ (flat_short (flattened a h))

short_small : (w : List ℕ) (P : Program) → Every Small (short w P)
short_small w P = ((omega arith, λ at x. omega (arith, x.1)), tt)

turned_fits : {s w : List ℕ} {n at : ℕ} → TurnedDown s w n at → Fits (parts 6 n at 0)
turned_fits (begin.bad_field r l) = read_fits r
turned_fits {s} {w} {n} {at} (begin.bad_call {k = k} h g) = first_fits (short w (program s k)) (short_small w (program s k)) n at g

pub begin_fits : {s w w' : List ℕ} {x : begin.Answer} → BeginCall s w x w' → Fits (begin_parts x)
begin_fits (begin.turned_down t) = turned_fits t
begin_fits (begin.starts h g e) = one 11 _ (omega arith) (omega (arith, (counts h.passed).few_variables))

turned_small : (g b : List ℕ) (P : Program) → Every Small (turned g b P)
turned_small g b P = ((omega arith, λ at x. omega (arith, x.1)), ((omega arith, λ at x. omega (arith, x.1)), ((omega arith, λ at x. omega (arith, x.1)), tt)))

pub bounds_fits : {s g b b' : List ℕ} {x : bounds.Answer} → BoundsCall s g b x b' → Fits (bounds_parts x)
bounds_fits {g = g} {b} (bounds.turned_down r) = refuses_fits (turned_small g b) r
bounds_fits (bounds.within_bounds c m) = alone 12 (omega arith)

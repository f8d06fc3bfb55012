-- The ones of the four words, added.
use Prim.Native.Nat.{ℕ, ◌≤◌, ◌<◌, ◌^◌}
use native.Mathlib.Omega.{arith}
use lib.Count.{ones, ones-le}
use lib.ListN.{get_or}
use mir.Syntax.{w64}
use mir.Val.{Fits}
use Rattle.words.specs.Bit.{word_bits}
use Rattle.sets.proofs.Counts.{count_set}
use borrow.Author.Rules.{rules}
use Rattle.sets.proofs.Set.count.Goals as goal

-- a (let it : (t : ℕ) → get_or fits.before.before.before.before.args.t1.words t 0 < 2 ^ word_bits = λ t. let f : Fits w64 (get_or fits.before.before.before.before.args.t1.words t 0) = search rules in f.fits in it), and has (let it : (t : ℕ) → ones (get_or bits.before.before.before.before.args.t1.words t 0) ≤ word_bits = λ t. ones-le word_bits _ ((let it : (t : ℕ) → get_or bits.before.before.before.before.args.t1.words t 0 < 2 ^ word_bits = λ t. let f : Fits w64 (get_or bits.before.before.before.before.args.t1.words t 0) = search rules in f.fits in it) t) in it)

pub overflow_add-result : goal.overflow_add-result
overflow_add-result c = omega (arith, (let it : (t : ℕ) → ones (get_or c.args.self.words t 0) ≤ word_bits = λ t. ones-le word_bits _ ((let it : (t : ℕ) → get_or c.args.self.words t 0 < 2 ^ word_bits = λ t. let f : Fits w64 (get_or c.args.self.words t 0) = search rules in f.fits in it) t) in it) 0, (let it : (t : ℕ) → ones (get_or c.args.self.words t 0) ≤ word_bits = λ t. ones-le word_bits _ ((let it : (t : ℕ) → get_or c.args.self.words t 0 < 2 ^ word_bits = λ t. let f : Fits w64 (get_or c.args.self.words t 0) = search rules in f.fits in it) t) in it) 1)

pub overflow_add-result-2 : goal.overflow_add-result-2
overflow_add-result-2 c = omega (arith, (let it : (t : ℕ) → ones (get_or c.args.self.words t 0) ≤ word_bits = λ t. ones-le word_bits _ ((let it : (t : ℕ) → get_or c.args.self.words t 0 < 2 ^ word_bits = λ t. let f : Fits w64 (get_or c.args.self.words t 0) = search rules in f.fits in it) t) in it) 0, (let it : (t : ℕ) → ones (get_or c.args.self.words t 0) ≤ word_bits = λ t. ones-le word_bits _ ((let it : (t : ℕ) → get_or c.args.self.words t 0 < 2 ^ word_bits = λ t. let f : Fits w64 (get_or c.args.self.words t 0) = search rules in f.fits in it) t) in it) 1, (let it : (t : ℕ) → ones (get_or c.args.self.words t 0) ≤ word_bits = λ t. ones-le word_bits _ ((let it : (t : ℕ) → get_or c.args.self.words t 0 < 2 ^ word_bits = λ t. let f : Fits w64 (get_or c.args.self.words t 0) = search rules in f.fits in it) t) in it) 2)

pub overflow_add-result-3 : goal.overflow_add-result-3
overflow_add-result-3 c = omega (arith, (let it : (t : ℕ) → ones (get_or c.args.self.words t 0) ≤ word_bits = λ t. ones-le word_bits _ ((let it : (t : ℕ) → get_or c.args.self.words t 0 < 2 ^ word_bits = λ t. let f : Fits w64 (get_or c.args.self.words t 0) = search rules in f.fits in it) t) in it) 0, (let it : (t : ℕ) → ones (get_or c.args.self.words t 0) ≤ word_bits = λ t. ones-le word_bits _ ((let it : (t : ℕ) → get_or c.args.self.words t 0 < 2 ^ word_bits = λ t. let f : Fits w64 (get_or c.args.self.words t 0) = search rules in f.fits in it) t) in it) 1, (let it : (t : ℕ) → ones (get_or c.args.self.words t 0) ≤ word_bits = λ t. ones-le word_bits _ ((let it : (t : ℕ) → get_or c.args.self.words t 0 < 2 ^ word_bits = λ t. let f : Fits w64 (get_or c.args.self.words t 0) = search rules in f.fits in it) t) in it) 2, (let it : (t : ℕ) → ones (get_or c.args.self.words t 0) ≤ word_bits = λ t. ones-le word_bits _ ((let it : (t : ℕ) → get_or c.args.self.words t 0 < 2 ^ word_bits = λ t. let f : Fits w64 (get_or c.args.self.words t 0) = search rules in f.fits in it) t) in it) 3)

pub returns : goal.returns
returns c = count_set _ ((let it : (t : ℕ) → get_or c.args.self.words t 0 < 2 ^ word_bits = λ t. let f : Fits w64 (get_or c.args.self.words t 0) = search rules in f.fits in it))

-- A search of a file whose fields passed goes through to its bytes wherever the lent words and the buffer are long enough.
use Prim.Native.Nat.{ℕ, zero, suc, ◌*◌, ◌≤◌}
use mathlib.Core.List.{List}
use native.Mathlib.Omega.{arith}
use lib.ListN.{length}
use Rattle.words.specs.Bit.{word_count}
use Rattle.words.proofs.WordBits.{WordsIn}
use Rattle.program.specs.Program.{program}
use Rattle.program.specs.Reading.{Whole}
use Rattle.program.proofs.Places.{counts}
use Rattle.meaning.specs.Calls.{NoneGiven}
use Rattle.reach.specs.Rows.{row_has}
use Rattle.reach.specs.Stepping.{Lent, stepped}
use Rattle.reach.proofs.StepDetermined.{stepped_total}
use Rattle.sharing.specs.Sharing.{named}
use Rattle.sharing.proofs.NamesDetermined.{named_total}
use Rattle.search.specs.BeginCall.{short, starts}
use Rattle.search.specs.Sentences.{Searched, begins, steps, Finished}
use Rattle.search.proofs.BeginDetermined.{edges_written}

-- the sets before variable j's round
record Sets (s : List ℕ) (variables j : ℕ) : Type 0 where
  words : List ℕ
  searched : Searched s variables j words
  lent : Lent words variables

module _ {s : List ℕ} {k : ℕ} (whole : Whole s k) where
  abbrev n : ℕ
  n = length (program s k).variables

  module _ {w : List ℕ} (x : WordsIn w) (room : word_count * n ≤ length w) where
    sets : (j : ℕ) → j ≤ n → Sets s n j
    sets zero h =
        let a = edges_written (program s k) x room in
        let p : NoneGiven (short w (program s k)) = (λ at g. let l = g.0 in omega arith, tt) in
        record {
          words = a.0;
          searched = begins (starts whole p a.2);
          lent = record { few = (counts whole.passed).few_variables; room = omega (arith, a.2.long) };
        }
    sets (suc j) h =
        let d = sets j (omega arith) in
        let t = stepped_total d.words n j d.lent in
        record {
          words = t.0;
          searched = steps d.searched (stepped d.lent (omega arith) t.2);
          lent = record { few = d.lent.few; room = omega (arith, t.2.long, d.lent.room) };
        }

    pub search_total : (c : List ℕ) → n ≤ length c → (b : List ℕ) × Finished s n b
    search_total c h =
        let d = sets n (omega arith) in
        let p = named_total (row_has d.words) c n h in
        (p.0, record { sets = d.words; searched = d.searched; buffer = c; names = named d.lent h p.1 })

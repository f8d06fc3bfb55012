-- The line of a refusal is that of its number and its place.
use mathlib.Core.Path.{ap₂}
use Prim.Native.Nat.{ℕ}
use Rattle.verdict.specs.Checks.{refusal}
use Rattle.entries.specs.Text.{answer_line}
use Rattle.text.proofs.OutputLaws.{appends_as}
use Rattle.lines.proofs.put_refused.Goals as goal

pub returns : goal.returns
returns c = record {
  appends = appends_as (ap₂ (λ (n at : ℕ). answer_line (refusal n at)) c.denial_number.ensures c.denial_place.ensures) c.put_refusal.ensures.appends;
  upper_bound = c.put_refusal.ensures.upper_bound;
}

-- Bytes put in one after the other.
use Prim.Native.Nat.{ℕ, ◌+◌, ◌≤◌}
use mathlib.Core.Path.{◌≡◌, sym, ap, ap₂, subst, ◌∙◌}
use mathlib.Core.List.{List, [], ◌++◌}
use native.Mathlib.Nat.{add-zero}
use native.Mathlib.Omega.{arith}
use lib.ListN.{length, length-append}
use Rattle.rewriting.specs.Writing.{put_at}
use Rattle.rewriting.proofs.Puts.{put_none, put_length, put_more}
use Rattle.noderules.specs.NodeRules.{PutIn}

pub puts_none : (b : List ℕ) (at : ℕ) → PutIn [] b at at b
puts_none b at = record { ends = sym (add-zero at); bytes = put_none b at }

-- what `put` answers
pub puts : {w b b' : List ℕ} {at end : ℕ} → (end ≡ at + length w) × (b' ≡ put_at b at w) → PutIn w b at end b'
puts p = record { ends = p.0; bytes = p.1 }

pub puts_same : {w b b' : List ℕ} {at end : ℕ} (v : List ℕ) → w ≡ v → PutIn w b at end b' → PutIn v b at end b'
puts_same {b = b} {b'} {at} {end} v e p = subst (λ (u : List ℕ). PutIn u b at end b') e p

module _ {w b b' : List ℕ} {at end : ℕ} (p : PutIn w b at end b') (h : at + length w ≤ length b) where
  pub puts_length : length b' ≡ length b
  puts_length = ap length p.bytes ∙ put_length b at w h

  pub puts_more : {v b'' : List ℕ} {end' : ℕ} → PutIn v b' end end' b'' → PutIn (w ++ v) b at end' b''
  puts_more {v} q =
      record {
        ends = omega (arith, q.ends, p.ends, length-append w v);
        bytes = q.bytes ∙ ap₂ (λ (u : List ℕ) (k : ℕ). put_at u k v) p.bytes p.ends ∙ put_more b at w v h;
      }

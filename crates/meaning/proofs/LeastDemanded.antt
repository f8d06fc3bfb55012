-- The first demand, of every call that `LeastCall` describes: a call that is turned down has no other answer.
use Prim.Native.Nat.{ℕ}
use mathlib.Core.Path.{◌≡◌, refl, subst}
use mathlib.Core.List.{List}
use Rattle.meaning.specs.Calls.{Refuses, lengths}
use Rattle.meaning.specs.LeastCall.{Answer, refusal, found, least_bytes, LeastCall, turned_down, outside, no_model, least_model}
use Rattle.meaning.specs.LeastDemands.{LeastDemands}
use Rattle.meaning.proofs.Determined.{least_call_unique}

module _ {s a b : List ℕ} where
  refused_as : {n at : ℕ} {b' : List ℕ} → LeastCall s a b (refusal n at) b' → Refuses (lengths least_bytes a b) s n at × (b' ≡ b)
  refused_as (turned_down p) = (p, refl)

  not_written : {r : Answer} {b' : List ℕ} → LeastCall s a b r b' → (r ≡ found → ⊥) → b' ≡ b
  not_written (turned_down p) f = refl
  not_written (outside c o) f = refl
  not_written (no_model c i n) f = refl
  not_written (least_model c i l) f = absurd (f refl)

  pub least_demands : {r : Answer} {b' : List ℕ} → LeastCall s a b r b' → LeastDemands s a b r b'
  least_demands {r} {b'} c = record {
    turned_down = λ n at. (λ e. (down e).0, λ q. (least_call_unique c (turned_down q)).0);
    untouched = λ n at e. (down e).1;
    only_found_writes = not_written c;
  }
    where
      down : {n at : ℕ} → r ≡ refusal n at → Refuses (lengths least_bytes a b) s n at × (b' ≡ b)
      down e = refused_as (subst (λ x. LeastCall s a b x b') e c)

-- The variables whose fields stand in a list of bytes, one after the other, are read from it.
use Prim.Native.Nat.{ℕ, zero, suc, ◌+◌, ◌*◌, ◌<◌}
use mathlib.Core.Path.{◌≡◌, refl, sym, ap, ◌∙◌}
use mathlib.Core.List.{List, [], ◌∷◌, ◌++◌}
use native.Mathlib.Omega.{arith}
use lib.ListN.{length, take, drop, take-append-drop}
use lib.Seq.{ext_get_or}
use Rattle.format.specs.Numbers.{bytes_of}
use Rattle.program.specs.Program.{variable_of, variable_in, variables_at, no_variable}
use Rattle.program.specs.Encode.{each, variable_bytes}
use Rattle.program.specs.declared.Variable.{Variable}
use Rattle.program.proofs.Places.{variables_length, variable_at_is}
use Rattle.program.proofs.Promises.{VariablePromise}
use Rattle.program.proofs.Encoding.{variable_value, variable_read}

-- variable x stands at byte 8 x, its value after the tag and the length
field_at : (vs : List Variable) (more : List ℕ) (x : ℕ) → x < length vs
    → variable_of (drop (8 * x + 3) (each variable_bytes vs ++ more)) ≡ variable_of (variable_value (variable_in vs x))
unfolding bytes_of
field_at [] more x h = absurd (omega arith)
field_at (v ∷ vs) more zero h = refl
field_at (v ∷ vs) more (suc x) h =
    let e : 8 * suc x + 3 ≡ suc (suc (suc (suc (suc (suc (suc (suc (8 * x + 3)))))))) = omega arith in
    ap (λ (i : ℕ). variable_of (drop i (each variable_bytes (v ∷ vs) ++ more))) e ∙ field_at vs more x (omega arith)

module _ (s : List ℕ) (vs : List Variable) (n : ℕ) (many : n ≡ length vs) (is : take (8 * n) s ≡ each variable_bytes vs) where
  pub records_read : ((x : ℕ) → x < length vs → VariablePromise (variable_in vs x)) → variables_at s n ≡ vs
  records_read p =
      let e : s ≡ each variable_bytes vs ++ drop (8 * n) s = sym (take-append-drop (8 * n) s) ∙ ap (λ (l : List ℕ). l ++ drop (8 * n) s) is in
      ext_get_or no_variable (variables_at s n) vs (variables_length s n ∙ many) (λ x h.
      let l : x < length vs = omega (arith, variables_length s n) in
      variable_at_is s n x (omega arith)
      ∙ ap (λ (t : List ℕ). variable_of (drop (8 * x + 3) t)) e
      ∙ field_at vs (drop (8 * n) s) x l
      ∙ variable_read (variable_in vs x) (p x l).low_small (p x l).high_small)

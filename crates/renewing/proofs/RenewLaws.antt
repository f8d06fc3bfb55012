-- The text that the program `normalize` writes: it is always there and determined, a refusal's line is never taken for a file, and how the call's
-- answer becomes the text.
use Prim.Native.Nat.{ℕ, ◌≤◌, ◌<◌}
use mathlib.Core.Path.{◌≡◌, refl, sym, ap, ◌∙◌, subst}
use mathlib.Core.Logic.{inl, inr}
use mathlib.Core.List.{List, [], ◌∷◌, ◌++◌, append_assoc}
use native.Mathlib.Omega.{arith}
use lib.ListN.{length, get_or, take, drop, length-append, length-drop, take-append-drop}
use lib.Seq.{take_all, drop-append-le, length-take-le}
use Rattle.program.specs.Program.{Program, Rule, Constraint}
use Rattle.program.specs.Reading.{Reads, accepted, refused}
use Rattle.program.specs.Reading as reading
use Rattle.program.specs.Encode.{encode, each, variable_bytes, rule_bytes, constraint_bytes}
use Rattle.program.specs.declared.Variable.{Variable}
use Rattle.program.proofs.Promises.{accepts_promises}
use Rattle.program.proofs.Total.{reads_total}
use Rattle.program.proofs.Unique.{reads_unique, accepts_unique, reads_accepts}
use Rattle.meaning.specs.Calls.{bad_file, bad_call}
use Rattle.meaning.proofs.Denials.{refused_or}
use Rattle.normal.specs.Normal.{Normal}
use Rattle.normal.specs.Normalizes.{Normalizes, written}
use Rattle.normal.specs.Normalizes as normalize
use Rattle.normal.proofs.Normals.{normal_unique, normal_exists}
use Rattle.verdict.specs.Checks.{refusal}
use Rattle.text.specs.Output.{Holds, Appends}
use Rattle.text.proofs.OutputLaws.{holds_none}
use Rattle.entries.specs.Text.{answer_line, first_most}
use Rattle.renewing.specs.Renews.{Renews, turned_down, rewritten, room, Renewed}

-- ---- one text for every input

pub renews_unique : {s t u : List ℕ} → Renews s t → Renews s u → t ≡ u
renews_unique (turned_down p) (turned_down q) =
    let e = reads_unique p q in cc
renews_unique (turned_down p) (rewritten x n) = absurd (refused_or p x)
renews_unique (rewritten x n) (turned_down q) = absurd (refused_or q x)
renews_unique (rewritten {Q = Q} x n) (rewritten {Q = R} y m) = ap encode (normal_unique n (subst (λ P. Normal P R) (accepts_unique y x) m))

pub renews_total : (s : List ℕ) → (t : List ℕ) × Renews s t
renews_total s = go (reads_total s).0 (reads_total s).1
  where
    go : (r : reading.Answer) → Reads s r → (t : List ℕ) × Renews s t
    go (refused n at) q = (_, turned_down q)
    go (accepted v r c) q = let k = reads_accepts q in (_, rewritten k.accepts (normal_exists (accepts_promises k.accepts)).1)

-- ---- a refusal's line begins with `r`, a file with a tag

pub file_first : (Q : Program) → get_or (encode Q) 0 0 ≤ 3
unfolding encode
file_first Q = variables Q.variables Q.rules Q.constraints
  where
    constraints : (ks : List Constraint) → get_or (each constraint_bytes ks) 0 0 ≤ 3
    constraints [] = omega arith
    constraints (k ∷ ks) = omega arith

    rules : (rs : List Rule) (ks : List Constraint) → get_or (each rule_bytes rs ++ each constraint_bytes ks) 0 0 ≤ 3
    rules [] ks = constraints ks
    rules (r ∷ rs) ks = omega arith

    variables : (vs : List Variable) (rs : List Rule) (ks : List Constraint)
        → get_or (each variable_bytes vs ++ (each rule_bytes rs ++ each constraint_bytes ks)) 0 0 ≤ 3
    variables [] rs ks = rules rs ks
    variables (v ∷ vs) rs ks = omega arith

pub refusal_first : (n at : ℕ) → get_or (answer_line (refusal n at)) 0 0 ≡ 0x72
unfolding answer_line
refusal_first n at = refl

-- an input whose text is a refusal's line is turned down so, and one that is accepted has another text
pub told_apart : {s t : List ℕ} → Renews s t → 3 < get_or t 0 0 → (n : ℕ) × (at : ℕ) × Reads s (refused n at) × (t ≡ answer_line (refusal n at))
told_apart (turned_down p) h = (_, _, p, refl)
told_apart (rewritten {Q = Q} x n) h = let f : ⊥ = omega (arith, file_first Q) in absurd f

-- ---- the first n bytes of an output b are lent to a call

module _ (n : ℕ) (b : List ℕ) (h : n ≤ length b) where
  pub lent_length : length (take n b) ≡ n
  lent_length = length-take-le n b h

  -- they come back as they were, and a text is put in
  pub lent_back : {part t : List ℕ} {k : ℕ} {b' : List ℕ} → part ≡ take n b → Appends t 0 k (part ++ drop n b) b' → Holds t k b b'
  lent_back {part} {t} {k} {b'} c w =
      let e : part ++ drop n b ≡ b = ap (λ (p : List ℕ). p ++ drop n b) c ∙ take-append-drop n b in
      subst (λ v. Holds t k v b') e (w.holds [] (part ++ drop n b) (holds_none (part ++ drop n b)))

  -- they come back with a text, and after it their own bytes
  pub lent_text : (t : List ℕ) → length t ≤ n → Holds t (length t) b (t ++ drop (length t) (take n b) ++ drop n b)
  lent_text t k =
      let m = length t in
      record {
        counted = refl;
        bytes = append_assoc t (drop m (take n b)) (drop n b)
            ∙ ap (λ (r : List ℕ). t ++ r) (sym (drop-append-le m (take n b) (drop n b) (omega (arith, lent_length))) ∙ ap (drop m) (take-append-drop n b))
            ∙ ap (λ (l : List ℕ). l ++ drop m b) (sym (take_all (length b) t (omega arith)));
      }

-- ---- the call's answer

-- as many bytes are lent as the file has, so the refusals are the file's own
own : {s b : List ℕ} {n at : ℕ} {b₁ : List ℕ} → length s ≤ length b → Normalizes s b (normalize.refusal n at) b₁ → Reads s (refused n at) × (b₁ ≡ b)
own h (normalize.turned_down (bad_file r)) = (r, refl)
own h (normalize.turned_down (bad_call x (inl g))) =
    let f : ⊥ = omega (arith, g.1.0) in absurd f
own h (normalize.turned_down (bad_call x (inr g))) = absurd g.1

-- they come back as `part`
module _ (s b : List ℕ) (h : length s ≤ length b) where
  pub renewed_refused : {n at : ℕ} {part : List ℕ} {k : ℕ} {b' : List ℕ} → room ≤ length b → Normalizes s (take (length s) b) (normalize.refusal n at) part
      → Appends (answer_line (refusal n at)) 0 k (part ++ drop (length s) b) b' → k ≤ first_most → Renewed s b k b'
  renewed_refused r c w l =
      let o = own (omega (arith, lent_length (length s) b h)) c in
      record { text = _; renews = turned_down o.0; holds = lent_back (length s) b h o.1 w; inside = omega arith }

  pub renewed_written : {n : ℕ} {part : List ℕ} → Normalizes s (take (length s) b) (written n) part → length part ≡ length (take (length s) b)
      → Renewed s b n (part ++ drop (length s) b)
  renewed_written (normalize.rewritten {Q = Q} c m) e =
      let lent = take (length s) b in
      let k : length (encode Q) ≤ length s =
      omega (arith, lent_length (length s) b h, length-append (encode Q) (drop (length (encode Q)) lent), length-drop (length (encode Q)) lent) in
      record { text = encode Q; renews = rewritten c.accepts m; holds = lent_text (length s) b h (encode Q) k; inside = omega arith }

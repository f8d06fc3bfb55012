-- The text for an input is always there and determined.
use Prim.Native.Nat.{ℕ, ◌+◌, ◌-◌, ◌*◌, ◌≤◌, ◌<◌}
use mathlib.Core.Path.{◌≡◌, refl, sym, ap, ap₂, ◌∙◌, subst}
use mathlib.Core.Logic.{◌⊎◌, inl, inr}
use mathlib.Core.Bool.{Bool, true, false}
use mathlib.Core.List.{List, [], ◌++◌}
use native.Mathlib.Omega.{arith}
use lib.Dec.{T_not}
use lib.ListN.{length, take, drop}
use lib.Seq.{take_all, take_at}
use Rattle.program.specs.Program.{Program, variable_in}
use Rattle.program.specs.Reading.{Accepts}
use Rattle.meaning.specs.Stable.{assigned}
use Rattle.verdict.specs.Checks.{Answer, refusal, unfounded, outside, rule_unmet, constraint_unmet, some_shown, is_stable, Judged, Checks, turned_down, judged}
use Rattle.verdict.specs.Demands.{variable_at, mark_at, number_at, Shows, Demands}
use Rattle.verdict.proofs.Demanded.{checks_demands}
use Rattle.verdict.proofs.Determined.{checks_unique}
use Rattle.verdict.proofs.Total.{checks_total}
use Rattle.text.specs.Decimal.{decimal, number}
use Rattle.text.specs.Output.{Holds, Appends}
use Rattle.entries.specs.Text.{word, line, answer_line, entry_line, entries_of, text_of, first_most, entry_most}
use Rattle.framing.specs.Framing.{announced, file_in, rest_in, misframed}
use Rattle.framing.proofs.FramingLaws.{is_bad, is_right, file_part, rest_part}
use Rattle.printing.specs.Prints.{max_input, report_bytes, blank, Prints, bad_frame, checked, room, Told, Printed}
use Rattle.text.proofs.OutputLaws.{holds_none}
use Rattle.entries.proofs.TextLaws.{most_line, least_line, at_most_line, at_least_line, no-entries}

-- ---- an answer's entries lie in its report

-- what the demands say of a report with entries
shown_by : {f a b : List ℕ} {n k : ℕ} {r : List ℕ} → Checks f a b (unfounded n k) r → (P : Program) × Shows P (assigned a) r n k
shown_by {a = a} (judged d j) = (_, (checks_demands {a = a} (judged d j)).shows _ d.accepts _ _ refl)

judged_fit : {s a b : List ℕ} {P : Program} {r : Answer} {b' : List ℕ} → Accepts s P → Judged P (assigned a) b r b' → Demands s a b r b'
    → 4 * entries_of r ≤ length b'
judged_fit x (outside o) d = omega arith
judged_fit x (rule_unmet w f) d = omega arith
judged_fit x (constraint_unmet w h f) d = omega arith
judged_fit x (some_shown t l s) d = (d.shows _ x _ _ refl).inside
judged_fit x (is_stable st) d = omega arith

pub entries_fit : {s a b : List ℕ} {r : Answer} {b' : List ℕ} → Checks s a b r b' → Demands s a b r b' → 4 * entries_of r ≤ length b'
entries_fit (turned_down p) d = omega arith
entries_fit (judged c j) d = judged_fit c.accepts j d

-- ---- the lines of `unfounded n k`: `most` or `least` for the first n entries, by the variable's kind, `when` for the k after them

module _ {f a b : List ℕ} {n k : ℕ} {r : List ℕ} (c : Checks f a b (unfounded n k) r) where
  pub bounds_line : (P : Program) → Accepts f P → (i : ℕ) → i < n → let x = variable_in P.variables (variable_at r i) in
      ((entry_line (variable_at r i) (mark_at r i) (number_at r i) ≡ line (word "most " ++ decimal (variable_at r i) ++ word " " ++ number (number_at r i))) × (x.kind ≡ 1))
      ⊎ ((entry_line (variable_at r i) (mark_at r i) (number_at r i) ≡ line (word "least " ++ decimal (variable_at r i) ++ word " " ++ number (number_at r i))) × (x.kind ≡ 2))
  bounds_line P accepts i h = go (((checks_demands {a = a} c).shows P accepts n k refl).bounds_marked i h)
    where
      kind : ℕ
      kind = (variable_in P.variables (variable_at r i)).kind

      go : ((mark_at r i ≡ 0) × (kind ≡ 1)) ⊎ ((mark_at r i ≡ 3) × (kind ≡ 2))
          → ((entry_line (variable_at r i) (mark_at r i) (number_at r i) ≡ line (word "most " ++ decimal (variable_at r i) ++ word " " ++ number (number_at r i))) × (kind ≡ 1))
          ⊎ ((entry_line (variable_at r i) (mark_at r i) (number_at r i) ≡ line (word "least " ++ decimal (variable_at r i) ++ word " " ++ number (number_at r i))) × (kind ≡ 2))
      go (inl e) = inl (sym (most_line _ _ _ e.0), e.1)
      go (inr e) = inr (sym (least_line _ _ _ e.0), e.1)

  pub conditions_when : (i : ℕ) → n ≤ i → i < n + k
      → (entry_line (variable_at r i) (mark_at r i) (number_at r i) ≡ line (word "when " ++ decimal (variable_at r i) ++ word " <= " ++ number (number_at r i)))
      ⊎ (entry_line (variable_at r i) (mark_at r i) (number_at r i) ≡ line (word "when " ++ decimal (variable_at r i) ++ word " >= " ++ number (number_at r i)))
  conditions_when i h l = go ((shown_by c).1.conditions_marked i h l)
    where
      go : (mark_at r i ≡ 1) ⊎ (mark_at r i ≡ 2)
          → (entry_line (variable_at r i) (mark_at r i) (number_at r i) ≡ line (word "when " ++ decimal (variable_at r i) ++ word " <= " ++ number (number_at r i)))
          ⊎ (entry_line (variable_at r i) (mark_at r i) (number_at r i) ≡ line (word "when " ++ decimal (variable_at r i) ++ word " >= " ++ number (number_at r i)))
      go (inl e) = inl (sym (at_most_line _ _ _ e))
      go (inr e) = inr (sym (at_least_line _ _ _ e))

-- ---- one text for an input

pub prints_unique : {s t u : List ℕ} → Prints s t → Prints s u → t ≡ u
prints_unique (bad_frame p) (bad_frame q) = refl
prints_unique {s} (bad_frame p) (checked q c) = absurd (T_not (misframed max_input s) q p)
prints_unique {s} (checked p c) (bad_frame q) = absurd (T_not (misframed max_input s) p q)
prints_unique (checked p c) (checked q d) = let e = checks_unique c d in ap₂ text_of e.0 e.1

pub prints_total : (s : List ℕ) → (t : List ℕ) × Prints s t
prints_total s = go (misframed max_input s) refl
  where
    go : (b : Bool) → misframed max_input s ≡ b → (t : List ℕ) × Prints s t
    go true e = (_, bad_frame (is_bad max_input s e))
    go false e = let c = checks_total (file_in s) (rest_in s) blank in (_, checked (is_right max_input s e) c.2)

-- ---- what the call leaves

whole : {t : List ℕ} {n : ℕ} {b b' : List ℕ} → Appends t 0 n b b' → Holds t n b b'
whole {b = b} w = w.holds [] b (holds_none b)

pub told : {f a b : List ℕ} {r : Answer} {b₁ : List ℕ} {n : ℕ} {b' : List ℕ} → Checks f a blank r b₁ → 4 * entries_of r ≤ report_bytes
    → Appends (text_of r b₁) 0 n b b' × (n ≤ first_most + entry_most * entries_of r) → Told f a b n b'
told c h w = record { answer = _; report = _; checks = c; holds = whole w.0; short = omega (arith, w.1) }

pub printed_refusal : (s : List ℕ) {n : ℕ} {b b' : List ℕ} → misframed max_input s ≡ true → Appends (answer_line (refusal 16 0)) 0 n b b' → n ≤ first_most → Printed s b n b'
printed_refusal s e w h = record {
  text = _;
  prints = bad_frame (is_bad max_input s e);
  holds = whole (no-entries (refusal 16 0) blank refl w);
  short = omega arith;
}

-- the file and the assignment are parts of the input
pub printed_told : (s : List ℕ) (end : ℕ) {n : ℕ} {b b' : List ℕ} → misframed max_input s ≡ false → end ≡ 2 + announced s
    → Told (take (end - 2) (drop 2 s)) (take (length s - end) (drop end s)) b n b' → Printed s b n b'
printed_told s end e q t = record {
  text = _;
  prints = checked (is_right max_input s e)
      (subst (λ (y : List ℕ). Checks (file_in s) y blank t.answer t.report) (rest_part s end q)
      (subst (λ (x : List ℕ). Checks x (take (length s - end) (drop end s)) blank t.answer t.report) (file_part s end q) t.checks));
  holds = t.holds;
  short = t.short;
}

-- an output with room for the longest text then starts with the text
pub room_enough : {s b : List ℕ} {n : ℕ} {b' t : List ℕ} → Printed s b n b' → Prints s t → room ≤ length b → take n b' ≡ t
room_enough {s} {b} {n} {b'} {t} p q h =
    let e = prints_unique p.prints q in
    let k = p.holds.counted in
    let f : take (length b) p.text ≡ p.text = take_all (length b) p.text (omega (arith, p.short)) in
    ap (take n) (p.holds.bytes ∙ ap (λ (l : List ℕ). l ++ drop n b) f) ∙ take_at p.text (drop n b) n (sym k) ∙ e

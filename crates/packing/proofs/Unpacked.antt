-- Unpacking a packed answer gives its word and numbers back, so two answers of a call that are packed in the same number are the same.
use Prim.Native.Nat.{ℕ, ◌+◌, ◌*◌, ◌/◌, ◌%◌, ◌<◌}
use mathlib.Core.Path.{◌≡◌, refl, sym, ap, ◌∙◌}
use mathlib.Core.List.{List, [], ◌∷◌}
use native.Mathlib.Omega.{arith}
use Rattle.program.specs.Tables.{◌⇒◌, select}
use Rattle.program.specs.Encode.{Bytes}
use Rattle.program.specs.Reading.{Reads}
use Rattle.program.specs.Reading as read
use Rattle.meaning.specs.LeastCall.{LeastCall}
use Rattle.meaning.specs.LeastCall as least
use Rattle.verdict.specs.Checks.{Checks}
use Rattle.verdict.specs.Checks as check
use Rattle.normal.specs.Normalizes.{Normalizes}
use Rattle.normal.specs.Normalizes as normalize
use Rattle.nested.specs.FlattenCall.{FlattenCall}
use Rattle.search.specs.BeginCall.{BeginCall}
use Rattle.search.specs.BeginCall as begin
use Rattle.lent.specs.BoundsCall.{BoundsCall}
use Rattle.lent.specs.BoundsCall as bounds
use Rattle.packing.specs.declared.Parts.{Parts}
use Rattle.packing.specs.Packing.{Fits, packed, unpacked, length_in, read_parts, least_parts, check_parts, length_parts, normalize_parts, begin_parts, bounds_parts}
use Rattle.packing.proofs.Bounds.{read_fits, least_fits, check_fits, normalize_fits, flatten_fits, begin_fits, bounds_fits}

module _ (p : Parts) (f : Fits p) where
  same_word : packed p % 256 ≡ p.word
  unfolding packed
  same_word = omega arith

  same_first : packed p / 256 % 65536 ≡ p.first
  unfolding packed
  same_first = omega arith

  same_second : packed p / 16777216 % 65536 ≡ p.second
  unfolding packed
  same_second = omega arith

  same_third : packed p / 1099511627776 % 65536 ≡ p.third
  unfolding packed
  same_third = omega arith

  pub unpack : unpacked (packed p) ≡ p
  unfolding unpacked
  unpack = rw (same_word, same_first, same_second, same_third)

pub read_unpacks : {s : List ℕ} {x : read.Answer} → Reads s x → unpacked (packed (read_parts x)) ≡ read_parts x
read_unpacks r = unpack _ (read_fits r)

pub least_unpacks : {s a b b' : List ℕ} {x : least.Answer} → LeastCall s a b x b' → unpacked (packed (least_parts x)) ≡ least_parts x
least_unpacks r = unpack _ (least_fits r)

pub check_unpacks : {s a b b' : List ℕ} {x : check.Answer} → Checks s a b x b' → unpacked (packed (check_parts x)) ≡ check_parts x
check_unpacks r = unpack _ (check_fits r)

pub normalize_unpacks : {s b b' : List ℕ} {x : normalize.Answer} → Bytes s → Normalizes s b x b' → unpacked (packed (normalize_parts x)) ≡ normalize_parts x
normalize_unpacks y r = unpack _ (normalize_fits y r)

pub flatten_unpacks : {s b b' : List ℕ} {x : normalize.Answer} → FlattenCall s b x b' → unpacked (packed (normalize_parts x)) ≡ normalize_parts x
flatten_unpacks r = unpack _ (flatten_fits r)

pub begin_unpacks : {s w w' : List ℕ} {x : begin.Answer} → BeginCall s w x w' → unpacked (packed (begin_parts x)) ≡ begin_parts x
begin_unpacks r = unpack _ (begin_fits r)

pub bounds_unpacks : {s g b b' : List ℕ} {x : bounds.Answer} → BoundsCall s g b x b' → unpacked (packed (bounds_parts x)) ≡ bounds_parts x
bounds_unpacks r = unpack _ (bounds_fits r)

-- the length of 32 bits that an answer tells
pub length_back : (n : ℕ) → n < 4294967296 → length_in (packed (length_parts n)) ≡ n
unfolding packed length_in
length_back n h = omega arith

-- ---- the answer of a word and numbers; the last of each definition stands for every other word

abbrev read_of : Parts → read.Answer
read_of p = select p.word ((7 ⇒ read.accepted p.first p.second p.third) ∷ []) (read.refused p.first p.second)

abbrev least_of : Parts → least.Answer
least_of p =
    select p.word ((5 ⇒ least.range p.first) ∷ (6 ⇒ least.refusal p.first p.second) ∷ (8 ⇒ least.found) ∷ []) least.none

abbrev check_of : Parts → check.Answer
check_of p =
    select p.word
    ((2 ⇒ check.unfounded p.first p.second)
    ∷ (3 ⇒ check.constraint p.first)
    ∷ (4 ⇒ check.rule p.first)
    ∷ (5 ⇒ check.range p.first)
    ∷ (6 ⇒ check.refusal p.first p.second)
    ∷ [])
    check.stable

abbrev normalize_of : Parts → normalize.Answer
normalize_of p = select p.word ((10 ⇒ normalize.written (p.first + 65536 * p.second)) ∷ []) (normalize.refusal p.first p.second)

abbrev begin_of : Parts → begin.Answer
begin_of p = select p.word ((11 ⇒ begin.begun p.first) ∷ []) (begin.refusal p.first p.second)

abbrev bounds_of : Parts → bounds.Answer
bounds_of p = select p.word ((12 ⇒ bounds.bounded) ∷ []) (bounds.refusal p.first p.second)

read_back : (x : read.Answer) → read_of (read_parts x) ≡ x
read_back (read.accepted v r c) = refl
read_back (read.refused n at) = refl

least_back : (x : least.Answer) → least_of (least_parts x) ≡ x
least_back (least.refusal n at) = refl
least_back (least.range v) = refl
least_back least.none = refl
least_back least.found = refl

check_back : (x : check.Answer) → check_of (check_parts x) ≡ x
check_back (check.refusal n at) = refl
check_back (check.range v) = refl
check_back (check.rule i) = refl
check_back (check.constraint i) = refl
check_back (check.unfounded n k) = refl
check_back check.stable = refl

normalize_back : (x : normalize.Answer) → normalize_of (normalize_parts x) ≡ x
normalize_back (normalize.refusal n at) = refl
normalize_back (normalize.written n) = let e : n % 65536 + 65536 * (n / 65536) ≡ n = omega arith in ap normalize.written e

begin_back : (x : begin.Answer) → begin_of (begin_parts x) ≡ x
begin_back (begin.refusal n at) = refl
begin_back (begin.begun n) = refl

bounds_back : (x : bounds.Answer) → bounds_of (bounds_parts x) ≡ x
bounds_back (bounds.refusal n at) = refl
bounds_back bounds.bounded = refl

-- ---- no two answers of a call are packed in the same number, whatever the inputs

pub read_injective : {s t : List ℕ} {x y : read.Answer} → Reads s x → Reads t y → packed (read_parts x) ≡ packed (read_parts y) → x ≡ y
read_injective {x = x} {y} r q e =
    sym (read_back x) ∙ ap read_of (sym (read_unpacks r) ∙ ap unpacked e ∙ read_unpacks q) ∙ read_back y

pub least_injective : {s a b b' t c d d' : List ℕ} {x y : least.Answer} → LeastCall s a b x b' → LeastCall t c d y d'
    → packed (least_parts x) ≡ packed (least_parts y) → x ≡ y
least_injective {x = x} {y} r q e =
    sym (least_back x) ∙ ap least_of (sym (least_unpacks r) ∙ ap unpacked e ∙ least_unpacks q) ∙ least_back y

pub check_injective : {s a b b' t c d d' : List ℕ} {x y : check.Answer} → Checks s a b x b' → Checks t c d y d'
    → packed (check_parts x) ≡ packed (check_parts y) → x ≡ y
check_injective {x = x} {y} r q e =
    sym (check_back x) ∙ ap check_of (sym (check_unpacks r) ∙ ap unpacked e ∙ check_unpacks q) ∙ check_back y

pub normalize_injective : {s b b' t d d' : List ℕ} {x y : normalize.Answer} → Bytes s → Normalizes s b x b' → Bytes t → Normalizes t d y d'
    → packed (normalize_parts x) ≡ packed (normalize_parts y) → x ≡ y
normalize_injective {x = x} {y} h r k q e =
    sym (normalize_back x) ∙ ap normalize_of (sym (normalize_unpacks h r) ∙ ap unpacked e ∙ normalize_unpacks k q) ∙ normalize_back y

pub flatten_injective : {s b b' t d d' : List ℕ} {x y : normalize.Answer} → FlattenCall s b x b' → FlattenCall t d y d'
    → packed (normalize_parts x) ≡ packed (normalize_parts y) → x ≡ y
flatten_injective {x = x} {y} r q e =
    sym (normalize_back x) ∙ ap normalize_of (sym (flatten_unpacks r) ∙ ap unpacked e ∙ flatten_unpacks q) ∙ normalize_back y

pub begin_injective : {s w w' t v v' : List ℕ} {x y : begin.Answer} → BeginCall s w x w' → BeginCall t v y v' → packed (begin_parts x) ≡ packed (begin_parts y) → x ≡ y
begin_injective {x = x} {y} r q e =
    sym (begin_back x) ∙ ap begin_of (sym (begin_unpacks r) ∙ ap unpacked e ∙ begin_unpacks q) ∙ begin_back y

pub bounds_injective : {s g b b' t h d d' : List ℕ} {x y : bounds.Answer} → BoundsCall s g b x b' → BoundsCall t h d y d'
    → packed (bounds_parts x) ≡ packed (bounds_parts y) → x ≡ y
bounds_injective {x = x} {y} r q e =
    sym (bounds_back x) ∙ ap bounds_of (sym (bounds_unpacks r) ∙ ap unpacked e ∙ bounds_unpacks q) ∙ bounds_back y

-- ---- no answer is 0

pub read_some : (x : read.Answer) → 0 < packed (read_parts x)
unfolding packed
read_some (read.accepted v r c) = omega arith
read_some (read.refused n at) = omega arith

pub least_some : (x : least.Answer) → 0 < packed (least_parts x)
unfolding packed
least_some (least.refusal n at) = omega arith
least_some (least.range v) = omega arith
least_some least.none = omega arith
least_some least.found = omega arith

pub check_some : (x : check.Answer) → 0 < packed (check_parts x)
unfolding packed
check_some (check.refusal n at) = omega arith
check_some (check.range v) = omega arith
check_some (check.rule i) = omega arith
check_some (check.constraint i) = omega arith
check_some (check.unfounded n k) = omega arith
check_some check.stable = omega arith

pub normalize_some : (x : normalize.Answer) → 0 < packed (normalize_parts x)
unfolding packed
normalize_some (normalize.refusal n at) = omega arith
normalize_some (normalize.written n) = omega arith

pub begin_some : (x : begin.Answer) → 0 < packed (begin_parts x)
unfolding packed
begin_some (begin.refusal n at) = omega arith
begin_some (begin.begun n) = omega arith

pub bounds_some : (x : bounds.Answer) → 0 < packed (bounds_parts x)
unfolding packed
bounds_some (bounds.refusal n at) = omega arith
bounds_some bounds.bounded = omega arith

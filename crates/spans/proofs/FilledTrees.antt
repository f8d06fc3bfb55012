-- The tables and the fields of a tree's added variables, filled from the last inner node to the first.
use Prim.Native.Nat.{ℕ, ◌+◌, ◌-◌, ◌*◌, ◌/◌, ◌<◌, ◌≤◌}
use mathlib.Core.Path.{◌≡◌, refl, sym, ap, ap₂, subst, ◌∙◌}
use mathlib.Core.Bool.{Bool, true, false, not, ◌||◌, or-true}
use mathlib.Core.List.{List, ◌∷◌, ◌++◌}
use native.Mathlib.Omega.{arith}
use borrow.Author.Tests.{ltb-true, ltb-false}
use lib.Dec.{ltb}
use lib.IntN.{ℤ, pos}
use lib.ListN.{length, get_or, take, drop, length-append, length-drop, get_or-append}
use lib.Seq.{take_all, drop-length, get_or-append-add}
use Rattle.format.specs.Limits.{max_variables, max_number}
use Rattle.format.specs.Numbers.{beyond}
use Rattle.program.specs.Program.{variable_in, no_variable}
use Rattle.program.specs.Readings.{Valuation, valued}
use Rattle.program.specs.Encode.{All}
use Rattle.program.specs.declared.Variable.{Variable}
use Rattle.program.proofs.Conditions.{neither}
use Rattle.flat.specs.Flat.{OneTree, inners_in, leaves_in, values_in, ranged}
use Rattle.flat.proofs.Steps.{leaf_inner, inner_inner, inners_next}
use Rattle.noderules.specs.NodeRules.{Writable, Left}
use Rattle.noderules.specs.declared.Inner.{Inner}
use Rattle.noderules.proofs.Lefts.{tree_least, tree_even, left_at, left_writable}
use Rattle.spans.specs.Spans.{records_length, Tables, Tabled, any_beyond}
use Rattle.spans.specs.Filling.{node_value, node_variable, Entered, Passing, Filled}
use Rattle.spans.proofs.Agreeing.{leaves_at}
use Rattle.spans.proofs.LaterValues.{next_value, values_length, values_leaf, values_inner, inners_later, beyond_later}
use Rattle.spans.proofs.FilledTables.{Held, held_begun, held_leaf, held_value, held_inner, held_far}
use Rattle.spans.proofs.FilledRecords.{Fielded, fielded_none, fielded_more, fielded_all, ranged_length, ranged_at}

-- the variables that the inner nodes from `at` on add
abbrev added : ℕ → List ℤ → List ℤ → List ℕ → ℕ → ℕ → List Variable
added kind lows highs s at n = ranged kind (values_in (valued lows) n (drop at s)) (values_in (valued highs) n (drop at s))

-- they are entered, the first as number n
pub record Filling (s : List ℕ) (next kind : ℕ) (lows highs : List ℤ) (records : List ℕ) (lows' highs' : List ℤ) (records' : List ℕ) (at n : ℕ) : Type 0 where
  pub half : ℕ
  pub even : at ≡ 2 * half
  pub least : 1 ≤ half
  pub inside : at ≤ length s
  pub counted : n + inners_in (drop at s) ≡ next + inners_in (drop 2 s)
  pub lows_held : Held (valued lows) s at n lows'
  pub highs_held : Held (valued highs) s at n highs'
  pub fielded : Fielded records n (added kind lows highs s at n) records'

-- the bytes after the root, as they are handed on
pub inners_after : (s : List ℕ) → inners_in (take (length s - 2) (drop 2 s)) ≡ inners_in (drop 2 s)
inners_after s = ap inners_in (take_all (length s - 2) (drop 2 s) (omega (arith, length-drop 2 s)))

pub filling_begun : {s : List ℕ} {next : ℕ} (kind : ℕ) {lows highs : List ℤ} {records : List ℕ} → OneTree s → Tables lows highs → length records ≡ records_length
    → (n : ℕ) → n ≡ next + inners_in (drop 2 s) → Filling s next kind lows highs records lows highs records (2 * (length s / 2)) n
unfolding values_in inners_in ranged
filling_begun {s} {next} kind {lows} {highs} {records} o t m n e =
    let d = drop-length s in
    subst (λ (p : ℕ). Filling s next kind lows highs records lows highs records p n) (tree_even o)
    (record {
      half = length s / 2;
      even = tree_even o;
      least = omega (arith, tree_least o);
      inside = omega arith;
      counted = omega (arith, ap inners_in d);
      lows_held = held_begun s (length s) n lows d t.lows_many t.lows_small;
      highs_held = held_begun s (length s) n highs d t.highs_many t.highs_small;
      fielded =
          subst (λ (r : List ℕ). Fielded records n (ranged kind (values_in (valued lows) n r) (values_in (valued highs) n r)) records) (sym d)
          (fielded_none records n m);
    })

module _ {s : List ℕ} {next kind : ℕ} {lows highs : List ℤ} {records : List ℕ} {lows' highs' : List ℤ} {records' : List ℕ} where
  pub filling_tables : {at n : ℕ} → Filling s next kind lows highs records lows' highs' records' at n → Tables lows' highs'
  filling_tables k =
      record { lows_many = k.lows_held.many; highs_many = k.highs_held.many; lows_small = k.lows_held.small; highs_small = k.highs_held.small }

  -- ---- one node back

  module _ (at : ℕ) (h : 3 < at + 2) where
    module _ (n : ℕ) (k : Filling s next kind lows highs records lows' highs' records' (at + 2) n) where
      back_even : at ≡ 2 * (k.half - 1)
      back_even = omega (arith, k.even)

      back_least : 1 ≤ k.half - 1
      back_least = omega (arith, k.even)

      pub filling_two : at + 1 < length s
      filling_two = omega (arith, k.inside)

      pub filling_leaf : get_or s at 0 ≡ 0 → Filling s next kind lows highs records lows' highs' records' at n
      filling_leaf e =
          let two = filling_two in
          record {
            half = k.half - 1;
            even = back_even;
            least = back_least;
            inside = omega arith;
            counted = omega (arith, k.counted, inners_next s at two, leaf_inner (get_or s at 0) 0 e);
            lows_held = held_leaf at n two e k.lows_held;
            highs_held = held_leaf at n two e k.highs_held;
            fielded =
                subst (λ (xs : List Variable). Fielded records n xs records')
                (sym (ap₂ (ranged kind) (values_leaf (valued lows) n s at two e) (values_leaf (valued highs) n s at two e))) k.fielded;
          }

      -- from the first place of the tree's nodes but the root
      back_place : at ≡ 2 + 2 * (k.half - 2)
      back_place = omega (arith, k.even)

      pub filling_some : (get_or s at 0 ≡ 0 → ⊥) → next < n
      filling_some ne =
          let two = filling_two in
          omega (
            arith,
            k.counted,
            inners_next s at two,
            inner_inner (get_or s at 0) 0 ne,
            inners_later s (k.half - 2) 2 (omega (arith, back_place)),
            ap (λ (p : ℕ). inners_in (drop p s)) back_place,
          )

    module _ (n : ℕ) (ne : get_or s at 0 ≡ 0 → ⊥) (k : Filling s next kind lows highs records lows' highs' records' (at + 2) (n + 1)) where
      two : at + 1 < length s
      two = filling_two (n + 1) k

      counted_back : n + inners_in (drop at s) ≡ next + inners_in (drop 2 s)
      counted_back = omega (arith, k.counted, inners_next s at two, inner_inner (get_or s at 0) 0 ne)

      module _ (o : OneTree s) (few : next + inners_in (drop 2 s) ≤ max_variables) where
        pub filling_left : Left s at n
        filling_left =
            let e = back_even (n + 1) k in
            subst (λ (p : ℕ). Left s p n) (sym e)
            (left_at o next few (k.half - 1) n (omega arith) (ap (λ (p : ℕ). n + inners_in (drop p s)) (sym e) ∙ counted_back))

        abbrev node : Inner
        node = record { form = get_or s at 0; head = n; at = at + 2; n = get_or s (at + 1) 0; next = n + 1 }

        module _ (leaves : All (λ x. x < next) (leaves_in s)) where
          leaves_here : All (λ x. x < next) (leaves_in (drop (at + 2) s))
          leaves_here =
              subst (λ (p : ℕ). All (λ x. x < next) (leaves_in (drop p s))) (sym k.even)
              (leaves_at (λ x. x < next) s leaves k.half (omega (arith, k.inside, k.even)))

          bound : next ≤ n
          bound = omega (arith, filling_some (n + 1) k ne)

          writable : Writable s node
          writable = left_writable filling_left two ne

          low_is : node_value s node lows' ≡ next_value (valued lows) n s at two
          low_is = held_value at n two ne k.lows_held bound leaves_here writable

          high_is : node_value s node highs' ≡ next_value (valued highs) n s at two
          high_is = held_value at n two ne k.highs_held bound leaves_here writable

          room : n < max_variables
          room = omega (arith, counted_back, inners_next s at two, inner_inner (get_or s at 0) 0 ne)

          added_here : node_variable kind s node lows' highs' ∷ added kind lows highs s (at + 2) (n + 1) ≡ added kind lows highs s at n
          unfolding ranged
          added_here =
              ap₂ (λ (a b : ℤ). record { kind = kind; low = a; high = b } ∷ added kind lows highs s (at + 2) (n + 1)) low_is high_is
              ∙ sym (ap₂ (ranged kind) (values_inner (valued lows) n s at two ne) (values_inner (valued highs) n s at two ne))

          entered_next : {lows'' highs'' : List ℤ} {records'' : List ℕ}
              → Entered n (node_variable kind s node lows' highs') lows' highs' records' lows'' highs'' records''
              → Filling s next kind lows highs records lows'' highs'' records'' at n
          entered_next {records'' = records''} x =
              let near = neither (beyond max_number (node_value s node lows')) (beyond max_number (node_value s node highs')) x.near in
              record {
                half = k.half - 1;
                even = back_even (n + 1) k;
                least = back_least (n + 1) k;
                inside = omega (arith, two);
                counted = counted_back;
                lows_held = subst (Held (valued lows) s at n) (sym x.lows_set) (held_inner at n two ne k.lows_held low_is room near.0);
                highs_held = subst (Held (valued highs) s at n) (sym x.highs_set) (held_inner at n two ne k.highs_held high_is room near.1);
                fielded =
                    subst (λ (xs : List Variable). Fielded records n xs records'') added_here
                    (subst (Fielded records n _) (sym x.put) (fielded_more n (node_variable kind s node lows' highs') room k.fielded));
              }

          -- a value outside is one of all
          all_of : (a : Valuation) → any_beyond (values_in a n (drop at s)) ≡ true → any_beyond (values_in a next (drop 2 s)) ≡ true
          all_of a t =
              let e = back_place (n + 1) k in
              let d = ap (λ (p : ℕ). inners_in (drop p s)) e in
              beyond_later s a (k.half - 2) 2 next n (omega (arith, two)) (omega (arith, counted_back))
              (subst (λ (p : ℕ). any_beyond (values_in a n (drop p s)) ≡ true) e t)

          passing_all : {lows'' highs'' : List ℤ} {records'' : List ℕ} → Passing (node_variable kind s node lows' highs') lows' highs' records' lows'' highs'' records''
              → false ≡ not (any_beyond (values_in (valued lows) next (drop 2 s)) || any_beyond (values_in (valued highs) next (drop 2 s)))
          passing_all x = go (beyond max_number (node_value s node lows')) refl (beyond max_number (node_value s node highs')) refl x.far
            where
              go : (p : Bool) → beyond max_number (node_value s node lows') ≡ p → (q : Bool) → beyond max_number (node_value s node highs') ≡ q → (p || q) ≡ true
                  → false ≡ not (any_beyond (values_in (valued lows) next (drop 2 s)) || any_beyond (values_in (valued highs) next (drop 2 s)))
              go true e q f t = rw (all_of (valued lows) (held_far at n two ne k.lows_held low_is room e))
              go false e true f t = rw (all_of (valued highs) (held_far at n two ne k.highs_held high_is room f), or-true)
              go false e false f t = let z : ◌≡◌ {A = ℕ} 0 1 = cc in absurd (omega arith)

          -- the node is entered, or the walk stops
          module _ {r : Inner} (q : r ≡ node) {lows'' highs'' : List ℤ} (records'' : List ℕ) where
            pub filling_goes : (b : Bool) → Filled b r.head (node_variable kind s r lows' highs') lows' highs' records' lows'' highs'' records'' → not b ≡ false
                → Filling s next kind lows highs records lows'' highs'' records'' at n
            filling_goes true f t =
                entered_next (subst (λ (x : Inner). Entered x.head (node_variable kind s x lows' highs') lows' highs' records' lows'' highs'' records'') q f)
            filling_goes false f t = let z : ◌≡◌ {A = ℕ} 0 1 = cc in absurd (omega arith)

            pub filling_stops : (b : Bool) → Filled b r.head (node_variable kind s r lows' highs') lows' highs' records' lows'' highs'' records'' → not b ≡ true
                → (false ≡ not (any_beyond (values_in (valued lows) next (drop 2 s)) || any_beyond (values_in (valued highs) next (drop 2 s))))
                × (Tables lows'' highs'' × (length records'' ≡ records_length))
            filling_stops true f t = let z : ◌≡◌ {A = ℕ} 0 1 = cc in absurd (omega arith)
            filling_stops false f t =
                let p = subst (λ (x : Inner). Passing (node_variable kind s x lows' highs') lows' highs' records' lows'' highs'' records'') q f in
                let tables = subst (λ (x : List ℤ). Tables x highs'') (sym p.lows_kept) (subst (Tables lows') (sym p.highs_kept) (filling_tables k)) in
                (passing_all p, (tables, ap length p.records_kept ∙ k.fielded.many))

  -- the walk goes one node back, and at an inner node to the number before
  module _ {i n : ℕ} (k : Filling s next kind lows highs records lows' highs' records' (2 * i) n) (h : 1 < i) where
    pub filling_back : Filling s next kind lows highs records lows' highs' records' (2 * (i - 1) + 2) n
    filling_back =
        let e : 2 * i ≡ 2 * (i - 1) + 2 = omega arith in
        subst (λ (p : ℕ). Filling s next kind lows highs records lows' highs' records' p n) e k

    pub filling_apart : (get_or s (2 * (i - 1)) 0 ≡ 0 → ⊥) → Filling s next kind lows highs records lows' highs' records' (2 * (i - 1) + 2) (n - 1 + 1)
    filling_apart ne =
        let e : n ≡ n - 1 + 1 = omega (arith, filling_some (2 * (i - 1)) (omega arith) n filling_back ne) in
        subst (Filling s next kind lows highs records lows' highs' records' (2 * (i - 1) + 2)) e filling_back

  -- ---- all nodes

  module _ {at n : ℕ} (k : Filling s next kind lows highs records lows' highs' records' at n) (h : at ≤ 3) where
    ended : at ≡ 2
    ended = omega (arith, k.even, k.least)

    number : n ≡ next
    number = omega (arith, k.counted, ap (λ (p : ℕ). inners_in (drop p s)) ended)

    whole : Filling s next kind lows highs records lows' highs' records' 2 next
    whole = subst (λ (m : ℕ). Filling s next kind lows highs records lows' highs' records' 2 m) number
        (subst (λ (p : ℕ). Filling s next kind lows highs records lows' highs' records' p n) ended k)

    pub filling_near : true ≡ not (any_beyond (values_in (valued lows) next (drop 2 s)) || any_beyond (values_in (valued highs) next (drop 2 s)))
    filling_near = rw (whole.lows_held.near, whole.highs_held.near)

    as_many : length (values_in (valued lows) next (drop 2 s)) ≡ length (values_in (valued highs) next (drop 2 s))
    as_many = values_length (valued lows) next (drop 2 s) ∙ sym (values_length (valued highs) next (drop 2 s))

    -- an entry of a table is that of the variables with the added ones
    entry_is : (f : Variable → ℤ) (table table' : List ℤ) (vs : List Variable) → length vs ≡ next → Held (valued table) s 2 next table'
        → ((x : ℕ) → x < length vs → valued table x ≡ f (variable_in vs x))
        → ((i : ℕ) → i < inners_in (drop 2 s) → f (variable_in (added kind lows highs s 2 next) i) ≡ get_or (values_in (valued table) next (drop 2 s)) i (pos 0))
        → (x : ℕ) → x < length vs + inners_in (drop 2 s) → valued table' x ≡ f (variable_in (vs ++ added kind lows highs s 2 next) x)
    entry_is f table table' vs e t old new x l = go (ltb x (length vs)) refl
      where
        go : (b : Bool) → ltb x (length vs) ≡ b → valued table' x ≡ f (variable_in (vs ++ added kind lows highs s 2 next) x)
        go true q =
            let m = ltb-true x (length vs) q in
            t.below x (omega arith) ∙ old x m ∙ sym (ap f (get_or-append vs (added kind lows highs s 2 next) no_variable x m))
        go false q =
            let m = ltb-false x (length vs) q in
            let i = x - length vs in
            let d : x ≡ next + i = omega arith in
            let d' : length vs + i ≡ x = omega arith in
            ap (valued table') d ∙ t.inside i (omega arith) ∙ sym (new i (omega arith))
            ∙ sym (ap f (ap (variable_in (vs ++ added kind lows highs s 2 next)) (sym d') ∙ get_or-append-add vs (added kind lows highs s 2 next) i no_variable))

    pub filling_tabled : next + inners_in (drop 2 s) ≤ max_variables → (vs : List Variable) → length vs ≡ next → Tabled vs records lows highs
        → Tabled (vs ++ added kind lows highs s 2 next) records' lows' highs'
    filling_tabled few vs e t =
        let xs = added kind lows highs s 2 next in
        let many = values_length (valued lows) next (drop 2 s) in
        let size : length (vs ++ xs) ≡ length vs + inners_in (drop 2 s) =
        omega (arith, length-append vs xs, ranged_length kind (values_in (valued lows) next (drop 2 s)) (values_in (valued highs) next (drop 2 s)) as_many) in
        let at_i = ranged_at kind (values_in (valued lows) next (drop 2 s)) (values_in (valued highs) next (drop 2 s)) as_many in
        record {
          tables = filling_tables whole;
          records_many = whole.fielded.many;
          few = omega arith;
          fields = fielded_all vs e t.fields whole.fielded;
          lows_are = λ x l. entry_is (λ v. v.low) lows lows' vs e whole.lows_held t.lows_are (λ i b. (at_i i (omega arith)).0) x (omega arith);
          highs_are = λ x l. entry_is (λ v. v.high) highs highs' vs e whole.highs_held t.highs_are (λ i b. (at_i i (omega arith)).1) x (omega arith);
        }

-- The fields of a node by its row, over the arrays, say what the definitions say of its fields in order, over the growing lists. Assumes nothing.
use mathlib.Core.Path.{◌≡◌, refl, sym, ap, ◌∙◌, subst}
use mathlib.Core.Bool.{Bool, true, false, not, ◌&&◌, ◌||◌, false≢true, true≢false}
use mathlib.Core.List.{List, [], ◌∷◌}
use Prim.Native.Nat.{ℕ, suc, ◌+◌, ◌*◌, ◌<◌, ◌≤◌, max}
use native.Mathlib.Omega.{arith}
use native.Mathlib.Decide.{dec_lt, ℕ_discrete}
use lib.Dec.{eqb, leb, ltb}
use lib.ListN.{length, get_or, drop, set, length-set}
use lib.Seq.{get_or-drop, get_or-set_same, get_or-set_other, drop-drop}
use native.Mathlib.Nat.{add-zero}
use borrow.Author.Tests.{eq-eqb, ne_eqb, lt-ltb, le-ltb, le-leb, lt-leb}
use Rattle.paper.specs.Sets.{Set, only, ◌∪◌}
use Rattle.paper.specs.Record.{pick, byte, second, Sort, condition, term, arguments, items, binders, fits, two_bytes, Field, to, name_number, symbol, octet, comparison_op, arith_op, slot, field_bytes, Kind, node}
use Rattle.paper.specs.TurnedAway.{Seen, unseen, SoFar, Checked, fault, fine, refer, in_range, check, check_all, check_depth}
use Rattle.memory.specs.Rows.{sort_code, range_code, placed, references, first_range, row_for}
use Rattle.std.specs.Prelude.{Ok, Err}
use Rattle.std.specs.declared.result.Result.{Result}
use Rattle.memory.specs.declared.Fault.{Fault}
use Rattle.memory.specs.declared.Fault.TheVariants.{OutOfRange, NotBelow, WrongSort, TooDeep, ReferredTwice}
use Rattle.memory.specs.Fields.{
  Marks,
  Shows,
  Marked,
  marked,
  Says,
  Same,
  sort_of,
  refer_in,
  refer_if,
  out_of_range,
  after,
  checked_in,
}
use Rattle.memory.specs.declared.Row.{Row}

-- ---- one reference

-- a number at a place of the body
pub two_bytes_at : (i : ℕ) (b : List ℕ) → two_bytes (drop i b) ≡ get_or b i 0 + 256 * get_or b (i + 1) 0
unfolding two_bytes
two_bytes_at i b = rw (get_or-drop, get_or-drop, add-zero)

-- a mark more
marks_more : (used : List ℕ) (u : Set) (k : ℕ) → Marks used u → k < 512 → Marks (set used k 1) (u ∪ only k)
unfolding ◌∪◌ only
marks_more used u k m h = record { size = simp length-set m.size; mark = λ j g. at j g (ℕ_discrete j k) }
  where
    at : (j : ℕ) → j < 512 → Dec (j ≡ k) → not (eqb (get_or (set used k 1) j 0) 0) ≡ (u j || eqb j k)
    at j g (yes e) =
        let l : k < length used = omega (arith, m.size) in
        rw (e, get_or-set_same used k 1 0 l, eq-eqb k k refl) (or_right (u k))
      where
        or_right : (b : Bool) → true ≡ (b || true)
        or_right true = refl
        or_right false = refl
    at j g (no e) = rw (get_or-set_other used k j 1 0 e, ne_eqb j k e) (m.mark j g ∙ or_none (u j))
      where
        or_none : (b : Bool) → b ≡ (b || false)
        or_none true = refl
        or_none false = refl

module _ (nodes : List Seen) (ks ds : List ℕ) (shows : Shows nodes ks ds) (small : length nodes ≤ 512) where
  refer_same : (s : Sort) (k d : ℕ) (used : List ℕ) (u : Set) → Marks used u → Same (refer_in ks ds s k (length nodes) d used) (refer s k nodes d u)
  unfolding refer_in refer
  refer_same s k d used u m = go (dec_lt k (length nodes))
    where
      go3 : k < 512 → (b : Bool) → not (eqb (get_or used k 0) 0) ≡ b
          → Same (pick (eqb (get_or used k 0) 0) (marked (Ok (max d (get_or ds k 0))) (set used k 1)) (marked (Err ReferredTwice) used))
          (pick b (fault 11) (fine (max d (get_or nodes k unseen).depth) (u ∪ only k)))
      go3 h true e = rw (flip (eqb (get_or used k 0) 0) e) refl
        where
          flip : (b : Bool) → not b ≡ true → b ≡ false
          flip true e = absurd (false≢true e)
          flip false e = refl
      go3 h false e = rw (flip (eqb (get_or used k 0) 0) e, shows.depth k) (refl, marks_more used u k m h)
        where
          flip : (b : Bool) → not b ≡ false → b ≡ true
          flip true e = refl
          flip false e = absurd (true≢false e)

      go2 : k < length nodes → (b : Bool)
          → Same (pick b (pick (eqb (get_or used k 0) 0) (marked (Ok (max d (get_or ds k 0))) (set used k 1)) (marked (Err ReferredTwice) used)) (marked (Err WrongSort) used))
          (pick b (pick (u k) (fault 11) (fine (max d (get_or nodes k unseen).depth) (u ∪ only k))) (fault 9))
      go2 h true = go3 (omega arith) (u k) (m.mark k (omega arith))
      go2 h false = refl

      go : Dec (k < length nodes)
          → Same
          (pick (ltb k (length nodes))
          (pick (fits s (get_or ks k 0)) (pick (eqb (get_or used k 0) 0) (marked (Ok (max d (get_or ds k 0))) (set used k 1)) (marked (Err ReferredTwice) used)) (marked (Err WrongSort) used))
          (marked (Err NotBelow) used))
          (pick (ltb k (length nodes))
          (pick (fits s (get_or nodes k unseen).kind) (pick (u k) (fault 11) (fine (max d (get_or nodes k unseen).depth) (u ∪ only k))) (fault 9))
          (fault 8))
      go (yes h) = rw (lt-ltb k (length nodes) h, shows.kind k) (go2 h (fits s (get_or nodes k unseen).kind))
      go (no h) = rw (le-ltb k (length nodes) (omega arith)) refl

-- ---- one after the other

abbrev then : Checked → (ℕ → Set → Checked) → Checked
then c f = elim c [ fault n ↦ fault n | fine d u ↦ f d u ]

then_same : (m : Marked) (c : Checked) (f : ℕ → List ℕ → Marked) (g : ℕ → Set → Checked) → Same m c
    → ((d : ℕ) (used : List ℕ) (u : Set) → Marks used u → Same (f d used) (g d u)) → Same (after m f) (then c g)
then_same m c f g h k = go m.answer c h
  where
    go : (a : Result ℕ Fault) (c : Checked) → Says a m.used c → Same (elim a [ Ok d ↦ f d m.used | Err e ↦ marked (Err e) m.used ]) (then c g)
    go (Ok d) (fine deep u) h = rw h.0 (k deep m.used u h.1)
    go (Ok d) (fault n) h = absurd h
    go (Err e) (fine deep u) h = absurd h
    go (Err e) (fault n) h = h

-- ---- the fields in their places

-- each field with its place, one after the other
run : List (Field × ℕ) → List ℕ → SoFar → ℕ → Set → Checked
run [] b so d u = fine d u
run (p ∷ ps) b so d u = then (check p.0 (drop p.1 b) so d u) (λ d u. run ps b so d u)

then_ext : (c : Checked) (f g : ℕ → Set → Checked) → ((d : ℕ) (u : Set) → f d u ≡ g d u) → then c f ≡ then c g
then_ext (fault n) f g h = refl
then_ext (fine d u) f g h = h d u

run_placed : (fs : List Field) (off : ℕ) (b : List ℕ) (so : SoFar) (d : ℕ) (u : Set) → check_all fs (drop off b) so d u ≡ run (placed fs off) b so d u
unfolding check_all run placed
run_placed [] off b so d u = refl
run_placed (f ∷ fs) off b so d u =
    then_ext (check f (drop off b) so d u) _ _
    (λ d u. ap (λ (z : List ℕ). check_all fs z so d u) (drop-drop (field_bytes f) off b) ∙ run_placed fs (off + field_bytes f) b so d u)

-- a field that is a reference, or is not looked at
abbrev pub Plain : List (Field × ℕ) → Type 0
Plain [] = Unit {0}
Plain (p ∷ ps) = (range_code p.0 ≡ 0) × Plain ps

-- references by their numbers
refs : List (ℕ × ℕ) → List ℕ → SoFar → ℕ → Set → Checked
refs [] b so d u = fine d u
refs (p ∷ ps) b so d u = then (refer (sort_of p.0) (two_bytes (drop p.1 b)) so.nodes d u) (λ d u. refs ps b so d u)

sort_back : (s : Sort) → sort_of (sort_code s) ≡ s
sort_back condition = refl
sort_back term = refl
sort_back arguments = refl
sort_back items = refl
sort_back binders = refl

one_zero : {A : Type 0} (n : ℕ) → suc n ≡ 0 → A
one_zero n e = absurd (omega arith)

module _ (b : List ℕ) (so : SoFar) where
  plain_step : (f : Field) (off : ℕ) (ps : List (Field × ℕ)) → range_code f ≡ 0 → ((d : ℕ) (u : Set) → run ps b so d u ≡ refs (references ps) b so d u)
      → (d : ℕ) (u : Set) → run ((f, off) ∷ ps) b so d u ≡ refs (references ((f, off) ∷ ps)) b so d u
  unfolding run refs references check
  plain_step (to s) off ps e h d u =
      then_ext (refer s (two_bytes (drop off b)) so.nodes d u) _ _ h
      ∙ ap (λ (z : Sort). then (refer z (two_bytes (drop off b)) so.nodes d u) (λ d u. refs (references ps) b so d u)) (sym (sort_back s))
  plain_step symbol off ps e h d u = h d u
  plain_step octet off ps e h d u = h d u
  plain_step name_number off ps e h d u = one_zero 0 e
  plain_step comparison_op off ps e h d u = one_zero 1 e
  plain_step arith_op off ps e h d u = one_zero 2 e
  plain_step slot off ps e h d u = one_zero 3 e

  run_plain : (ps : List (Field × ℕ)) → Plain ps → (d : ℕ) (u : Set) → run ps b so d u ≡ refs (references ps) b so d u
  unfolding run refs references
  run_plain [] h d u = refl
  run_plain (p ∷ ps) h d u = plain_step p.0 p.1 ps h.0 (run_plain ps h.1) d u

  -- the first field may have a range
  abbrev ranged : ℕ → Checked → Checked
  ranged code c = pick (out_of_range code (byte b) (second b) (length so.names)) (fault 7) c

  within : (x y : ℕ) (c : Checked) → pick (ltb x y) c (fault 7) ≡ pick (leb y x) (fault 7) c
  within x y c = go (dec_lt x y)
    where
      go : Dec (x < y) → pick (ltb x y) c (fault 7) ≡ pick (leb y x) (fault 7) c
      go (yes h) = rw (lt-ltb x y h, lt-leb y x h)
      go (no h) = rw (le-ltb x y (omega arith), le-leb y x (omega arith))

  at_most : (x y : ℕ) (c : Checked) → pick (leb x y) c (fault 7) ≡ pick (ltb y x) (fault 7) c
  at_most x y c = go (dec_lt y x)
    where
      go : Dec (y < x) → pick (leb x y) c (fault 7) ≡ pick (ltb y x) (fault 7) c
      go (yes h) = rw (lt-ltb y x h, lt-leb x y h)
      go (no h) = rw (le-ltb y x (omega arith), le-leb x y (omega arith))

  or_out : (t : Bool) (c : Checked) → pick t (fault 7) c ≡ pick (t || false) (fault 7) c
  or_out true c = refl
  or_out false c = refl

  slot_range : (x y n : ℕ) (c : Checked) → pick (leb x 2 && (not (eqb x 0) || ltb y n)) c (fault 7) ≡ pick (ltb 2 x || (eqb x 0 && leb n y)) (fault 7) c
  slot_range x y n c = go (dec_lt 2 x) (eqb x 0) (dec_lt y n)
    where
      go : Dec (2 < x) → (z : Bool) → Dec (y < n) → pick (leb x 2 && (not z || ltb y n)) c (fault 7) ≡ pick (ltb 2 x || (z && leb n y)) (fault 7) c
      go (yes h) z d = rw (lt-leb x 2 h, lt-ltb 2 x h)
      go (no h) true (yes k) = rw (le-leb x 2 (omega arith), le-ltb 2 x (omega arith), lt-ltb y n k, lt-leb n y k)
      go (no h) true (no k) = rw (le-leb x 2 (omega arith), le-ltb 2 x (omega arith), le-ltb y n (omega arith), le-leb n y (omega arith))
      go (no h) false d = rw (le-leb x 2 (omega arith), le-ltb 2 x (omega arith))

  then_fault : (t : Bool) (d : ℕ) (u : Set) (g : ℕ → Set → Checked) → then (pick t (fine d u) (fault 7)) g ≡ pick t (g d u) (fault 7)
  then_fault true d u g = refl
  then_fault false d u g = refl

  first_step : (f : Field) (ps : List (Field × ℕ)) → ((d : ℕ) (u : Set) → run ps b so d u ≡ refs (references ps) b so d u)
      → (d : ℕ) (u : Set) → run ((f, 0) ∷ ps) b so d u ≡ ranged (range_code f) (refs (references ((f, 0) ∷ ps)) b so d u)
  unfolding run references check in_range out_of_range
  first_step (to s) ps h d u = plain_step (to s) 0 ps refl h d u
  first_step symbol ps h d u = h d u
  first_step octet ps h d u = h d u
  first_step name_number ps h d u =
      then_fault (ltb (byte b) (length so.names)) d u (λ d u. run ps b so d u) ∙ within (byte b) (length so.names) (run ps b so d u)
      ∙ or_out (leb (length so.names) (byte b)) (run ps b so d u) ∙ ap (λ (c : Checked). ranged 1 c) (h d u)
  first_step comparison_op ps h d u =
      then_fault (leb (byte b) 5) d u (λ d u. run ps b so d u) ∙ at_most (byte b) 5 (run ps b so d u) ∙ or_out (ltb 5 (byte b)) (run ps b so d u)
      ∙ ap (λ (c : Checked). ranged 2 c) (h d u)
  first_step arith_op ps h d u =
      then_fault (leb (byte b) 2) d u (λ d u. run ps b so d u) ∙ at_most (byte b) 2 (run ps b so d u) ∙ or_out (ltb 2 (byte b)) (run ps b so d u)
      ∙ ap (λ (c : Checked). ranged 3 c) (h d u)
  first_step slot ps h d u =
      then_fault (leb (byte b) 2 && (not (eqb (byte b) 0) || ltb (second b) (length so.names))) d u (λ d u. run ps b so d u)
      ∙ slot_range (byte b) (second b) (length so.names) (run ps b so d u) ∙ ap (λ (c : Checked). ranged 4 c) (h d u)

-- ---- a row

-- what a row can say: only the first field has a range, and at most two are references
abbrev pub RowLike : List Field → Type 0
RowLike [] = Unit {0}
RowLike (f ∷ fs) = Plain (placed fs (0 + field_bytes f)) × (length (references (placed (f ∷ fs) 0)) ≤ 2)

module _ (b : List ℕ) (so : SoFar) where
  fields_ranged : (fs : List Field) → RowLike fs → (d : ℕ) (u : Set)
      → check_all fs b so d u ≡ ranged b so (first_range fs) (refs (references (placed fs 0)) b so d u)
  unfolding first_range references placed run refs out_of_range
  fields_ranged [] h d u = run_placed [] 0 b so d u
  fields_ranged (f ∷ fs) h d u =
      run_placed (f ∷ fs) 0 b so d u ∙ first_step b so f (placed fs (0 + field_bytes f)) (run_plain b so (placed fs (0 + field_bytes f)) h.0) d u

  -- a reference by its numbers, if there is one
  abbrev ref_if : ℕ × ℕ → ℕ → Set → Checked
  ref_if p d u = pick (eqb p.0 0) (fine d u) (refer (sort_of p.0) (two_bytes (drop p.1 b)) so.nodes d u)

  abbrev Some : List (ℕ × ℕ) → Type 0
  Some [] = Unit {0}
  Some (p ∷ ps) = (0 < p.0) × Some ps

  some_sort : (s : Sort) → 0 < sort_code s
  some_sort condition = omega arith
  some_sort term = omega arith
  some_sort arguments = omega arith
  some_sort items = omega arith
  some_sort binders = omega arith

  some_step : (f : Field) (off : ℕ) (ps : List (Field × ℕ)) → Some (references ps) → Some (references ((f, off) ∷ ps))
  unfolding references
  some_step (to s) off ps h = (some_sort s, h)
  some_step symbol off ps h = h
  some_step octet off ps h = h
  some_step name_number off ps h = h
  some_step comparison_op off ps h = h
  some_step arith_op off ps h = h
  some_step slot off ps h = h

  some_references : (ps : List (Field × ℕ)) → Some (references ps)
  unfolding references
  some_references [] = tt
  some_references (p ∷ ps) = some_step p.0 p.1 ps (some_references ps)

  ref_is : (p : ℕ × ℕ) → 0 < p.0 → (d : ℕ) (u : Set) → ref_if p d u ≡ refer (sort_of p.0) (two_bytes (drop p.1 b)) so.nodes d u
  ref_is p h d u = rw (ne_eqb p.0 0 (λ e. omega arith))

  then_fine : (c : Checked) → then c (λ d u. fine d u) ≡ c
  then_fine (fault n) = refl
  then_fine (fine d u) = refl

  two_refs : (rs : List (ℕ × ℕ)) → length rs ≤ 2 → Some rs → (d : ℕ) (u : Set)
      → refs rs b so d u ≡ then (ref_if (get_or rs 0 (0, 0)) d u) (λ d u. ref_if (get_or rs 1 (0, 0)) d u)
  unfolding refs
  two_refs [] h s d u = refl
  two_refs (p ∷ []) h s d u = ap (λ (c : Checked). then c (λ d u. fine d u)) (sym (ref_is p s.0 d u))
  two_refs (p ∷ (q ∷ [])) h s d u =
      ap (λ (c : Checked). then c (λ d u. then (refer (sort_of q.0) (two_bytes (drop q.1 b)) so.nodes d u) (λ d u. fine d u))) (sym (ref_is p s.0 d u))
      ∙ then_ext (ref_if p d u) _ _ (λ d u. then_fine (refer (sort_of q.0) (two_bytes (drop q.1 b)) so.nodes d u) ∙ sym (ref_is q s.1.0 d u))
  two_refs (p ∷ (q ∷ (r ∷ rs))) h s d u = absurd (omega arith)

  like_refs : (fs : List Field) → RowLike fs → length (references (placed fs 0)) ≤ 2
  unfolding references placed
  like_refs [] h = omega arith
  like_refs (f ∷ fs) h = h.1

  -- a row's fields as the definitions have them
  row_fields : (fs : List Field) → RowLike fs → (u : Set)
      → check_all fs b so 0 u
      ≡ ranged b so (first_range fs)
      (then (ref_if (get_or (references (placed fs 0)) 0 (0, 0)) 0 u) (λ d u. ref_if (get_or (references (placed fs 0)) 1 (0, 0)) d u))
  row_fields fs h u =
      fields_ranged fs h 0 u
      ∙ ap (λ (c : Checked). ranged b so (first_range fs) c) (two_refs (references (placed fs 0)) (like_refs fs h) (some_references (placed fs 0)) 0 u)

  module _ (ks ds : List ℕ) (shows : Shows so.nodes ks ds) (small : length so.nodes ≤ 512) where
    ref_same : (p : ℕ × ℕ) (d : ℕ) (used : List ℕ) (u : Set) → Marks used u
        → Same (refer_if ks ds b p.0 p.1 (length so.nodes) d used) (ref_if p d u)
    unfolding refer_if
    ref_same p d used u m = go (eqb p.0 0)
      where
        go : (t : Bool)
            → Same (pick t (marked (Ok d) used) (refer_in ks ds (sort_of p.0) (two_bytes (drop p.1 b)) (length so.nodes) d used))
            (pick t (fine d u) (refer (sort_of p.0) (two_bytes (drop p.1 b)) so.nodes d u))
        go true = (refl, m)
        go false = refer_same so.nodes ks ds shows small (sort_of p.0) (two_bytes (drop p.1 b)) d used u m

    deep_same : (d : ℕ) (used : List ℕ) (u : Set) → Marks used u → Same (pick (leb 64 d) (marked (Err TooDeep) used) (marked (Ok d) used)) (check_depth (fine d u))
    unfolding check_depth
    deep_same d used u m = go (dec_lt d 64)
      where
        go : Dec (d < 64) → Same (pick (leb 64 d) (marked (Err TooDeep) used) (marked (Ok d) used)) (pick (ltb 64 (d + 1)) (fault 10) (fine d u))
        go (yes h) = rw (lt-leb 64 d h, le-ltb 64 (d + 1) (omega arith)) (refl, m)
        go (no h) = rw (le-leb 64 d (omega arith), lt-ltb 64 (d + 1) (omega arith)) refl

    depth_then : (c : Checked) (g : ℕ → Set → Checked) → check_depth (then c g) ≡ then c (λ d u. check_depth (g d u))
    unfolding check_depth
    depth_then (fault n) g = refl
    depth_then (fine d u) g = refl

    depth_end : (c : Checked) → check_depth c ≡ then c (λ d u. check_depth (fine d u))
    unfolding check_depth
    depth_end (fault n) = refl
    depth_end (fine d u) = refl

    pub row_same : (r : Kind) → RowLike r.body → (used : List ℕ) → Marks used so.used
        → Same (checked_in ks ds b (row_for (node r)) (length so.names) (length so.nodes) used) (check_depth (check_all r.body b so 0 so.used))
    unfolding checked_in row_for check_depth
    row_same r h used m =
        let rs = references (placed r.body 0) in
        rw (row_fields r.body h so.used)
        (go (out_of_range (first_range r.body) (byte b) (second b) (length so.names)))
      where
        p : ℕ × ℕ
        p = get_or (references (placed r.body 0)) 0 (0, 0)

        q : ℕ × ℕ
        q = get_or (references (placed r.body 0)) 1 (0, 0)

        go : (t : Bool)
            → Same
            (pick t (marked (Err OutOfRange) used)
            (after (refer_if ks ds b p.0 p.1 (length so.nodes) 0 used)
            (λ d v. after (refer_if ks ds b q.0 q.1 (length so.nodes) d v) (λ d v. pick (leb 64 d) (marked (Err TooDeep) v) (marked (Ok d) v)))))
            (check_depth (pick t (fault 7) (then (ref_if p 0 so.used) (λ d u. ref_if q d u))))
        go true = refl
        go false =
            rw (depth_then (ref_if p 0 so.used) (λ d u. ref_if q d u))
            (then_same (refer_if ks ds b p.0 p.1 (length so.nodes) 0 used) (ref_if p 0 so.used)
            (λ d v. after (refer_if ks ds b q.0 q.1 (length so.nodes) d v) (λ d v. pick (leb 64 d) (marked (Err TooDeep) v) (marked (Ok d) v)))
            (λ d u. check_depth (ref_if q d u)) (ref_same p 0 used so.used m)
            (λ d v u n.
            subst (λ (c : Checked). Same (after (refer_if ks ds b q.0 q.1 (length so.nodes) d v) (λ d v. pick (leb 64 d) (marked (Err TooDeep) v) (marked (Ok d) v))) c)
            (sym (depth_end (ref_if q d u)))
            (then_same (refer_if ks ds b q.0 q.1 (length so.nodes) d v) (ref_if q d u) (λ d v. pick (leb 64 d) (marked (Err TooDeep) v) (marked (Ok d) v))
            (λ d u. check_depth (fine d u)) (ref_same q d v u n) deep_same)))

-- ---- the depth

-- what is found without a fault is less than 64 deep
abbrev pub Shallow : Marked → Type 0
Shallow m = elim m.answer [ Ok d ↦ d < 64 | Err e ↦ Unit {0} ]

after_shallow : (m : Marked) (f : ℕ → List ℕ → Marked) → ((d : ℕ) (u : List ℕ) → Shallow (f d u)) → Shallow (after m f)
after_shallow m f h = go m.answer
  where
    go : (a : Result ℕ Fault) → Shallow (elim a [ Ok d ↦ f d m.used | Err e ↦ marked (Err e) m.used ])
    go (Ok d) = h d m.used
    go (Err e) = tt

abbrev depth_tested : ℕ → List ℕ → Marked
depth_tested d u = pick (leb 64 d) (marked (Err TooDeep) u) (marked (Ok d) u)

tested_shallow : (d : ℕ) (u : List ℕ) → Shallow (depth_tested d u)
tested_shallow d u = go (dec_lt d 64)
  where
    go : Dec (d < 64) → Shallow (depth_tested d u)
    go (yes h) = rw (lt-leb 64 d h) h
    go (no h) = rw (le-leb 64 d (omega arith)) tt

pub shallow : (ks ds b : List ℕ) (row : Row) (names own : ℕ) (used : List ℕ) → Shallow (checked_in ks ds b row names own used)
unfolding checked_in
shallow ks ds b row names own used = go (out_of_range row.range (byte b) (second b) names)
  where
    one : Marked
    one = refer_if ks ds b row.sort1 row.at1 own 0 used

    two : ℕ → List ℕ → Marked
    two d u = refer_if ks ds b row.sort2 row.at2 own d u

    go : (t : Bool) → Shallow (pick t (marked (Err OutOfRange) used) (after one (λ d u. after (two d u) depth_tested)))
    go true = tt
    go false = after_shallow one (λ d u. after (two d u) depth_tested) (λ d u. after_shallow (two d u) depth_tested tested_shallow)

-- The number of each kind's row unpacks to the definitions' row: one computed claim over the kinds, and one for every other byte. And the kinds that fit a sort, as
-- bits of a number. Assumes nothing.
use mathlib.Core.Path.{◌≡◌, sym, ap, ◌∙◌, refl}
use mathlib.Core.Bool.{Bool, true, false, not, and-false}
use mathlib.Core.List.{List, [], ◌∷◌, ◌++◌, map}
use Prim.Native.Nat.{ℕ, ◌<◌, ◌≤◌}
use native.Mathlib.Omega.{arith}
use borrow.Author.Tests.{ne_eqb, lt-leb, le-ltb}
use lib.Dec.{ltb}
use lib.ListN.{get_or, get_or-map}
use Rattle.paper.specs.Sets.{all_below}
use Rattle.paper.proofs.SetLaws.{all_get}
use Rattle.names.specs.Words.{bit}
use Rattle.paper.specs.Record.{Sort, condition, term, arguments, items, binders, fits, field_bytes, body_length, kinds, node_kind, announced, slot_of}
use Rattle.memory.specs.Rows.{placed, references, first_range, row_for, row_at, unpacked, fitting}
use Rattle.memory.specs.declared.Row.{Row}
use Rattle.memory.proofs.Unnamed.{conditions, terms, cells, Away, Rest, rest_away, all?, away_by, no_kind}

-- the kinds below 64, in order
abbrev pub low : List ℕ
low = 0x01 ∷ 0x02 ∷ (conditions ++ (terms ++ (0x30 ∷ cells)))

-- their rows' numbers, and the end record's
abbrev numbers : List ℕ
numbers =
    0x10100000 ∷ 0x21800000 ∷ 0x30401012 ∷ 0x30401012 ∷ 0x30201000 ∷ 0x30401000 ∷ 0x30401000 ∷ 0x30601012
    ∷ 0x30541300 ∷ 0x30522123 ∷ 0x30403200 ∷ 0x30401032 ∷ 0x30240000 ∷ 0x30200000 ∷ 0x30200000 ∷ 0x30110000
    ∷ 0x30000000 ∷ 0x30200000 ∷ 0x30200000 ∷ 0x30200000 ∷ 0x30100000 ∷ 0x30100000 ∷ 0x30204000 ∷ 0x30532123
    ∷ 0x30645214 ∷ 0x30405012 ∷ 0x30200000 ∷ 0x30000000 ∷ 0x30602234 ∷ 0x30402042 ∷ 0x30545300 ∷ 0x40200000 ∷ []

abbrev listed : List ℕ
listed = low ++ (0x7F ∷ [])

all_rows : map unpacked numbers ≡ map row_at listed
unfolding row_at row_for announced node_kind kinds slot_of body_length field_bytes placed references first_range
all_rows = refl

-- the row of the kind at a place of the list
pub row_right : {k : ℕ} (j : ℕ) → k ≡ get_or listed j 0 → unpacked (get_or numbers j 0) ≡ row_at k
unfolding row_at row_for announced node_kind kinds
row_right j e =
    sym (get_or-map unpacked numbers j 0) ∙ ap (λ (l : List Row). get_or l j (unpacked 0)) all_rows ∙ get_or-map row_at listed j 0
    ∙ ap row_at (sym e)

-- ---- a byte that is no kind

none : (k : ℕ) → Away low k → (k ≡ 0x7F → ⊥) → unpacked 0 ≡ row_at k
unfolding row_at row_for announced kinds Away
none k a n = rw (ne_eqb k 0x01 a.0, ne_eqb k 0x02 a.1.0, ne_eqb k 0x7F n, no_kind kinds k a.1.1)

pub row_none : (k : ℕ) (X : Type 0) → Rest low k X → k ≤ 63 → unpacked 0 ≡ row_at k
row_none k X m h = none k (rest_away low k X m).1 (λ e. omega arith)

pub row_above : (k : ℕ) → 64 ≤ k → (k ≡ 0x7F → ⊥) → unpacked 0 ≡ row_at k
unfolding all?
row_above k h n = none k (away_by (λ i. ltb i 64) low k refl (le-ltb k 64 h)) n

-- ---- the kinds that fit a sort

agree : Bool → Bool → Bool
agree true t = t
agree false t = not t

agreed : (a b : Bool) → agree a b ≡ true → a ≡ b
unfolding agree
agreed true true e = refl
agreed true false e = sym e
agreed false true e = e
agreed false false e = refl

-- below 64 one computed claim for each sort
pub fit_low : (s : Sort) (k : ℕ) → k < 64 → bit (fitting s) k ≡ fits s k
unfolding all_below agree fitting fits bit
fit_low condition k h = agreed (bit (fitting condition) k) (fits condition k) (all_get 64 (λ n. agree (bit (fitting condition) n) (fits condition n)) refl k h)
fit_low term k h = agreed (bit (fitting term) k) (fits term k) (all_get 64 (λ n. agree (bit (fitting term) n) (fits term n)) refl k h)
fit_low arguments k h = agreed (bit (fitting arguments) k) (fits arguments k) (all_get 64 (λ n. agree (bit (fitting arguments) n) (fits arguments n)) refl k h)
fit_low items k h = agreed (bit (fitting items) k) (fits items k) (all_get 64 (λ n. agree (bit (fitting items) n) (fits items n)) refl k h)
fit_low binders k h = agreed (bit (fitting binders) k) (fits binders k) (all_get 64 (λ n. agree (bit (fitting binders) n) (fits binders n)) refl k h)

pub fit_high : (s : Sort) (k : ℕ) → 64 ≤ k → fits s k ≡ false
unfolding fits
fit_high condition k h = rw (lt-leb k 0x1C (omega arith), and-false)
fit_high term k h = rw (lt-leb k 0x2B (omega arith), and-false)
fit_high arguments k h = rw (ne_eqb k 0x30 (λ e. omega arith), ne_eqb k 0x31 (λ e. omega arith))
fit_high items k h = rw (ne_eqb k 0x30 (λ e. omega arith), ne_eqb k 0x32 (λ e. omega arith))
fit_high binders k h = rw (ne_eqb k 0x30 (λ e. omega arith), ne_eqb k 0x33 (λ e. omega arith))

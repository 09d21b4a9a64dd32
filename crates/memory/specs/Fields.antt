-- The fields of a node over the reader's arrays: the kinds and depths of the nodes read so far, and a mark for each node that is referred to.
-- Beside each stands what it says of the definitions' growing lists. Assumes nothing: these are definitions.
use Rattle.std.specs.Prelude.{ℕ, ◌+◌, ◌<◌, max, ◌≡◌, Bool, not, ◌&&◌, ◌||◌, List, eqb, leb, ltb, length, get_or, set, drop, Ok, Err, MatchResult}
use Rattle.std.specs.declared.result.Result.{Result}
use Rattle.paper.specs.Sets.{Set}
use Rattle.paper.specs.Record.{pick, byte, second, Sort, condition, term, arguments, items, binders, fits, two_bytes}
use Rattle.paper.specs.TurnedAway.{Seen, unseen, Checked, fault, fine}
use Rattle.memory.specs.Faults.{number}
use Rattle.memory.specs.declared.Fault.{Fault}
use Rattle.memory.specs.declared.Fault.TheVariants.{OutOfRange, NotBelow, WrongSort, TooDeep, ReferredTwice}
use Rattle.memory.specs.declared.Row.{Row}

-- ---- the marks

-- the set that the marks stand for
pub record Marks (used : List ℕ) (u : Set) : Type 0 where
  pub size : length used ≡ 512
  pub mark : (k : ℕ) → k < 512 → not (eqb (get_or used k 0) 0) ≡ u k

-- the arrays of kinds and depths say what was seen
pub record Shows (nodes : List Seen) (kinds depths : List ℕ) : Type 0 where
  pub kind : (k : ℕ) → get_or kinds k 0 ≡ (get_or nodes k unseen).kind
  pub depth : (k : ℕ) → get_or depths k 0 ≡ (get_or nodes k unseen).depth

-- ---- what the fields read so far say: a fault or the deepest child, and the marks

pub record Marked : Type 0 where
  pub answer : Result ℕ Fault
  pub used : List ℕ

abbrev pub marked : Result ℕ Fault → List ℕ → Marked
marked r used = record { answer = r; used = used }

-- the same as the definitions say
abbrev pub Says : Result ℕ Fault → List ℕ → Checked → Type 0
Says (Ok d) used (fine deep u) = (d ≡ deep) × Marks used u
Says (Ok d) used (fault n) = ⊥
Says (Err f) used (fine deep u) = ⊥
Says (Err f) used (fault n) = number f ≡ n

abbrev pub Same : Marked → Checked → Type 0
Same m c = Says m.answer m.used c

-- ---- a reference

abbrev pub sort_of : ℕ → Sort
sort_of k = pick (eqb k 1) condition (pick (eqb k 2) term (pick (eqb k 3) arguments (pick (eqb k 4) items binders)))

unfoldable pub refer_in : List ℕ → List ℕ → Sort → ℕ → ℕ → ℕ → List ℕ → Marked
refer_in kinds depths sort k own deep used =
    pick (ltb k own)
    (pick (fits sort (get_or kinds k 0))
    (pick (eqb (get_or used k 0) 0) (marked (Ok (max deep (get_or depths k 0))) (set used k 1)) (marked (Err ReferredTwice) used))
    (marked (Err WrongSort) used))
    (marked (Err NotBelow) used)

-- a reference of a row, if it has one, at a place of the body
unfoldable pub refer_if : List ℕ → List ℕ → List ℕ → ℕ → ℕ → ℕ → ℕ → List ℕ → Marked
refer_if kinds depths b sort at own deep used =
    pick (eqb sort 0) (marked (Ok deep) used) (refer_in kinds depths (sort_of sort) (two_bytes (drop at b)) own deep used)

-- ---- a range

-- by a row's number: a name's number, an op of a comparison, an op of arithmetic, a slot
unfoldable pub out_of_range : ℕ → ℕ → ℕ → ℕ → Bool
out_of_range code x y names =
    (eqb code 1 && leb names x)
    || ((eqb code 2 && ltb 5 x) || ((eqb code 3 && ltb 2 x) || (eqb code 4 && (ltb 2 x || (eqb x 0 && leb names y)))))

-- ---- all fields of a row, and the depth

abbrev pub after : Marked → (ℕ → List ℕ → Marked) → Marked
after m f = elim m.answer [ Ok deep ↦ f deep m.used | Err e ↦ marked (Err e) m.used ]

unfoldable pub checked_in : List ℕ → List ℕ → List ℕ → Row → ℕ → ℕ → List ℕ → Marked
checked_in kinds depths b row names own used =
    pick (out_of_range row.range (byte b) (second b) names) (marked (Err OutOfRange) used)
    (after (refer_if kinds depths b row.sort1 row.at1 own 0 used)
    (λ d u.
    after (refer_if kinds depths b row.sort2 row.at2 own d u)
    (λ d u. pick (leb 64 d) (marked (Err TooDeep) u) (marked (Ok d) u))))

-- a new node: the answer is the fault of what was found, and without one the arrays have the node, one deeper than its deepest child
abbrev pub Added : Marked → ℕ → ℕ → List ℕ → List ℕ → Result (Unit {0}) Fault → List ℕ → List ℕ → List ℕ → Type 0
Added found kind own kinds depths r kinds_after depths_after used_after =
    MatchResult found.answer
    (λ deep. (r ≡ Ok tt) × (kinds_after ≡ set kinds own kind) × (depths_after ≡ set depths own (deep + 1)) × (used_after ≡ found.used))
    (λ f. r ≡ Err f)

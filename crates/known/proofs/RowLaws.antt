-- How rows stay right: what a store and what a call on a part leave behind. Assumes nothing.
use mathlib.Core.Path.{◌≡◌, refl, sym, ap, ◌∙◌, subst}
use mathlib.Core.Bool.{Bool, true, false, ◌||◌, ◌&&◌, true≢false}
use mathlib.Core.List.{List}
use Prim.Native.Nat.{ℕ, ◌+◌, ◌<◌}
use native.Mathlib.Omega.{arith}
use lib.Dec.{eqb}
use lib.ListN.{length, length-set}
use lib.Seq.{get_or-set_same, get_or-set_other}
use borrow.Author.Tests.{eqb-true, eqb-false}
use Rattle.paper.specs.Record.{condition, term}
use Rattle.paper.specs.Tree.{Tree}
use Rattle.record.specs.Stored.{held, Has, Formed}
use Rattle.trees.specs.Trees.{tree_of, condition_of, term_of, is_condition, is_term}
use Rattle.trees.proofs.Arms.{Child, down}
use Rattle.trees.proofs.Sorts.{a_body, a_term}
use Rattle.known.specs.Known.{condition_known, term_known, known_of}
use Rattle.known.specs.Rows.{meant, no_facts, facts_at, has_row, Right, Noted, Put, Kept, Gathered}
use Rattle.known.specs.declared.Facts.{Facts}
use Rattle.known.proofs.KnownLaws.{condition_is, term_is}
use Rattle.known.proofs.Reached.{every_reached}

pub kept_same : {columns : List ℕ} {rows : List Facts} → Kept columns rows rows
kept_same = record { long = refl; right = λ k r. r }

pub kept_then : {columns : List ℕ} {one two three : List Facts} → Kept columns one two → Kept columns two three → Kept columns one three
kept_then a b = record { long = b.long ∙ a.long; right = λ k r. b.right k (a.right k r) }

pub put_long : {before : List Facts} {i : ℕ} {f : Facts} {after : List Facts} → Put before i f after → length after ≡ length before
put_long {before} {i} {f} p = ap length p.there ∙ length-set before i f

-- a right row more
pub put_right : {columns : List ℕ} {before : List Facts} {i : ℕ} {f : Facts} {after : List Facts} → Put before i f after → i < length before
    → meant f ≡ known_of (tree_of columns i) → Kept columns before after × Right columns after i
put_right {columns} {before} {i} {f} {after} p l e = (record { long = put_long p; right = λ k r. at k r (eqb k i) refl }, here)
  where
    here : Right columns after i
    here =
        record {
          holds = ap (λ (z : List Facts). meant (facts_at z i)) p.there ∙ ap meant (get_or-set_same before i f no_facts l) ∙ e;
        }

    at : (k : ℕ) → Right columns before k → (b : Bool) → eqb k i ≡ b → Right columns after k
    at k r true q = subst (Right columns after) (sym (eqb-true k i q)) here
    at k r false q =
        record {
          holds = ap (λ (z : List Facts). meant (facts_at z k)) p.there ∙ ap meant (get_or-set_other before i k f no_facts (eqb-false k i q)) ∙ r.holds;
        }

pub gathered_kept : {columns : List ℕ} {one two three : List Facts} {i : ℕ} → Gathered columns one two i → Kept columns two three → Gathered columns one three i
gathered_kept g k =
    record { kept = kept_then g.kept k; here = k.right _ g.here; below = λ j r h. k.right j (g.below j r h) }

-- facts that were read from a right row
pub read_right : {columns : List ℕ} {rows : List Facts} {k : ℕ} {f : Facts} → f ≡ facts_at rows k → Right columns rows k → meant f ≡ known_of (tree_of columns k)
read_right e r = ap meant e ∙ r.holds

-- ---- what walks read

pub noted : {columns : List ℕ} {rows : List Facts} {k : ℕ} {f : Facts} → Noted columns rows → k < length (held columns) → has_row columns k ≡ true
    → f ≡ facts_at rows k → meant f ≡ known_of (tree_of columns k)
noted {k = k} n l h e = read_right e (n.row k l h)

-- a condition has a row, and a term
pub body_had : (t : Tree) → is_condition t ≡ true → (is_condition t || is_term t) ≡ true
body_had t e = ap (λ (b : Bool). b || is_term t) e

pub term_had : (t : Tree) → is_term t ≡ true → (is_condition t || is_term t) ≡ true
term_had t e = go (is_condition t)
  where
    go : (b : Bool) → (b || is_term t) ≡ true
    go true = refl
    go false = e

pub noted_body : {columns : List ℕ} {rows : List Facts} {k : ℕ} {f : Facts} → Noted columns rows → k < length (held columns) → is_condition (tree_of columns k) ≡ true
    → f ≡ facts_at rows k → meant f ≡ condition_known (condition_of columns k)
noted_body n l b e = noted n l (body_had _ b) e ∙ condition_is _ b

pub noted_term : {columns : List ℕ} {rows : List Facts} {k : ℕ} {f : Facts} → Noted columns rows → k < length (held columns) → is_term (tree_of columns k) ≡ true
    → f ≡ facts_at rows k → meant f ≡ term_known (term_of columns k)
noted_term n l b e = noted n l (term_had _ b) e ∙ term_is _ b

-- rows from a call on the last node
pub all_noted : {columns : List ℕ} {before after : List Facts} {i : ℕ} → Formed columns → Gathered columns before after i → length (held columns) ≡ i + 1
    → i < length before → Noted columns after
all_noted {columns} {i = i} form g last l =
    let e = g.kept.long in
    record { fits = omega arith; row = λ k h t. g.below k (every_reached columns form i last k h) t }

-- what a call on a child that is a condition asks for, where the caller's node is t
pub under_body : {columns : List ℕ} {i : ℕ} {k t : ℕ} → Child columns i condition k → i ≡ t → (k < t) × (Has columns k × (is_condition (tree_of columns k) ≡ true))
under_body c e = let d = down c e in (d.0, (d.1, a_body _ c.fits))

-- and of a term
pub under_term : {columns : List ℕ} {i : ℕ} {k t : ℕ} → Child columns i term k → i ≡ t → (k < t) × (Has columns k × (is_term (tree_of columns k) ≡ true))
under_term c e = let d = down c e in (d.0, (d.1, a_term _ c.fits))

-- what a look at a child's row asks for
pub body_row : {columns : List ℕ} {i k : ℕ} → Child columns i condition k → (k < length (held columns)) × (is_condition (tree_of columns k) ≡ true)
body_row c = (c.has.1, a_body _ c.fits)

pub term_row : {columns : List ℕ} {i k : ℕ} → Child columns i term k → (k < length (held columns)) × (is_term (tree_of columns k) ≡ true)
term_row c = (c.has.1, a_term _ c.fits)

pub both_true : (a b : Bool) → (a && b) ≡ true → (a ≡ true) × (b ≡ true)
both_true true b e = (refl, e)
both_true false b e = absurd (true≢false (sym e))

-- The bits of a word of marks to which others are added, whether or not under a condition, and of which some are kept. Assumes nothing.
use mathlib.Core.Path.{◌≡◌, refl, sym, ap, ap₂, ◌∙◌}
use mathlib.Core.Bool.{Bool, true, false, not, ◌||◌, ◌&&◌, and-true, and-false}
use Prim.Native.Nat.{ℕ}
use lib.Bits.{bit_or, bit_and}
use Rattle.paper.specs.Record.{pick}
use Rattle.names.specs.Words.{bit}
use Rattle.known.specs.Rows.{Marked}
use Rattle.names.proofs.Bits.{bit_of_or, bit_of_and, bit_zero}

or_false : (b : Bool) → (b || false) ≡ b
or_false true = refl
or_false false = refl

or_true : (b : Bool) → (b || true) ≡ true
or_true true = refl
or_true false = refl

module _ (m v k : ℕ) where
  pub kept : bit v k ≡ false → bit (bit_or m v) k ≡ bit m k
  kept e = bit_of_or m v k ∙ ap (◌||◌ (bit m k)) e ∙ or_false (bit m k)

  pub added : bit v k ≡ true → bit (bit_or m v) k ≡ true
  added e = bit_of_or m v k ∙ ap (◌||◌ (bit m k)) e ∙ or_true (bit m k)

  pub masked : bit v k ≡ true → bit (bit_and m v) k ≡ bit m k
  masked e = bit_of_and m v k ∙ ap (◌&&◌ (bit m k)) e ∙ and-true (bit m k)

  pub cleared : bit v k ≡ false → bit (bit_and m v) k ≡ false
  cleared e = bit_of_and m v k ∙ ap (◌&&◌ (bit m k)) e ∙ and-false (bit m k)

  pub maybe_kept : (b : Bool) → bit v k ≡ false → bit (bit_or m (pick b v 0)) k ≡ bit m k
  maybe_kept true e = kept e
  maybe_kept false e = bit_of_or m 0 k ∙ ap (◌||◌ (bit m k)) (bit_zero k) ∙ or_false (bit m k)

  pub maybe_added : (b : Bool) → bit v k ≡ true → bit (bit_or m (pick b v 0)) k ≡ (bit m k || b)
  maybe_added true e = added e ∙ sym (or_true (bit m k))
  maybe_added false e = bit_of_or m 0 k ∙ ap (◌||◌ (bit m k)) (bit_zero k)

-- ---- an exists, what is searched, and an aggregate

pub bound_marked : (m : ℕ) (met tied : Bool)
    → Marked (bit_or (bit_or (bit_or m 8) (pick (not met) 2 0)) (pick (not (bit m 0) && not tied) 4 0)) (bit m 0) (bit m 1 || not met) (bit m 2 || (not (bit m 0) && not tied)) true (bit m 4) (bit m 5)
unfolding bit
bound_marked m met tied =
    let b = not (bit m 0) && not tied in
    let x = bit_or m 8 in
    let y = bit_or x (pick (not met) 2 0) in
    record {
      sigils = maybe_kept y 4 0 b refl ∙ maybe_kept x 2 0 (not met) refl ∙ kept m 8 0 refl;
      hards = maybe_kept y 4 1 b refl ∙ maybe_added x 2 1 (not met) refl ∙ ap (λ (z : Bool). z || not met) (kept m 8 1 refl);
      brokens = maybe_added y 4 2 b refl ∙ ap (λ (z : Bool). z || b) (maybe_kept x 2 2 (not met) refl ∙ kept m 8 2 refl);
      bindings = maybe_kept y 4 3 b refl ∙ maybe_kept x 2 3 (not met) refl ∙ added m 8 3 refl;
      unclosings = maybe_kept y 4 4 b refl ∙ maybe_kept x 2 4 (not met) refl ∙ kept m 8 4 refl;
      computings = maybe_kept y 4 5 b refl ∙ maybe_kept x 2 5 (not met) refl ∙ kept m 8 5 refl;
    }

pub searched_marked : (m : ℕ) → Marked (bit_or (bit_and m 33) (pick (bit m 5) 4 0)) (bit m 0) false (bit m 5) false false (bit m 5)
unfolding bit
searched_marked m =
    let b = bit m 5 in
    let x = bit_and m 33 in
    record {
      sigils = maybe_kept x 4 0 b refl ∙ masked m 33 0 refl;
      hards = maybe_kept x 4 1 b refl ∙ cleared m 33 1 refl;
      brokens = maybe_added x 4 2 b refl ∙ ap (λ (z : Bool). z || b) (cleared m 33 2 refl);
      bindings = maybe_kept x 4 3 b refl ∙ cleared m 33 3 refl;
      unclosings = maybe_kept x 4 4 b refl ∙ cleared m 33 4 refl;
      computings = maybe_kept x 4 5 b refl ∙ masked m 33 5 refl;
    }

-- of one that is skipped
module _ (m : ℕ) (met : Bool) where
  abbrev base : ℕ
  base = bit_or (bit_or (bit_and m 3) 32) (pick (not met) 2 0)

  pub skipped_marked : Marked base (bit m 0) (bit m 1 || not met) false false false true
  unfolding bit
  skipped_marked =
      let x = bit_and m 3 in
      let y = bit_or x 32 in
      let b = not met in
      record {
        sigils = maybe_kept y 2 0 b refl ∙ kept x 32 0 refl ∙ masked m 3 0 refl;
        hards = maybe_added y 2 1 b refl ∙ ap (λ (z : Bool). z || b) (kept x 32 1 refl ∙ masked m 3 1 refl);
        brokens = maybe_kept y 2 2 b refl ∙ kept x 32 2 refl ∙ cleared m 3 2 refl;
        bindings = maybe_kept y 2 3 b refl ∙ kept x 32 3 refl ∙ cleared m 3 3 refl;
        unclosings = maybe_kept y 2 4 b refl ∙ kept x 32 4 refl ∙ cleared m 3 4 refl;
        computings = maybe_kept y 2 5 b refl ∙ added x 32 5 refl;
      }

  -- of one that is entered
  pub entered_marked : (wrong closed : Bool) → Marked (bit_or (bit_or (bit_or (bit_or base (bit_and m 20)) 8) (pick wrong 4 0)) (pick (not closed) 16 0))
      (bit m 0) (bit m 1 || not met) (bit m 2 || wrong) true (bit m 4 || not closed) true
  unfolding bit
  entered_marked wrong closed =
      let o = not closed in
      let x = bit_or base (bit_and m 20) in
      let y = bit_or x 8 in
      let z = bit_or y (pick wrong 4 0) in
      let under = skipped_marked in
      record {
        sigils = maybe_kept z 16 0 o refl ∙ maybe_kept y 4 0 wrong refl ∙ kept x 8 0 refl ∙ kept base (bit_and m 20) 0 (cleared m 20 0 refl) ∙ under.sigils;
        hards = maybe_kept z 16 1 o refl ∙ maybe_kept y 4 1 wrong refl ∙ kept x 8 1 refl ∙ kept base (bit_and m 20) 1 (cleared m 20 1 refl) ∙ under.hards;
        brokens = maybe_kept z 16 2 o refl ∙ maybe_added y 4 2 wrong refl ∙ ap (λ (w : Bool). w || wrong) (kept x 8 2 refl ∙ bit_of_or base (bit_and m 20) 2 ∙ ap₂ ◌||◌ under.brokens (masked m 20 2 refl));
        bindings = maybe_kept z 16 3 o refl ∙ maybe_kept y 4 3 wrong refl ∙ added x 8 3 refl;
        unclosings = maybe_added z 16 4 o refl ∙ ap (λ (w : Bool). w || o) (maybe_kept y 4 4 wrong refl ∙ kept x 8 4 refl ∙ bit_of_or base (bit_and m 20) 4 ∙ ap₂ ◌||◌ under.unclosings (masked m 20 4 refl));
        computings = maybe_kept z 16 5 o refl ∙ maybe_kept y 4 5 wrong refl ∙ kept x 8 5 refl ∙ kept base (bit_and m 20) 5 (cleared m 20 5 refl) ∙ under.computings;
      }

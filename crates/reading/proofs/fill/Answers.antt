-- A read that is counted puts what it gave behind what was read before. Assumes nothing.
use Rattle.std.proofs.Common.{rules, ◌≡◌, ℕ, ◌+◌, ◌≤◌, List, ◌++◌, length, take, drop, sym, ap, ◌∙◌, subst, le_refl, drop_at, length-take-le}
use Rattle.std.proofs.lemmas.Slice.{take-put_mid_below}
use Rattle.std.specs.Io.KnownBytes.{Consumes}
use Rattle.std.proofs.KnownBytes.{Consumes-trans}
use borrow.Rule.Slice.PartMut.{put_mid, post_of}
use lib.Seq.{take-add, take-append-le}
use Rattle.reading.proofs.fill.Goals as goal

module _ (a k n : ℕ) (xs ys : List ℕ) (within : a ≤ length xs) (fits : n ≤ length ys) where
  read_behind : take a xs ++ take n ys ≡ take (a + n) (put_mid a k xs ys)
  read_behind =
      let before = take-put_mid_below _ _ _ _ _ (le_refl a) within in
      let behind = drop_at (take a xs) (ys ++ post_of a k xs) a (length-take-le a xs within) in
      sym
      (take-add a n (put_mid a k xs ys) ∙ ap (λ l. l ++ take n (drop a (put_mid a k xs ys))) before ∙ ap (λ l. take a xs ++ take n l) behind ∙
      ap (λ l. take a xs ++ l) (take-append-le n ys (post_of a k xs) fits))

pub loop-count-preserved : goal.loop-count-preserved
loop-count-preserved g c =
    let (within, before) = c.loop-count.invariant in
    let read = c.in_ok-n.ensures in
    (search rules, subst (Consumes _ _) (read_behind _ _ _ _ _ within read.bound.0) (Consumes-trans _ _ _ _ _ before read.bytes.0))

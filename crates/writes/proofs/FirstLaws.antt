-- The whole buffer after a walk: a buffer of one entry tells the first, and one with room for all has them, and the rest as it was. Assumes nothing.
use mathlib.Core.Path.{◌≡◌, refl, ap, ◌∙◌}
use mathlib.Core.List.{List, [], ◌∷◌, ◌++◌, map}
use Prim.Native.Nat.{ℕ, suc, ◌+◌, ◌≤◌}
use native.Mathlib.Omega.{arith}
use borrow.Author.Tests.{eq-eqb, ne_eqb}
use lib.ListN.{length, length-map, get_or, drop}
use lib.Seq.{sets, sets-eq, set_out}
use Rattle.std.specs.Prelude.{Some, Ok}
use Rattle.paper.specs.declared.Finding.{Finding}
use Rattle.paper.specs.TheList.{pack, unpack}
use Rattle.paper.specs.Questions.{first}
use Rattle.paper.proofs.Walks.{All}
use Rattle.paper.proofs.Fitting.{Fits, unpack_pack}
use Rattle.writes.specs.Written.{Wrote, first_of}

-- stores past the end change nothing
sets_out : (l : List ℕ) (i : ℕ) (vs : List ℕ) → length l ≤ i → sets l i vs ≡ l
sets_out l i [] h = refl
sets_out l i (v ∷ vs) h = ap (λ (z : List ℕ). sets z (suc i) vs) (set_out l i v h) ∙ sets_out l (suc i) vs (omega arith)

pub first_told : (fs : List Finding) → All Fits fs → {x count : ℕ} {after : List ℕ} → Wrote fs 0 count (x ∷ []) after → Ok (first_of count (get_or after 0 0)) ≡ first fs
unfolding first_of first
first_told [] a w = rw (eq-eqb _ 0 w.total)
first_told (f ∷ fs) a {x} {count} {after} w =
    rw (ne_eqb count 0 (λ e. let t = w.total in omega arith))
    (ap (λ (l : List ℕ). Ok (Some (unpack (get_or l 0 0)))) (w.put ∙ sets_out (pack f ∷ []) 1 (map pack fs) (omega arith)) ∙ ap (λ (g : Finding). Ok (Some g)) (unpack_pack f a.0))

-- where there is room for all
pub all_told : (fs : List Finding) {count : ℕ} {before after : List ℕ} → length fs ≤ length before → Wrote fs 0 count before after
    → after ≡ map pack fs ++ drop (length (map pack fs)) before
all_told fs {before = before} h w =
    let e = length-map fs pack in
    let long : 0 + length (map pack fs) ≡ length (map pack fs) = omega arith in
    w.put ∙ sets-eq (map pack fs) before 0 (omega arith) ∙ ap (λ (k : ℕ). map pack fs ++ drop k before) long

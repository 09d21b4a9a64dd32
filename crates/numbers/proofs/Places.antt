-- The place of an answer fits 32 bits, whatever the bytes are. Assumes nothing.
use mathlib.Core.Path.{◌≡◌, sym, subst}
use mathlib.Core.List.{List}
use Prim.Native.Nat.{ℕ, ◌≤◌, ◌<◌}
use native.Mathlib.Omega.{arith}
use Rattle.paper.specs.Sets.{Set}
use Rattle.paper.specs.Questions.{Answer, Arithmetic, Listing, answer_numbers, arithmetic_numbers, listing_numbers, scoping, closedness, demands, arithmetic, list}
use Rattle.paper.proofs.Offsets.{scoping_place, closedness_place, demands_place, arithmetic_place, list_place}

fits : (place : ℕ) → place ≤ 262272 → place < 4294967296
fits place h = omega arith

module _ (bytes : List ℕ) where
  pub scoping_fits : (seed : Set) (a : Answer) → a ≡ scoping bytes seed → (answer_numbers a).place < 4294967296
  scoping_fits seed a e = subst (λ (z : Answer). (answer_numbers z).place < 4294967296) (sym e) (fits _ (scoping_place bytes seed))

  pub closedness_fits : (a : Answer) → a ≡ closedness bytes → (answer_numbers a).place < 4294967296
  closedness_fits a e = subst (λ (z : Answer). (answer_numbers z).place < 4294967296) (sym e) (fits _ (closedness_place bytes))

  pub demands_fits : (a : Answer) → a ≡ demands bytes → (answer_numbers a).place < 4294967296
  demands_fits a e = subst (λ (z : Answer). (answer_numbers z).place < 4294967296) (sym e) (fits _ (demands_place bytes))

  pub arithmetic_fits : (a : Arithmetic) → a ≡ arithmetic bytes → (arithmetic_numbers a).place < 4294967296
  arithmetic_fits a e = subst (λ (z : Arithmetic). (arithmetic_numbers z).place < 4294967296) (sym e) (fits _ (arithmetic_place bytes))

  pub list_fits : (room : ℕ) (l : Listing) → l ≡ list bytes room → (listing_numbers l).place < 4294967296
  list_fits room l e = subst (λ (z : Listing). (listing_numbers z).place < 4294967296) (sym e) (fits _ (list_place bytes room))

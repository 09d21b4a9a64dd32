-- Where a name stands in the bytes: a name of any bytes is the stretch that the definitions give it, and the stretch is empty exactly where the name is.
-- Assumes nothing.
use mathlib.Core.Path.{◌≡◌, refl, sym, ap}
use mathlib.Core.Bool.{Bool, true, false}
use mathlib.Core.List.{List, [], ◌∷◌}
use Prim.Native.Nat.{ℕ, zero, suc, ◌+◌, ◌*◌, ◌<◌}
use native.Mathlib.Omega.{arith}
use lib.Dec.{eqb, ltb}
use lib.ListN.{length, take, drop, get_or-eq_default}
use borrow.Author.Tests.{ltb-true, ltb-false}
use Rattle.paper.specs.Record.{pick, name_bytes}
use Rattle.paper.specs.TurnedAway.{Contents, Outcome, refused, accepted, read}
use Rattle.paper.specs.TheList.{trimmed, name_text}
use Rattle.paper.specs.Questions.{name, name_of, Stretch, stretch_of, name_stretch}
use Rattle.paper.proofs.Named.{named, name_has_a_byte}
use Rattle.record.proofs.Lying.{lies}

abbrev at_name : ℕ → ℕ → Stretch
at_name x n = record { at = 3 + 25 * x; len = n }

-- the padding of a name ends it wherever the bytes go on
take_trimmed : (n : ℕ) (b : List ℕ) → take (length (trimmed (take n b))) b ≡ trimmed (take n b)
unfolding trimmed
take_trimmed zero b = refl
take_trimmed (suc n) [] = refl
take_trimmed (suc n) (x ∷ b) = go (eqb x 0) (take_trimmed n b)
  where
    text : Bool → List ℕ
    text z = elim z [ true ↦ [] | false ↦ x ∷ trimmed (take n b) ]

    go : (z : Bool) → take (length (trimmed (take n b))) b ≡ trimmed (take n b) → take (length (text z)) (x ∷ b) ≡ text z
    go true e = refl
    go false e = ap (λ (l : List ℕ). x ∷ l) e

empty : (l : List ℕ) → length l ≡ 0 → l ≡ []
empty [] e = refl
empty (x ∷ l) e = absurd (omega arith)

unknown_text : (c : Contents) (x : ℕ) → ltb x (length c.names) ≡ false → name_text c x ≡ []
unfolding name_text trimmed
unknown_text c x e = let h = ltb-false x (length c.names) e in rw (get_or-eq_default c.names [] {n = x} (omega arith))

module _ (bytes : List ℕ) (x : ℕ) where
  pub stretch_known : 0 < length (name bytes x) → name_stretch bytes x ≡ at_name x (length (name bytes x))
  unfolding name name_of name_stretch stretch_of
  stretch_known h = go (read bytes) h
    where
      among : (c : Contents) (t : Bool) → ltb x (length c.names) ≡ t → 0 < length (name_text c x)
          → pick t (at_name x (length (name_text c x))) (record { at = 0; len = 0 }) ≡ at_name x (length (name_text c x))
      among c true e h = refl
      among c false e h = absurd (let z = ap length (unknown_text c x e) in omega arith)

      go : (o : Outcome) → 0 < length (name_of o x) → stretch_of o x ≡ at_name x (length (name_of o x))
      go (refused n k) h = absurd (omega arith)
      go (accepted c) h = among c (ltb x (length c.names)) refl h

  pub stretch_unknown : length (name bytes x) ≡ 0 → name_stretch bytes x ≡ record { at = 0; len = 0 }
  unfolding name name_of name_stretch stretch_of name_text
  stretch_unknown h = go (read bytes) refl h
    where
      among : (c : Contents) → read bytes ≡ accepted c → (t : Bool) → ltb x (length c.names) ≡ t → length (name_text c x) ≡ 0
          → pick t (at_name x (length (name_text c x))) (record { at = 0; len = 0 }) ≡ record { at = 0; len = 0 }
      among c d true e h = absurd (let z = name_has_a_byte _ (named bytes c d x (ltb-true x (length c.names) e)) in omega arith)
      among c d false e h = refl

      go : (o : Outcome) → read bytes ≡ o → length (name_of o x) ≡ 0 → stretch_of o x ≡ record { at = 0; len = 0 }
      go (refused n k) d h = refl
      go (accepted c) d h = among c d (ltb x (length c.names)) refl h

  pub stretch_holds : 0 < length (name bytes x) → take (length (name bytes x)) (drop (3 + 25 * x) bytes) ≡ name bytes x
  unfolding name name_of name_text
  stretch_holds h = go (read bytes) refl h
    where
      among : (c : Contents) → read bytes ≡ accepted c → (t : Bool) → ltb x (length c.names) ≡ t → 0 < length (name_text c x)
          → take (length (name_text c x)) (drop (3 + 25 * x) bytes) ≡ name_text c x
      among c d true e h =
          let w = (lies bytes c d).name x (ltb-true x (length c.names) e) in
          rw w (take_trimmed name_bytes (drop (3 + 25 * x) bytes))
      among c d false e h = absurd (let z = ap length (unknown_text c x e) in omega arith)

      go : (o : Outcome) → read bytes ≡ o → 0 < length (name_of o x) → take (length (name_of o x)) (drop (3 + 25 * x) bytes) ≡ name_of o x
      go (refused n k) d h = absurd (omega arith)
      go (accepted c) d h = among c d (ltb x (length c.names)) refl h

  pub stretch_empty : length (name bytes x) ≡ 0 → take 0 (drop 0 bytes) ≡ name bytes x
  stretch_empty h = sym (empty (name bytes x) h)

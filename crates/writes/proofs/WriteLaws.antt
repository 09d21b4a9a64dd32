-- Runs of entries follow each other in the lent buffer. Assumes nothing.
use mathlib.Core.Path.{◌≡◌, refl, sym, ap, ◌∙◌, subst}
use mathlib.Core.List.{List, [], ◌∷◌, ◌++◌, map, map-append}
use Prim.Native.Nat.{ℕ, suc, ◌+◌, ◌≤◌}
use native.Mathlib.Nat.{add-zero, add_assoc, le_refl}
use native.Mathlib.Omega.{arith}
use lib.ListN.{length, set, length-append}
use lib.Seq.{sets, length-sets}
use Rattle.paper.specs.declared.Finding.{Finding}
use Rattle.paper.specs.TheList.{pack}
use Rattle.writes.specs.Written.{Room, Wrote}
use Rattle.writes.specs.Walked.{HasRoom, Added}
use Rattle.writes.specs.declared.Entries.{Entries}

sets_append : (l : List ℕ) (i : ℕ) (a b : List ℕ) → sets l i (a ++ b) ≡ sets (sets l i a) (i + length a) b
sets_append l i [] b = ap (λ (k : ℕ). sets l k b) (sym (add-zero i))
sets_append l i (x ∷ a) b =
    sets_append (set l i x) (suc i) a b ∙ ap (λ (k : ℕ). sets (sets (set l i x) (suc i) a) k b) (let e : suc i + length a ≡ i + suc (length a) = omega arith in e)

pub wrote_none : {at : ℕ} {l : List ℕ} → Wrote [] at at l l
wrote_none {at} = record { total = sym (add-zero at); put = refl }

pub wrote_then : {fs gs : List Finding} {at m r : ℕ} {a b c : List ℕ} → Wrote fs at m a b → Wrote gs m r b c → Wrote (fs ++ gs) at r a c
wrote_then {fs} {gs} {at} {m} {r} {a} {b} {c} p q =
    record {
      total = q.total ∙ ap (λ (k : ℕ). k + length gs) p.total ∙ add_assoc at (length fs) (length gs) ∙ ap (λ (k : ℕ). at + k) (sym (length-append fs gs));
      put =
          q.put ∙ ap (λ (l : List ℕ). sets l m (map pack gs)) p.put ∙ ap (λ (k : ℕ). sets (sets a at (map pack fs)) k (map pack gs)) (p.total ∙ long)
          ∙ sym (sets_append a at (map pack fs) (map pack gs)) ∙ ap (sets a at) (sym (map-append pack fs gs));
    }
  where
    long : at + length fs ≡ at + length (map pack fs)
    long = ap (λ (k : ℕ). at + k) (sym (lib.ListN.length-map fs pack))

pub wrote_is : {fs gs : List Finding} {at r : ℕ} {a b : List ℕ} → gs ≡ fs → Wrote fs at r a b → Wrote gs at r a b
wrote_is {at = at} {r = r} {a = a} {b = b} e w = subst (λ (z : List Finding). Wrote z at r a b) (sym e) w

pub added_none : {e : Entries} → Added [] e e
added_none = record { same = refl; wrote = wrote_none }

pub added_then : {fs gs : List Finding} {a b c : Entries} → Added fs a b → Added gs b c → Added (fs ++ gs) a c
added_then p q = record { same = q.same ∙ p.same; wrote = wrote_then p.wrote q.wrote }

pub added_is : {fs gs : List Finding} {a b : Entries} → gs ≡ fs → Added fs a b → Added gs a b
added_is {a = a} {b = b} e w = subst (λ (z : List Finding). Added z a b) (sym e) w

-- the buffer stays as long as it was
pub wrote_length : {fs : List Finding} {at r : ℕ} {a b : List ℕ} → Wrote fs at r a b → length b ≡ length a
wrote_length {fs} {at} {r} {a} {b} w = ap (λ (l : List ℕ). length l) w.put ∙ length-sets a at (map pack fs)

-- ---- room for a run is room for each of its parts

pub room_is : {fs gs : List Finding} {at : ℕ} → gs ≡ fs → Room gs at → Room fs at
room_is {at = at} e h = subst (λ (z : List Finding). Room z at) e h

pub room_first : (fs gs : List Finding) {at : ℕ} → Room (fs ++ gs) at → Room fs at
room_first fs gs h = let e = length-append fs gs in let l = h.left in record { left = omega arith }

-- from wherever the rest may be written on, up to where it belongs
pub room_rest : (fs gs : List Finding) {at m k : ℕ} {a b : List ℕ} → Wrote fs at m a b → k ≤ m → Room (fs ++ gs) at → Room gs k
room_rest fs gs w h room = let e = length-append fs gs in let t = w.total in let l = room.left in record { left = omega arith }

pub room_after : (fs gs : List Finding) {a b : Entries} → Added fs a b → HasRoom (fs ++ gs) a → HasRoom gs b
room_after fs gs p room = room_rest fs gs p.wrote (le_refl _) room

-- A new name over the reader's table says what the definitions say of it over the names read so far. Assumes nothing.
use mathlib.Core.Path.{◌≡◌, refl, sym, ap, ◌∙◌, fun_ext}
use mathlib.Core.Bool.{Bool, true, false, ◌&&◌, ◌||◌, and-true, and-false, or-false, false≢true}
use mathlib.Core.List.{List, [], ◌∷◌, ◌++◌}
use Prim.Native.Nat.{ℕ, zero, suc, ◌-◌, ◌≤◌, ◌<◌}
use native.Mathlib.Omega.{arith}
use native.Mathlib.Decide.{dec_lt, ℕ_discrete}
use lib.Dec.{eqb}
use lib.ListN.{length, get_or, take, length-append, get_or-append, get_or-eq_default}
use lib.Seq.{get_or-take}
use borrow.Author.Tests.{eq-eqb, ne_eqb}
use Rattle.paper.specs.Sets.{Set, only, ◌∪◌}
use Rattle.paper.specs.Record.{pick, is_name, precedes, ascii}
use Rattle.paper.specs.TurnedAway.{SoFar, Step, on, stop, refused, last_name, read_name}
use Rattle.paper.specs.Scoping.{is_word, is_reserved, reserved}
use Rattle.paper.proofs.Runs.{after_name, last_of}
use Rattle.std.specs.Prelude.{Ok, Err}
use Rattle.std.specs.declared.result.Result.{Result}
use Rattle.memory.specs.Faults.{number}
use Rattle.memory.specs.declared.Fault.{Fault}
use Rattle.memory.specs.declared.Fault.TheVariants.{NotAName, NamesNotAscending}
use Rattle.memory.specs.Naming.{named_in, reserved_as}

-- ---- reserved names

pub reserved_yes : (n : List ℕ) (x : ℕ) → is_reserved n ≡ true → only x ≡ reserved_as n x
unfolding only reserved_as
reserved_yes n x e = fun_ext (λ k. sym (ap (λ (t : Bool). eqb k x && t) e ∙ and-true (eqb k x)))

pub reserved_no : (a : Set) (n : List ℕ) (x : ℕ) → is_reserved n ≡ false → a ≡ a ∪ reserved_as n x
unfolding ◌∪◌ reserved_as
reserved_no a n x e = fun_ext (λ k. sym (ap (λ (t : Bool). a k || (eqb k x && t)) e ∙ ap (λ (t : Bool). a k || t) (and-false (eqb k x)) ∙ or-false (a k)))

no_word : is_reserved [] ≡ false
unfolding is_reserved is_word ascii
no_word = refl

pub reserved_more : (names : List (List ℕ)) (n : List ℕ) → reserved (names ++ (n ∷ [])) ≡ reserved names ∪ reserved_as n (length names)
unfolding reserved ◌∪◌ reserved_as
reserved_more names n = fun_ext (λ k. at k (dec_lt k (length names)) (ℕ_discrete k (length names)))
  where
    at : (k : ℕ) → Dec (k < length names) → Dec (k ≡ length names)
        → is_reserved (get_or (names ++ (n ∷ [])) k []) ≡ (is_reserved (get_or names k []) || (eqb k (length names) && is_reserved n))
    at k (yes h) d =
        rw (get_or-append names (n ∷ []) [] k h, ne_eqb k (length names) (λ e. omega arith)) (sym (or-false (is_reserved (get_or names k []))))
    at k (no h) (yes e) = rw (last_of names n [] k e, get_or-eq_default names [] {n = k} (omega arith), no_word, eq-eqb k (length names) e)
    at k (no h) (no g) =
        rw (
          get_or-eq_default (names ++ (n ∷ [])) [] {n = k} (let l = length-append names (n ∷ []) in omega arith),
          get_or-eq_default names [] {n = k} (omega arith),
          no_word,
          ne_eqb k (length names) g,
        )

-- ---- a new name's fault

after_nothing : (n : List ℕ) → is_name n ≡ true → precedes [] n ≡ true
unfolding is_name precedes
after_nothing [] e = absurd (false≢true e)
after_nothing (x ∷ n) e = refl

-- what is done where a new name was found to be so
abbrev pub taken_on : List ℕ → SoFar → Result (Unit {0}) Fault → Step
taken_on n so r = elim r [ Ok t ↦ on (after_name n so) | Err f ↦ stop (refused (number f) so.at) ]

module _ (n : List ℕ) (so : SoFar) (table : List (List ℕ)) (count : ℕ) (small : count ≤ length table) (same : so.names ≡ take count table) (long : length so.names ≡ count) where
  last_in : (m : ℕ) → count ≡ suc m → last_name so.names ≡ get_or table (count - 1) []
  unfolding last_name
  last_in m e = rw (long, same) (get_or-take count table (count - 1) [] (omega arith))

  last_none : count ≡ 0 → last_name so.names ≡ []
  unfolding last_name
  last_none e = get_or-eq_default so.names [] {n = length so.names - 1} (omega arith)

  pub name_step : read_name n so ≡ taken_on n so (named_in n table count)
  unfolding read_name named_in
  name_step = go (is_name n) refl count refl
    where
      go : (t : Bool) → is_name n ≡ t → (m : ℕ) → count ≡ m
          → pick t (pick (precedes (last_name so.names) n) (on (after_name n so)) (stop (refused 5 so.at))) (stop (refused 4 so.at))
          ≡ taken_on n so (pick t (pick (eqb m 0) (Ok tt) (pick (precedes (get_or table (m - 1) []) n) (Ok tt) (Err NamesNotAscending))) (Err NotAName))
      go false e m d = refl
      go true e zero d = rw (last_none d, after_nothing n e)
      go true e (suc m) d = rw (last_in m d, d, ne_eqb (suc m) 0 (λ z. omega arith)) (two (precedes (get_or table (suc m - 1) []) n))
        where
          two : (b : Bool) → pick b (on (after_name n so)) (stop (refused 5 so.at)) ≡ taken_on n so (pick b (Ok tt) (Err NamesNotAscending))
          two true = refl
          two false = refl

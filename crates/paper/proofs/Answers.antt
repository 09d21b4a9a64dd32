-- What the answers of the questions say. A check accepts exactly when its part of the list is empty, and else refuses with the part's first entry; the list is
-- the three parts, and no other list holds exactly what is unmet; and what the list's answer says of the lent buffer.
-- Assumes nothing.
use mathlib.Core.Path.{◌≡◌, refl, sym, ap, ap₂, ◌∙◌, subst}
use mathlib.Core.Logic.{◌↔◌}
use mathlib.Core.Bool.{Bool, true, false}
use mathlib.Core.List.{List, [], ◌∷◌, ◌++◌, head-eq_of_cons-eq}
use Prim.Native.Nat.{ℕ, ◌<◌, ◌≤◌}
use native.Mathlib.Omega.{arith}
use lib.Dec.{leb}
use lib.ListN.{length, take, drop, length-append, length-drop, take-append-drop}
use store.Seg.{take-pre, drop-pre}
use borrow.Author.Tests.{leb-true, leb-false, le-leb}
use Rattle.std.specs.Prelude.{Some, None, Ok, Err}
use Rattle.paper.specs.declared.Finding.{Finding}
use Rattle.paper.specs.declared.Refusal.{Refusal}
use Rattle.paper.specs.declared.Unlisted.TheVariants.{NoRoom, Refused}
use Rattle.paper.specs.Sets.{Set, none}
use Rattle.paper.specs.Record.{pick}
use Rattle.paper.specs.TurnedAway.{Contents, Outcome, refused, accepted, refusal, read}
use Rattle.paper.specs.Places.{Exactly}
use Rattle.paper.specs.Scoping.{ScopingUnmet, scoping_part}
use Rattle.paper.specs.Demands.{ClosednessUnmet, closedness_part, DemandUnmet, demands_part}
use Rattle.paper.specs.TheList.{the_list, packed}
use Rattle.paper.specs.Questions.{Answer, Listing, first, answered, scoping, closedness, demands, listing_of, list, buffer_of, list_buffer}
use Rattle.paper.proofs.Ascending.{exactly_one}
use Rattle.paper.proofs.Walks.{nil_cons}
use Rattle.paper.proofs.Exact.{scoping_exact, closedness_exact, demands_exact}
use Rattle.paper.proofs.WellFormed.{well_formed}
use Rattle.paper.proofs.Once.{Distinct, once_each}
use Rattle.paper.proofs.Parts.{ruled, list_scoping, list_closedness, list_demands}

-- ---- a check and its part of the list

-- the answer accepts exactly when there is no entry, refuses with an entry exactly when that is the first, and is no refusal by the reader
pub record Tells (entries : List Finding) (r : Answer) : Type 0 where
  pub accepts : (r ≡ Ok None) ↔ (entries ≡ [])
  pub refuses : (f : Finding) → (r ≡ Ok (Some f)) ↔ ((rest : List Finding) × (entries ≡ f ∷ rest))
  pub reads : (refusal : Refusal) → r ≡ Err refusal → ⊥

first_tells : (entries : List Finding) → Tells entries (first entries)
unfolding first
first_tells [] =
    record {
      accepts = (λ e. refl, λ e. refl);
      refuses = λ f. (λ e. absurd (let z : ◌≡◌ {A = ℕ} 0 1 = cc in omega arith), λ w. absurd (nil_cons f w.0 w.1));
      reads = λ refusal e. let z : ◌≡◌ {A = ℕ} 0 1 = cc in omega arith;
    }
first_tells (g ∷ entries) =
    record {
      accepts = (λ e. absurd (let z : ◌≡◌ {A = ℕ} 0 1 = cc in omega arith), λ e. absurd (nil_cons g entries (sym e)));
      refuses = λ f. (λ e. (entries, ap (λ (x : Finding). x ∷ entries) (same f e)), λ w. ap (λ (g : Finding). Ok (Some g)) (head-eq_of_cons-eq w.1));
      reads = λ refusal e. let z : ◌≡◌ {A = ℕ} 0 1 = cc in omega arith;
    }
  where
    same : (f : Finding) → ◌≡◌ {A = Answer} (Ok (Some g)) (Ok (Some f)) → g ≡ f
    same f e = cc

pub answered_tells : (part : Contents → List Finding) (o : Outcome) (c : Contents) → o ≡ accepted c → Tells (part c) (answered part o)
unfolding answered
answered_tells part o c e = subst (λ (z : Outcome). Tells (part c) (answered part z)) (sym e) (first_tells (part c))

pub scoping_tells : (bytes : List ℕ) (seed : Set) (c : Contents) → read bytes ≡ accepted c → Tells (scoping_part c seed) (scoping bytes seed)
unfolding scoping
scoping_tells bytes seed = answered_tells (λ c. scoping_part c seed) (read bytes)

pub closedness_tells : (bytes : List ℕ) (c : Contents) → read bytes ≡ accepted c → Tells (closedness_part c) (closedness bytes)
unfolding closedness
closedness_tells bytes = answered_tells closedness_part (read bytes)

pub demands_tells : (bytes : List ℕ) (c : Contents) → read bytes ≡ accepted c → Tells (demands_part c) (demands bytes)
unfolding demands
demands_tells bytes = answered_tells demands_part (read bytes)

-- with no seed a check speaks of the list itself: its part is those of the list's entries that have the part's rules
pub list_tells : (bytes : List ℕ) (c : Contents) → read bytes ≡ accepted c
    → Tells (ruled 20 27 (the_list c)) (scoping bytes none) × Tells (ruled 28 28 (the_list c)) (closedness bytes)
    × Tells (ruled 30 32 (the_list c)) (demands bytes)
list_tells bytes c e = (
  subst (λ (l : List Finding). Tells l (scoping bytes none)) (sym (list_scoping c)) (scoping_tells bytes none c e),
  subst (λ (l : List Finding). Tells l (closedness bytes)) (sym (list_closedness c)) (closedness_tells bytes c e),
  subst (λ (l : List Finding). Tells l (demands bytes)) (sym (list_demands c)) (demands_tells bytes c e),
)

-- ---- the list and the three checks

-- the first of two answers that does not accept
abbrev pub or_else : Answer → Answer → Answer
or_else (Ok None) b = b
or_else (Ok (Some f)) b = Ok (Some f)
or_else (Err refusal) b = Err refusal

first_append : (a b : List Finding) → first (a ++ b) ≡ or_else (first a) (first b)
unfolding first
first_append [] b = refl
first_append (f ∷ a) b = refl

-- the list's first entry is that of the first check, in the order of its parts, that does not accept; and the list is empty where all three accept
pub list_first : (bytes : List ℕ) → answered the_list (read bytes) ≡ or_else (scoping bytes none) (or_else (closedness bytes) (demands bytes))
unfolding scoping closedness demands
list_first bytes = go (read bytes)
  where
    go : (o : Outcome)
        → answered the_list o ≡ or_else (answered (λ c. scoping_part c none) o) (or_else (answered closedness_part o) (answered demands_part o))
    go (refused number offset) = unfold answered in refl
    go (accepted c) =
        unfold answered the_list in
        (first_append (scoping_part c none) (closedness_part c ++ demands_part c)
        ∙ ap (or_else (first (scoping_part c none))) (first_append (closedness_part c) (demands_part c)))

-- ---- exactness

pub scoping_only : (c : Contents) (seed : Set) (l : List Finding) → Exactly (ScopingUnmet c seed) l → l ≡ scoping_part c seed
scoping_only c seed l e = exactly_one (ScopingUnmet c seed) l (scoping_part c seed) e (scoping_exact c seed)

pub closedness_only : (c : Contents) (l : List Finding) → Exactly (ClosednessUnmet c) l → l ≡ closedness_part c
closedness_only c l e = exactly_one (ClosednessUnmet c) l (closedness_part c) e (closedness_exact c)

pub demands_only : (c : Contents) (l : List Finding) → Exactly (DemandUnmet c) l → l ≡ demands_part c
demands_only c l e = exactly_one (DemandUnmet c) l (demands_part c) e (demands_exact c)

-- "the list holds exactly these, once and in order": three parts, each with exactly what is unmet of its rules
pub record ExactList (c : Contents) (l : List Finding) : Type 0 where
  pub of_scoping : List Finding
  pub of_closedness : List Finding
  pub of_demands : List Finding
  pub parts : l ≡ of_scoping ++ (of_closedness ++ of_demands)
  pub scoping_holds : Exactly (ScopingUnmet c none) of_scoping
  pub closedness_holds : Exactly (ClosednessUnmet c) of_closedness
  pub demands_holds : Exactly (DemandUnmet c) of_demands

pub list_exact : (c : Contents) → ExactList c (the_list c)
unfolding the_list
list_exact c =
    record {
      of_scoping = scoping_part c none;
      of_closedness = closedness_part c;
      of_demands = demands_part c;
      parts = refl;
      scoping_holds = scoping_exact c none;
      closedness_holds = closedness_exact c;
      demands_holds = demands_exact c;
    }

pub list_only : (c : Contents) (l : List Finding) → ExactList c l → l ≡ the_list c
unfolding the_list
list_only c l e =
    e.parts
    ∙ ap₂ {C = List Finding} ◌++◌ (scoping_only c none e.of_scoping e.scoping_holds)
    (ap₂ {C = List Finding} ◌++◌ (closedness_only c e.of_closedness e.closedness_holds) (demands_only c e.of_demands e.demands_holds))

-- no number stands twice in what is written
pub list_once : (bytes : List ℕ) (c : Contents) → read bytes ≡ accepted c → Distinct (packed c)
list_once bytes c e = once_each c (well_formed bytes c e)

-- ---- the list's answer and the lent buffer

-- success: the count is the list's length, the first entries are the list, and those after them are as before
pub record Success (o : Outcome) (before after : List ℕ) (count : ℕ) : Type 0 where
  pub contents : Contents
  pub holds : o ≡ accepted contents
  pub counted : count ≡ length (packed contents)
  pub fits : count ≤ length before
  pub written : take count after ≡ packed contents
  pub kept : drop count after ≡ drop count before

-- 50: the number is the list's length, which is more than there is room for, and nothing is written
pub record TooLong (o : Outcome) (before after : List ℕ) (needed : ℕ) : Type 0 where
  pub contents : Contents
  pub holds : o ≡ accepted contents
  pub counted : needed ≡ length (packed contents)
  pub over : length before < needed
  pub unwritten : after ≡ before

-- a refusal: it is the reader's, and nothing is written
pub record TurnedBack (o : Outcome) (before after : List ℕ) (number offset : ℕ) : Type 0 where
  pub holds : o ≡ refused number offset
  pub unwritten : after ≡ before

-- what an answer says of the bytes, the buffer before and the buffer after
abbrev pub Says : Outcome → List ℕ → List ℕ → Listing → Type 0
Says o before after (Ok count) = Success o before after count
Says o before after (Err (NoRoom needed)) = TooLong o before after needed
Says o before after (Err (Refused r)) = TurnedBack o before after r.number r.offset

pub list_says : (bytes before : List ℕ) → Says (read bytes) before (list_buffer bytes before) (list bytes (length before))
unfolding list list_buffer listing_of buffer_of
list_says bytes before = said (read bytes)
  where
    fitting : (c : Contents) (t : Bool) → leb (length (packed c)) (length before) ≡ t
        → Says (accepted c) before (pick t (packed c ++ drop (length (packed c)) before) before)
        (pick t (Ok (length (packed c))) (Err (NoRoom (length (packed c)))))
    fitting c true d =
        record {
          contents = c;
          holds = refl;
          counted = refl;
          fits = leb-true (length (packed c)) (length before) d;
          written = take-pre (packed c) (drop (length (packed c)) before);
          kept = drop-pre (packed c) (drop (length (packed c)) before);
        }
    fitting c false d =
        record { contents = c; holds = refl; counted = refl; over = leb-false (length (packed c)) (length before) d; unwritten = refl }

    said : (o : Outcome) → Says o before (buffer_of o before) (listing_of o (length before))
    said (refused number offset) = record { holds = refl; unwritten = refl }
    said (accepted c) = fitting c (leb (length (packed c)) (length before)) refl

list_said : (bytes before : List ℕ) (r : Listing) → list bytes (length before) ≡ r → Says (read bytes) before (list_buffer bytes before) r
list_said bytes before r e = subst (Says (read bytes) before (list_buffer bytes before)) e (list_says bytes before)

-- "Success returns the count and changes only that many entries, the first ones"
pub list_success : (bytes before : List ℕ) (count : ℕ) → list bytes (length before) ≡ Ok count
    → Success (read bytes) before (list_buffer bytes before) count
list_success bytes before count = list_said bytes before (Ok count)

-- "50, after them, returns the entries needed. None writes anything."
pub list_too_long : (bytes before : List ℕ) (needed : ℕ) → list bytes (length before) ≡ Err (NoRoom needed)
    → TooLong (read bytes) before (list_buffer bytes before) needed
list_too_long bytes before needed = list_said bytes before (Err (NoRoom needed))

pub list_turned_back : (bytes before : List ℕ) (number offset : ℕ) → list bytes (length before) ≡ Err (Refused (refusal number offset))
    → TurnedBack (read bytes) before (list_buffer bytes before) number offset
list_turned_back bytes before number offset = list_said bytes before (Err (Refused (refusal number offset)))

-- and a list that there is room for is written
pub list_writes : (bytes before : List ℕ) (c : Contents) → read bytes ≡ accepted c → length (packed c) ≤ length before
    → (list bytes (length before) ≡ Ok (length (packed c))) × (list_buffer bytes before ≡ packed c ++ drop (length (packed c)) before)
unfolding list list_buffer listing_of buffer_of
list_writes bytes before c e h = let d = le-leb (length (packed c)) (length before) h in (rw (e, d), rw (e, d))

-- the buffer keeps its length
pub buffer_long : (bytes before : List ℕ) → length (list_buffer bytes before) ≡ length before
buffer_long bytes before = go (list bytes (length before)) (list_says bytes before)
  where
    go : (r : Listing) → Says (read bytes) before (list_buffer bytes before) r → length (list_buffer bytes before) ≡ length before
    go (Ok count) w =
        let a = ap length (take-append-drop count (list_buffer bytes before)) in
        let b = length-append (take count (list_buffer bytes before)) (drop count (list_buffer bytes before)) in
        let c = ap length w.written in
        let d = ap length w.kept in
        let e = length-drop count before in
        let f = w.fits in
        let g = w.counted in
        omega arith
    go (Err (NoRoom needed)) w = ap length w.unwritten
    go (Err (Refused r)) w = ap length w.unwritten

-- How long each part of an accepted record's list can be: no node has more than 256 findings of one part, and a record has no more than 512 nodes.
-- Assumes nothing.
use mathlib.Core.Path.{refl}
use mathlib.Core.Bool.{Bool, true, false, cond}
use mathlib.Core.List.{List, [], ◌∷◌, ◌++◌}
use Prim.Native.Nat.{ℕ, zero, suc, ◌≤◌}
use native.Mathlib.Omega.{arith}
use lib.ListN.{length, length-append, length-map}
use Rattle.paper.specs.declared.Finding.{Finding}
use Rattle.paper.specs.Sets.{Set, none, members}
use Rattle.paper.specs.TurnedAway.{Contents}
use Rattle.paper.specs.Tree.{root_no, root}
use Rattle.paper.specs.FreeAndRestricted.{free}
use Rattle.paper.specs.Places.{at_cell, findings}
use Rattle.paper.specs.Scoping.{scoping_part}
use Rattle.paper.specs.Demands.{closedness_broken, closedness_part, demands_part}
use Rattle.paper.specs.TheList.{the_list}
use Rattle.paper.proofs.Walks.{picked}
use Rattle.paper.proofs.Forests.{sum_same}
use Rattle.paper.proofs.WellFormed.{WellFormed}
use Rattle.paper.proofs.Tallies.{Tally, scoping_tally, demands_tally}

-- ---- a broken rule

pub members_length : (s : Set) (n : ℕ) → length (members s n) ≤ n
unfolding members
members_length s zero = omega arith
members_length s (suc n) = omega (arith, length-append (members s n) (cond (s n) (n ∷ []) []), members_length s n, last (s n))
  where
    last : (b : Bool) → length (cond b (n ∷ []) []) ≤ 1
    last true = omega arith
    last false = omega arith

by_length : Tally
unfolding findings at_cell
by_length =
    record {
      of = length;
      of_none = refl;
      of_both = length-append;
      most = λ rule k. 128;
      most_at_cell = λ rule k. 1;
      itself_most = λ rule n. omega arith;
      names_most = λ rule n s. rw (length-map (members s 128) _) (members_length s 128);
      cell_most = λ rule s c h. picked (λ (l : List Finding). length l ≤ 1) (s c.name.0) _ [] (omega arith) (omega arith);
    }

-- ---- the parts

pub scoping_length : (c : Contents) → WellFormed c → (seed : Set) → length (scoping_part c seed) ≤ 131072
unfolding by_length
scoping_length c f seed =
    omega (arith, scoping_tally by_length (λ k. 256) (λ k. omega arith) c f seed, sum_same 256 (length c.nodes), f.few_nodes)

pub demands_length : (c : Contents) → WellFormed c → length (demands_part c) ≤ 131072
unfolding by_length
demands_length c f = omega (arith, demands_tally by_length (λ k. 256) (λ k. omega arith) c f, sum_same 256 (length c.nodes), f.few_nodes)

pub closedness_length : (c : Contents) → length (closedness_part c) ≤ 128
unfolding closedness_part closedness_broken by_length
closedness_length c = by_length.names_most 28 (root_no c) (free (root c))

pub list_length : (c : Contents) → WellFormed c → length (the_list c) ≤ 262272
unfolding the_list
list_length c f =
    omega (
      arith,
      length-append (scoping_part c none) (closedness_part c ++ demands_part c),
      length-append (closedness_part c) (demands_part c),
      scoping_length c f none,
      closedness_length c,
      demands_length c f,
    )

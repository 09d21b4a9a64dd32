-- What holds of each finding of a walk, and so of each entry of a part of the list: what holds at a place goes down with the walk, and has each rule that is
-- broken there find only what is fine. Assumes nothing.
use mathlib.Core.List.{List, [], ◌∷◌, map}
use Prim.Native.Nat.{ℕ, ◌<◌}
use Rattle.std.specs.Prelude.{Some, None}
use Rattle.paper.specs.declared.Finding.{Finding}
use Rattle.paper.specs.Record.{name_no}
use Rattle.paper.specs.Sets.{Set, none, members}
use Rattle.paper.specs.TurnedAway.{Contents}
use Rattle.paper.specs.Tree.{root}
use Rattle.paper.specs.FreeAndRestricted.{holds_sigil}
use Rattle.paper.specs.Places.{condition, Place, asked_at, Broken, itself, for_names, at_cells, gather, at_cell, findings, found}
use Rattle.paper.specs.Scoping.{reserved, scope_below, scope_broken, scoping_part}
use Rattle.paper.specs.Demands.{demand_below, demand_broken, demands_part}
use Rattle.paper.proofs.Entries.{members_get}
use Rattle.paper.proofs.Walks.{picked, All, all_map, all_unless, all_append, all_of, extent, found_by}
use Rattle.paper.proofs.Exact.{extent_pos, scope_shrinks, demand_shrinks}

-- ---- a broken rule

all_gather : {A B : Type 0} (C : B → Type 0) (f : A → List B) (l : List A) → All (λ a. All C (f a)) l → All C (gather f l)
unfolding gather
all_gather C f [] a = tt
all_gather C f (x ∷ l) a = all_append C (f x) (gather f l) a.0 (all_gather C f l a.1)

all_of_map : {A B : Type 0} (C : B → Type 0) (f : A → B) (l : List A) → All (λ a. C (f a)) l → All C (map f l)
all_of_map C f [] a = tt
all_of_map C f (x ∷ l) a = (a.0, all_of_map C f l a.1)

module _ (Fine : Finding → Type 0) where
  -- it finds only what is fine, whichever names are in its set
  abbrev pub Finds : Broken → Type 0
  Finds (itself r n) = Fine (record { rule = r; node = n; name = None })
  Finds (for_names r n s) = (x : ℕ) → x < 128 → Fine (record { rule = r; node = n; name = Some (name_no x) })
  Finds (at_cells r s cs) = All (λ c. Fine (record { rule = r; node = c.node; name = Some c.name })) cs

  pub findings_all : (b : Broken) → Finds b → All Fine (findings b)
  unfolding findings gather at_cell
  findings_all (itself r n) h = (h, tt)
  findings_all (for_names r n s) h = all_of_map Fine _ (members s 128) (all_of _ (members s 128) (λ x m. h x (members_get s 128 x m).0))
  findings_all (at_cells r s cs) h = all_gather Fine (at_cell r s) cs (all_map (λ c k. picked (All Fine) (s c.name.0) _ [] (k, tt) tt) cs h)

  -- ---- a walk

  module _ (Holds : Place → Type 0) where
    found_all : (below : Place → List Place) (broken : Place → List Broken) → ((p : Place) → All (λ q. extent q < extent p) (below p))
        → ((p : Place) → Holds p → All Holds (below p)) → ((p : Place) → Holds p → All Finds (broken p)) → (p : Place) → Holds p → All Fine (found below broken p)
    found_all below broken shrinks goes_down here =
        found_by below broken extent_pos shrinks Holds goes_down (λ p l. All Fine l)
        (λ p h a.
        all_append Fine (gather findings (broken p)) (gather (found below broken) (below p))
        (all_gather Fine findings (broken p) (all_map (λ b k. findings_all b k) (broken p) (here p h))) (all_gather Fine (found below broken) (below p) a))

    pub scoping_each : (c : Contents) (seed : Set) → ((p : Place) → Holds p → All Holds (scope_below p))
        → ((p : Place) → Holds p → All Finds (scope_broken (reserved c.names) p)) → Holds (asked_at (condition (root c)) seed) → All Fine (scoping_part c seed)
    unfolding scoping_part
    scoping_each c seed goes_down here = found_all scope_below (scope_broken (reserved c.names)) scope_shrinks goes_down here (asked_at (condition (root c)) seed)

    pub demands_each : (c : Contents) → ((p : Place) → Holds p → All Holds (demand_below p)) → ((p : Place) → Holds p → All Finds (demand_broken p))
        → Holds (asked_at (condition (root c)) none) → All Fine (demands_part c)
    unfolding demands_part
    demands_each c goes_down here h =
        all_unless Fine (holds_sigil (root c)) _ (found_all demand_below demand_broken demand_shrinks goes_down here (asked_at (condition (root c)) none) h)

-- Each question's answer to accepted bytes, from what stands at the root: what a walk from there writes is the part of the definitions, and there is room to
-- count it. Assumes nothing.
use mathlib.Core.Path.{◌≡◌, sym, ap, ap₂, ◌∙◌, subst}
use mathlib.Core.List.{List, [], ◌∷◌, ◌++◌}
use Prim.Native.Nat.{ℕ, ◌+◌, ◌*◌, ◌-◌, ◌<◌, ◌≤◌}
use lib.ListN.{length, length-map, get_or}
use borrow.Author.Tests.{le-leb, lt-leb}
use native.Mathlib.Omega.{arith}
use Rattle.std.specs.Prelude.{Ok, Err}
use Rattle.paper.specs.declared.NodeNo.{NodeNo}
use Rattle.paper.specs.declared.Node.{Node}
use Rattle.paper.specs.declared.Finding.{Finding}
use Rattle.names.specs.declared.Names.{Names}
use Rattle.paper.specs.declared.Unlisted.TheVariants.{NoRoom}
use Rattle.paper.specs.Record.{node_no}
use Rattle.paper.specs.TurnedAway.{read}
use Rattle.paper.specs.Sets.{Set, none}
use Rattle.paper.specs.Tree.{Condition, as_condition, tree_at, root_no, root}
use Rattle.paper.specs.FreeAndRestricted.{free}
use Rattle.paper.specs.Places.{condition, for_names, findings}
use Rattle.paper.specs.Scoping.{scoping_part}
use Rattle.paper.specs.Demands.{closedness_broken, closedness_part, demands_part, has_arith}
use Rattle.paper.specs.TheList.{the_list, pack, packed}
use Rattle.paper.specs.Questions.{answered, arithmetic_of, arithmetic, listing_of, list, buffer_of, list_buffer}
use Rattle.paper.proofs.Walks.{All}
use Rattle.paper.proofs.Lengths.{scoping_length, closedness_length, demands_length, list_length}
use Rattle.paper.proofs.Bound.{list_bounded}
use Rattle.paper.proofs.Fitting.{Fits, scoping_fits, closedness_fits, demands_fits}
use Rattle.names.specs.Words.{mem}
use Rattle.memory.specs.Columns.{Copies}
use Rattle.record.specs.Stored.{contents, held, Has}
use Rattle.record.proofs.Verdicts.{Told, counts_are}
use Rattle.record.proofs.StoredLaws.{holds, formed}
use Rattle.trees.specs.Trees.{condition_of}
use Rattle.writes.specs.Written.{Room, Wrote, first_of}
use Rattle.writes.proofs.WriteLaws.{wrote_is, room_is}
use Rattle.writes.proofs.FirstLaws.{first_told, all_told}
use Rattle.scoping.specs.Scoped.{scoped}
use Rattle.owed.specs.Demanded.{demanded}
use Rattle.listing.specs.declared.Check.{Check}
use Rattle.listing.specs.declared.Check.TheVariants.{Scoping, Closedness, Demands}
use Rattle.listing.specs.Parts.{Last, demands_of, part_of, listed, Filled}
use Rattle.accepted.specs.Ready.{Ready, Counted, Reserved, ReservedFor, part_asked}

module _ (bytes starts : List ℕ) {k : ℕ} (p : Ready bytes starts k) where
  told : Told bytes p.names k
  told = counts_are bytes p.counted

  pub some_root : (0 < k) × (k ≤ 512)
  some_root =
      let long = told.nodes_are in
      let some = told.formed.some_node in
      let few = told.formed.few_nodes in
      (omega arith, omega arith)

  pub counts_small : {names : ℕ} → Counted bytes names k → (names ≤ 128) × (k ≤ 512)
  counts_small c =
      let t = counts_are bytes c in
      let n = t.names_are in
      let f = t.formed.few_names in
      (omega arith, some_root.1)

  last_node : (i : NodeNo) → i ≡ node_no (k - 1) → root_no (contents bytes) ≡ i
  unfolding root_no
  last_node i d = ap (λ (m : ℕ). node_no (m - 1)) told.nodes_are ∙ sym d

  module _ {columns : List ℕ} (copies : Copies bytes starts k columns) (i : NodeNo) (d : i ≡ node_no (k - 1)) where
    held_long : length (held columns) ≡ k
    held_long = ap length (holds told p.stored copies) ∙ told.nodes_are

    pub has_root : Has columns i.0
    has_root =
        let long = held_long in
        let some = some_root.0 in
        let here : i.0 ≡ k - 1 = ap (λ (m : NodeNo). m.0) d in
        (formed told p.stored copies, omega arith)

    pub last_root : Last columns i.0
    last_root =
        let long = held_long in
        let some = some_root.0 in
        let here : i.0 ≡ k - 1 = ap (λ (m : NodeNo). m.0) d in
        record { has = has_root; all = omega arith }

    -- the condition that a walk begins at is the root
    rooted : condition_of columns i.0 ≡ root (contents bytes)
    unfolding root
    rooted = ap₂ (λ (ms : List Node) (m : NodeNo). as_condition (tree_at ms m.0)) (holds told p.stored copies) (sym (last_node i d))

    -- what a walk from the root writes is the part
    scoped_part : (words : Names) → Reserved bytes words → (seed : Set) → scoped (mem words) (condition (condition_of columns i.0)) seed ≡ scoping_part (contents bytes) seed
    unfolding scoping_part scoped root
    scoped_part words reserves seed =
        ap₂ (λ (w : Set) (c : Condition). scoped w (condition c) seed) reserves rooted

    untied_part : findings (for_names 28 i (free (condition_of columns i.0))) ≡ closedness_part (contents bytes)
    unfolding closedness_part closedness_broken root
    untied_part = ap₂ (λ (m : NodeNo) (c : Condition). findings (for_names 28 m (free c))) (sym (last_node i d)) rooted

    demanded_part : demands_of (condition_of columns i.0) ≡ demands_part (contents bytes)
    unfolding demands_of demanded demands_part root
    demanded_part = ap demands_of rooted

    part_is : (check : Check) → ReservedFor bytes check → part_of check i (condition_of columns i.0) ≡ part_asked check (contents bytes)
    unfolding part_of part_asked ReservedFor
    part_is (Scoping seed words) reserves = scoped_part words reserves (mem seed)
    part_is Closedness _ = untied_part
    part_is Demands _ = demanded_part

    part_length : (check : Check) → length (part_asked check (contents bytes)) ≤ 131072
    unfolding part_asked
    part_length (Scoping seed words) = scoping_length (contents bytes) told.formed (mem seed)
    part_length Closedness = let l = closedness_length (contents bytes) in omega arith
    part_length Demands = demands_length (contents bytes) told.formed

    part_fits : (check : Check) → All Fits (part_asked check (contents bytes))
    unfolding part_asked
    part_fits (Scoping seed words) = scoping_fits (contents bytes) told.formed (mem seed)
    part_fits Closedness = closedness_fits (contents bytes) told.formed
    part_fits Demands = demands_fits (contents bytes) told.formed

    module _ (check : Check) (reserves : ReservedFor bytes check) where
      pub part_room : Room (part_of check i (condition_of columns i.0)) 0
      part_room = room_is (sym (part_is check reserves)) (let l = part_length check in record { left = omega arith })

      pub part_told : {x count : ℕ} {after : List ℕ} → Wrote (part_of check i (condition_of columns i.0)) 0 count (x ∷ []) after
          → Ok (first_of count (get_or after 0 0)) ≡ answered (part_asked check) (read bytes)
      unfolding answered
      part_told w =
          first_told (part_asked check (contents bytes)) (part_fits check) (wrote_is (sym (part_is check reserves)) w)
          ∙ sym (ap (answered (part_asked check)) told.outcome)

    pub arithmetic_told : arithmetic bytes ≡ Ok (has_arith (condition_of columns i.0))
    unfolding arithmetic arithmetic_of root
    arithmetic_told =
        ap arithmetic_of told.outcome ∙ ap (λ (c : Condition). Ok (has_arith c)) (sym rooted)

    module _ (words : Names) (reserves : Reserved bytes words) where
      -- the three parts
      abbrev written : List Finding
      written = listed (mem words) i (condition_of columns i.0)

      list_parts : written ≡ the_list (contents bytes)
      unfolding listed the_list
      list_parts = ap₂ {C = List Finding} ◌++◌ (scoped_part words reserves none) (ap₂ {C = List Finding} ◌++◌ untied_part demanded_part)

      pub list_room : Room written 0
      list_room = room_is (sym list_parts) (let l = list_length (contents bytes) told.formed in record { left = omega arith })

      -- no list is longer than what the code asks room for
      pub list_most : {names most : ℕ} → Counted bytes names k → most ≡ 3 * k + names * (k + 1) → length written ≤ most
      list_most counted e =
          let t = counts_are bytes counted in
          subst (λ (x : ℕ). length written ≤ x) (sym e)
          (subst (λ (x : ℕ). length written ≤ 3 * k + x * (k + 1)) t.names_are
          (subst (λ (x : ℕ). length written ≤ 3 * x + length (contents bytes).names * (x + 1)) t.nodes_are
          (subst (λ (fs : List Finding). length fs ≤ 3 * length (contents bytes).nodes + length (contents bytes).names * (length (contents bytes).nodes + 1)) (sym list_parts)
          (list_bounded (contents bytes) t.formed))))

      module _ {count : ℕ} {before after : List ℕ} (w : Filled written count before after) where
        counted : count ≡ length (packed (contents bytes))
        unfolding packed
        counted = let e = ap length list_parts in let f = length-map (the_list (contents bytes)) pack in let t = w.total in omega arith

        pub list_without_room : length before < count → (Err (NoRoom count) ≡ list bytes (length before)) × (after ≡ list_buffer bytes before)
        unfolding list listing_of list_buffer buffer_of
        list_without_room h =
            let e = counted in
            let f = lt-leb (length (packed (contents bytes))) (length before) (omega arith) in
            (rw (told.outcome, f) (ap (λ (n : ℕ). Err (NoRoom n)) e), rw (told.outcome, f) (w.kept h))

        pub list_with_room : count ≤ length before → (Ok count ≡ list bytes (length before)) × (after ≡ list_buffer bytes before)
        unfolding list listing_of list_buffer buffer_of packed
        list_with_room h =
            let e = counted in
            let f = le-leb (length (packed (contents bytes))) (length before) (omega arith) in (
              rw (told.outcome, f) (ap Ok e),
              rw (told.outcome, f)
                  (all_told (the_list (contents bytes)) (let g = length-map (the_list (contents bytes)) pack in omega arith) (wrote_is (sym list_parts) (w.wrote h))),
            )

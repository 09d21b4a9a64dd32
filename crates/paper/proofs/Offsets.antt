-- How far a refusal can be, and how large a place any answer can have:
--     refused_early   bytes that are turned away are so at an offset of at most 6,786: 2 bytes of the format record, 25 for each of 128 names and 7 for
--                     each of 512 nodes
--     scoping_place, closedness_place, demands_place, arithmetic_place, list_place
--                     the place of an answer, be it an offset, a node, a count or the entries needed, is at most 262,272
-- Assumes nothing.
use mathlib.Core.Path.{◌≡◌, refl, sym, ap, ◌∙◌}
use mathlib.Core.Bool.{Bool, true, false, not, ◌&&◌, true≢false}
use mathlib.Core.List.{List, [], ◌∷◌}
use Prim.Native.Nat.{ℕ, zero, suc, ◌+◌, ◌*◌, ◌-◌, ◌≤◌}
use native.Mathlib.Omega.{arith}
use lib.Dec.{eqb, leb}
use lib.ListN.{length, take, get_or, length-append, length-map}
use borrow.Author.Tests.{leb-true}
use Rattle.std.specs.Prelude.{Ok, Err}
use Rattle.paper.specs.declared.Finding.{Finding}
use Rattle.paper.specs.declared.Unlisted.TheVariants.{NoRoom}
use Rattle.paper.specs.Sets.{Set, all_below}
use Rattle.paper.specs.Record.{
  pick,
  slot_of,
  field_bytes,
  body_length,
  name_bytes,
  is_name,
  precedes,
  byte,
  two_bytes,
  condition,
  fits,
  Kind,
  kinds,
  Announced,
  format,
  name,
  end,
  unknown,
  node,
  announced,
  body_bytes,
}
use Rattle.paper.specs.TurnedAway.{
  Contents,
  Outcome,
  refused,
  accepted,
  SoFar,
  nothing_read,
  unseen,
  in_order,
  full,
  Checked,
  fault,
  fine,
  check_all,
  check_depth,
  Step,
  on,
  stop,
  read_format,
  last_name,
  read_name,
  add_node,
  read_node,
  read_end,
  read_body,
  read_record,
  read_on,
  read,
}
use Rattle.paper.specs.Scoping.{scoping_part}
use Rattle.paper.specs.Demands.{closedness_part, demands_part, has_arith}
use Rattle.paper.specs.Tree.{root}
use Rattle.paper.specs.TheList.{pack, packed, the_list}
use Rattle.paper.specs.Questions.{
  first,
  answered,
  scoping,
  closedness,
  demands,
  arithmetic_of,
  arithmetic,
  listing_of,
  list,
  answer_numbers,
  arithmetic_numbers,
  listing_numbers,
}
use Rattle.paper.proofs.Runs.{Went, went_format, went_name, went_node, went, after_format, after_name, seen_node, taken, refused_accepted}
use Rattle.paper.proofs.Fields.{in_table, as_node}
use Rattle.paper.proofs.Walks.{All}
use Rattle.paper.proofs.WellFormed.{WellFormed, well_formed}
use Rattle.paper.proofs.Lengths.{list_length}
use Rattle.paper.proofs.Fitting.{Fits, scoping_fits, closedness_fits, demands_fits}

-- ---- a node record has at most 7 bytes

short? : Kind → Bool
short? r = leb (body_length r.body) 6

all_short? : List Kind → Bool
all_short? [] = true
all_short? (r ∷ rs) = short? r && all_short? rs

all_short : all_short? kinds ≡ true
unfolding all_short? short? kinds slot_of body_length field_bytes
all_short = refl

each_short : (rs : List Kind) → all_short? rs ≡ true → All (λ r. short? r ≡ true) rs
unfolding all_short?
each_short [] e = tt
each_short (r ∷ rs) e = go (short? r) refl e (each_short rs)
  where
    go : (t : Bool) → short? r ≡ t → (t && all_short? rs) ≡ true → (all_short? rs ≡ true → All (λ r. short? r ≡ true) rs)
        → (short? r ≡ true) × All (λ r. short? r ≡ true) rs
    go true p q f = (p, f q)
    go false p q f = absurd (true≢false (sym q))

short_node : (k : ℕ) (r : Kind) → announced k ≡ node r → body_bytes (node r) ≤ 6
unfolding short? body_bytes
short_node k r e = leb-true (body_length r.body) 6 (in_table (λ r. short? r ≡ true) kinds (each_short kinds all_short) k r (as_node k r e))

-- ---- where the next record begins

record Near (so : SoFar) : Type 0 where
  fresh : so.begun ≡ false → so.at ≡ 0
  near : so.at ≤ 2 + 25 * length so.names + 7 * length so.nodes
  few_names : length so.names ≤ 128
  few_nodes : length so.nodes ≤ 512

nothing_near : Near nothing_read
unfolding nothing_read
nothing_near = record { fresh = λ e. refl; near = omega arith; few_names = omega arith; few_nodes = omega arith }

keeps_near : (k : ℕ) (b : List ℕ) (so : SoFar) → Near so → {next : SoFar} → Went k b so next → Near next
keeps_near k b so p (went_format a g) =
    let z = p.fresh g in
    record { fresh = λ e. absurd (true≢false e); near = omega arith; few_names = p.few_names; few_nodes = p.few_nodes }
keeps_near k b so p (went_name a g z h m) =
    let l = length-append so.names (take name_bytes b ∷ []) in
    let q = p.near in
    record { fresh = λ e. absurd (true≢false (sym g ∙ e)); near = rw l (omega arith); few_names = rw l (omega arith); few_nodes = p.few_nodes }
keeps_near k b so p (went_node r deep used a g h m) =
    let l = length-append so.nodes (seen_node r b deep ∷ []) in
    let q = p.near in
    let s = short_node k r a in
    record { fresh = λ e. absurd (true≢false (sym g ∙ e)); near = rw l (omega arith); few_names = p.few_names; few_nodes = rw l (omega arith) }

-- ---- a refusal is at the record that is at fault

offset_eq : (n o m p : ℕ) → refused n o ≡ refused m p → o ≡ p
offset_eq n o m p e = cc

stop_eq : (a b : Outcome) → stop a ≡ stop b → a ≡ b
stop_eq a b e = cc

not_on : (so : SoFar) (o : Outcome) → on so ≡ stop o → ⊥
not_on so o e = let z : ◌≡◌ {A = ℕ} 0 1 = cc in omega arith

module _ (b : List ℕ) (so : SoFar) (n o : ℕ) where
  here : (m : ℕ) → stop (refused m so.at) ≡ stop (refused n o) → so.at ≡ o
  here m e = offset_eq m so.at n o (stop_eq _ _ e)

  format_here : read_format b so ≡ stop (refused n o) → so.at ≡ o
  unfolding read_format
  format_here e = go (eqb (byte b) 1) e
    where
      go : (x : Bool) → pick x (on (after_format so)) (stop (refused 3 so.at)) ≡ stop (refused n o) → so.at ≡ o
      go true q = absurd (not_on _ _ q)
      go false q = here 3 q

  name_here : (t : List ℕ) → read_name t so ≡ stop (refused n o) → so.at ≡ o
  unfolding read_name
  name_here t e = go (is_name t) (precedes (last_name so.names) t) e
    where
      go : (x y : Bool) → pick x (pick y (on (after_name t so)) (stop (refused 5 so.at))) (stop (refused 4 so.at)) ≡ stop (refused n o) → so.at ≡ o
      go true true q = absurd (not_on _ _ q)
      go true false q = here 5 q
      go false y q = here 4 q

  node_here : (r : Kind) → read_node r b so ≡ stop (refused n o) → so.at ≡ o
  unfolding read_node add_node
  node_here r e = go (check_depth (check_all r.body b so 0 so.used)) e
    where
      go : (d : Checked) → add_node r b so d ≡ stop (refused n o) → so.at ≡ o
      go (fault m) q = here m q
      go (fine deep used) q = absurd (not_on _ _ q)

  end_here : read_end b so ≡ refused n o → so.at ≡ o
  unfolding read_end
  end_here e =
      let n : ℕ = length so.nodes in
      go (eqb (two_bytes b) n && eqb (length b) 2)
      (not (eqb n 0) && (fits condition (get_or so.nodes (n - 1) unseen).kind && all_below (n - 1) so.used)) e
    where
      go : (x y : Bool) → pick x (pick y (accepted (taken so)) (refused 13 so.at)) (refused 12 so.at) ≡ refused n o → so.at ≡ o
      go true true q = absurd (refused_accepted n o (taken so) (sym q))
      go true false q = offset_eq 13 so.at n o q
      go false y q = offset_eq 12 so.at n o q

  body_here : (a : Announced) → read_body a b so ≡ stop (refused n o) → so.at ≡ o
  unfolding read_body
  body_here format e = format_here e
  body_here name e = name_here (take name_bytes b) e
  body_here (node r) e = node_here r e
  body_here end e = end_here (stop_eq _ _ e)
  body_here unknown e = here 2 e

  record_here : (k : ℕ) → read_record k b so ≡ stop (refused n o) → so.at ≡ o
  unfolding read_record
  record_here k e = go (in_order (announced k) so) (leb (body_bytes (announced k)) (length b)) (full (announced k) so) e
    where
      go : (x l f : Bool)
          → pick x (pick l (pick f (stop (refused 6 so.at)) (read_body (announced k) b so)) (stop (refused 1 so.at))) (stop (refused 2 so.at)) ≡ stop (refused n o)
          → so.at ≡ o
      go true true true e = here 6 e
      go true true false e = body_here (announced k) e
      go true false f e = here 1 e
      go false l f e = here 2 e

-- ---- over all records

early : (rest : List ℕ) (skip : ℕ) (so : SoFar) → Near so → (n o : ℕ) → read_on rest skip so ≡ refused n o → o ≤ 6786
unfolding read_on
early [] skip so p n o e = let q = offset_eq 1 so.at n o e in omega (arith, p.near, p.few_names, p.few_nodes)
early (k ∷ b) (suc skip) so p n o e = early b skip so p n o e
early (k ∷ b) zero so p n o e = go (read_record k b so) refl e (λ next w. early b (body_bytes (announced k)) next w n o)
  where
    go : (s : Step) → read_record k b so ≡ s → elim s [ on next ↦ read_on b (body_bytes (announced k)) next | stop o ↦ o ] ≡ refused n o
        → ((next : SoFar) → Near next → read_on b (body_bytes (announced k)) next ≡ refused n o → o ≤ 6786) → o ≤ 6786
    go (on next) d q f = f next (keeps_near k b so p (went k b so next d)) q
    go (stop r) d q f = let h = record_here b so n o k (d ∙ ap stop q) in omega (arith, p.near, p.few_names, p.few_nodes)

pub refused_early : (bytes : List ℕ) (number offset : ℕ) → read bytes ≡ refused number offset → offset ≤ 6786
unfolding read
refused_early bytes number offset e = early bytes 0 nothing_read nothing_near number offset e

-- ---- the place of an answer

first_place : (l : List Finding) → All Fits l → (answer_numbers (first l)).place ≤ 262272
unfolding first answer_numbers
first_place [] a = omega arith
first_place (f ∷ l) a = let h = a.0.1 in omega arith

part_place : (part : Contents → List Finding) → ((c : Contents) → WellFormed c → All Fits (part c)) → (bytes : List ℕ)
    → (answer_numbers (answered part (read bytes))).place ≤ 262272
unfolding answered answer_numbers
part_place part fit bytes = go (read bytes) refl
  where
    go : (o : Outcome) → read bytes ≡ o → (answer_numbers (answered part o)).place ≤ 262272
    go (refused number offset) e = let h = refused_early bytes number offset e in omega arith
    go (accepted c) e = first_place (part c) (fit c (well_formed bytes c e))

pub scoping_place : (bytes : List ℕ) (seed : Set) → (answer_numbers (scoping bytes seed)).place ≤ 262272
unfolding scoping
scoping_place bytes seed = part_place (λ c. scoping_part c seed) (λ c f. scoping_fits c f seed) bytes

pub closedness_place : (bytes : List ℕ) → (answer_numbers (closedness bytes)).place ≤ 262272
unfolding closedness
closedness_place bytes = part_place closedness_part closedness_fits bytes

pub demands_place : (bytes : List ℕ) → (answer_numbers (demands bytes)).place ≤ 262272
unfolding demands
demands_place bytes = part_place demands_part demands_fits bytes

pub arithmetic_place : (bytes : List ℕ) → (arithmetic_numbers (arithmetic bytes)).place ≤ 262272
unfolding arithmetic arithmetic_of arithmetic_numbers
arithmetic_place bytes = go (read bytes) refl
  where
    yes_or_no : (t : Bool) → (arithmetic_numbers (Ok t)).place ≤ 262272
    yes_or_no true = omega arith
    yes_or_no false = omega arith

    go : (o : Outcome) → read bytes ≡ o → (arithmetic_numbers (arithmetic_of o)).place ≤ 262272
    go (refused number offset) e = let h = refused_early bytes number offset e in omega arith
    go (accepted c) e = yes_or_no (has_arith (root c))

packed_length : (c : Contents) → length (packed c) ≡ length (the_list c)
unfolding packed
packed_length c = length-map (the_list c) pack

pub list_place : (bytes : List ℕ) (room : ℕ) → (listing_numbers (list bytes room)).place ≤ 262272
unfolding list listing_of listing_numbers
list_place bytes room = go (read bytes) refl
  where
    counted : (n : ℕ) → n ≤ 262272 → (t : Bool)
        → (listing_numbers (pick t (Ok n) (Err (NoRoom n)))).place ≤ 262272
    counted n h true = h
    counted n h false = h

    go : (o : Outcome) → read bytes ≡ o → (listing_numbers (listing_of o room)).place ≤ 262272
    go (refused number offset) e = let h = refused_early bytes number offset e in omega arith
    go (accepted c) e =
        let h = list_length c (well_formed bytes c e) in
        let l = packed_length c in
        counted (length (packed c)) (omega arith) (leb (length (packed c)) room)

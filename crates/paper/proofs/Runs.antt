-- What a record that is read on from did, and an induction over the records of accepted bytes: what holds before the first record, and is kept by
-- every record that is read on from, holds at the end record. Assumes nothing.
use mathlib.Core.Path.{◌≡◌, refl, sym, ap, ◌∙◌, subst}
use mathlib.Core.Bool.{Bool, true, false, ◌&&◌, true≢false}
use mathlib.Core.List.{List, [], ◌∷◌, ◌++◌, map}
use Prim.Native.Nat.{ℕ, zero, suc, ◌+◌, ◌-◌, ◌<◌}
use native.Mathlib.Omega.{arith}
use lib.Dec.{eqb, leb}
use lib.ListN.{length, take, drop, get_or}
use lib.Seq.{drop-drop}
use borrow.Author.Tests.{leb-false, eqb-true, eq-eqb}
use Rattle.paper.specs.Sets.{Set, all_below}
use Rattle.paper.specs.Record.{pick, most_names, name_bytes, most_nodes, is_name, precedes, byte, two_bytes, condition, fits, values}
use Rattle.paper.specs.Record.{Kind, Announced, format, name, end, unknown, node, announced, body_bytes}
use Rattle.paper.specs.TurnedAway.{
  Contents,
  Outcome,
  refused,
  accepted,
  Seen,
  unseen,
  SoFar,
  nothing_read,
  in_order,
  full,
  Checked,
  fault,
  fine,
  check_all,
  check_depth,
  Step,
  on,
  stop,
  read_format,
  last_name,
  read_name,
  add_node,
  read_node,
  read_end,
  read_body,
  read_record,
  read_on,
  read,
}

-- ---- a record that is read on from

abbrev pub after_format : SoFar → SoFar
after_format so = record { at = so.at + 1 + 1; begun = true; names = so.names; nodes = so.nodes; used = so.used }

abbrev pub after_name : List ℕ → SoFar → SoFar
after_name n so =
    record { at = so.at + 1 + name_bytes; begun = so.begun; names = so.names ++ (n ∷ []); nodes = so.nodes; used = so.used }

abbrev pub seen_node : Kind → List ℕ → ℕ → Seen
seen_node r b deep = record { kind = r.kind; depth = deep + 1; node = r.node (λ i. get_or (values r.body b) i 0) }

abbrev pub after_node : Kind → List ℕ → ℕ → Set → SoFar → SoFar
after_node r b deep used so =
    record {
      at = so.at + 1 + body_bytes (node r);
      begun = so.begun;
      names = so.names;
      nodes = so.nodes ++ (seen_node r b deep ∷ []);
      used = used;
    }

-- what was read, with the tests that it passed
pub data Went (k : ℕ) (b : List ℕ) (so : SoFar) : SoFar → Type 0 where
  went_format : announced k ≡ format → so.begun ≡ false → Went k b so (after_format so)
  went_name : announced k ≡ name → so.begun ≡ true → length so.nodes ≡ 0 → length so.names < most_names → is_name (take name_bytes b) ≡ true
      → Went k b so (after_name (take name_bytes b) so)
  went_node : (r : Kind) (deep : ℕ) (used : Set) → announced k ≡ node r → so.begun ≡ true → length so.nodes < most_nodes
      → check_depth (check_all r.body b so 0 so.used) ≡ fine deep used → Went k b so (after_node r b deep used so)

and_left : (a b : Bool) → (a && b) ≡ true → a ≡ true
and_left true b e = refl
and_left false b e = e

and_right : (a b : Bool) → (a && b) ≡ true → b ≡ true
and_right true b e = e
and_right false b e = absurd (true≢false (sym e))

not_true : (b : Bool) → mathlib.Core.Bool.not b ≡ true → b ≡ false
not_true true e = absurd (true≢false (sym e))
not_true false e = refl

on_stop : (next : SoFar) (o : Outcome) → stop o ≡ on next → ⊥
on_stop next o e = let z : ◌≡◌ {A = ℕ} 0 1 = cc in omega arith

on_eq : (a b : SoFar) → on a ≡ on b → a ≡ b
on_eq a b e = cc

module _ (k : ℕ) (b : List ℕ) (so : SoFar) where
  went_back : (next a : SoFar) → a ≡ next → Went k b so a → Went k b so next
  went_back next a e w = subst (λ (z : SoFar). Went k b so z) e w

  name_went : (next : SoFar) → announced k ≡ name → so.begun ≡ true → length so.nodes ≡ 0 → length so.names < most_names
      → read_name (take name_bytes b) so ≡ on next → Went k b so next
  unfolding read_name
  name_went next a g z h e = go (is_name (take name_bytes b)) (precedes (last_name so.names) (take name_bytes b)) refl e
    where
      go : (x y : Bool) → is_name (take name_bytes b) ≡ x
          → pick x (pick y (on (after_name (take name_bytes b) so)) (stop (refused 5 so.at))) (stop (refused 4 so.at)) ≡ on next → Went k b so next
      go true true p q = went_back next (after_name (take name_bytes b) so) (on_eq _ next q) (went_name a g z h p)
      go true false p q = absurd (on_stop next _ q)
      go false y p q = absurd (on_stop next _ q)

  node_went : (next : SoFar) (r : Kind) → announced k ≡ node r → so.begun ≡ true → length so.nodes < most_nodes
      → read_node r b so ≡ on next → Went k b so next
  unfolding read_node add_node
  node_went next r a g h e = go (check_depth (check_all r.body b so 0 so.used)) refl e
    where
      go : (c : Checked) → check_depth (check_all r.body b so 0 so.used) ≡ c → add_node r b so c ≡ on next → Went k b so next
      go (fault n) p q = absurd (on_stop next _ q)
      go (fine deep used) p q = went_back next (after_node r b deep used so) (on_eq _ next q) (went_node r deep used a g h p)

  format_went : (next : SoFar) → announced k ≡ format → so.begun ≡ false → read_format b so ≡ on next → Went k b so next
  unfolding read_format
  format_went next a g e = go (eqb (byte b) 1) e
    where
      go : (x : Bool) → pick x (on (after_format so)) (stop (refused 3 so.at)) ≡ on next → Went k b so next
      go true q = went_back next (after_format so) (on_eq _ next q) (went_format a g)
      go false q = absurd (on_stop next _ q)

  pub went : (next : SoFar) → read_record k b so ≡ on next → Went k b so next
  unfolding read_record in_order full read_body
  went next e = go (announced k) refl (in_order (announced k) so) (leb (body_bytes (announced k)) (length b)) (full (announced k) so) refl refl e
    where
      at : (a : Announced) → announced k ≡ a → in_order a so ≡ true → full a so ≡ false → read_body a b so ≡ on next → Went k b so next
      at format d o f e = format_went next d (not_true so.begun o) e
      at name d o f e =
          name_went next d (and_left so.begun _ o) (eqb-true (length so.nodes) 0 (and_right so.begun _ o)) (leb-false most_names (length so.names) f) e
      at (node r) d o f e = node_went next r d o (leb-false most_nodes (length so.nodes) f) e
      at end d o f e = absurd (on_stop next _ e)
      at unknown d o f e = absurd (on_stop next _ e)

      go : (a : Announced) → announced k ≡ a → (o c f : Bool) → in_order (announced k) so ≡ o → full (announced k) so ≡ f
          → pick o (pick c (pick f (stop (refused 6 so.at)) (read_body (announced k) b so)) (stop (refused 1 so.at))) (stop (refused 2 so.at)) ≡ on next
          → Went k b so next
      go a d true true true p q e = absurd (on_stop next _ e)
      go a d true true false p q e = at (announced k) refl p q e
      go a d true false f p q e = absurd (on_stop next _ e)
      go a d false c f p q e = absurd (on_stop next _ e)

-- the next record begins after this one's body
pub went_at : (k : ℕ) (b : List ℕ) (so : SoFar) {next : SoFar} → Went k b so next → next.at ≡ so.at + 1 + body_bytes (announced k)
unfolding body_bytes
went_at k b so (went_format a g) = rw a
went_at k b so (went_name a g z h p) = rw a
went_at k b so (went_node r deep used a g h p) = rw a

-- a name is read before any node
pub went_named : (k : ℕ) (b : List ℕ) (so : SoFar) {next : SoFar} → Went k b so next → announced k ≡ name → length so.nodes ≡ 0
went_named k b so (went_format a g) e = absurd (let d = sym a ∙ e in let z : ◌≡◌ {A = ℕ} 0 1 = cc in omega arith)
went_named k b so (went_name a g z h p) e = z
went_named k b so (went_node r deep used a g h p) e = absurd (let d = sym a ∙ e in let z : ◌≡◌ {A = ℕ} 0 1 = cc in omega arith)

-- a node is read after the format record
pub went_begun : (k : ℕ) (b : List ℕ) (so : SoFar) {next : SoFar} (r : Kind) → Went k b so next → announced k ≡ node r → so.begun ≡ true
went_begun k b so s (went_format a g) e = absurd (let d = sym a ∙ e in let z : ◌≡◌ {A = ℕ} 0 1 = cc in omega arith)
went_begun k b so s (went_name a g z h p) e = g
went_begun k b so s (went_node r deep used a g h p) e = g

-- ---- a record that ends the reading

pub refused_accepted : (n o : ℕ) (c : Contents) → refused n o ≡ accepted c → ⊥
refused_accepted n o c e = let z : ◌≡◌ {A = ℕ} 0 1 = cc in omega arith

stop_eq : (a b : Outcome) → stop a ≡ stop b → a ≡ b
stop_eq a b e = cc

turned : (n : ℕ) (so : SoFar) (c : Contents) → stop (refused n so.at) ≡ stop (accepted c) → ⊥
turned n so c e = refused_accepted n so.at c (stop_eq _ _ e)

on_end : (next : SoFar) (o : Outcome) → on next ≡ stop o → ⊥
on_end next o e = let z : ◌≡◌ {A = ℕ} 0 1 = cc in omega arith

module _ (k : ℕ) (b : List ℕ) (so : SoFar) (c : Contents) where
  no_format : read_format b so ≡ stop (accepted c) → ⊥
  unfolding read_format
  no_format e = go (eqb (byte b) 1) e
    where
      go : (x : Bool) → pick x (on (after_format so)) (stop (refused 3 so.at)) ≡ stop (accepted c) → ⊥
      go true q = on_end _ _ q
      go false q = turned 3 so c q

  no_name : (n : List ℕ) → read_name n so ≡ stop (accepted c) → ⊥
  unfolding read_name
  no_name n e = go (is_name n) (precedes (last_name so.names) n) e
    where
      go : (x y : Bool) → pick x (pick y (on (after_name n so)) (stop (refused 5 so.at))) (stop (refused 4 so.at)) ≡ stop (accepted c) → ⊥
      go true true q = on_end _ _ q
      go true false q = turned 5 so c q
      go false y q = turned 4 so c q

  no_node : (r : Kind) → read_node r b so ≡ stop (accepted c) → ⊥
  unfolding read_node add_node
  no_node r e = go (check_depth (check_all r.body b so 0 so.used)) e
    where
      go : (d : Checked) → add_node r b so d ≡ stop (accepted c) → ⊥
      go (fault n) q = turned n so c q
      go (fine deep used) q = on_end _ _ q

  ended : read_record k b so ≡ stop (accepted c) → read_end b so ≡ accepted c
  unfolding read_record read_body
  ended e = go (in_order (announced k) so) (leb (body_bytes (announced k)) (length b)) (full (announced k) so) e
    where
      at : (a : Announced) → read_body a b so ≡ stop (accepted c) → read_end b so ≡ accepted c
      at format e = absurd (no_format e)
      at name e = absurd (no_name (take name_bytes b) e)
      at (node r) e = absurd (no_node r e)
      at end e = stop_eq _ _ e
      at unknown e = absurd (turned 2 so c e)

      go : (o l f : Bool)
          → pick o (pick l (pick f (stop (refused 6 so.at)) (read_body (announced k) b so)) (stop (refused 1 so.at))) (stop (refused 2 so.at)) ≡ stop (accepted c)
          → read_end b so ≡ accepted c
      go true true true e = absurd (turned 6 so c e)
      go true true false e = at (announced k) e
      go true false f e = absurd (turned 1 so c e)
      go false l f e = absurd (turned 2 so c e)

-- ---- over all records

-- the state before the end record, and what follows its kind
pub record Ended (P : SoFar → Type 0) (c : Contents) : Type 0 where
  pub so : SoFar
  pub rest : List ℕ
  pub holds : P so
  pub last : read_end rest so ≡ accepted c

module _ (bytes : List ℕ) (P : SoFar → Type 0)
    (keeps : (k : ℕ) (b : List ℕ) (so next : SoFar) → k ∷ b ≡ drop so.at bytes → P so → Went k b so next → P next) where
  from : (rest : List ℕ) (skip : ℕ) (so : SoFar) (c : Contents) → drop skip rest ≡ drop so.at bytes → P so → read_on rest skip so ≡ accepted c → Ended P c
  unfolding read_on
  from [] skip so c e p q = absurd (refused_accepted 1 so.at c q)
  from (k ∷ b) (suc skip) so c e p q = from b skip so c e p q
  from (k ∷ b) zero so c e p q = go (read_record k b so) refl q (λ n d. from b (body_bytes (announced k)) n c d)
    where
      go : (s : Step) → read_record k b so ≡ s → elim s [ on next ↦ read_on b (body_bytes (announced k)) next | stop o ↦ o ] ≡ accepted c
          → ((n : SoFar) → drop (body_bytes (announced k)) b ≡ drop n.at bytes → P n → read_on b (body_bytes (announced k)) n ≡ accepted c → Ended P c) → Ended P c
      go (on next) d q f =
          let w = went k b so next d in
          let r : drop (so.at + 1) bytes ≡ b = sym (drop-drop 1 so.at bytes) ∙ sym (ap (drop 1) e) in
          f next
          (ap (drop (body_bytes (announced k))) (sym r) ∙ drop-drop (body_bytes (announced k)) (so.at + 1) bytes ∙ ap (λ (n : ℕ). drop n bytes) (sym (went_at k b so w)))
          (keeps k b so next e p w) q
      go (stop o) d q f = record { so = so; rest = b; holds = p; last = ended k b so c (d ∙ ap stop q) }

  pub accepted_keeps : P nothing_read → (c : Contents) → read bytes ≡ accepted c → Ended P c
  unfolding read nothing_read
  accepted_keeps p c e = from bytes 0 nothing_read c refl p e

-- one more at the end of a list
pub last_of : {A : Type 0} (l : List A) (a d : A) (i : ℕ) → i ≡ length l → get_or (l ++ (a ∷ [])) i d ≡ a
last_of [] a d i e = rw e
last_of (x ∷ l) a d zero e = absurd (omega arith)
last_of (x ∷ l) a d (suc i) e = last_of l a d i (omega arith)

-- ---- the end record hands over what was read

abbrev pub taken : SoFar → Contents
taken so = record { names = so.names; nodes = map (λ (s : Seen). s.node) so.nodes }

pub record Closed (so : SoFar) (c : Contents) : Type 0 where
  pub contents : taken so ≡ c
  pub some_node : length so.nodes ≡ 0 → ⊥
  pub top : fits condition (get_or so.nodes (length so.nodes - 1) unseen).kind ≡ true
  pub all_used : all_below (length so.nodes - 1) so.used ≡ true

contents_eq : (a b : Contents) → accepted a ≡ accepted b → a ≡ b
contents_eq a b e = cc

pub closed : (b : List ℕ) (so : SoFar) (c : Contents) → read_end b so ≡ accepted c → Closed so c
unfolding read_end
closed b so c e =
    go (eqb (two_bytes b) (length so.nodes) && eqb (length b) 2) (eqb (length so.nodes) 0)
    (fits condition (get_or so.nodes (length so.nodes - 1) unseen).kind) (all_below (length so.nodes - 1) so.used) refl refl refl e
  where
    go : (x y z u : Bool) → eqb (length so.nodes) 0 ≡ y → fits condition (get_or so.nodes (length so.nodes - 1) unseen).kind ≡ z → all_below (length so.nodes - 1) so.used ≡ u
        → pick x (pick (mathlib.Core.Bool.not y && (z && u)) (accepted (taken so)) (refused 13 so.at)) (refused 12 so.at) ≡ accepted c → Closed so c
    go true false true true p q r e =
        record { contents = contents_eq (taken so) c e; some_node = λ d. true≢false (sym (eq-eqb (length so.nodes) 0 d) ∙ p); top = q; all_used = r }
    go true true z u p q r e = absurd (refused_accepted 13 so.at c e)
    go true false false u p q r e = absurd (refused_accepted 13 so.at c e)
    go true false true false p q r e = absurd (refused_accepted 13 so.at c e)
    go false y z u p q r e = absurd (refused_accepted 12 so.at c e)

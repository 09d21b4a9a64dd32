-- What the definitions' reader does at a record, by the head that its row gives. Assumes nothing.
use mathlib.Core.Path.{◌≡◌, refl, sym, ap, ◌∙◌}
use mathlib.Core.Bool.{Bool, true, false, not, ◌&&◌, or-false}
use mathlib.Core.List.{List}
use Prim.Native.Nat.{ℕ}
use lib.Dec.{eqb, leb}
use lib.ListN.{length, take}
use Rattle.paper.specs.Record.{pick, Kind, Announced, format, name, end, unknown, node, announced, body_bytes}
use Rattle.paper.specs.TurnedAway.{SoFar, in_order, full, Step, stop, refused, read_format, read_name, read_node, read_end, read_body, read_record}
use Rattle.memory.specs.Rows.{row_for, row_at}
use Rattle.memory.specs.Heads.{order_by, full_by, head_at, head_by}
use Rattle.std.specs.Prelude.{Ok, Err}
use Rattle.std.specs.declared.result.Result.{Result}
use Rattle.memory.specs.Faults.{number}
use Rattle.memory.specs.declared.Fault.{Fault}
use Rattle.memory.specs.declared.Fault.TheVariants.{CutShort, OutOfOrder, NoRoom}
use Rattle.memory.specs.declared.Head.{Head}
use Rattle.memory.specs.declared.Head.TheVariants.{Format, Name, Node, End}

module _ (b : List ℕ) (so : SoFar) where
  by_head : Result Head Fault → Announced → Step
  by_head (Err f) a = stop (refused (number f) so.at)
  by_head (Ok Format) a = read_format b so
  by_head (Ok Name) a = read_name (take 24 b) so
  by_head (Ok Node) a = read_body a b so
  by_head (Ok End) a = stop (read_end b so)

  abbrev turn : ℕ → Step
  turn n = stop (refused n so.at)

  pick_head : (o c f : Bool) (h : Result Head Fault) (a : Announced)
      → pick o (pick c (pick f (turn 6) (by_head h a)) (turn 1)) (turn 2) ≡ by_head (pick o (pick c (pick f (Err NoRoom) h) (Err CutShort)) (Err OutOfOrder)) a
  unfolding by_head
  pick_head true true true h a = refl
  pick_head true true false h a = refl
  pick_head true false f h a = refl
  pick_head false c f h a = refl

  order_is : (a : Announced) → in_order a so ≡ order_by (row_for a).class so.begun (length so.nodes)
  unfolding in_order order_by row_for
  order_is format = sym (or-false (not so.begun))
  order_is name = sym (or-false (so.begun && eqb (length so.nodes) 0))
  order_is end = refl
  order_is unknown = refl
  order_is (node r) = refl

  full_is : (a : Announced) → full a so ≡ full_by (row_for a).class (length so.names) (length so.nodes)
  unfolding full full_by row_for
  full_is format = refl
  full_is name = sym (or-false (leb 128 (length so.names)))
  full_is end = refl
  full_is unknown = refl
  full_is (node r) = refl

  head_is : (a : Announced)
      → pick (in_order a so) (pick (leb (body_bytes a) (length b)) (pick (full a so) (turn 6) (read_body a b so)) (turn 1)) (turn 2)
      ≡ by_head (head_by (row_for a) (length b) so.begun (length so.names) (length so.nodes)) a
  unfolding head_by by_head read_body in_order order_by row_for body_bytes
  head_is a = at a ∙ pick_head (order_by (row_for a).class so.begun (length so.nodes)) (leb (row_for a).len (length b)) (full_by (row_for a).class (length so.names) (length so.nodes)) (Ok (head_at (row_for a).class)) a
    where
      at : (a : Announced)
          → pick (in_order a so) (pick (leb (body_bytes a) (length b)) (pick (full a so) (turn 6) (read_body a b so)) (turn 1)) (turn 2)
          ≡ pick (order_by (row_for a).class so.begun (length so.nodes))
          (pick (leb (row_for a).len (length b)) (pick (full_by (row_for a).class (length so.names) (length so.nodes)) (turn 6) (by_head (Ok (head_at (row_for a).class)) a)) (turn 1)) (turn 2)
      at unknown = refl
      at format = rw (← order_is format, ← full_is format)
      at name = rw (← order_is name, ← full_is name)
      at end = rw (← full_is end)
      at (node r) = rw (← full_is (node r))

-- ---- the five heads

module _ (k : ℕ) (b : List ℕ) (so : SoFar) where
  abbrev pub head : Result Head Fault
  head = head_by (row_at k) (length b) so.begun (length so.names) (length so.nodes)

  stepped : (h : Result Head Fault) → head ≡ h → read_record k b so ≡ by_head b so h (announced k)
  unfolding read_record row_at
  stepped h e = head_is b so (announced k) ∙ ap (λ (z : Result Head Fault). by_head b so z (announced k)) e

  pub step_bad : (f : Fault) → head ≡ Err f → read_record k b so ≡ stop (refused (number f) so.at)
  unfolding by_head
  step_bad f e = stepped (Err f) e

  pub step_format : head ≡ Ok Format → read_record k b so ≡ read_format b so
  unfolding by_head
  step_format e = stepped (Ok Format) e

  pub step_name : head ≡ Ok Name → read_record k b so ≡ read_name (take 24 b) so
  unfolding by_head
  step_name e = stepped (Ok Name) e

  pub step_node : (r : Kind) → announced k ≡ node r → head ≡ Ok Node → read_record k b so ≡ read_node r b so
  unfolding by_head read_body
  step_node r d e = stepped (Ok Node) e ∙ ap (λ (a : Announced). read_body a b so) d

  pub step_end : head ≡ Ok End → read_record k b so ≡ stop (read_end b so)
  unfolding by_head
  step_end e = stepped (Ok End) e

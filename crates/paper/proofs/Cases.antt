-- Document 01, 'A record in full' and 'Table of proved cases': one computed claim, from the bytes on, that each case has exactly the list and the
-- arithmetic answer that document 01 gives; and beside it bytes that are turned away, with number and offset. The bytes of the cases stand in
-- oracle/cases.txt too, where the Rust is run on them. Assumes nothing.
use Prim.Native.Nat.{ℕ, zero, suc, ◌+◌, ◌*◌, ◌/◌, ◌%◌}
use Prim.Native.String.{String}
use mathlib.Core.Path.{◌≡◌, refl, ap}
use mathlib.Core.List.{List, [], ◌∷◌, ◌++◌, map}
use lib.ListN.{length, take, get_or, replicate}
use Rattle.std.specs.Prelude.{Some, None, Result, Ok, Err, true, false}
use Rattle.paper.specs.declared.Counts.{Counts}
use Rattle.paper.specs.declared.Refusal.{Refusal}
use Rattle.paper.specs.Sets.{none, only, ◌∪◌, ◌∩◌, ◌∖◌, outside, all_below, members}
use Rattle.paper.specs.Record.{Kind, zeros, name_rest, is_name, precedes, fits, field_bytes, body_length, two_bytes, value, values, slot_of, kinds, node_kind}
use Rattle.paper.specs.Record.{announced, body_bytes, ascii, node_no, name_no}
use Rattle.paper.specs.TurnedAway.{verdict, nothing_read, in_order, full, refer, in_range, check, check_all, check_depth, read_format, last_name, read_name, counts, refusal}
use Rattle.paper.specs.TurnedAway.{add_node, read_node, read_end, read_body, read_record, read_on, read}
use Rattle.paper.specs.Tree.{as_condition, as_term, as_arguments, as_items, as_binders, planted, trees, tree_at, root_no, root, size, term_size, arguments_size}
use Rattle.paper.specs.Tree.{items_size, binders_size}
use Rattle.paper.specs.FreeAndRestricted.{named, is_sigil, binder_names, free, term_free, arguments_free, items_free, has_wildcard, items_wildcard, bare, about}
use Rattle.paper.specs.FreeAndRestricted.{unless, by_bare, equality, tied_name, direct, restricted, holds_sigil, term_sigil, arguments_sigil, items_sigil}
use Rattle.paper.specs.Places.{gather, at_cell, findings, spot_size, found_within, found}
use Rattle.paper.specs.Scoping.{is_word, is_reserved, reserved, binder_sigil, cell_of, cells, scope_below, scope_broken, scoping_part}
use Rattle.paper.specs.Demands.{closedness_broken, closedness_part, demands_part, demand_below, demand_broken, has_arith, operand_arith}
use Rattle.paper.specs.TheList.{the_list, name_or_255, pack, packed, trimmed, name_text}
use Rattle.paper.specs.Questions.{first, answered, scoping, closedness, demands, arithmetic_of, arithmetic, listing_of, list, buffer_of, list_buffer, name_of, name, Answer, Listing, Arithmetic}

-- ---- the cases, as bytes

-- a name record for each of some names
abbrev name_records : List String → List ℕ
name_records [] = []
name_records (s ∷ names) = 0x02 ∷ take 24 (ascii s ++ replicate 24 0) ++ name_records names

-- the format record, the name records, and what follows them
abbrev written : List String → List ℕ → List ℕ
written names rest = 0x01 ∷ 0x01 ∷ name_records names ++ rest

-- exists x. x == *
abbrev case_a : List ℕ
case_a = written ("x" ∷ []) (0x20 ∷ 0x00 ∷ 0x21 ∷ 0x17 ∷ 0x00 ∷ 0x00 ∷ 0x00 ∷ 0x01 ∷ 0x00 ∷ 0x16 ∷ 0x00 ∷ 0x00 ∷ 0x00 ∷ 0x02 ∷ 0x00 ∷ 0x7F ∷ 0x04 ∷ 0x00 ∷ [])

-- exists x. x == [*]
abbrev pub case_b : List ℕ
case_b = written ("x" ∷ []) (0x21 ∷ 0x30 ∷ 0x32 ∷ 0x00 ∷ 0x00 ∷ 0x01 ∷ 0x00 ∷ 0x27 ∷ 0x02 ∷ 0x00 ∷ 0x20 ∷ 0x00 ∷ 0x17 ∷ 0x00 ∷ 0x04 ∷ 0x00 ∷ 0x03 ∷ 0x00 ∷ 0x16 ∷ 0x00 ∷ 0x00 ∷ 0x00 ∷ 0x05 ∷ 0x00 ∷ 0x7F ∷ 0x07 ∷ 0x00 ∷ [])

-- exists x. x == x + 1
abbrev pub case_c : List ℕ
case_c = written ("x" ∷ []) (0x20 ∷ 0x00 ∷ 0x20 ∷ 0x00 ∷ 0x22 ∷ 0x01 ∷ 0x00 ∷ 0x28 ∷ 0x00 ∷ 0x01 ∷ 0x00 ∷ 0x02 ∷ 0x00 ∷ 0x17 ∷ 0x00 ∷ 0x00 ∷ 0x00 ∷ 0x03 ∷ 0x00 ∷ 0x16 ∷ 0x00 ∷ 0x00 ∷ 0x00 ∷ 0x04 ∷ 0x00 ∷ 0x7F ∷ 0x06 ∷ 0x00 ∷ [])

-- exists x. (P{a:x} or Q{a:x})
abbrev case_d : List ℕ
case_d = written ("x" ∷ []) (0x20 ∷ 0x00 ∷ 0x30 ∷ 0x31 ∷ 0x01 ∷ 0x00 ∷ 0x00 ∷ 0x00 ∷ 0x01 ∷ 0x00 ∷ 0x18 ∷ 0x01 ∷ 0x00 ∷ 0x02 ∷ 0x00 ∷ 0x20 ∷ 0x00 ∷ 0x30 ∷ 0x31 ∷ 0x01 ∷ 0x00 ∷ 0x04 ∷ 0x00 ∷ 0x05 ∷ 0x00 ∷ 0x18 ∷ 0x02 ∷ 0x00 ∷ 0x06 ∷ 0x00 ∷ 0x11 ∷ 0x03 ∷ 0x00 ∷ 0x07 ∷ 0x00 ∷ 0x16 ∷ 0x00 ∷ 0x00 ∷ 0x00 ∷ 0x08 ∷ 0x00 ∷ 0x7F ∷ 0x0A ∷ 0x00 ∷ [])

-- exists x. not P{a:x}
abbrev case_e : List ℕ
case_e = written ("x" ∷ []) (0x20 ∷ 0x00 ∷ 0x30 ∷ 0x31 ∷ 0x01 ∷ 0x00 ∷ 0x00 ∷ 0x00 ∷ 0x01 ∷ 0x00 ∷ 0x18 ∷ 0x01 ∷ 0x00 ∷ 0x02 ∷ 0x00 ∷ 0x12 ∷ 0x03 ∷ 0x00 ∷ 0x16 ∷ 0x00 ∷ 0x00 ∷ 0x00 ∷ 0x04 ∷ 0x00 ∷ 0x7F ∷ 0x06 ∷ 0x00 ∷ [])

-- (sum b for x where P{a:x,b:b}) > 3
abbrev pub case_f : List ℕ
case_f = written ("b" ∷ "x" ∷ []) (0x20 ∷ 0x00 ∷ 0x30 ∷ 0x31 ∷ 0x02 ∷ 0x00 ∷ 0x00 ∷ 0x00 ∷ 0x01 ∷ 0x00 ∷ 0x20 ∷ 0x01 ∷ 0x31 ∷ 0x01 ∷ 0x00 ∷ 0x03 ∷ 0x00 ∷ 0x02 ∷ 0x00 ∷ 0x18 ∷ 0x01 ∷ 0x00 ∷ 0x04 ∷ 0x00 ∷ 0x30 ∷ 0x33 ∷ 0x00 ∷ 0x01 ∷ 0x00 ∷ 0x06 ∷ 0x00 ∷ 0x29 ∷ 0x00 ∷ 0x00 ∷ 0x07 ∷ 0x00 ∷ 0x05 ∷ 0x00 ∷ 0x22 ∷ 0x03 ∷ 0x00 ∷ 0x17 ∷ 0x03 ∷ 0x08 ∷ 0x00 ∷ 0x09 ∷ 0x00 ∷ 0x7F ∷ 0x0B ∷ 0x00 ∷ [])

-- (count for x where call) > 0
abbrev case_g : List ℕ
case_g = written ("x" ∷ []) (0x1B ∷ 0x01 ∷ 0x00 ∷ 0x30 ∷ 0x33 ∷ 0x00 ∷ 0x00 ∷ 0x00 ∷ 0x01 ∷ 0x00 ∷ 0x2A ∷ 0x02 ∷ 0x00 ∷ 0x00 ∷ 0x00 ∷ 0x22 ∷ 0x00 ∷ 0x00 ∷ 0x17 ∷ 0x03 ∷ 0x03 ∷ 0x00 ∷ 0x04 ∷ 0x00 ∷ 0x7F ∷ 0x06 ∷ 0x00 ∷ [])

-- exists x. (x > 1 since P{a:x})
abbrev case_h : List ℕ
case_h = written ("x" ∷ []) (0x20 ∷ 0x00 ∷ 0x22 ∷ 0x01 ∷ 0x00 ∷ 0x17 ∷ 0x03 ∷ 0x00 ∷ 0x00 ∷ 0x01 ∷ 0x00 ∷ 0x20 ∷ 0x00 ∷ 0x30 ∷ 0x31 ∷ 0x01 ∷ 0x00 ∷ 0x03 ∷ 0x00 ∷ 0x04 ∷ 0x00 ∷ 0x18 ∷ 0x01 ∷ 0x00 ∷ 0x05 ∷ 0x00 ∷ 0x15 ∷ 0x02 ∷ 0x00 ∷ 0x06 ∷ 0x00 ∷ 0x00 ∷ 0x00 ∷ 0x16 ∷ 0x00 ∷ 0x00 ∷ 0x00 ∷ 0x07 ∷ 0x00 ∷ 0x7F ∷ 0x09 ∷ 0x00 ∷ [])

-- exists x. (P{a:x} since x > 1)
abbrev case_i : List ℕ
case_i = written ("x" ∷ []) (0x20 ∷ 0x00 ∷ 0x30 ∷ 0x31 ∷ 0x01 ∷ 0x00 ∷ 0x00 ∷ 0x00 ∷ 0x01 ∷ 0x00 ∷ 0x18 ∷ 0x01 ∷ 0x00 ∷ 0x02 ∷ 0x00 ∷ 0x20 ∷ 0x00 ∷ 0x22 ∷ 0x01 ∷ 0x00 ∷ 0x17 ∷ 0x03 ∷ 0x04 ∷ 0x00 ∷ 0x05 ∷ 0x00 ∷ 0x15 ∷ 0x03 ∷ 0x00 ∷ 0x06 ∷ 0x00 ∷ 0x00 ∷ 0x00 ∷ 0x16 ∷ 0x00 ∷ 0x00 ∷ 0x00 ∷ 0x07 ∷ 0x00 ∷ 0x7F ∷ 0x09 ∷ 0x00 ∷ [])

-- exists x. (P{a:x} && (count for x where x > 1) > 0)
abbrev case_j : List ℕ
case_j = written ("x" ∷ []) (0x20 ∷ 0x00 ∷ 0x30 ∷ 0x31 ∷ 0x01 ∷ 0x00 ∷ 0x00 ∷ 0x00 ∷ 0x01 ∷ 0x00 ∷ 0x18 ∷ 0x01 ∷ 0x00 ∷ 0x02 ∷ 0x00 ∷ 0x20 ∷ 0x00 ∷ 0x22 ∷ 0x01 ∷ 0x00 ∷ 0x17 ∷ 0x03 ∷ 0x04 ∷ 0x00 ∷ 0x05 ∷ 0x00 ∷ 0x30 ∷ 0x33 ∷ 0x00 ∷ 0x00 ∷ 0x00 ∷ 0x07 ∷ 0x00 ∷ 0x2A ∷ 0x08 ∷ 0x00 ∷ 0x06 ∷ 0x00 ∷ 0x22 ∷ 0x00 ∷ 0x00 ∷ 0x17 ∷ 0x03 ∷ 0x09 ∷ 0x00 ∷ 0x0A ∷ 0x00 ∷ 0x10 ∷ 0x03 ∷ 0x00 ∷ 0x0B ∷ 0x00 ∷ 0x16 ∷ 0x00 ∷ 0x00 ∷ 0x00 ∷ 0x0C ∷ 0x00 ∷ 0x7F ∷ 0x0E ∷ 0x00 ∷ [])

-- exists principal. P{a:principal}
abbrev case_k : List ℕ
case_k = written ("principal" ∷ []) (0x20 ∷ 0x00 ∷ 0x30 ∷ 0x31 ∷ 0x01 ∷ 0x00 ∷ 0x00 ∷ 0x00 ∷ 0x01 ∷ 0x00 ∷ 0x18 ∷ 0x01 ∷ 0x00 ∷ 0x02 ∷ 0x00 ∷ 0x16 ∷ 0x00 ∷ 0x00 ∷ 0x00 ∷ 0x03 ∷ 0x00 ∷ 0x7F ∷ 0x05 ∷ 0x00 ∷ [])

-- x == y
abbrev case_l : List ℕ
case_l = written ("x" ∷ "y" ∷ []) (0x20 ∷ 0x00 ∷ 0x20 ∷ 0x01 ∷ 0x17 ∷ 0x00 ∷ 0x00 ∷ 0x00 ∷ 0x01 ∷ 0x00 ∷ 0x7F ∷ 0x03 ∷ 0x00 ∷ [])

-- exists f. (g < lit && P{field: f})
abbrev pub case_full : List ℕ
case_full =
    0x01 ∷ 0x01 ∷ 0x02 ∷ 0x66 ∷ 0x00 ∷ 0x00 ∷ 0x00 ∷ 0x00 ∷ 0x00 ∷ 0x00 ∷ 0x00 ∷ 0x00 ∷ 0x00 ∷ 0x00 ∷ 0x00 ∷ 0x00 ∷ 0x00 ∷ 0x00 ∷ 0x00 ∷ 0x00 ∷ 0x00 ∷ 0x00 ∷ 0x00 ∷ 0x00 ∷ 0x00 ∷ 0x00 ∷ 0x00 ∷ 0x02 ∷ 0x67 ∷ 0x00 ∷ 0x00 ∷ 0x00 ∷ 0x00 ∷ 0x00 ∷ 0x00 ∷ 0x00 ∷ 0x00 ∷ 0x00 ∷ 0x00 ∷ 0x00 ∷ 0x00 ∷ 0x00 ∷ 0x00 ∷ 0x00 ∷ 0x00 ∷ 0x00 ∷ 0x00 ∷ 0x00 ∷ 0x00 ∷ 0x00 ∷ 0x00 ∷ 0x00 ∷ 0x20 ∷ 0x01 ∷ 0x22 ∷ 0x03 ∷ 0x00 ∷ 0x17 ∷ 0x02 ∷ 0x00 ∷ 0x00 ∷ 0x01 ∷ 0x00 ∷ 0x20 ∷ 0x00 ∷ 0x30 ∷ 0x31 ∷ 0x07 ∷ 0x00 ∷ 0x03 ∷ 0x00 ∷ 0x04 ∷ 0x00 ∷ 0x18 ∷ 0x09 ∷ 0x00 ∷ 0x05 ∷ 0x00 ∷ 0x10 ∷ 0x02 ∷ 0x00 ∷ 0x06 ∷ 0x00 ∷ 0x16 ∷ 0x00 ∷ 0x00 ∷ 0x00 ∷ 0x07 ∷ 0x00 ∷ 0x7F ∷ 0x09 ∷ 0x00 ∷ []

-- ---- cases of our own: each shows a slip that none of document 01's would

-- exists ?p. x > 1
abbrev case_m : List ℕ
case_m = written ("x" ∷ []) (0x20 ∷ 0x00 ∷ 0x22 ∷ 0x01 ∷ 0x00 ∷ 0x17 ∷ 0x03 ∷ 0x00 ∷ 0x00 ∷ 0x01 ∷ 0x00 ∷ 0x16 ∷ 0x01 ∷ 0x00 ∷ 0x00 ∷ 0x02 ∷ 0x00 ∷ 0x7F ∷ 0x04 ∷ 0x00 ∷ [])

-- (sum s for x where P{a:x}) > 3
abbrev case_n : List ℕ
case_n = written ("s" ∷ "x" ∷ []) (0x20 ∷ 0x01 ∷ 0x30 ∷ 0x31 ∷ 0x01 ∷ 0x00 ∷ 0x00 ∷ 0x00 ∷ 0x01 ∷ 0x00 ∷ 0x18 ∷ 0x01 ∷ 0x00 ∷ 0x02 ∷ 0x00 ∷ 0x30 ∷ 0x33 ∷ 0x00 ∷ 0x01 ∷ 0x00 ∷ 0x04 ∷ 0x00 ∷ 0x29 ∷ 0x00 ∷ 0x00 ∷ 0x05 ∷ 0x00 ∷ 0x03 ∷ 0x00 ∷ 0x22 ∷ 0x03 ∷ 0x00 ∷ 0x17 ∷ 0x03 ∷ 0x06 ∷ 0x00 ∷ 0x07 ∷ 0x00 ∷ 0x7F ∷ 0x09 ∷ 0x00 ∷ [])

-- exists x. P{}{a:[x]}
abbrev case_o : List ℕ
case_o = written ("x" ∷ []) (0x20 ∷ 0x00 ∷ 0x30 ∷ 0x32 ∷ 0x00 ∷ 0x00 ∷ 0x01 ∷ 0x00 ∷ 0x27 ∷ 0x02 ∷ 0x00 ∷ 0x30 ∷ 0x31 ∷ 0x01 ∷ 0x00 ∷ 0x03 ∷ 0x00 ∷ 0x04 ∷ 0x00 ∷ 0x30 ∷ 0x18 ∷ 0x01 ∷ 0x00 ∷ 0x06 ∷ 0x00 ∷ 0x19 ∷ 0x07 ∷ 0x00 ∷ 0x05 ∷ 0x00 ∷ 0x16 ∷ 0x00 ∷ 0x00 ∷ 0x00 ∷ 0x08 ∷ 0x00 ∷ 0x7F ∷ 0x0A ∷ 0x00 ∷ [])

-- exists x. x == [1 + 2]
abbrev case_p : List ℕ
case_p = written ("x" ∷ []) (0x22 ∷ 0x01 ∷ 0x00 ∷ 0x22 ∷ 0x02 ∷ 0x00 ∷ 0x28 ∷ 0x00 ∷ 0x00 ∷ 0x00 ∷ 0x01 ∷ 0x00 ∷ 0x30 ∷ 0x32 ∷ 0x02 ∷ 0x00 ∷ 0x03 ∷ 0x00 ∷ 0x27 ∷ 0x04 ∷ 0x00 ∷ 0x20 ∷ 0x00 ∷ 0x17 ∷ 0x00 ∷ 0x06 ∷ 0x00 ∷ 0x05 ∷ 0x00 ∷ 0x16 ∷ 0x00 ∷ 0x00 ∷ 0x00 ∷ 0x07 ∷ 0x00 ∷ 0x7F ∷ 0x09 ∷ 0x00 ∷ [])

-- (count for x where P{a:x}) > 0
abbrev case_q : List ℕ
case_q = written ("x" ∷ []) (0x20 ∷ 0x00 ∷ 0x30 ∷ 0x31 ∷ 0x01 ∷ 0x00 ∷ 0x00 ∷ 0x00 ∷ 0x01 ∷ 0x00 ∷ 0x18 ∷ 0x01 ∷ 0x00 ∷ 0x02 ∷ 0x00 ∷ 0x30 ∷ 0x33 ∷ 0x00 ∷ 0x00 ∷ 0x00 ∷ 0x04 ∷ 0x00 ∷ 0x2A ∷ 0x05 ∷ 0x00 ∷ 0x03 ∷ 0x00 ∷ 0x22 ∷ 0x00 ∷ 0x00 ∷ 0x17 ∷ 0x03 ∷ 0x06 ∷ 0x00 ∷ 0x07 ∷ 0x00 ∷ 0x7F ∷ 0x09 ∷ 0x00 ∷ [])

-- exists x. call
abbrev case_r : List ℕ
case_r = written ("x" ∷ []) (0x1B ∷ 0x01 ∷ 0x00 ∷ 0x16 ∷ 0x00 ∷ 0x00 ∷ 0x00 ∷ 0x00 ∷ 0x00 ∷ 0x7F ∷ 0x02 ∷ 0x00 ∷ [])

-- (sum s for x where call) > 0
abbrev case_s : List ℕ
case_s = written ("s" ∷ "x" ∷ []) (0x1B ∷ 0x01 ∷ 0x00 ∷ 0x30 ∷ 0x33 ∷ 0x00 ∷ 0x01 ∷ 0x00 ∷ 0x01 ∷ 0x00 ∷ 0x29 ∷ 0x00 ∷ 0x00 ∷ 0x02 ∷ 0x00 ∷ 0x00 ∷ 0x00 ∷ 0x22 ∷ 0x00 ∷ 0x00 ∷ 0x17 ∷ 0x03 ∷ 0x03 ∷ 0x00 ∷ 0x04 ∷ 0x00 ∷ 0x7F ∷ 0x06 ∷ 0x00 ∷ [])

-- (count for x where P{a:1 + 2}) > 0
abbrev case_t : List ℕ
case_t = written ("x" ∷ []) (0x22 ∷ 0x01 ∷ 0x00 ∷ 0x22 ∷ 0x02 ∷ 0x00 ∷ 0x28 ∷ 0x00 ∷ 0x00 ∷ 0x00 ∷ 0x01 ∷ 0x00 ∷ 0x30 ∷ 0x31 ∷ 0x01 ∷ 0x00 ∷ 0x02 ∷ 0x00 ∷ 0x03 ∷ 0x00 ∷ 0x18 ∷ 0x01 ∷ 0x00 ∷ 0x04 ∷ 0x00 ∷ 0x30 ∷ 0x33 ∷ 0x00 ∷ 0x00 ∷ 0x00 ∷ 0x06 ∷ 0x00 ∷ 0x2A ∷ 0x07 ∷ 0x00 ∷ 0x05 ∷ 0x00 ∷ 0x22 ∷ 0x00 ∷ 0x00 ∷ 0x17 ∷ 0x03 ∷ 0x08 ∷ 0x00 ∷ 0x09 ∷ 0x00 ∷ 0x7F ∷ 0x0B ∷ 0x00 ∷ [])

-- ---- the claim

-- every definition opened, for what is computed
unfoldable pub computed : Unit {0}
unfolding none only ◌∪◌ ◌∩◌ ◌∖◌ outside members zeros name_rest is_name precedes fits field_bytes body_length two_bytes value values slot_of kinds node_kind announced body_bytes ascii verdict nothing_read in_order full refer in_range check check_all check_depth read_format last_name read_name add_node read_node all_below read_end read_body read_record read_on read as_condition as_term as_arguments as_items as_binders planted trees tree_at root size term_size arguments_size items_size binders_size named is_sigil binder_names free term_free arguments_free items_free has_wildcard items_wildcard bare about unless by_bare equality tied_name direct restricted holds_sigil term_sigil arguments_sigil items_sigil gather at_cell findings spot_size found_within found is_word is_reserved reserved binder_sigil cell_of cells scope_below scope_broken closedness_broken demand_below demand_broken has_arith operand_arith root_no scoping_part closedness_part demands_part the_list name_or_255 pack packed arithmetic_of arithmetic listing_of list buffer_of list_buffer
computed = tt

-- what the list answers where a buffer of six entries is lent, what then stands in the buffer, and what the arithmetic test answers
pub record Told : Type 0 where
  pub listing : Listing
  pub buffer : List ℕ
  pub arith : Arithmetic

unfoldable pub told : List ℕ → Told
told bytes = record { listing = list bytes 6; buffer = list_buffer bytes (replicate 6 7); arith = arithmetic bytes }

-- these entries, in this order, the rest of the buffer as it was, and this answer
abbrev pub finds : List ℕ → List ℕ → Arithmetic → Told
finds entries rest answer = record { listing = Ok (length entries); buffer = entries ++ rest; arith = answer }

-- rule, node and name as document 01's number
abbrev pub at : ℕ → ℕ → ℕ → ℕ
at rule node name = rule * 16777216 + node * 256 + name

pub cases :
    map told (case_a ∷ case_b ∷ case_c ∷ case_d ∷ case_e ∷ case_f ∷ case_g ∷ case_h ∷ case_i ∷ case_j ∷ case_k ∷ case_l ∷ case_full ∷ [])
    ≡ (finds (at 23 3 0 ∷ at 31 2 0 ∷ []) (7 ∷ 7 ∷ 7 ∷ 7 ∷ []) (Ok false)
    ∷ finds ([]) (7 ∷ 7 ∷ 7 ∷ 7 ∷ 7 ∷ 7 ∷ []) (Ok false)
    ∷ finds (at 30 4 0 ∷ []) (7 ∷ 7 ∷ 7 ∷ 7 ∷ 7 ∷ []) (Ok true)
    ∷ finds (at 23 9 0 ∷ []) (7 ∷ 7 ∷ 7 ∷ 7 ∷ 7 ∷ []) (Ok false)
    ∷ finds (at 23 5 0 ∷ at 31 4 0 ∷ []) (7 ∷ 7 ∷ 7 ∷ 7 ∷ []) (Ok false)
    ∷ finds (at 24 8 0 ∷ at 25 8 0 ∷ at 28 10 0 ∷ at 31 10 0 ∷ []) (7 ∷ 7 ∷ []) (Ok false)
    ∷ finds (at 26 2 0 ∷ at 27 2 0 ∷ []) (7 ∷ 7 ∷ 7 ∷ 7 ∷ []) (Ok false)
    ∷ finds ([]) (7 ∷ 7 ∷ 7 ∷ 7 ∷ 7 ∷ 7 ∷ []) (Ok false)
    ∷ finds (at 23 8 0 ∷ at 32 7 0 ∷ at 31 6 0 ∷ []) (7 ∷ 7 ∷ 7 ∷ []) (Ok false)
    ∷ finds (at 27 8 0 ∷ at 31 6 0 ∷ []) (7 ∷ 7 ∷ 7 ∷ 7 ∷ []) (Ok false)
    ∷ finds (at 22 4 0 ∷ []) (7 ∷ 7 ∷ 7 ∷ 7 ∷ 7 ∷ []) (Ok false)
    ∷ finds (at 28 2 0 ∷ at 28 2 1 ∷ at 31 2 0 ∷ at 31 2 1 ∷ []) (7 ∷ 7 ∷ []) (Ok false)
    ∷ finds (469764097 ∷ 520094209 ∷ []) (7 ∷ 7 ∷ 7 ∷ 7 ∷ []) (Ok false) ∷ [])
unfolding computed told
cases = refl

-- a sigil slot of exists is not held; the summed slot is not free; a field that is no bare variable restricts nothing; the arithmetic test does not look
-- into arrays; an aggregate's own binders are not free; 23 is skipped under a sigil; 24 stands before 26; an aggregate's cells stand before its body
pub slips :
    map told (case_m ∷ case_n ∷ case_o ∷ case_p ∷ case_q ∷ case_r ∷ case_s ∷ case_t ∷ [])
    ≡ (finds (at 28 3 0 ∷ at 31 2 0 ∷ []) (7 ∷ 7 ∷ 7 ∷ 7 ∷ []) (Ok false)
    ∷ finds (at 24 6 0 ∷ []) (7 ∷ 7 ∷ 7 ∷ 7 ∷ 7 ∷ []) (Ok false)
    ∷ finds (at 23 9 0 ∷ []) (7 ∷ 7 ∷ 7 ∷ 7 ∷ 7 ∷ []) (Ok false)
    ∷ finds (at 21 2 255 ∷ []) (7 ∷ 7 ∷ 7 ∷ 7 ∷ 7 ∷ []) (Ok false)
    ∷ finds ([]) (7 ∷ 7 ∷ 7 ∷ 7 ∷ 7 ∷ 7 ∷ []) (Ok false)
    ∷ finds ([]) (7 ∷ 7 ∷ 7 ∷ 7 ∷ 7 ∷ 7 ∷ []) (Ok false)
    ∷ finds (at 24 3 0 ∷ at 26 2 1 ∷ at 27 2 1 ∷ []) (7 ∷ 7 ∷ 7 ∷ []) (Ok false)
    ∷ finds (at 26 7 0 ∷ at 27 7 0 ∷ at 21 2 255 ∷ []) (7 ∷ 7 ∷ 7 ∷ []) (Ok false) ∷ [])
unfolding computed told
slips = refl

-- ---- bytes that are turned away, at least one for each number

abbrev nodes : List ℕ → List ℕ
nodes rest = written [] rest

-- so many names, ascending
unfoldable pub many_names : ℕ → List ℕ
many_names zero = []
many_names (suc k) = many_names k ++ (0x02 ∷ (65 + k / 16) ∷ (65 + k % 16) ∷ replicate 22 0)

-- node 0 is a call, and each of so many nodes negates the one before
unfoldable pub nested : ℕ → List ℕ
nested zero = 0x1B ∷ 0 ∷ 0 ∷ []
nested (suc k) = nested k ++ (0x12 ∷ k ∷ 0 ∷ [])

unfoldable pub verdict_on : List ℕ → Result Counts Refusal
verdict_on bytes = verdict (read bytes)

pub turned_away :
    map verdict_on
    ([]
    ∷ (0x01 ∷ [])
    ∷ (0x01 ∷ 0x01 ∷ [])
    ∷ nodes (0x1B ∷ 0 ∷ [])
    ∷ nodes (0x1B ∷ 0 ∷ 0 ∷ 0x7F ∷ 1 ∷ [])
    ∷ (0x7F ∷ [])
    ∷ nodes (0x55 ∷ [])
    ∷ nodes (0x01 ∷ 0x01 ∷ [])
    ∷ nodes (0x21 ∷ 0x02 ∷ [])
    ∷ (0x01 ∷ 0x02 ∷ [])
    ∷ written ("9a" ∷ []) []
    ∷ written ("b" ∷ "b" ∷ []) []
    ∷ written ("b" ∷ "a" ∷ []) []
    ∷ nodes (many_names 129)
    ∷ nodes (replicate 513 0x21)
    ∷ nodes (0x20 ∷ 0 ∷ [])
    ∷ nodes (0x21 ∷ 0x21 ∷ 0x17 ∷ 6 ∷ 0 ∷ 0 ∷ 1 ∷ 0 ∷ [])
    ∷ nodes (0x1A ∷ 3 ∷ 0 ∷ [])
    ∷ nodes (0x12 ∷ 0 ∷ 0 ∷ [])
    ∷ nodes (0x30 ∷ 0x12 ∷ 0 ∷ 0 ∷ [])
    ∷ nodes (nested 64)
    ∷ nodes (0x1B ∷ 0 ∷ 0 ∷ 0x10 ∷ 0 ∷ 0 ∷ 0 ∷ 0 ∷ [])
    ∷ nodes (0x1B ∷ 0 ∷ 0 ∷ 0x7F ∷ 2 ∷ 0 ∷ [])
    ∷ nodes (0x1B ∷ 0 ∷ 0 ∷ 0x7F ∷ 1 ∷ 0 ∷ 0 ∷ [])
    ∷ nodes (0x7F ∷ 0 ∷ 0 ∷ [])
    ∷ nodes (0x21 ∷ 0x7F ∷ 1 ∷ 0 ∷ [])
    ∷ nodes (0x1B ∷ 0 ∷ 0 ∷ 0x1B ∷ 0 ∷ 0 ∷ 0x7F ∷ 2 ∷ 0 ∷ [])
    ∷ [])
    ≡ (Err (refusal 1 0)
    ∷ Err (refusal 1 0)
    ∷ Err (refusal 1 2)
    ∷ Err (refusal 1 2)
    ∷ Err (refusal 1 5)
    ∷ Err (refusal 2 0)
    ∷ Err (refusal 2 2)
    ∷ Err (refusal 2 2)
    ∷ Err (refusal 2 3)
    ∷ Err (refusal 3 0)
    ∷ Err (refusal 4 2)
    ∷ Err (refusal 5 27)
    ∷ Err (refusal 5 27)
    ∷ Err (refusal 6 3202)
    ∷ Err (refusal 6 514)
    ∷ Err (refusal 7 2)
    ∷ Err (refusal 7 4)
    ∷ Err (refusal 7 2)
    ∷ Err (refusal 8 2)
    ∷ Err (refusal 9 3)
    ∷ Err (refusal 10 194)
    ∷ Err (refusal 11 5)
    ∷ Err (refusal 12 5)
    ∷ Err (refusal 12 5)
    ∷ Err (refusal 13 2)
    ∷ Err (refusal 13 3)
    ∷ Err (refusal 13 8)
    ∷ [])
unfolding computed many_names nested verdict_on
turned_away = refl

-- ---- the column 'Bytes' of the table of kinds

pub body_lengths : map (λ (r : Kind). body_length r.body) kinds
    ≡ (4 ∷ 4 ∷ 2 ∷ 4 ∷ 4 ∷ 6 ∷ 5 ∷ 5 ∷ 4 ∷ 4 ∷ 2 ∷ 2 ∷ 2 ∷ 1 ∷ 0 ∷ 2 ∷ 2 ∷ 2 ∷ 1 ∷ 1 ∷ 2 ∷ 5 ∷ 6 ∷ 4 ∷ 2 ∷ 0 ∷ 6 ∷ 4 ∷ 5 ∷ [])
unfolding computed
body_lengths = refl

-- ---- what single cases are answered, for whoever shuts out a wrong version by them

abbrev pub unmet : ℕ → ℕ → ℕ → Answer
unmet rule node name = Ok (Some (record { rule = rule; node = node_no node; name = Some (name_no name) }))

pub scoping_b : scoping case_b none ≡ Ok None
unfolding computed scoping answered first
scoping_b = refl

pub scoping_f : scoping case_f none ≡ unmet 24 8 0
unfolding computed scoping answered first
scoping_f = refl

pub closedness_b : closedness case_b ≡ Ok None
unfolding computed closedness answered first
closedness_b = refl

pub closedness_full : closedness case_full ≡ unmet 28 8 1
unfolding computed closedness answered first
closedness_full = refl

pub demands_b : demands case_b ≡ Ok None
unfolding computed demands answered first
demands_b = refl

pub demands_full : demands case_full ≡ unmet 31 2 1
unfolding computed demands answered first
demands_full = refl

pub verdict_b : verdict (read case_b) ≡ Ok (counts 1 7)
unfolding computed
verdict_b = refl

pub name_b : name case_b 0 ≡ ascii "x"
unfolding computed name name_of name_text trimmed
name_b = refl

-- the buffer of six entries that the cases lend
abbrev pub lent : List ℕ
lent = replicate 6 7

-- what the list and the arithmetic test answer, from the claim
pub as_told : (bytes : List ℕ) (t : Told) → told bytes ≡ t
    → (list bytes 6 ≡ t.listing) × (list_buffer bytes lent ≡ t.buffer) × (arithmetic bytes ≡ t.arith)
unfolding told
as_told bytes t e = (ap (λ (z : Told). z.listing) e, ap (λ (z : Told). z.buffer) e, ap (λ (z : Told). z.arith) e)

pub told_b : told case_b ≡ finds [] (7 ∷ 7 ∷ 7 ∷ 7 ∷ 7 ∷ 7 ∷ []) (Ok false)
told_b = ap (λ (l : List Told). get_or l 1 (told [])) cases

pub told_c : told case_c ≡ finds (at 30 4 0 ∷ []) (7 ∷ 7 ∷ 7 ∷ 7 ∷ 7 ∷ []) (Ok true)
told_c = ap (λ (l : List Told). get_or l 2 (told [])) cases

pub told_f : told case_f ≡ finds (at 24 8 0 ∷ at 25 8 0 ∷ at 28 10 0 ∷ at 31 10 0 ∷ []) (7 ∷ 7 ∷ []) (Ok false)
told_f = ap (λ (l : List Told). get_or l 5 (told [])) cases

pub told_full : told case_full ≡ finds (469764097 ∷ 520094209 ∷ []) (7 ∷ 7 ∷ 7 ∷ 7 ∷ []) (Ok false)
told_full = ap (λ (l : List Told). get_or l 12 (told [])) cases

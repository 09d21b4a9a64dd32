-- The public questions: for each, its answer as a function of the bytes, and of the seed or the lent buffer; and document 01's numbers for the
-- cases of each answer. "A refusal by the reader is passed up unchanged by every question but the name lookup." Assumes nothing: these are definitions.
use Rattle.std.specs.Prelude.{ℕ, ◌+◌, ◌*◌, Bool, true, false, List, [], ◌∷◌, ◌++◌, leb, ltb, length, drop, Option, Some, None, Result, Ok, Err}
use Rattle.paper.specs.declared.Finding.{Finding}
use Rattle.paper.specs.declared.Refusal.{Refusal}
use Rattle.paper.specs.declared.Unlisted.{Unlisted}
use Rattle.paper.specs.declared.Unlisted.TheVariants.{NoRoom, Refused}
use Rattle.paper.specs.Record.{pick}
use Rattle.paper.specs.Sets.{Set}
use Rattle.paper.specs.TurnedAway.{Contents, Outcome, refused, accepted, refusal, read}
use Rattle.paper.specs.Tree.{root}
use Rattle.paper.specs.Scoping.{scoping_part}
use Rattle.paper.specs.Demands.{closedness_part, demands_part, has_arith}
use Rattle.paper.specs.TheList.{packed, name_or_255, name_text}

-- ---- "Scoping (bytes and seed), closedness and demands answer 'accepted' or their first entry"

-- the first entry, if there is one; or the reader's refusal
abbrev pub Answer : Type 0
Answer = Result (Option Finding) Refusal

unfoldable pub first : List Finding → Answer
first [] = Ok None
first (f ∷ fs) = Ok (Some f)

unfoldable pub answered : (Contents → List Finding) → Outcome → Answer
answered part (refused number offset) = Err (refusal number offset)
answered part (accepted c) = first (part c)

unfoldable pub scoping : List ℕ → Set → Answer
scoping bytes seed = answered (λ c. scoping_part c seed) (read bytes)

unfoldable pub closedness : List ℕ → Answer
closedness bytes = answered closedness_part (read bytes)

unfoldable pub demands : List ℕ → Answer
demands bytes = answered demands_part (read bytes)

-- ---- "the arithmetic test answers yes or no"

-- yes or no; or the reader's refusal
abbrev pub Arithmetic : Type 0
Arithmetic = Result Bool Refusal

unfoldable pub arithmetic_of : Outcome → Arithmetic
arithmetic_of (refused number offset) = Err (refusal number offset)
arithmetic_of (accepted c) = Ok (has_arith (root c))

unfoldable pub arithmetic : List ℕ → Arithmetic
arithmetic bytes = arithmetic_of (read bytes)

-- ---- the list: "Success returns the count and changes only that many entries, the first ones"; "50, after them, returns the entries needed.
-- None writes anything."

-- how many entries were written; or why none were
abbrev pub Listing : Type 0
Listing = Result ℕ Unlisted

-- the answer, where the buffer has room for so many entries
unfoldable pub listing_of : Outcome → ℕ → Listing
listing_of (refused number offset) room = Err (Refused (refusal number offset))
listing_of (accepted c) room = pick (leb (length (packed c)) room) (Ok (length (packed c))) (Err (NoRoom (length (packed c))))

unfoldable pub list : List ℕ → ℕ → Listing
list bytes room = listing_of (read bytes) room

-- what the lent buffer holds afterwards, where it held `before`
unfoldable pub buffer_of : Outcome → List ℕ → List ℕ
buffer_of (refused number offset) before = before
buffer_of (accepted c) before = pick (leb (length (packed c)) (length before)) (packed c ++ drop (length (packed c)) before) before

unfoldable pub list_buffer : List ℕ → List ℕ → List ℕ
list_buffer bytes before = buffer_of (read bytes) before

-- ---- the name lookup: "an unknown number or a bad record gives the empty stretch"

unfoldable pub name_of : Outcome → ℕ → List ℕ
name_of (refused number offset) x = []
name_of (accepted c) x = name_text c x

unfoldable pub name : List ℕ → ℕ → List ℕ
name bytes x = name_of (read bytes) x

-- "that stretch of the caller's own bytes": where it begins, after the format record and the name records before it, and how many bytes it has
pub record Stretch : Type 0 where
  pub at : ℕ
  pub len : ℕ

abbrev no_stretch : Stretch
no_stretch = record { at = 0; len = 0 }

unfoldable pub stretch_of : Outcome → ℕ → Stretch
stretch_of (refused number offset) x = no_stretch
stretch_of (accepted c) x = pick (ltb x (length c.names)) (record { at = 3 + 25 * x; len = length (name_text c x) }) no_stretch

unfoldable pub name_stretch : List ℕ → ℕ → Stretch
name_stretch bytes x = stretch_of (read bytes) x

-- ---- document 01's numbers for an answer

-- a number (0 where nothing is wrong); the offset, the node, the entries needed or the count; and the name, or 255
pub record Numbers : Type 0 where
  pub number : ℕ
  pub place : ℕ
  pub name : ℕ

abbrev numbers : ℕ → ℕ → ℕ → Numbers
numbers n p x = record { number = n; place = p; name = x }

unfoldable pub answer_numbers : Answer → Numbers
answer_numbers (Ok None) = numbers 0 0 255
answer_numbers (Ok (Some f)) = numbers f.rule f.node.0 (name_or_255 f.name)
answer_numbers (Err r) = numbers r.number r.offset 255

-- "yes (refusal 40 ..., no node, no name)"
unfoldable pub arithmetic_numbers : Arithmetic → Numbers
arithmetic_numbers (Ok true) = numbers 40 0 255
arithmetic_numbers (Ok false) = numbers 0 0 255
arithmetic_numbers (Err r) = numbers r.number r.offset 255

unfoldable pub listing_numbers : Listing → Numbers
listing_numbers (Ok count) = numbers 0 count 255
listing_numbers (Err (NoRoom needed)) = numbers 50 needed 255
listing_numbers (Err (Refused r)) = numbers r.number r.offset 255

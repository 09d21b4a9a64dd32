-- Document 01, 'The list and the names': the three parts of the list, an entry as a number, and a name by its number. Assumes nothing: these are definitions.
use Rattle.std.specs.Prelude.{ℕ, ◌+◌, ◌*◌, ◌/◌, ◌%◌, true, false, List, [], ◌∷◌, ◌++◌, map, eqb, get_or, Option, Some, None}
use Rattle.paper.specs.declared.NameNo.{NameNo}
use Rattle.paper.specs.declared.Finding.{Finding}
use Rattle.paper.specs.Record.{pick, node_no, name_no}
use Rattle.paper.specs.Sets.{none}
use Rattle.paper.specs.TurnedAway.{Contents}
use Rattle.paper.specs.Scoping.{scoping_part}
use Rattle.paper.specs.Demands.{closedness_part, demands_part}

-- ---- the three parts

-- "20 to 27 with an empty seed, then 28, then 30 to 32"
unfoldable pub the_list : Contents → List Finding
the_list c = scoping_part c none ++ (closedness_part c ++ demands_part c)

-- ---- an entry as a number

-- "name, or 255 where there is none"
unfoldable pub name_or_255 : Option NameNo → ℕ
name_or_255 (Some x) = x.0
name_or_255 None = 255

-- "rule times 16,777,216, plus node times 256, plus name"
unfoldable pub pack : Finding → ℕ
pack f = f.rule * 16777216 + f.node.0 * 256 + name_or_255 f.name

-- the entry that a number stands for
unfoldable pub subject_of : ℕ → Option NameNo
subject_of x = pick (eqb x 255) None (Some (name_no x))

unfoldable pub unpack : ℕ → Finding
unpack v = record { rule = v / 16777216; node = node_no (v / 256 % 65536); name = subject_of (v % 256) }

unfoldable pub packed : Contents → List ℕ
packed c = map pack (the_list c)

-- ---- a name by its number

-- "without padding"
unfoldable pub trimmed : List ℕ → List ℕ
trimmed [] = []
trimmed (x ∷ xs) = elim (eqb x 0) [ true ↦ [] | false ↦ x ∷ trimmed xs ]

-- "an unknown number .. gives the empty stretch"
unfoldable pub name_text : Contents → ℕ → List ℕ
name_text c x = trimmed (get_or c.names x [])

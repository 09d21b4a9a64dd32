-- Four and eight bytes as one number. Assumes nothing: these are definitions.
use Rattle.std.specs.Prelude.{ℕ, ◌+◌, ◌*◌, List, get_or}

-- the four and the eight bytes of b from place i on, the first lowest; past the end they are 0
abbrev pub four : List ℕ → ℕ → ℕ
four b i = get_or b i 0 + 0x100 * get_or b (i + 1) 0 + 0x10000 * get_or b (i + 2) 0 + 0x1000000 * get_or b (i + 3) 0

abbrev pub eight : List ℕ → ℕ → ℕ
eight b i = four b i + 0x100000000 * four b (i + 4)

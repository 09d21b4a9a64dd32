-- Eight bytes as one number, the first highest, so that numbers are ordered as their bytes are. Assumes nothing: this is a definition.
use Rattle.std.specs.Prelude.{ℕ, ◌+◌, ◌*◌, List, get_or}

abbrev pub eight : List ℕ → ℕ → ℕ
eight n i =
    0x100000000000000 * get_or n i 0 + 0x1000000000000 * get_or n (i + 1) 0 + 0x10000000000 * get_or n (i + 2) 0 + 0x100000000 * get_or n (i + 3) 0
    + 0x1000000 * get_or n (i + 4) 0 + 0x10000 * get_or n (i + 5) 0 + 0x100 * get_or n (i + 6) 0 + get_or n (i + 7) 0

-- How columns are filled: the record that a node's word is made of, and one record after the other. Assumes nothing.
use mathlib.Core.Path.{◌≡◌, sym, ap, ap₂, ◌∙◌}
use mathlib.Core.List.{List}
use Prim.Native.Nat.{ℕ, ◌+◌, ◌*◌, ◌/◌, ◌%◌, ◌<◌, ◌≤◌}
use native.Mathlib.Omega.{arith}
use native.Mathlib.Decide.{ℕ_discrete}
use lib.ListN.{length, get_or, drop, set, length-set}
use lib.Seq.{get_or-drop, get_or-set_same, get_or-set_other}
use Rattle.octets.specs.Eights.{eight}
use Rattle.memory.specs.Decoded.{node_from}
use Rattle.memory.specs.Columns.{node_told, places_in, node_in, in_columns, Copies}
use Rattle.memory.proofs.FieldLaws.{two_bytes_at}
use Rattle.memory.proofs.ColumnLaws.{Octets, number_at, told_same}

-- ---- a record

module _ (bytes : List ℕ) (small : Octets bytes) (at : ℕ) where
  abbrev body : List ℕ
  body = drop (at + 1) bytes

  body_small : Octets body
  body_small i = let l = small (at + 1 + i) in let e = get_or-drop (at + 1) bytes i 0 in omega arith

  -- two bytes of the body, by where they stand in the bytes
  pair : (k : ℕ) → number_at body body_small k ≡ get_or bytes (at + (k + 1)) 0 + 256 * get_or bytes (at + (k + 2)) 0
  pair k =
      let one = get_or-drop (at + 1) bytes k 0 in
      let other = get_or-drop (at + 1) bytes (k + 1) 0 in
      two_bytes_at k body
      ∙ ap₂ (λ (x y : ℕ). x + 256 * y) (one ∙ ap (λ (n : ℕ). get_or bytes n 0) (let e : at + 1 + k ≡ at + (k + 1) = omega arith in e))
      (other ∙ ap (λ (n : ℕ). get_or bytes n 0) (let e : at + 1 + (k + 1) ≡ at + (k + 2) = omega arith in e))

  -- where the last four are counted from
  later : (k : ℕ) → get_or bytes (at + 4 + k) 0 ≡ get_or bytes (at + (4 + k)) 0
  later k = ap (λ (n : ℕ). get_or bytes n 0) (let e : at + 4 + k ≡ at + (4 + k) = omega arith in e)

  -- the six bytes after the kind, as one number
  abbrev after : ℕ
  after =
      get_or bytes (at + 1) 0 + 0x100 * get_or bytes (at + 2) 0 + 0x10000 * get_or bytes (at + 3) 0 + 0x1000000 * get_or bytes (at + 4) 0
      + 0x100000000 * get_or bytes (at + 5) 0 + 0x10000000000 * get_or bytes (at + 6) 0

  six : eight bytes at / 0x100 % 0x1000000000000 ≡ after
  six =
      let a = small at in let b = small (at + 1) in let c = small (at + 2) in let d = small (at + 3) in let e = small (at + 4) in let f = small (at + 5) in
      let g = small (at + 6) in let x = later 1 in let y = later 2 in omega arith

  word : in_columns (eight bytes at) ≡ get_or bytes at 0 + 0x10000 * after
  word = let s = six in let a = small at in omega arith

  kind_in : (get_or bytes at 0 + 0x10000 * after) % 0x10000 ≡ get_or bytes at 0
  kind_in = let a = small at in omega arith

  -- the two bytes at each place
  first : (get_or bytes at 0 + 0x10000 * after) / 0x10000 % 0x10000 ≡ get_or bytes (at + 1) 0 + 256 * get_or bytes (at + 2) 0
  first = let a = small at in let b = small (at + 1) in let c = small (at + 2) in omega arith

  second : (get_or bytes at 0 + 0x10000 * after) / 0x1000000 % 0x10000 ≡ get_or bytes (at + 2) 0 + 256 * get_or bytes (at + 3) 0
  second = let a = small at in let b = small (at + 1) in let c = small (at + 2) in let d = small (at + 3) in omega arith

  third : (get_or bytes at 0 + 0x10000 * after) / 0x100000000 % 0x10000 ≡ get_or bytes (at + 3) 0 + 256 * get_or bytes (at + 4) 0
  third = let a = small at in let b = small (at + 1) in let c = small (at + 2) in let d = small (at + 3) in let e = small (at + 4) in omega arith

  fourth : (get_or bytes at 0 + 0x10000 * after) / 0x10000000000 % 0x10000 ≡ get_or bytes (at + 4) 0 + 256 * get_or bytes (at + 5) 0
  fourth =
      let a = small at in let b = small (at + 1) in let c = small (at + 2) in let d = small (at + 3) in let e = small (at + 4) in let f = small (at + 5) in omega arith

  fifth : (get_or bytes at 0 + 0x10000 * after) / 0x1000000000000 % 0x10000 ≡ get_or bytes (at + 5) 0 + 256 * get_or bytes (at + 6) 0
  fifth =
      let a = small at in let b = small (at + 1) in let c = small (at + 2) in let d = small (at + 3) in let e = small (at + 4) in let f = small (at + 5) in
      let g = small (at + 6) in omega arith

  pub copied : {w : ℕ} → w ≡ in_columns (eight bytes at) → node_told (w % 0x10000) (places_in w) ≡ node_from bytes at
  unfolding node_from
  copied e =
      ap (λ (w : ℕ). node_told (w % 0x10000) (places_in w)) (e ∙ word)
      ∙ rw (kind_in, first ∙ sym (pair 0), second ∙ sym (pair 1), third ∙ sym (pair 2), fourth ∙ sym (pair 3), fifth ∙ sym (pair 4))
      (told_same body body_small (get_or bytes at 0))

-- ---- one record after the other

-- a word at another place says nothing of a node
beside : (words : List ℕ) (i j w : ℕ) → (j ≡ i → ⊥) → node_in (set words i w) j ≡ node_in words j
beside words i j w d = ap (λ (x : ℕ). node_told (x % 0x10000) (places_in x)) (get_or-set_other words i j w 0 d)

-- the first i of so many nodes are copied
pub record FirstCopied (bytes starts : List ℕ) (nodes : ℕ) (words : List ℕ) (i : ℕ) : Type 0 where
  pub long : length words ≡ 513
  pub few : nodes ≤ 512
  pub upto : i ≤ nodes
  pub each : (j : ℕ) → j < i → node_in words j ≡ node_from bytes (get_or starts j 0)

module _ {bytes starts : List ℕ} {nodes : ℕ} {words : List ℕ} where
  pub none_yet : nodes ≤ 512 → length words ≡ 513 → FirstCopied bytes starts nodes words 0
  none_yet h l = record { long = l; few = h; upto = omega arith; each = λ j z. absurd (omega arith) }

  pub one_more : {i at w : ℕ} → FirstCopied bytes starts nodes words i → i < nodes → at ≡ get_or starts i 0 → Octets bytes → w ≡ in_columns (eight bytes at)
      → FirstCopied bytes starts nodes (set words i w) (i + 1)
  one_more {i} {at} {w} p h e small is =
      let f = p.few in
      let l = p.long in
      record { long = length-set words i w ∙ l; few = f; upto = omega arith; each = λ j z. go f l j z (ℕ_discrete j i) }
    where
      go : nodes ≤ 512 → length words ≡ 513 → (j : ℕ) → j < i + 1 → Dec (j ≡ i) → node_in (set words i w) j ≡ node_from bytes (get_or starts j 0)
      go f l j z (yes d) =
          ap (λ (x : ℕ). node_told (x % 0x10000) (places_in x)) (ap (λ (n : ℕ). get_or (set words i w) n 0) d ∙ get_or-set_same words i w 0 (omega arith))
          ∙ copied bytes small at is ∙ ap (node_from bytes) (e ∙ ap (λ (n : ℕ). get_or starts n 0) (sym d))
      go f l j z (no d) = beside words i j w d ∙ p.each j (omega arith)

  pub all_copied : {i : ℕ} → FirstCopied bytes starts nodes words i → nodes ≤ i → Copies bytes starts nodes (set words 512 nodes)
  all_copied p h =
      let f = p.few in
      let l = p.long in
      record {
        count = get_or-set_same words 512 nodes 0 (omega arith);
        each = λ j z. beside words 512 j nodes (λ e. omega arith) ∙ p.each j (omega arith);
      }

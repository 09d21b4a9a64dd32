-- What a test of two sets says of every name. Assumes nothing: these are definitions.
use Rattle.std.specs.Prelude.{ℕ, ◌≡◌, Bool, true, false}
use Rattle.paper.specs.Sets.{Set}

-- yes: no name is in both; no: there is one
pub record Apart (said : Bool) (a b : Set) : Type 0 where
  pub yes : said ≡ true → (k : ℕ) → a k ≡ true → b k ≡ false
  pub no : said ≡ false → (k : ℕ) × (a k ≡ true) × (b k ≡ true)

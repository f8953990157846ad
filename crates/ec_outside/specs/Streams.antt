-- What a read takes from a source, and what a write and a flush leave of a sink.
use Rattle.std.specs.Prelude.{◌≡◌, ℕ, List, [], ◌++◌, Option, Some}

-- where it was told what is left, that began with these bytes, and what came behind them is told now
pub record Took (before after : Option (List ℕ)) (bytes : List ℕ) : Type 0 where
  pub rest : (text : List ℕ) → before ≡ Some text → (more : List ℕ) × (after ≡ Some more) × (text ≡ bytes ++ more)

-- nothing is left, where it is told what is left
pub record IsAtEnd (left : Option (List ℕ)) : Type 0 where
  pub empty : (text : List ℕ) → left ≡ Some text → text ≡ []

-- for each list that the sink stood for before, it now stands for that list followed by these bytes
pub record Appended {S : Type 0} (stands : S → List ℕ → Type 0) (before after : S) (bytes : List ℕ) : Type 0 where
  pub follows : (text : List ℕ) → stands before text → stands after (text ++ bytes)

-- the sink still stands for each list that it stood for before
pub record NothingAppended {S : Type 0} (stands : S → List ℕ → Type 0) (before after : S) : Type 0 where
  pub same : (text : List ℕ) → stands before text → stands after text

-- some first part of these bytes was appended, and nothing else
pub record AppendedPart {S : Type 0} (stands : S → List ℕ → Type 0) (before after : S) (bytes : List ℕ) : Type 0 where
  pub part : List ℕ
  pub missing : List ℕ
  pub whole : bytes ≡ part ++ missing
  pub appended : Appended stands before after part

-- a sink over a writer that tells what it holds stands for that; where the writer does not tell, it stands for no list
abbrev pub stands_as_told : {W : Type 0} → (W → Option (List ℕ)) → W × ℕ → List ℕ → Type 0
stands_as_told contents sink text = contents sink.0 ≡ Some text

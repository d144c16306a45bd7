-- Answers in the paper's terms. Every promise speaks in these.
use Rattle.std.specs.Prelude.{ℕ, Bool, true, false, List}

-- an answer: what was asked for; more bytes are needed; or a refusal's number, with the values that it carries
pub data Paper (A : Type 0) : Type 0 where
  gives : A → Paper A
  more : Paper A
  refused : ℕ → List ℕ → Paper A

-- a value, and the place after it
pub data Got (A : Type 0) : Type 0 where
  got : A → ℕ → Got A

-- a value, the place of its first byte, and the place after it
pub data Spot (A : Type 0) : Type 0 where
  spot : A → ℕ → ℕ → Spot A

-- by a test: the first where it holds, else the second
abbrev pub pick : {A : Type 0} → Bool → A → A → A
pick true a b = a
pick false a b = b

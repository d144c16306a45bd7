-- The bytes of a binary string: those that follow its length.
use Rattle.std.specs.Prelude.{ℕ, List}
use Rattle.refusal.specs.Paper.{Paper, Got}
use Rattle.token.specs.Strings.{string_found}
use Rattle.binary.specs.Binary.{binary_at}

-- the string at a place
unfoldable pub binary_string_at : List ℕ → ℕ → Paper (Got (List ℕ))
binary_string_at s at = string_found s (binary_at s at)

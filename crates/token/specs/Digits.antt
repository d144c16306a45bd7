-- A class of bytes that numbers and unquoted strings share.
use Rattle.std.specs.Prelude.{ℕ, Bool, ◌&&◌, leb}

-- `0` to `9`
unfoldable pub is_digit : ℕ → Bool
is_digit b = leb 48 b && leb b 57

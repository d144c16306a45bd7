-- What the private functions answer: a part of the grammar by the place behind it, and the number that text is.
use Rattle.std.specs.Prelude.{ℕ, ℤ, ◌+◌, ◌-◌, ◌≤◌, false, ◌≡◌, List, length, drop, Option, Some, None, IfSome}
use Rattle.refusal.specs.Paper.{pick}
use Rattle.number.specs.Bytes.{is_text, is_unsigned, starts}
use Rattle.number.specs.Grammar.{Left, none, left, after_sign, is_up_to, value}
use Rattle.number.specs.Number.{is_uint64, is_int64, int64_of}

-- from a place of s on, r is the place where l is left
pub record Leaves (s : List ℕ) (at : ℕ) (l : List ℕ) (r : ℕ) : Type 0 where
  pub rest : drop r s ≡ l
  pub low : at ≤ r
  pub high : r ≤ at + (length s - at)

-- what is left from a place on, where a part ends there; `None` says that the part does not stand there
abbrev pub left_at : List ℕ → Option ℕ → Left
left_at s None = none
left_at s (Some r) = left (drop r s)

pub record MayLeave (s : List ℕ) (at : ℕ) (l : Left) (r : Option ℕ) : Type 0 where
  pub rest : left_at s r ≡ l
  pub high : IfSome r (λ q. q ≤ at + (length s - at))

-- no byte of number text stands at a place, and no `u`
pub record Whole (s : List ℕ) (r : ℕ) : Type 0 where
  pub stops : starts is_text (drop r s) ≡ false
  pub signed : starts is_unsigned (drop r s) ≡ false

-- digits that write no more than a limit, and their value
unfoldable pub up_to : ℕ → List ℕ → Option ℕ
up_to limit l = pick (is_up_to limit l) (Some (value l)) None

-- the number that text is, as a uint64 and as an int64
abbrev pub uint64_in : List ℕ → Option ℕ
uint64_in l = pick (is_uint64 l) (Some (value (after_sign l))) None

abbrev pub int64_in : List ℕ → Option ℤ
int64_in l = pick (is_int64 l) (Some (int64_of l)) None

-- No two answers of this crate mean the same: from what an answer means the answer is found again. Assumes nothing.
use mathlib.Core.Path.{◌≡◌, refl, sym, ap, ◌∙◌}
use Prim.Native.Nat.{ℕ}
use Rattle.refusal.specs.Paper.{Paper, gives, more, refused}
use Rattle.cursor.specs.Cursor.{peek_meaning}
use Rattle.std.specs.Prelude.{Result, Ok, Err}
use Rattle.cursor.specs.declared.Peeked.{Peeked}
use Rattle.cursor.specs.declared.NoByte.{NoByte}
use Rattle.cursor.specs.declared.NoByte.TheVariants.{Incomplete, Beyond}

peek_of : Paper (ℕ × ℕ) → Result Peeked NoByte
peek_of (gives x) = Ok (record { byte = x.0; place = x.1 })
peek_of more = Err Incomplete
peek_of (refused n vs) = Err Beyond

peek_again : (a : Result Peeked NoByte) → peek_of (peek_meaning a) ≡ a
unfolding peek_of
peek_again (Ok p) = refl
peek_again (Err Incomplete) = refl
peek_again (Err Beyond) = refl

pub peek_injective : (a b : Result Peeked NoByte) → peek_meaning a ≡ peek_meaning b → a ≡ b
peek_injective a b e = sym (peek_again a) ∙ ap peek_of e ∙ peek_again b

-- Two answers that a promise of `escape` or of `measure` allows are equal. Assumes nothing.
use mathlib.Core.Path.{◌≡◌, refl, sym, ap, ◌∙◌}
use mathlib.Core.List.{List}
use Rattle.std.specs.Prelude.{Result, Ok, Err}
use Prim.Native.Nat.{ℕ}
use Rattle.pieces.specs.Pieces.{closed, bad_hex, cut, Piece, byte, ends, escape_of, Walk}
use Rattle.pieces.specs.Answers.{piece_meaning, measure_of}
use Rattle.pieces.specs.declared.Escaped.{Escaped}
use Rattle.pieces.specs.declared.Broken.{Broken}
use Rattle.pieces.specs.declared.Broken.TheVariants.{Cut, Bad}

-- from the piece the answer is found again
back : Piece → Result Escaped Broken
back (byte v n) = Ok (record { byte = v; size = n })
back (ends closed) = Err Cut
back (ends bad_hex) = Err Bad
back (ends cut) = Err Cut

again : (r : Result Escaped Broken) → back (piece_meaning r) ≡ r
unfolding back
again (Ok e) = refl
again (Err Cut) = refl
again (Err Bad) = refl

pub piece_injective : (a b : Result Escaped Broken) → piece_meaning a ≡ piece_meaning b → a ≡ b
piece_injective a b e = sym (again a) ∙ ap back e ∙ again b

pub one_escape : (l : List ℕ) (a b : Result Escaped Broken) → piece_meaning a ≡ escape_of l → piece_meaning b ≡ escape_of l → a ≡ b
one_escape l a b e f = piece_injective a b (e ∙ sym f)

pub one_measure : (w : Walk) (a b : Result ℕ Broken) → a ≡ measure_of w → b ≡ measure_of w → a ≡ b
one_measure w a b e f = e ∙ sym f

-- What stands in a lent buffer: separators, the bytes after a piece is taken, and a record's bytes.
use Rattle.std.specs.Prelude.{ℕ, suc, ◌+◌, ◌-◌, min, Bool, true, ◌&&◌, List, [], ◌∷◌, ◌++◌, length, take, drop, eqb, ltb, leb}
use Rattle.std.proofs.Math.Seq.{slice}
use Rattle.refusal.specs.Paper.{pick}
use Rattle.blanks.specs.Skip.{is_blank}

-- separators between records are `;` and blanks
unfoldable pub is_separator : ℕ → Bool
is_separator b = pick (eqb b 0x3B) true (is_blank b)

-- how many separators a list starts with
unfoldable pub separators : List ℕ → ℕ
separators [] = 0
separators (b ∷ rest) = pick (is_separator b) (suc (separators rest)) 0

-- ---- a piece is taken

-- the places lie in this order within n bytes
abbrev pub placed : ℕ → ℕ → ℕ → Bool
placed start filled n = leb start filled && leb filled n

-- as much of a piece of m bytes as there is room for behind the bytes from start up to filled, of n; nothing where the places are not in that order
unfoldable pub taken_behind : ℕ → ℕ → ℕ → ℕ → ℕ
taken_behind start filled n m = pick (placed start filled n) (min m (n - (filled - start))) 0

-- the buffer then: those bytes, the bytes taken, and the rest as it was
unfoldable pub refilled : ℕ → ℕ → List ℕ → List ℕ → List ℕ
refilled start filled piece l =
    pick (placed start filled (length l))
    ((slice start filled l ++ take (taken_behind start filled (length l) (length piece)) piece) ++ drop (filled - start + taken_behind start filled (length l) (length piece)) l)
    l

-- ---- a record's bytes

-- the part of the lent buffer at place and length, empty where they run past it
abbrev pub record_of : List ℕ → ℕ → ℕ → List ℕ
record_of l p n = pick (ltb (length l) p) [] (pick (ltb (length l - p) n) [] (take n (drop p l)))

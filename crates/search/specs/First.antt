-- The first byte of a kind, byte by byte, and two kinds more than those of crate `marks`.
use Rattle.std.specs.Prelude.{◌≡◌, ℕ, ◌+◌, ◌<◌, ◌≤◌, Bool, cond, not, ◌||◌, ◌&&◌, List, [], ◌∷◌, eqb, leb, drop}

-- the list starts at the place p; the answer is the place of the first byte for which f holds, or the place after the list
unfoldable pub first : (ℕ → Bool) → ℕ → List ℕ → ℕ
first f p [] = p
first f p (b ∷ l) = cond (f b) p (first f (p + 1) l)

unfoldable pub first_from : (ℕ → Bool) → List ℕ → ℕ → ℕ
first_from f s p = first f p (drop p s)

-- of n bytes from the place p on r stand before the first for which f holds; all n where it holds of none
abbrev pub Before : (ℕ → Bool) → List ℕ → ℕ → ℕ → ℕ → Type 0
Before f s p n r = (r < n → p + r ≡ first_from f s p) × (r ≡ n → first_from f s (p + n) ≡ first_from f s p) × (r ≤ n)

-- a digit, `_`, `-` or `.`
unfoldable pub is_joint : ℕ → Bool
is_joint b = (leb 48 b && leb b 57) || (eqb b 95 || (eqb b 45 || eqb b 46))

-- no letter, digit, `_`, `-` or `.`
unfoldable pub is_edge : ℕ → Bool
is_edge b = not (((leb 65 b && leb b 90) || (leb 97 b && leb b 122)) || is_joint b)

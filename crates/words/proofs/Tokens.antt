-- Each way to the answer about a word. Assumes nothing.
use mathlib.Core.Path.{◌≡◌, refl, ap, ◌∙◌}
use mathlib.Core.Bool.{Bool, true, false}
use mathlib.Core.List.{List, [], ◌∷◌}
use mathlib.Core.Logic.{⊎_elim}
use Prim.Native.Nat.{ℕ, ◌+◌, ◌≤◌, ◌<◌}
use native.Mathlib.Omega.{arith}
use native.Mathlib.Nat.{eq-or-lt_of_le}
use borrow.Author.Tests.{lt-ltb, le-ltb, eq-eqb, ne_eqb}
use lib.ListN.{length, drop}
use Rattle.std.specs.Prelude.{Option, Some, None}
use Rattle.refusal.specs.Numbers.{unknown_word, beyond_slice}
use Rattle.refusal.specs.Paper.{Paper, gives, more, refused, Spot, spot, pick}
use Rattle.token.specs.declared.Token.{Token}
use Rattle.std.specs.Prelude.{None}
use Rattle.token.specs.Ends.{end_of}
use Rattle.words.specs.Word.{words, stands, word_of, word_at}
use Rattle.words.specs.Cases.{word_in, width, token_of}
use Rattle.words.specs.declared.Word.{Word}
use Rattle.words.specs.declared.Word.TheVariants.{True, False, Nan, Inf, NegInf}

-- the answer that a word is, by its case
abbrev pub answer_by : ℕ → Option Word → Paper (Spot Token)
answer_by at (Some w) = gives (spot (token_of w) at (at + 1 + width w))
answer_by at None = refused unknown_word (at ∷ [])

agrees : (at : ℕ) (t : List ℕ) → answer_by at (word_in t) ≡ word_of at words t
unfolding word_in word_of
agrees at t = go (stands (116 ∷ 114 ∷ 117 ∷ 101 ∷ []) t) (stands (102 ∷ 97 ∷ 108 ∷ 115 ∷ 101 ∷ []) t) (stands (110 ∷ 97 ∷ 110 ∷ []) t) (stands (105 ∷ 110 ∷ 102 ∷ []) t) (stands (45 ∷ 105 ∷ 110 ∷ 102 ∷ []) t)
  where
    go : (a b c d e : Bool) → answer_by at (pick a (Some True) (pick b (Some False) (pick c (Some Nan) (pick d (Some Inf) (pick e (Some NegInf) None)))))
        ≡ pick a (answer_by at (Some True)) (pick b (answer_by at (Some False)) (pick c (answer_by at (Some Nan)) (pick d (answer_by at (Some Inf)) (pick e (answer_by at (Some NegInf)) (answer_by at None)))))
    go true b c d e = refl
    go false true c d e = refl
    go false false true d e = refl
    go false false false true e = refl
    go false false false false true = refl
    go false false false false false = refl

module _ (s : List ℕ) (at : ℕ) where
  pub beyond : length s < at → refused beyond_slice [] ≡ word_at s at
  unfolding word_at
  beyond h = rw (lt-ltb (length s) at h)

  pub ended : length s ≡ at → more ≡ word_at s at
  unfolding word_at
  ended h = rw (le-ltb (length s) at (omega arith), eq-eqb (length s) at h)

  pub inside : at < length s → word_of at words (drop (at + 1) s) ≡ word_at s at
  unfolding word_at
  inside h = rw (le-ltb (length s) at (omega arith), ne_eqb (length s) at (λ e. omega arith))

  pub by_case : at < length s → (r : Option Word) → r ≡ word_in (drop (at + 1) s) → answer_by at r ≡ word_at s at
  by_case h r e = ap (answer_by at) e ∙ agrees at (drop (at + 1) s) ∙ inside h

  -- at the end of the slice or beyond it there is no word
  pub end_out : length s ≤ at → None ≡ end_of (word_at s at)
  end_out h = ⊎_elim (λ e. ap end_of (ended e)) (λ k. ap end_of (beyond k)) (eq-or-lt_of_le h)

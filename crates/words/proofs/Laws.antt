-- What callers need of words and unquoted strings: where a word's token lies, which tokens and refusals there are, what the end alone
-- tells, and where an unquoted string ends. Assumes nothing.
use mathlib.Core.Path.{◌≡◌, refl, sym, ap, ◌∙◌}
use mathlib.Core.Bool.{Bool, true, false}
use mathlib.Core.List.{List, [], ◌∷◌}
use mathlib.Core.Logic.{◌⊎◌, inl, inr, ⊎_elim}
use Prim.Native.Nat.{ℕ, suc, ◌+◌, ◌≤◌, ◌<◌}
use native.Mathlib.Omega.{arith}
use borrow.Author.Tests.{ltb-true, ltb-false, eqb-true, eqb-false}
use lib.Dec.{ltb, eqb}
use lib.Ieee.{Float}
use lib.ListN.{length, get_or, drop, length-drop}
use Rattle.refusal.specs.Numbers.{unknown_word, beyond_slice}
use Rattle.refusal.specs.Paper.{Paper, gives, more, refused, Spot, spot, pick}
use Rattle.token.specs.Meaning.{kind_of}
use Rattle.token.specs.declared.Token.{Token}
use Rattle.token.specs.declared.Token.TheVariants.{Boolean, Double}
use Rattle.token.specs.declared.Kind.TheVariants.{Scalar}
use Rattle.std.specs.Prelude.{Some, None}
use Rattle.token.specs.Ends.{end_of}
use Rattle.words.specs.Word.{Word, words, stands, word_of, word_at}
use Rattle.words.specs.Plain.{is_plain, plain_run, plain_end}
use Rattle.search.proofs.Laws.{drop_more}
use Rattle.words.proofs.Stands.{stands_within}
use Rattle.words.proofs.Tokens.{beyond, ended, inside}

-- the tokens of words
pub data Worded : Token → Type 0 where
  boolean : (q : Bool) → Worded (Boolean q)
  double : (x : Float) (bits : ℕ) → Worded (Double x bits)

pub worded_scalar : {t : Token} → Worded t → kind_of t ≡ Scalar
worded_scalar (boolean q) = refl
worded_scalar (double x bits) = refl

-- where the token of a word lies
pub record Lies (s : List ℕ) (at : ℕ) (t : Token) (first next : ℕ) : Type 0 where
  pub here : first ≡ at
  pub grows : at < next
  pub within : next ≤ length s
  pub worded : Worded t

-- why there is no word at a place
pub data NoWord (s : List ℕ) (at : ℕ) : ℕ → List ℕ → Type 0 where
  outside : length s < at → NoWord s at beyond_slice []
  unknown : at < length s → NoWord s at unknown_word (at ∷ [])

-- ---- the answer by the list of words

-- every word of a list is one of the tokens of words
data AllWorded : List Word → Type 0 where
  none : AllWorded []
  also : {w : Word} {ws : List Word} → Worded w.token → AllWorded ws → AllWorded (w ∷ ws)

all_worded : AllWorded words
all_worded = also (boolean true) (also (boolean false) (also (double _ _) (also (double _ _) (also (double _ _) none))))

module _ (s : List ℕ) (at : ℕ) (h : at < length s) where
  lies_in : (ws : List Word) → AllWorded ws → (t : Token) (a n : ℕ) → word_of at ws (drop (at + 1) s) ≡ gives (spot t a n) → Lies s at t a n
  unfolding word_of
  lies_in [] d t a n e = cc
  lies_in (w ∷ ws) (also k d) t a n e = go (stands w.bytes (drop (at + 1) s)) refl (lies_in ws d t a n) e
    where
      go : (q : Bool) → stands w.bytes (drop (at + 1) s) ≡ q → (word_of at ws (drop (at + 1) s) ≡ gives (spot t a n) → Lies s at t a n)
          → pick q (gives (spot w.token at (at + 1 + length w.bytes))) (word_of at ws (drop (at + 1) s)) ≡ gives (spot t a n) → Lies s at t a n
      go true f r g =
          let first : at ≡ a = cc in
          let next : at + 1 + length w.bytes ≡ n = cc in
          let token : w.token ≡ t = cc in
          record { here = sym first; grows = omega arith; within = omega (arith, stands_within s (at + 1) w.bytes f (omega arith)); worded = rw token at k }
      go false f r g = r g

  refused_in : (ws : List Word) (k : ℕ) (vs : List ℕ) → word_of at ws (drop (at + 1) s) ≡ refused k vs → NoWord s at k vs
  unfolding word_of
  refused_in [] k vs e = let f : unknown_word ≡ k = cc in let g : at ∷ [] ≡ vs = cc in rw (← f, ← g) (unknown h)
  refused_in (w ∷ ws) k vs e = go (stands w.bytes (drop (at + 1) s)) (refused_in ws k vs) e
    where
      go : (q : Bool) → (word_of at ws (drop (at + 1) s) ≡ refused k vs → NoWord s at k vs)
          → pick q (gives (spot w.token at (at + 1 + length w.bytes))) (word_of at ws (drop (at + 1) s)) ≡ refused k vs → NoWord s at k vs
      go true r g = cc
      go false r g = r g

  settled_in : (ws : List Word) → word_of at ws (drop (at + 1) s) ≡ more → ⊥
  unfolding word_of
  settled_in [] e = cc
  settled_in (w ∷ ws) e = go (stands w.bytes (drop (at + 1) s)) (settled_in ws) e
    where
      go : (q : Bool) → (word_of at ws (drop (at + 1) s) ≡ more → ⊥)
          → pick q (gives (spot w.token at (at + 1 + length w.bytes))) (word_of at ws (drop (at + 1) s)) ≡ more → ⊥
      go true r g = cc
      go false r g = r g

-- ---- the answer at a place

three : (m n : ℕ) → (m < n) ⊎ ((m ≡ n) ⊎ (n < m))
three m n = go (ltb m n) (eqb m n) refl refl
  where
    go : (p q : Bool) → ltb m n ≡ p → eqb m n ≡ q → (m < n) ⊎ ((m ≡ n) ⊎ (n < m))
    go true q d e = inl (ltb-true m n d)
    go false true d e = inr (inl (eqb-true m n e))
    go false false d e = let f = eqb-false m n e in inr (inr (omega (arith, ltb-false m n d)))

module _ (s : List ℕ) (at : ℕ) where
  -- a word's token starts at its `%` and ends within the slice
  pub word_lies : (t : Token) (a n : ℕ) → word_at s at ≡ gives (spot t a n) → Lies s at t a n
  word_lies t a n e =
      ⊎_elim (λ h. cc (beyond s at h))
      (⊎_elim (λ h. cc (ended s at h)) (λ h. lies_in s at h words all_worded t a n (inside s at h ∙ e)))
      (three (length s) at)

  -- a refusal is 9 at the `%`; 26 beyond the slice
  pub word_refused : (k : ℕ) (vs : List ℕ) → word_at s at ≡ refused k vs → NoWord s at k vs
  word_refused k vs e =
      ⊎_elim (λ h. let f = beyond s at h in let g : beyond_slice ≡ k = cc in let i : [] ≡ vs = cc in rw (← g, ← i) (outside h))
      (⊎_elim (λ h. cc (ended s at h)) (λ h. refused_in s at h words k vs (inside s at h ∙ e)))
      (three (length s) at)

  -- a `%` settles a word: more bytes are never needed
  pub word_settled : at < length s → word_at s at ≡ more → ⊥
  word_settled h e = settled_in s at h words (inside s at h ∙ e)

  -- an end is that of a word's token
  pub end_gives : (n : ℕ) → end_of (word_at s at) ≡ Some n → (t : Token) × (word_at s at ≡ gives (spot t at n))
  end_gives n e = go (word_at s at) refl e
    where
      go : (r : Paper (Spot Token)) → word_at s at ≡ r → end_of r ≡ Some n → (t : Token) × (word_at s at ≡ gives (spot t at n))
      go (gives (spot t a m)) f g = let i : m ≡ n = cc in (t, f ∙ rw ((word_lies t a m f).here, i))
      go more f g = absurd cc
      go (refused q vs) f g = absurd cc

  -- where there is none there is no token
  pub end_none : end_of (word_at s at) ≡ None → (t : Token) (a n : ℕ) → word_at s at ≡ gives (spot t a n) → ⊥
  end_none e t a n f = let z : Some n ≡ None = sym (ap end_of f) ∙ e in cc

-- ---- unquoted strings

run_within : (l : List ℕ) → plain_run l ≤ length l
unfolding plain_run
run_within [] = omega arith
run_within (b ∷ l) = go (is_plain b) (run_within l)
  where
    go : (q : Bool) → plain_run l ≤ length l → pick q (suc (plain_run l)) 0 ≤ suc (length l)
    go true h = omega arith
    go false h = omega arith

module _ (s : List ℕ) (at : ℕ) where
  pub plain_from : at ≤ plain_end s at
  unfolding plain_end
  plain_from = omega arith

  pub plain_within : at ≤ length s → plain_end s at ≤ length s
  unfolding plain_end
  plain_within h = omega (arith, run_within (drop at s), length-drop at s)

  -- a string of one byte or more where the first byte is plain
  pub plain_grows : at < length s → is_plain (get_or s at 0) ≡ true → at < plain_end s at
  unfolding plain_end plain_run
  plain_grows h e = rw (drop_more s at h, e) (omega arith)
